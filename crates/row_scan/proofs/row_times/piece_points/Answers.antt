use Rattle.std.proofs.Common.{length, refl, sym, subst, ◌∙◌, arith}
use Rattle.std.proofs.lemmas.Bool.{eqb-true}
use Rattle.row_scan.proofs.Lower.{shorter}
use Rattle.row_scan.proofs.PointsAtTimes.{ArePiecesRead, no_piece_read, piece_above, piece_next, pieces_read, some_bytes}
use Rattle.row_scan.proofs.row_times.piece_points.Goals as goal

pub pieces-init : goal.pieces-init
pieces-init c =
    let value = c.args.value.now in
    subst (λ points. ArePiecesRead value value c.args.base c.args.first c.args.last 0 points) (sym c.in_ok-points.ensures) (no_piece_read value c.args.base c.args.first c.args.last)

pub add_within-requires : goal.add_within-requires
add_within-requires c =
    let l = c.pieces in
    piece_above c.args.value.now l.rest.now c.args.base c.args.first c.args.last l.least _ l.points l.invariant (omega arith)

pub pieces-smaller : goal.pieces-smaller
pieces-smaller c = shorter c.pieces.rest.now c.in-Ok.behind.now c.in-Ok.dot c.in-Ok.ensures.piece

pub pieces-preserved : goal.pieces-preserved
pieces-preserved c =
    let l = c.pieces in
    piece_next c.args.value.now l.rest.now c.in-Ok.behind.now c.args.base c.args.first c.args.last l.least _ l.points c.add_within.new.points c.in-Ok.dot l.invariant c.in-Ok.ensures.piece (omega arith) refl c.in_ok-add_within.ensures

pub returns : goal.returns
returns c =
    let l = c.pieces in
    let value = c.args.value.now in
    pieces_read value l.rest.now c.args.base c.args.first c.args.last l.least l.points l.invariant (eqb-true (length l.rest.now) 0 (sym c.is_empty-in-pieces.ensures ∙ c.pieces-test.false)) (some_bytes c.is_empty.result (length value) c.is_empty.ensures c.if-is_empty.false)
