use Rattle.std.proofs.Common.{◌≡◌, ◌≤◌, sym, ap, ◌∙◌, subst, arith}
use Rattle.std.specs.Prelude.{Ok}
use Rattle.row_key.specs.IdWidths.{most_ids}
use Rattle.row_key.specs.declared.widths.Widths.{Widths}
use Rattle.cell_model.specs.Deeds.{MadeSo}
use Rattle.cell_model.specs.Store.{Store}
use Rattle.row_scan.specs.Scans.{IsStart, Left, TurnMade, after_turn, behind}
use Rattle.import_job.proofs.Loops.{RowsTo, rows_begin, rows_end, rows_on, turn_points}
use Rattle.import_job.proofs.compaction.compact_metric.Goals as goal

pub loop-init : goal.loop-init
loop-init g c = record {
  far = rows_begin c.args.metric (g.R.Rows.seen c.args.rows.now) c.start-scan.result c.requires.possible
      (subst (λ (w : Widths). IsStart w c.args.metric 0 4294967295 c.start-scan.result) c.widths.ensures (c.start-scan.ensures.starts (subst (λ (w : Widths). c.args.metric ≤ most_ids w.metric) (sym c.widths.ensures) c.requires.fits)));
  grows = omega arith;
}

pub turn-requires : goal.turn-requires
turn-requires g c = c.loop.invariant.far.widths ∙ ap (λ (s : Store). s.widths) (sym c.loop.invariant.far.since.extends.base)

pub returns-in_default-clause-compacts : goal.returns-in_default-clause-compacts
returns-in_default-clause-compacts g c =
    let s = g.R.Rows in
    rows_end c.args.metric (s.seen c.args.rows.now) (s.seen c.loop.rows) (s.seen c.turn.new.rows) c.loop.scan c.requires.alone c.loop.invariant.far
    (subst (λ o. MadeSo (s.seen c.loop.rows) (TurnMade c.loop.scan (Ok o)) (s.seen c.turn.new.rows)) c.in_default.is c.in_ok-found.ensures.made)

pub compact_found-requires-clause-points : goal.compact_found-requires-clause-points
compact_found-requires-clause-points g c =
    let s = g.R.Rows in
    turn_points c.loop.scan c.in-Some.found (s.seen c.loop.rows) (s.seen c.turn.new.rows) (c.loop.invariant.far.since.alone ∙ c.requires.alone)
    (subst (λ o. MadeSo (s.seen c.loop.rows) (TurnMade c.loop.scan (Ok o)) (s.seen c.turn.new.rows)) c.in-Some.is c.in_ok-found.ensures.made) c.in_ok-found.ensures.leaves.possible

pub compact_found-requires-clause-alone : goal.compact_found-requires-clause-alone
compact_found-requires-clause-alone g c = c.in_ok-found.ensures.made.1.since.alone ∙ c.loop.invariant.far.since.alone ∙ c.requires.alone

pub loop-preserved : goal.loop-preserved
loop-preserved g c =
    let s = g.R.Rows in
    let made = subst (λ o. MadeSo (s.seen c.loop.rows) (TurnMade c.loop.scan (Ok o)) (s.seen c.turn.new.rows)) c.in-Some.is c.in_ok-found.ensures.made in
    let left : c.turn.new.self ≡ behind c.loop.scan c.in-Some.found.row = c.in_ok-found.ensures.left ∙ ap (λ o. after_turn c.loop.scan (Ok o)) c.in-Some.is in
    record {
      far = subst (λ (l : Left). RowsTo c.args.metric (s.seen c.args.rows.now) (s.seen c.compact_found.new.rows) l) (sym left)
          (rows_on c.args.metric (s.seen c.args.rows.now) (s.seen c.loop.rows) (s.seen c.turn.new.rows) c.loop.scan c.requires.alone c.loop.invariant.far c.in-Some.found (s.seen c.compact_found.new.rows) made c.in_ok-compact_found.ensures.compacts c.in_ok-compact_found.ensures.leaves.possible);
      grows = let a = c.loop.invariant.grows in let b = c.in_ok-found.ensures.leaves.grows in let d = c.in_ok-compact_found.ensures.leaves.grows in omega (arith, a, b, d);
    }
