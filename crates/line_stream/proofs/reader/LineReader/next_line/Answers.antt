use Rattle.std.proofs.Common.{ℕ, ◌∙◌, ap, arith, subst, sym}
use Rattle.std.specs.Prelude.{Ok, Some}
use Rattle.std.proofs.lemmas.Result.{err_from_is_err_and}
use Rattle.line_stream.specs.LineReadings.{Reading}
use Rattle.line_stream.specs.Reads.{FirstLine, IsFront, TakesPiece}
use Rattle.line_stream.proofs.ReaderLemmas.{HasTaken, at_end, full, line_next, nothing_taken, not_taken, taken_on}
use Rattle.line_stream.proofs.reader.LineReader.next_line.Goals as goal

pub loop-line-init : goal.loop-line-init
loop-line-init g c =
    let s = g.S.Source in
    record { takes = nothing_taken (s.taken c.args.source.now) (s.left c.args.source.now) c.args.self.now; later = omega arith }

pub returns-in_err-take_piece-clause-next : goal.returns-in_err-take_piece-clause-next
returns-in_err-take_piece-clause-next g c =
    let s = g.S.Source in
    let same = c.first_line.ensures.same in
    let h = subst (λ (r : Reading). HasTaken (s.taken c.args.source.now) (s.taken c.loop-line.source) (s.left c.args.source.now) (s.left c.loop-line.source) c.args.self.now r) (sym same) c.loop-line.invariant.takes in
    let t = c.in_err-take_piece.ensures.takes in
    let p = err_from_is_err_and c.from_residual.result c.from_residual.ensures.1 in
    rw (p.1, p.2) (not_taken _ _ _ _ _ _ _ _ _ h c.in_err-take_piece.field-0.0 (subst (λ (r : Reading). IsFront r.longest r.bytes) (sym same) c.in_default.ensures.line) (let n = c.if-self-eq-LONGEST_INPUT.false in let m = c.first_line.ensures.most in let v = ap (λ (r : Reading). r.taken) c.self.view_is in omega (arith, n, m, v)) t)

pub loop-line-preserved : goal.loop-line-preserved
loop-line-preserved g c =
    let s = g.S.Source in
    let h = subst (λ (r : Reading). HasTaken (s.taken c.args.source.now) (s.taken c.loop-line.source) (s.left c.args.source.now) (s.left c.loop-line.source) c.args.self.now r) (sym c.first_line.ensures.same) c.loop-line.invariant.takes in
    let t = c.in_ok-take_piece.ensures.takes in
    let a = c.loop-line.invariant.later in
    let b = c.take_piece.ensures.later in
    record { takes = taken_on _ _ _ _ _ _ _ _ _ h c.in_ok-take_piece.field-0 t; later = omega (arith, a, b) }

pub returns-in-Some-clause-next : goal.returns-in-Some-clause-next
returns-in-Some-clause-next g c =
    let s = g.S.Source in
    let h = subst (λ (r : Reading). HasTaken (s.taken c.args.source.now) (s.taken c.loop-line.source) (s.left c.args.source.now) (s.left c.loop-line.source) c.args.self.now r) (sym c.first_line.ensures.same) c.loop-line.invariant.takes in
    line_next _ _ _ _ _ _ h c.in-Some.line c.first_line.ensures.most (subst (λ (r : Reading). FirstLine r.longest r.bytes (Some c.in-Some.line)) (sym c.first_line.ensures.same) c.in-Some.ensures.line)

pub returns-then-self-eq-LONGEST_INPUT-clause-next : goal.returns-then-self-eq-LONGEST_INPUT-clause-next
returns-then-self-eq-LONGEST_INPUT-clause-next g c =
    let s = g.S.Source in
    let h = subst (λ (r : Reading). HasTaken (s.taken c.args.source.now) (s.taken c.loop-line.source) (s.left c.args.source.now) (s.left c.loop-line.source) c.args.self.now r) (sym c.first_line.ensures.same) c.loop-line.invariant.takes in
    full _ _ _ _ _ _ h (subst (λ (r : Reading). IsFront r.longest r.bytes) (sym c.first_line.ensures.same) c.in_default.ensures.line) (ap (λ (r : Reading). r.taken) (sym c.self.view_is) ∙ c.if-self-eq-LONGEST_INPUT.true)

pub returns-then-branch-eq0-clause-next : goal.returns-then-branch-eq0-clause-next
returns-then-branch-eq0-clause-next g c =
    let s = g.S.Source in
    let h = subst (λ (r : Reading). HasTaken (s.taken c.args.source.now) (s.taken c.loop-line.source) (s.left c.args.source.now) (s.left c.loop-line.source) c.args.self.now r) (sym c.first_line.ensures.same) c.loop-line.invariant.takes in
    let n = c.if-self-eq-LONGEST_INPUT.false in
    let m = c.first_line.ensures.most in
    let v = ap (λ (r : Reading). r.taken) c.self.view_is in
    at_end _ _ _ _ _ _ _ _ _ h (subst (λ (r : Reading). IsFront r.longest r.bytes) (sym c.first_line.ensures.same) c.in_default.ensures.line) (omega (arith, n, m, v))
    (subst (λ (count : ℕ). TakesPiece (s.taken c.loop-line.source) (s.taken c.take_piece.new.source) (s.left c.loop-line.source) (s.left c.take_piece.new.source) c.first_line.new.self (Ok count) c.take_piece.new.self) c.if-branch-eq0.true c.in_ok-take_piece.ensures.takes)
