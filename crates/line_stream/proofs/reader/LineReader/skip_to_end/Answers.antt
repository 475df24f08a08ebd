use Rattle.std.proofs.Common.{ℕ, ◌∙◌, ap, arith, subst, sym}
use Rattle.std.specs.Prelude.{Bool, MatchBool, Ok}
use Rattle.std.proofs.lemmas.Result.{err_from_is_err_and}
use Rattle.line_stream.specs.LineReadings.{Reading}
use Rattle.line_stream.specs.Reads.{SkipsLast, SkipsWhole, TakesPiece}
use Rattle.line_stream.proofs.ReaderLemmas.{line_skipped, nothing_skipped, skip_failed, skip_full, skipped_at_end, skipped_on, used_up}
use Rattle.line_stream.proofs.reader.LineReader.skip_to_end.Goals as goal

pub loop-self-init : goal.loop-self-init
loop-self-init g c =
    let s = g.S.Source in
    record { takes = nothing_skipped (s.taken c.args.source.now) (s.left c.args.source.now) c.args.self.now; later = omega arith }

pub returns-then-skip_within-clause-skips : goal.returns-then-skip_within-clause-skips
returns-then-skip_within-clause-skips g c =
    let w = subst (λ (b : Bool). MatchBool b (SkipsWhole c.loop-self.self c.skip_within.new.self) (SkipsLast c.loop-self.self c.skip_within.new.self)) c.if-skip_within.true c.skip_within.ensures.skips in
    line_skipped _ _ _ _ c.args.self.now c.loop-self.self c.loop-self.invariant.takes c.skip_within.new.self (let m = c.skip_within.ensures.most in let t = ap (λ (r : Reading). r.taken) w.is in omega (arith, m, t)) w

pub returns-then-self-eq-LONGEST_INPUT-clause-skips : goal.returns-then-self-eq-LONGEST_INPUT-clause-skips
returns-then-self-eq-LONGEST_INPUT-clause-skips g c =
    let w = subst (λ (b : Bool). MatchBool b (SkipsWhole c.loop-self.self c.skip_within.new.self) (SkipsLast c.loop-self.self c.skip_within.new.self)) c.if-skip_within.false c.skip_within.ensures.skips in
    let h = used_up _ _ _ _ c.args.self.now c.loop-self.self c.skip_within.new.self c.loop-self.invariant.takes w in
    skip_full _ _ _ _ c.args.self.now c.skip_within.new.self h (ap (λ (r : Reading). r.taken) (sym c.self.view_is) ∙ c.if-self-eq-LONGEST_INPUT.true)

pub returns-in_err-take_piece-clause-skips : goal.returns-in_err-take_piece-clause-skips
returns-in_err-take_piece-clause-skips g c =
    let w = subst (λ (b : Bool). MatchBool b (SkipsWhole c.loop-self.self c.skip_within.new.self) (SkipsLast c.loop-self.self c.skip_within.new.self)) c.if-skip_within.false c.skip_within.ensures.skips in
    let h = used_up _ _ _ _ c.args.self.now c.loop-self.self c.skip_within.new.self c.loop-self.invariant.takes w in
    let n = c.if-self-eq-LONGEST_INPUT.false in
    let m = c.skip_within.ensures.most in
    let v = ap (λ (r : Reading). r.taken) c.self.view_is in
    let p = err_from_is_err_and c.from_residual.result c.from_residual.ensures.1 in
    rw (p.1, p.2) (skip_failed _ _ _ _ _ _ c.args.self.now c.skip_within.new.self c.take_piece.new.self h c.in_err-take_piece.field-0.0 (omega (arith, n, m, v)) c.in_err-take_piece.ensures.takes)

pub returns-then-branch-eq0-clause-skips : goal.returns-then-branch-eq0-clause-skips
returns-then-branch-eq0-clause-skips g c =
    let s = g.S.Source in
    let w = subst (λ (b : Bool). MatchBool b (SkipsWhole c.loop-self.self c.skip_within.new.self) (SkipsLast c.loop-self.self c.skip_within.new.self)) c.if-skip_within.false c.skip_within.ensures.skips in
    let h = used_up _ _ _ _ c.args.self.now c.loop-self.self c.skip_within.new.self c.loop-self.invariant.takes w in
    let n = c.if-self-eq-LONGEST_INPUT.false in
    let m = c.skip_within.ensures.most in
    let v = ap (λ (r : Reading). r.taken) c.self.view_is in
    skipped_at_end _ _ _ _ _ _ c.args.self.now c.skip_within.new.self c.take_piece.new.self h (omega (arith, n, m, v))
    (subst (λ (count : ℕ). TakesPiece (s.taken c.loop-self.source) (s.taken c.take_piece.new.source) (s.left c.loop-self.source) (s.left c.take_piece.new.source) c.skip_within.new.self (Ok count) c.take_piece.new.self) c.if-branch-eq0.true c.in_ok-take_piece.ensures.takes)

pub loop-self-preserved : goal.loop-self-preserved
loop-self-preserved g c =
    let w = subst (λ (b : Bool). MatchBool b (SkipsWhole c.loop-self.self c.skip_within.new.self) (SkipsLast c.loop-self.self c.skip_within.new.self)) c.if-skip_within.false c.skip_within.ensures.skips in
    let h = used_up _ _ _ _ c.args.self.now c.loop-self.self c.skip_within.new.self c.loop-self.invariant.takes w in
    let a = c.loop-self.invariant.later in
    let b = c.take_piece.ensures.later in
    record { takes = skipped_on _ _ _ _ _ _ c.args.self.now c.skip_within.new.self c.take_piece.new.self h c.in_ok-take_piece.field-0 c.in_ok-take_piece.ensures.takes; later = omega (arith, a, b) }
