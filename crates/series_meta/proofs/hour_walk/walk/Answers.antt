use Rattle.std.proofs.Common.{◌≡◌, ℕ, ◌+◌, ◌*◌, subst, arith}
use Rattle.std.specs.Prelude.{ℤ, Option, Ok}
use Rattle.cell_model.specs.Deeds.{MadeSo}
use Rattle.uid_table.specs.PlacedPoints.{key_at}
use Rattle.series_meta.specs.HourWalks.{RowSays, WalkSays}
use Rattle.series_meta.proofs.NameLooks.{passed_on}
use Rattle.series_meta.proofs.HourSteps.{far_none, far_more, next_key, walk_failed, walk_found}
use Rattle.series_meta.proofs.hour_walk.walk.Goals as goal

pub loop-gone-init : goal.loop-gone-init
loop-gone-init g c = record { far = far_none c.args.key.now c.args.now _; possible = c.requires.possible; grows = omega arith }

pub returns-in_err-point-clause-says : goal.returns-in_err-point-clause-says
returns-in_err-point-clause-says g c =
    let key = c.args.key.now in
    let old = g.R.Rows.seen c.args.names.now.rows in
    let s = g.R.Rows.seen c.loop-gone.names.rows in
    let t = g.R.Rows.seen c.row_latest.new.names.rows in
    let far = c.loop-gone.invariant.far in
    let down : c.in-Some.base + c.loop-gone.gone * 3600 ≡ c.args.key.now.base = let le = c.in-Some.ensures.0 in let is = c.in-Some.ensures.1 in omega (arith, le, is) in
    passed_on (λ r. WalkSays key c.args.now c.args.back old r t (key_at c.loop-gone.key c.in-Some.base)) c.in_err-point.field-0.0 c.from_residual.result c.from_residual.ensures.1
    (walk_failed key c.args.now old s t c.loop-gone.gone c.in-Some.base c.loop-gone.key far down c.requires.key.hour c.args.back c.loop-gone-test.true (next_key key c.args.now old s c.loop-gone.gone c.in-Some.base c.loop-gone.key far down c.requires.key) c.in_err-point.field-0.0 c.in_err-point.ensures.says)

pub returns-in-Some-2-clause-says : goal.returns-in-Some-2-clause-says
returns-in-Some-2-clause-says g c =
    let key = c.args.key.now in
    let old = g.R.Rows.seen c.args.names.now.rows in
    let s = g.R.Rows.seen c.loop-gone.names.rows in
    let t = g.R.Rows.seen c.row_latest.new.names.rows in
    let far = c.loop-gone.invariant.far in
    let down : c.in-Some.base + c.loop-gone.gone * 3600 ≡ c.args.key.now.base = let le = c.in-Some.ensures.0 in let is = c.in-Some.ensures.1 in omega (arith, le, is) in
    walk_found key c.args.now old s t c.loop-gone.gone c.in-Some.base c.loop-gone.key far down c.requires.key.hour c.args.back c.loop-gone-test.true (next_key key c.args.now old s c.loop-gone.gone c.in-Some.base c.loop-gone.key far down c.requires.key) c.in-Some-2.point
    (subst (λ (o : Option (ℕ × ℤ)). MadeSo s (RowSays s.base.widths (key_at c.loop-gone.key c.in-Some.base) c.args.now (Ok o)) t) c.in-Some-2.is c.in_ok-point.ensures.says)

pub loop-gone-preserved : goal.loop-gone-preserved
loop-gone-preserved g c =
    let key = c.args.key.now in
    let old = g.R.Rows.seen c.args.names.now.rows in
    let s = g.R.Rows.seen c.loop-gone.names.rows in
    let t = g.R.Rows.seen c.row_latest.new.names.rows in
    let down : c.in-Some.base + c.loop-gone.gone * 3600 ≡ c.args.key.now.base = let le = c.in-Some.ensures.0 in let is = c.in-Some.ensures.1 in omega (arith, le, is) in
    record {
      far = far_more key c.args.now old s t c.loop-gone.gone c.in-Some.base c.loop-gone.key c.loop-gone.invariant.far down c.requires.key.hour
          (subst (λ (o : Option (ℕ × ℤ)). MadeSo s (RowSays s.base.widths (key_at c.loop-gone.key c.in-Some.base) c.args.now (Ok o)) t) c.in_default-2.is c.in_ok-point.ensures.says);
      possible = c.in_ok-point.ensures.leaves.possible;
      grows = let a = c.loop-gone.invariant.grows in let b = c.in_ok-point.ensures.leaves.grows in omega (arith, a, b);
    }
