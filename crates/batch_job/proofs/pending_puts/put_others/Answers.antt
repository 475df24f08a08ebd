use Rattle.std.proofs.Common.{ℕ, ℤ, get_or, rules, ◌∙◌, refl, arith}
use Rattle.std.specs.Prelude.{pos}
use Rattle.std.proofs.lemmas.List.Elements.{All-contains, All-from_recursion, Contains-get_or}
use Rattle.tsd_base.specs.Moments.{IsTime}
use Rattle.tsd_base.specs.Points.{data_point}
use Rattle.batch_job.proofs.StoredPoints.{first_dot, next_dot, all_dots, names_alike}
use Rattle.batch_job.proofs.pending_puts.put_others.Goals as goal

pub put_other-requires : goal.put_other-requires
put_other-requires g c =
    let items = c.args.values.now in
    let d : ℕ × ℤ = get_or items c.loop-time.time-index (0, pos 0) in
    record {
      timed = All-contains (λ (e : ℕ × ℤ). IsTime e.0 c.args.fine) items d (All-from_recursion (λ (e : ℕ × ℤ). IsTime e.0 c.args.fine) items c.requires.times) (Contains-get_or items c.loop-time.time-index (0, pos 0) c.loop-time-test.true);
      placed = c.loop-time.invariant.placed;
      resolved = names_alike (data_point c.args.placed.now.point) (data_point c.loop-time.placed.point) _ (g.R.Rows.seen c.args.store.now.rows) (g.R.Rows.seen c.loop-time.store.rows) c.loop-time.invariant.metric c.loop-time.invariant.tags c.requires.resolved c.loop-time.invariant.adds;
    }

pub loop-time-init : goal.loop-time-init
loop-time-init g c = record {
  metric = refl;
  tags = refl;
  placed = c.requires.placed;
  adds = first_dot c.args.placed.now.point.metric c.args.placed.now.point.tags c.args.fine (g.R.Rows.seen c.args.store.now.rows) c.args.values.now c.requires.resolved.by;
  grows = omega arith;
}

pub loop-time-preserved : goal.loop-time-preserved
loop-time-preserved g c =
    let items = c.args.values.now in
    let metric = c.in_ok-put_other.ensures.metric ∙ c.loop-time.invariant.metric in
    let tags = c.in_ok-put_other.ensures.tags ∙ c.loop-time.invariant.tags in
    record {
      metric = metric;
      tags = tags;
      placed = c.in_ok-put_other.ensures.placed;
      adds = next_dot c.args.placed.now.point.metric c.args.placed.now.point.tags c.args.fine _ items c.loop-time.time-index (g.R.Rows.seen c.args.store.now.rows) (g.R.Rows.seen c.loop-time.store.rows) (g.R.Rows.seen c.put_other.new.store.rows)
          c.loop-time-test.true c.loop-time.invariant.metric c.loop-time.invariant.tags refl refl (search rules) c.loop-time.invariant.adds c.in_ok-put_other.ensures.adds;
      grows = let was = c.loop-time.invariant.grows in let now = c.in_ok-put_other.ensures.stops.grows in omega (arith, was, now);
    }

pub returns-clause-adds : goal.returns-clause-adds
returns-clause-adds g c =
    all_dots c.args.placed.now.point.metric c.args.placed.now.point.tags c.args.fine c.args.values.now c.args.values.now c.loop-time.time-index (g.R.Rows.seen c.args.store.now.rows) (g.R.Rows.seen c.loop-time.store.rows) c.loop-time-test.false refl c.loop-time.invariant.adds
