use Rattle.std.proofs.Common.{◌≡◌, ℕ, ℤ, List, of_z, rules, sym, subst, to_z, w64}
use Rattle.tsd_base.specs.Points.{DataPoint, data_point}
use Rattle.tsd_base.specs.declared.points.Point.{Point}
use Rattle.cell_model.specs.Layout.{names_of}
use Rattle.batch_job.specs.PendingPuts.{Adds, AreResolved, AreTimes, points_in}
use Rattle.batch_job.proofs.Puts.{still_resolved}
use Rattle.batch_job.proofs.StoredPoints.{first_and_others, where_ok}
use Rattle.batch_job.proofs.pending_puts.put_dots.Goals as goal

pub invariant_of-point : goal.invariant_of-point
invariant_of-point g c =
    let times = subst (λ (ds : List (ℕ × ℤ)). AreTimes c.args.fine ds) c.in-Some.ensures.cases.0 c.requires.times in
    record { timed = times.0 }

pub put_others-requires : goal.put_others-requires
put_others-requires g c =
    let times = subst (λ (ds : List (ℕ × ℤ)). AreTimes c.args.fine ds) c.in-Some.ensures.cases.0 c.requires.times in
    let new = g.R.Rows.seen c.put_one.new.store.rows in
    record {
      times = times.1;
      placed = c.in_ok-placed.ensures.placed;
      resolved = subst (λ (p : Point). AreResolved new (names_of (data_point p))) (sym c.in_ok-placed.ensures.point) (still_resolved _ (g.R.Rows.seen c.args.store.now.rows) new _ c.in_ok-placed.ensures.adds c.requires.resolved);
    }

pub returns-clause-adds : goal.returns-clause-adds
returns-clause-adds g c =
    let old = g.R.Rows.seen c.args.store.now.rows in
    let mid = g.R.Rows.seen c.put_one.new.store.rows in
    let new = g.R.Rows.seen c.put_others.new.store.rows in
    let others = c.in-Some.others.now in
    let first = c.in-Some.first.now in
    let value : to_z w64 (of_z w64 first.1) ≡ first.1 = search rules in
    let is : ◌≡◌ {A = DataPoint} (record { metric = c.args.metric; tags = c.args.tags; time = first.0; fine = c.args.fine; value = to_z w64 (of_z w64 first.1) }) (record { metric = c.args.metric; tags = c.args.tags; time = first.0; fine = c.args.fine; value = first.1 }) =
    λ i. record { metric = c.args.metric; tags = c.args.tags; time = first.0; fine = c.args.fine; value = value i } in
    where_ok c.put_others.result
    (λ adds. first_and_others c.args.metric c.args.tags c.args.fine first others c.args.dots.now (record { metric = c.args.metric; tags = c.args.tags; time = first.0; fine = c.args.fine; value = to_z w64 (of_z w64 first.1) }) old mid new c.in-Some.ensures.cases.0 is c.in_ok-placed.ensures.adds
    (subst (λ (p : Point). Adds mid (points_in p.metric p.tags c.args.fine others) new) c.in_ok-placed.ensures.point adds))
    c.put_others.ensures.adds
