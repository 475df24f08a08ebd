use Rattle.std.proofs.Common.{[], ◌∷◌, ◌++◌, ◌+◌, ◌∙◌, ℕ, List, map, take, drop, sym, ap, subst, arith}
use Rattle.list_lemmas.proofs.MapPlaces.{more_map, split_map}
use Rattle.cell_laws.proofs.CallerLemmas.{nothing_made, since_joined}
use Rattle.series_meta.specs.LatestPoints.{Asking}
use Rattle.series_meta.specs.MetaFaults.{is_stop}
use Rattle.http_series.specs.SeriesRequests.{asking}
use Rattle.http_series.proofs.PointRuns.{AskedTo, points_more, points_none, points_refused, rose_from}
use Rattle.http_series.proofs.last_answers.ask_lasts.Goals as goal

pub loop-one-init : goal.loop-one-init
loop-one-init g c = record {
  since = (nothing_made (g.R.Rows.seen c.args.names.now.rows)).since;
  asked = subst (λ (points : List ℕ). AskedTo (g.R.Rows.seen c.args.names.now.rows) (g.R.Rows.seen c.args.names.now.rows) [] points) (sym c.new-points.ensures.items) (points_none (g.R.Rows.seen c.args.names.now.rows));
  grows = omega arith;
}

pub loop-one-preserved : goal.loop-one-preserved
loop-one-preserved g c =
    let l = c.loop-one in
    let more = more_map (asking c.args.now c.args.back) c.args.series.now l.one-index c.one-item.result c.loop-one-test.true c.one-item.is in
    record {
      since = since_joined (g.R.Rows.seen c.args.names.now.rows) (g.R.Rows.seen l.names.rows) (g.R.Rows.seen c.ask_one.new.names.rows) l.invariant.since c.in-Ok.ensures.ok.1.made.since;
      asked =
          subst (λ (done : List Asking). AskedTo (g.R.Rows.seen c.args.names.now.rows) (g.R.Rows.seen c.ask_one.new.names.rows) done c.ask_one.new.points.items) (sym more)
          (points_more (g.R.Rows.seen c.args.names.now.rows) (g.R.Rows.seen l.names.rows) (g.R.Rows.seen c.ask_one.new.names.rows) (map (asking c.args.now c.args.back) (take l.one-index c.args.series.now)) (asking c.args.now c.args.back c.one-item.result) l.points.items c.ask_one.new.points.items
          l.invariant.since l.invariant.asked c.in-Ok.ensures.ok);
      grows = let a = l.invariant.grows in let b = c.in-Ok.ensures.stops.grows in omega (arith, a, b);
    }

pub returns-in-Err : goal.returns-in-Err
returns-in-Err g c =
    let l = c.loop-one in
    record {
      since = since_joined (g.R.Rows.seen c.args.names.now.rows) (g.R.Rows.seen l.names.rows) (g.R.Rows.seen c.ask_one.new.names.rows) l.invariant.since c.in-Err.ensures.err.made.since;
      ok = tt;
      err = points_refused (g.R.Rows.seen c.args.names.now.rows) (g.R.Rows.seen l.names.rows) (g.R.Rows.seen c.ask_one.new.names.rows) (map (asking c.args.now c.args.back) (take l.one-index c.args.series.now)) (map (asking c.args.now c.args.back) (drop (l.one-index + 1) c.args.series.now)) (map (asking c.args.now c.args.back) c.args.series.now)
          (asking c.args.now c.args.back c.one-item.result) l.points.items c.in-Err.fault (split_map (asking c.args.now c.args.back) c.args.series.now l.one-index c.one-item.result c.loop-one-test.true c.one-item.is) l.invariant.since l.invariant.asked c.in-Err.ensures.err;
      stops = record {
        grows = let a = l.invariant.grows in let b = c.in-Err.ensures.stops.grows in omega (arith, a, b);
        rose = rose_from (is_stop c.in-Err.fault) (g.R.Rows.stops c.args.names.now.rows) (g.R.Rows.stops l.names.rows) (g.R.Rows.stops c.ask_one.new.names.rows) l.invariant.grows c.in-Err.ensures.stops.rose;
      };
    }
