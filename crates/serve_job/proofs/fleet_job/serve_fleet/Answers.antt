use Rattle.serve_job.proofs.JobLemmas.{causes, left_is_sound, runs}
use Rattle.serve_job.proofs.fleet_job.serve_fleet.Goals as goal

pub finish-finished-requires : goal.finish-finished-requires
finish-finished-requires g c =
    let d = c.serve_from-done.result.done in
    record { sound = left_is_sound g.H.Halt.answers _ _ _ _ _ (record { end = d.end; links = d.links; ends = d.ends.items; tally = d.tally }) _ c.serve_from-done.result.rows c.serve_from-done.ensures.keeps }

pub returns-clause-runs : goal.returns-clause-runs
returns-clause-runs g c =
    let d = c.serve_from-done.result.done in
    runs g.H.Halt.answers _ _ _ _ _ _ _ (record { end = d.end; links = d.links; ends = d.ends.items; tally = d.tally }) _ c.serve_from-done.result.rows c.finish-finished.result.end c.finish-finished.result.refused c.serve_from-done.ensures.keeps c.finish-finished.ensures.prints

pub returns-clause-causes : goal.returns-clause-causes
returns-clause-causes g c =
    let d = c.serve_from-done.result.done in
    let k = c.serve_from-done.ensures.keeps in
    causes g.H.Halt.answers _ _ _ _ _ _ (record { end = d.end; links = d.links; ends = d.ends.items; tally = d.tally }) c.finish-finished.result.end k.does
    (c.finish-finished.ensures.prints (record { data_regions = _; content = k.does.serves.store }) k.keeps.kept).job.so c.finish-finished.ensures.cause
