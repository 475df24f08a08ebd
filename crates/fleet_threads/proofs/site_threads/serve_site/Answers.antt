use Rattle.std.proofs.Common.{rules, ◌≡◌, ◌∙◌, length, vec_len}
use Rattle.step_count.specs.Tokens.{view_of_pass}
use Rattle.region_locks.specs.CallerViews.{seen_of}
use Rattle.fleet_threads.proofs.SiteWorks.{worked_by}
use Rattle.fleet_threads.proofs.site_threads.serve_site.Goals as goal

pub returns-clause-worked : goal.returns-clause-worked
returns-clause-worked g c =
    let made = c.in_ok-rows_to.ensures in let t = c.take_compactors_back.ensures in let p = c.part.ensures in
    let items : length c.compact_beside.new.compactors.items ≡ vec_len c.compact_beside.new.compactors = search rules in
    worked_by _ c.args.openings.now c.make_compactors.new.openings _ (seen_of (view_of_pass c.in_ok-served.served.pass)) c.of-own.result c.take_compactors_back.new.own (seen_of (view_of_pass c.part.result)) _ _ _ _ _ _ c.requires.nobody
    made.opened (items ∙ c.compact_beside.ensures.len ∙ made.workers) c.of-own.ensures p.seen p.different t.clock_later (search rules) t.places
