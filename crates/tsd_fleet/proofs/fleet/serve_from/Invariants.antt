use Rattle.point_put.specs.Admissions.{admission}
use Rattle.tsd_fleet.proofs.fleet.serve_from.Given as goal

abbrev pub ghosts-serve_parts-J-StepNames : goal.ghosts-serve_parts-J-StepNames
ghosts-serve_parts-J-StepNames g a = record { counter = a.parts.counter; name = a.parts.name }

abbrev pub ghosts-serve_parts-J-ConnTerms : goal.ghosts-serve_parts-J-ConnTerms
ghosts-serve_parts-J-ConnTerms g a = record { admission = admission a.config.now a.rule.now.patterns; moments = g.C.Clock.moments a.clock.now }
