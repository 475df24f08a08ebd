use Rattle.std.proofs.Common.{sym, ap, subst, ◌∙◌}
use Rattle.std.specs.Prelude.{nat_eq}
use Rattle.std.specs.List.{list_any}
use Rattle.metric_scan.specs.IdSets.{Rise}
use Rattle.metric_scan.proofs.IdSets.{found_is}
use Rattle.metric_scan.proofs.id_set.IdSet.contains.Goals as goal

pub returns : goal.returns
returns c =
    c.is_ok.ensures.value ∙ found_is c.deref.result.now c.args.id c.binary_search.result (subst Rise (sym c.deref.ensures.value) c.self.invariant) c.binary_search.ensures.position
    ∙ ap (list_any (nat_eq c.args.id)) (c.deref.ensures.value ∙ c.self.view_is)
