use Rattle.std.proofs.Common.{◌∙◌, sym, ap}
use Rattle.query_text.specs.declared.queries.Test.TheVariants as text
use Rattle.metric_scan.proofs.NameIds.{any_test, wild_test, pattern_test, one_of_test, not_one_of_test}
use Rattle.metric_scan.proofs.resolve.resolve_test.Goals as goal

pub returns-in-Any-clause-says : goal.returns-in-Any-clause-says
returns-in-Any-clause-says g c = any_test _ c.args.test.now c.in-Any.is

pub returns-in-Wild-clause-says : goal.returns-in-Wild-clause-says
returns-in-Wild-clause-says g c = wild_test _ c.args.test.now c.in-Wild.text c.in-Wild.is

pub returns-in-Pattern-clause-says : goal.returns-in-Pattern-clause-says
returns-in-Pattern-clause-says g c = pattern_test _ c.args.test.now c.in-Pattern.text c.in-Pattern.is

pub returns-in_ok-ids-in-OneOf-clause-says : goal.returns-in_ok-ids-in-OneOf-clause-says
returns-in_ok-ids-in-OneOf-clause-says g c =
    one_of_test _ _ c.args.test.now c.list.result.now c.in_ok-ids-in-OneOf.ids.items c.of.result (c.in-OneOf.is ∙ ap (λ names. text.OneOf names) (sym c.list.ensures)) c.in_ok-ids-in-OneOf.ensures.says c.of.ensures

pub returns-in_ok-ids-in-NotOneOf-clause-says : goal.returns-in_ok-ids-in-NotOneOf-clause-says
returns-in_ok-ids-in-NotOneOf-clause-says g c =
    not_one_of_test _ _ c.args.test.now c.list-in-NotOneOf.result.now c.in_ok-ids-in-NotOneOf.ids.items c.of-in-NotOneOf.result (c.in-NotOneOf.is ∙ ap (λ names. text.NotOneOf names) (sym c.list-in-NotOneOf.ensures)) c.in_ok-ids-in-NotOneOf.ensures.says
    c.of-in-NotOneOf.ensures
