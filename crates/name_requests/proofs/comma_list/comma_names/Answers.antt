use Rattle.std.proofs.Common.{◌+◌}
use Rattle.std.proofs.lemmas.List.{take_rest}
use Rattle.name_requests.proofs.CommaLemmas.{name_pushed, names_end}
use Rattle.name_requests.proofs.comma_list.comma_names.Goals as goal

pub loop-at-preserved : goal.loop-at-preserved
loop-at-preserved c =
    name_pushed c.loop-at.names.items c.push.new.self.items c.args.text.now c.loop-at.rest.now c.in_ok-of.field-0 _ c.in-Some.at c.in-Some.ensures c.in_ok-of.ensures.made
    (take_rest c.loop-at.rest.now (c.in-Some.at + 1)) c.in_ok-push.ensures.items c.loop-at.invariant

pub returns : goal.returns
returns c =
    names_end c.loop-at.names.items c.push-2.new.self.items c.args.text.now c.loop-at.rest.now c.in_ok-of-2.field-0 c.in_default.ensures c.in_ok-of-2.ensures.made
    c.in_ok-push-2.ensures.items c.loop-at.invariant
