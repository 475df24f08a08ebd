use Rattle.test_verbs.proofs.Known.{shown_named}
use Rattle.test_verbs.proofs.calls.there_and_back.Goals as goal

pub name_of-requires : goal.name_of-requires
name_of-requires g c = shown_named _ _ c.args.name.now _ c.in_ok-id.ensures.id
