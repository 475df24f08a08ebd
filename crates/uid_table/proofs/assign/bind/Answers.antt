use Rattle.uid_table.proofs.Making.{bind_made}
use Rattle.uid_table.proofs.assign.bind.Goals as goal

pub returns-clause-made : goal.returns-clause-made
returns-clause-made g c = bind_made _ _ _ c.args.kind c.args.name.now.bytes c.args.id c.claim_forward.result c.in_ok-claim_reverse.ensures.made c.claim_forward.ensures.made
