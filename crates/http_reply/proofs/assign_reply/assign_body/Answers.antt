use Rattle.http_reply.proofs.Objects.{told_if}
use Rattle.http_reply.proofs.assign_reply.assign_body.Goals as goal

pub returns : goal.returns
returns c = told_if c.args.widths c.to_vec.result _ c.in_ok-members.members.entries c.args.answers.now c.from.ensures c.in_ok-members.ensures c.to_vec.ensures.text
