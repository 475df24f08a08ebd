use Rattle.std.specs.Prelude.{codes}
use Rattle.json.specs.Find.{get}
use Rattle.put_bodies.proofs.PartLemmas.{tags_at}
use Rattle.put_bodies.proofs.element_members.tags_of.Goals as goal

pub returns : goal.returns
returns c j begins =
    let f = c.in_ok-member.ensures j begins in
    tags_at c.members.result (get (codes "tags") j) f.0 f.1 (c.members.ensures f.0 f.2)
