use Rattle.json.specs.Find.{get}
use Rattle.put_bodies.proofs.PartLemmas.{text_at}
use Rattle.put_bodies.proofs.element_members.text_of.Goals as goal

pub returns : goal.returns
returns c j begins =
    let f = c.in_ok-member.ensures j begins in
    text_at c.as_str.result (get c.args.name.now j) f.0 f.1 (c.as_str.ensures f.0 f.2)
