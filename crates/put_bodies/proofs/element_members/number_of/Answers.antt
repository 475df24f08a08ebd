use Rattle.json.specs.Find.{get}
use Rattle.put_bodies.proofs.PartLemmas.{number_at}
use Rattle.put_bodies.proofs.element_members.number_of.Goals as goal

pub returns : goal.returns
returns c j begins =
    let f = c.in_ok-member.ensures j begins in
    number_at c.as_number.result (get c.args.name.now j) f.0 f.1 (c.as_number.ensures f.0 f.2)
