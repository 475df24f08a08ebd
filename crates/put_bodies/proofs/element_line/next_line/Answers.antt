use Rattle.std.proofs.Common.{subst}
use Rattle.json.specs.Find.{NextItem}
use Rattle.put_bodies.proofs.TapeItems.{none_taken, taken}
use Rattle.put_bodies.proofs.element_line.next_line.Goals as goal

pub returns-in_default-clause-next : goal.returns-in_default-clause-next
returns-in_default-clause-next c elements goes = none_taken c.args.items.now c.next.new.self elements goes (subst (λ r. NextItem c.args.items.now r c.next.new.self) c.in_default.is c.next.ensures.value)

pub returns-in-Ok-clause-next : goal.returns-in-Ok-clause-next
returns-in-Ok-clause-next c elements goes =
    let t = taken c.args.items.now c.in-Some.element c.next.new.self elements goes c.in-Some.ensures.value in
    (t.first.d, t.first.others, t.first.all, c.in-Ok.ensures t.j t.first.d t.begins t.first.plain t.first.read, (t.rest, t.goes, t.first.have))

pub returns-in-Err-clause-next : goal.returns-in-Err-clause-next
returns-in-Err-clause-next c elements goes =
    let t = taken c.args.items.now c.in-Some.element c.next.new.self elements goes c.in-Some.ensures.value in
    (t.first.d, t.first.others, t.first.all, (t.rest, t.goes, t.first.have))
