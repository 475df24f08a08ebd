use Rattle.std.proofs.Common.{subst, sym}
use Rattle.json.specs.Json.{array}
use Rattle.json.specs.Find.{BeginsWith}
use Rattle.put_bodies.proofs.TapeItems.{items_found}
use Rattle.put_bodies.proofs.body_tape.tape_elements.Goals as goal

pub returns : goal.returns
returns c text elements tape = items_found c.items.result tape.items elements tape.have (c.items.ensures (array tape.items) (subst (λ ts. BeginsWith ts (array tape.items)) (sym c.root.ensures.same) tape.begins))
