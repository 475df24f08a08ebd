use Rattle.std.proofs.Common.{subst}
use Rattle.put_bodies.specs.ElementParts.{IsOf}
use Rattle.put_bodies.proofs.PartWords.{text_as_value}
use Rattle.put_bodies.proofs.element_scan.value_word.Goals as goal

pub returns-in-Text : goal.returns-in-Text
returns-in-Text c j of = text_as_value c.args.value.now c.in-Text.text c.full_word.result j c.in-Text.is of c.full_word.ensures

pub returns-in-Number : goal.returns-in-Number
returns-in-Number c j of = c.value_number.ensures j (subst (λ v. IsOf v j) c.in-Number.is of)
