use Rattle.std.proofs.Common.{refl, sym}
use Rattle.test_rows.proofs.claim.may_name.Goals as goal

pub returns-then-was_given : goal.returns-then-was_given
returns-then-was_given c = λ yes s all. record {
  kind = c.in-Some.kind;
  number = c.in-Some-id_in.id;
  is_kind = c.in-Some.ensures;
  is_id = sym c.in-Some-id_in.ensures.bytes;
  is_name = c.is_name.ensures yes;
  bumped = all _ (c.if-was_given.ensures refl);
}
