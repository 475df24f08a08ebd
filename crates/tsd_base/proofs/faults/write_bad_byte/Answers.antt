use Rattle.std.proofs.Common.{◌≡◌, ℕ, List, ◌++◌, codes, decimal, ◌∙◌, append_assoc}
use Rattle.std.proofs.lemmas.Result.{on_ok_weaker}
use Rattle.tsd_base.specs.Faults.{hex_byte}
use Rattle.tsd_base.proofs.faults.write_bad_byte.Goals as goal

regroup : (o a b c d : List ℕ) → (((o ++ a) ++ b) ++ c) ++ d ≡ o ++ (((a ++ b) ++ c) ++ d)
regroup o a b c d = simp append_assoc

pub returns-clause-ok : goal.returns-clause-ok
returns-clause-ok c =
    let e = regroup c.args.out.now.items (codes " name has byte 0x") (hex_byte c.args.byte) (codes " at ") (decimal c.args.at) in
    on_ok_weaker c.write_number.result (λ is. is ∙ rw (c.in_ok-extend_from_slice-2.ensures.items, c.in_ok-write_byte.ensures.ok, c.in_ok-extend_from_slice.ensures.items) e) c.write_number.ensures.ok
