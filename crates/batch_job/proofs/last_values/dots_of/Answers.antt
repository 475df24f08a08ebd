use Rattle.std.proofs.Common.{◌≡◌, [], ◌++◌, ◌∷◌, sym, ap, subst, ◌∙◌, append_assoc, FitsSigned, w64, rules}
use Rattle.std.specs.BTreeMap.{IsOrdered}
use Rattle.std.specs.List.Sorted.{IsStrictlySortedBy}
use Rattle.std.specs.Map.{keys_of}
use Rattle.std.specs.Ordering.{nat_cmp}
use Rattle.std.proofs.lemmas.Int.{to_z-of_z}
use Rattle.batch_job.proofs.SettleLemmas.{IsAboveAll-from_sorted}
use Rattle.batch_job.proofs.last_values.dots_of.Goals as goal

pub push-requires : goal.push-requires
push-requires c =
    let dots = c.loop-time.dots in
    let ordered : IsOrdered nat_cmp c.args.values.now = search rules in
    let entries = ap (λ rest. dots ++ rest) (sym c.in-Some.ensures.steps) ∙ c.loop-time.invariant in
    IsAboveAll-from_sorted dots _ (c.in-Some.time.now, c.in-Some.value.now) (subst (λ es. IsStrictlySortedBy nat_cmp (keys_of es)) (sym entries) ordered)

pub loop-time-preserved : goal.loop-time-preserved
loop-time-preserved c =
    let dots = c.loop-time.dots in
    let fits : FitsSigned w64 c.in-Some.value.now = search rules in
    let added : c.push.new.self ≡ dots ++ (c.in-Some.time.now, c.in-Some.value.now) ∷ [] = simp to_z-of_z at c.in_ok-push.ensures.ok in
    ap (λ points. points ++ c.next.new.self) added ∙ append_assoc dots _ _ ∙ ap (λ rest. dots ++ rest) (sym c.in-Some.ensures.steps) ∙ c.loop-time.invariant
