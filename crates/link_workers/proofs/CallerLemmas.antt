-- What a caller who gives back the connections of several workers has to add up.
use Rattle.std.proofs.Common.{◌≡◌, ◌⊎◌, inl, inr, ℕ, ◌+◌, ◌-◌, Bool, List, ◌++◌, ap, subst, sym, append_assoc, refl, ◌∙◌, arith}
use Rattle.std.specs.Prelude.{Option, Some, None}
use Rattle.tsd_doors.specs.Links.{Counts, Shut, accepted}
use Rattle.link_acceptor.specs.declared.accept_loop.AcceptEnd.{AcceptEnd}
use Rattle.link_acceptor.specs.declared.accept_loop.AcceptEnd.TheVariants.{OutOfMemory}
use Rattle.link_acceptor.specs.Accepting.{AsksEach, AsksHalt}
use Rattle.link_workers.specs.Returns.{AllEnd, many_returned}

-- these were given back, and then those
pub all_end_then : (a b c : Option (List Shut)) (xs ys : List Shut) → AllEnd a b xs → AllEnd b c ys → AllEnd a c (xs ++ ys)
all_end_then None b c xs ys these those = tt
all_end_then (Some all) b c xs ys these those =
    let added : c ≡ Some ((all ++ xs) ++ ys) = subst (λ o. AllEnd o c ys) these those in
    added ∙ ap (λ l. Some l) (append_assoc all xs ys)

-- so many were given back, and then so many
pub returned_then : (n m : ℕ) (a b c : Counts) → b ≡ many_returned n a → c ≡ many_returned m b → c ≡ many_returned (n + m) a
returned_then n m a b c these those = those ∙ ap (many_returned m) these ∙ same
  where
    same : many_returned m (many_returned n a) ≡ many_returned (n + m) a
    same =
        let returned : a.returned + n + m ≡ a.returned + (n + m) = omega arith in
        let out : a.out - n - m ≡ a.out - (n + m) = omega arith in
        rw (returned, out) refl

-- connections were given back, and the end is told, or want of memory
pub asks_told : {H : Type 0} (answers : H → Bool → H → Type 0) (told told' : AcceptEnd) (x y z : Counts) (old new : H) → (told' ≡ told) ⊎ (told' ≡ OutOfMemory) → accepted z ≡ accepted y
    → AsksHalt answers told x y old new → AsksHalt answers told' x z old new
asks_told answers told told' x y z old new how same a = record { end = a.end; is = is how a.is; asked = subst (λ n. AsksEach answers a.end (n - accepted x) old new) (sym same) a.asked }
  where
    is : (told' ≡ told) ⊎ (told' ≡ OutOfMemory) → (told ≡ a.end) ⊎ (told ≡ OutOfMemory) → (told' ≡ a.end) ⊎ (told' ≡ OutOfMemory)
    is (inr out) was = inr out
    is (inl same_end) (inl end) = inl (same_end ∙ end)
    is (inl same_end) (inr out) = inr (same_end ∙ out)
