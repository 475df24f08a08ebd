-- Connections that are given back, and counts that account for each.
use Rattle.std.proofs.Common.{◌≡◌, ◌⊎◌, ℕ, ◌+◌, ◌-◌, ◌≤◌, List, [], ◌∷◌, ◌++◌, length, take, drop, refl, sym, ap, subst, append_assoc, append-nil, length-append, ◌∙◌, arith}
use Rattle.std.proofs.Math.Seq.{take-length, drop-length}
use Rattle.std.proofs.lemmas.List.{map-append}
use Rattle.std.specs.Prelude.{All, Bool, true, map, Option, Some, None}
use Rattle.std.specs.List.{sum_by}
use Rattle.std.proofs.lemmas.List.Sums.{sum_by-cons}
use Rattle.std.proofs.lemmas.List.Elements.{All-head, All-rest}
use Rattle.tsd_doors.specs.Links.{Counts, Shut, Ends, one_returned}
use Rattle.link_acceptor.specs.Accepting.{AddsUp, AddsUpOrFails, Allows, AsksEach, AsksHalt, LastAsk, lost_by}
use Rattle.link_workers.specs.Returns.{AllEnd, AccountsFor, many_returned}
use Rattle.link_acceptor.specs.declared.accept_loop.AcceptEnd.{AcceptEnd}
use Rattle.link_acceptor.specs.declared.accept_loop.AcceptEnd.TheVariants.{NoneLeft, Stopped, DoorFault, OutOfMemory}

-- what was given back so far, and one more
pub one_more_ends : {X : Type 0} (shown : X → Shut) (a b c : Option (List Shut)) (xs : List X) (x : X) → AllEnd a b (map shown xs) → Ends b c (shown x) → AllEnd a c (map shown (xs ++ x ∷ []))
one_more_ends shown None b c xs x so_far more = tt
one_more_ends shown (Some all) b c xs x so_far more =
    let added : c ≡ Some ((all ++ map shown xs) ++ shown x ∷ []) = subst (λ o. Ends o c (shown x)) so_far more in
    added ∙ ap (λ l. Some l) (append_assoc all (map shown xs) (shown x ∷ []) ∙ ap (λ l. all ++ l) (sym (map-append shown xs (x ∷ []))))

-- a list with what is made of these behind it, and of one more
pub one_more_made : {X Y : Type 0} (f : X → Y) (start now later : List Y) (xs : List X) (x : X) → now ≡ start ++ map f xs → later ≡ now ++ f x ∷ [] → later ≡ start ++ map f (xs ++ x ∷ [])
one_more_made f start now later xs x so_far more =
    more ∙ ap (λ l. l ++ f x ∷ []) so_far ∙ append_assoc start (map f xs) (f x ∷ []) ∙ ap (λ l. start ++ l) (sym (map-append f xs (x ∷ [])))

pub none_ends : (a : Option (List Shut)) → AllEnd a a []
none_ends None = tt
none_ends (Some all) = ap (λ l. Some l) (sym (append-nil all))

pub none_returned : (a : Counts) → a ≡ many_returned 0 a
none_returned a =
    let returned : a.returned + 0 ≡ a.returned = omega arith in
    let out : a.out - 0 ≡ a.out = omega arith in
    rw (returned, out) refl

pub one_more_returned : {X : Type 0} (xs : List X) (x : X) (a b c : Counts) → b ≡ many_returned (length xs) a → c ≡ one_returned b → c ≡ many_returned (length (xs ++ x ∷ [])) a
one_more_returned xs x a b c so_far more = more ∙ ap one_returned so_far ∙ same (length xs) _ (length-append xs (x ∷ []))
  where
    same : (n m : ℕ) → m ≡ n + 1 → one_returned (many_returned n a) ≡ many_returned m a
    same n m one =
        let returned : a.returned + n + 1 ≡ a.returned + m = omega (arith, one) in
        let out : a.out - n - 1 ≡ a.out - m = omega (arith, one) in
        rw (returned, out) refl

-- all that was accepted was put into the queues, and what was taken of them has an end
pub accounts : (end : AcceptEnd) (a b : Counts) (from put ends : ℕ) → from ≡ 0 → AddsUpOrFails end a b from put → ends ≡ put → AccountsFor end a b ends
accounts end a b from put ends new (lost, few_lost, adds) all = record {
  returned = adds.returned;
  port = adds.port;
  few = few adds.out;
  each = λ none. each adds.out none;
}
  where
    few : b.out + from ≡ a.out + put + lost → a.out + ends ≤ b.out
    few out = omega (arith, out, all, new)

    each : b.out + from ≡ a.out + put + lost → lost_by end ≡ 0 → b.out ≡ a.out + ends
    each out none = omega (arith, out, none, few_lost, all, new)

-- where memory ran out, no more have an end than were put
pub accounts_few : (end : AcceptEnd) (a b : Counts) (from put ends : ℕ) → from ≡ 0 → AddsUpOrFails end a b from put → ends ≤ put → AccountsFor OutOfMemory a b ends
accounts_few end a b from put ends new (lost, few_lost, adds) few = record {
  returned = adds.returned;
  port = adds.port;
  few = at_most adds.out;
  each = λ lost. omega (arith, lost);
}
  where
    at_most : b.out + from ≡ a.out + put + lost → a.out + ends ≤ b.out
    at_most out = omega (arith, out, few, new)

-- nothing was accepted
pub accounts_none : (a : Counts) (ends : ℕ) → ends ≡ 0 → AccountsFor OutOfMemory a a ends
accounts_none a ends none = record {
  returned = refl;
  port = refl;
  few = omega (arith, none);
  each = λ lost. omega (arith, lost);
}

-- idle workers have served none
pub none_served : {X Y : Type 0} (ends : X → List Y) (xs : List X) → All (λ x. ends x ≡ []) xs → sum_by (λ x. length (ends x)) xs ≡ 0
none_served ends [] idle = refl
none_served ends (x ∷ xs) idle =
    let one : length (ends x) ≡ 0 = ap length (All-head (λ y. ends y ≡ []) x xs idle) in
    let rest = none_served ends xs (All-rest (λ y. ends y ≡ []) _ _ _ refl idle) in
    omega (arith, one, rest, sum_by-cons (λ y. length (ends y)) x xs)

-- as many were accepted as are out besides
pub asked_in_all : {H : Type 0} (answers : H → Bool → H → Type 0) (told end : AcceptEnd) (before now : Counts) (old new : H) → (told ≡ end) ⊎ (told ≡ OutOfMemory)
    → now.returned ≡ before.returned → AsksEach answers end (now.out - before.out) old new → AsksHalt answers told before now old new
asked_in_all answers told end before now old new is same asked = record { end = end; is = is; asked = subst (λ count. AsksEach answers end count old new) (omega (arith, same)) asked }
