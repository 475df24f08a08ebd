-- A history as an earlier one and the entries that follow it.
use Rattle.std.proofs.Common.{◌≡◌, ℕ, ◌+◌, ◌≤◌, ◌<◌, Bool, true, false, cond, List, [], ◌∷◌, ◌++◌, refl, sym, ap, subst, ◌∙◌, arith, rules}
use Rattle.std.specs.Prelude.{Some, nat_le, if◌then◌else◌}
use Rattle.cell_model.specs.declared.events.Entry.{Entry}
use Rattle.cell_model.specs.declared.events.Placed.{Placed}
use Rattle.cell_model.specs.History.{History, base_of, len, entry_at, first}
use Rattle.cell_model.specs.History.History.{Base, Then}
use Rattle.cell_model.specs.Deeds.{deeds, placed, Made}
use Rattle.cell_model.specs.KindWidths.{Widths}
use Rattle.cell_model.specs.Lawful.{IsLawful}
use Rattle.cell_model.specs.Seen.{Seen, Fits}
use Rattle.point_lines.specs.LoneHistories.{IsLone}
use Rattle.cell_laws.proofs.CallerLemmas.{entry_at-last, entry_at-more, inside, out_before, out_behind, deeds_beyond, first_lawful}

-- the history with these entries behind it
abbrev pub follow : History → List Placed → History
follow h [] = h
follow h (d ∷ list) = follow (Then h d.entry) list

pub follow-append : (h : History) (xs ys : List Placed) → follow h (xs ++ ys) ≡ follow (follow h xs) ys
follow-append h [] ys = refl
follow-append h (x ∷ xs) ys = follow-append (Then h x.entry) xs ys

-- every entry of this part is the caller's
abbrev IsOnly : History → ℕ → ℕ → ℕ → Type 0
IsOnly h caller from to = (place : ℕ) (e : Entry) → from < place → place ≤ to → entry_at h place ≡ Some e → e.caller ≡ caller

pub first_longer : (h : History) (n : ℕ) → len h ≤ n → first n h ≡ h
first_longer (Base b) n le = refl
first_longer (Then h e) n le = let low : nat_le (len h + 1) n ≡ true = grind (arith, le) in ap (λ b. if b then Then h e else first n h) low

no_more : (xs : List Placed) → xs ++ [] ≡ xs
no_more xs = search rules

abbrev GoesOn : History → ℕ → ℕ → ℕ → Type 0
GoesOn h caller from to = first to h ≡ follow (first from h) (deeds h caller from to)

-- a part in which nobody else stepped is what the caller did
pub follows : (h : History) (caller from to : ℕ) → from ≤ to → IsOnly h caller from to → GoesOn h caller from to
follows (Base b) caller from to le only = refl
follows (Then h e) caller from to le only = at_to (follows h caller from to le (λ place x a b is. only place x a b (entry_at-more h e x place is))) (nat_le (len h + 1) to) refl
  where
    one : Bool → List Placed
    one t = cond t (placed (len h + 1) e ∷ []) []

    at_from : GoesOn h caller from to → nat_le (len h + 1) to ≡ true → (t : Bool) → nat_le (len h + 1) from ≡ t → Then h e ≡ follow (if t then Then h e else first from h) (deeds h caller from to ++ one (inside from to caller (len h + 1) e.caller))
    at_from before up true eq =
        let low : len h + 1 ≤ from = grind (arith, eq) in
        sym (ap (λ xs. follow (Then h e) (xs ++ one (inside from to caller (len h + 1) e.caller))) (deeds_beyond h caller from to (omega (arith, low)))
        ∙ ap (λ t. follow (Then h e) (one t)) (out_before from to caller (len h + 1) e.caller low))
    at_from before up false eq =
        let high : from < len h + 1 = grind (arith, eq) in
        let most : len h + 1 ≤ to = grind (arith, up) in
        let own : e.caller ≡ caller = only (len h + 1) e high most (entry_at-last h e) in
        let in_it : inside from to caller (len h + 1) e.caller ≡ true = grind (arith, own) in
        sym (ap (λ t. follow (first from h) (deeds h caller from to ++ one t)) in_it ∙ follow-append (first from h) (deeds h caller from to) (placed (len h + 1) e ∷ [])
        ∙ ap (λ x. Then x e) (sym before ∙ first_longer h to (omega (arith, most))))

    at_to : GoesOn h caller from to → (t : Bool) → nat_le (len h + 1) to ≡ t → (if t then Then h e else first to h) ≡ follow (first from (Then h e)) (deeds (Then h e) caller from to)
    at_to before true eq = at_from before eq (nat_le (len h + 1) from) refl
    at_to before false eq =
        let high : to < len h + 1 = grind (arith, eq) in
        let low : nat_le (len h + 1) from ≡ false = grind (arith, high, le) in
        sym (ap (λ t. follow (if t then Then h e else first from h) (deeds (Then h e) caller from to)) low
        ∙ ap (λ t. follow (first from h) (deeds h caller from to ++ one t)) (out_behind from to caller (len h + 1) e.caller high)
        ∙ ap (follow (first from h)) (no_more (deeds h caller from to)) ∙ sym before)

-- what a caller that is alone made, in a history that fits: before it all that held holds, and what it made follows
pub record Went (old : Seen) (list : List Placed) (new : Seen) (h : History) : Type 0 where
  pub before_lawful : IsLawful (first old.length h)
  pub fitted : Fits old h
  pub after_is : first new.length h ≡ follow (first old.length h) list
  pub lawful : IsLawful (follow (first old.length h) list)

pub went : (w : Widths) (old new : Seen) (list : List Placed) (h : History) → Made old list new → IsLone w old → IsLawful h → Fits new h → Went old list new h
went w old new list h made alone lawful fits =
    let after : first new.length h ≡ follow (first old.length h) list =
    follows h old.caller old.length new.length made.since.extends.length (made.since.only alone.alone h fits) ∙ ap (follow (first old.length h)) (made.made h fits) in
    record {
      before_lawful = first_lawful h old.length lawful;
      fitted = made.since.extends.fits h fits;
      after_is = after;
      lawful = subst IsLawful after (first_lawful h new.length lawful);
    }

-- the caller is alone still
pub alone_still : (w : Widths) (old new : Seen) (list : List Placed) → Made old list new → IsLone w old → IsLone w new
alone_still w old new list made alone = record {
  base = made.since.extends.base ∙ alone.base;
  alone = made.since.alone ∙ alone.alone;
  possible = made.since.lives alone.possible;
}

-- a beginning has the base of the whole
pub base_of_first : (h : History) (n : ℕ) → base_of (first n h) ≡ base_of h
base_of_first (Base b) n = refl
base_of_first (Then h x) n = at (nat_le (len h + 1) n) (base_of_first h n)
  where
    at : (t : Bool) → base_of (first n h) ≡ base_of h → base_of (if t then Then h x else first n h) ≡ base_of h
    at true rest = refl
    at false rest = rest
