-- Entries at their places.
use Rattle.std.proofs.Common.{◌≡◌, ℕ, ◌+◌, ◌≤◌, Bool, true, false, refl, sym, ap, ◌∙◌, arith}
use Rattle.std.specs.Prelude.{Some, nat_eq, if◌then◌else◌}
use Rattle.cell_model.specs.declared.events.Entry.{Entry}
use Rattle.cell_model.specs.History.{History, len, entry_at}
use Rattle.cell_model.specs.History.History.{Base, Then}
use Rattle.list_lemmas.proofs.BoolTests.{not_Some, nat_eq_is, nat_eq-refl}

pub bounded : (h : History) (place : ℕ) (e : Entry) → entry_at h place ≡ Some e → place ≤ len h
bounded (Base base) place e is = absurd (not_Some e (sym is))
bounded (Then h last) place e is = at (nat_eq place (len h + 1)) refl is (bounded h place e)
  where
    at : (b : Bool) → nat_eq place (len h + 1) ≡ b → (if b then Some last else entry_at h place) ≡ Some e → (entry_at h place ≡ Some e → place ≤ len h) → place ≤ len h + 1
    at true eq is go = let same = nat_eq_is _ _ eq in omega (arith, same)
    at false eq is go = let low = go is in omega (arith, low)

pub entry_at-last : (h : History) (e : Entry) → entry_at (Then h e) (len h + 1) ≡ Some e
entry_at-last h e = ap (λ b. if b then Some e else entry_at h (len h + 1)) (nat_eq-refl (len h + 1))

not_equal : (a b : ℕ) → a ≤ b → nat_eq a (b + 1) ≡ false
not_equal a b le = at (nat_eq a (b + 1)) refl
  where
    at : (t : Bool) → nat_eq a (b + 1) ≡ t → t ≡ false
    at true e = let same = nat_eq_is _ _ e in absurd (omega (arith, same, le))
    at false e = refl

pub entry_at-more : (h : History) (last e : Entry) (place : ℕ) → entry_at h place ≡ Some e → entry_at (Then h last) place ≡ Some e
entry_at-more h last e place is = ap (λ b. if b then Some last else entry_at h place) (not_equal place (len h) (bounded h place e is)) ∙ is
