-- Callers that have seen a history as a whole.
use Rattle.std.proofs.Common.{◌≡◌, ◌⊎◌, inl, inr, ℕ, ◌+◌, ◌≤◌, Bool, true, false, refl, sym, ap, subst, ◌∙◌, arith}
use Rattle.std.specs.Prelude.{Some, nat_eq, if◌then◌else◌}
use Rattle.cell_model.specs.declared.events.Entry.{Entry}
use Rattle.cell_model.specs.History.{History, len, entry_at}
use Rattle.cell_model.specs.History.History.{Base, Then}
use Rattle.cell_model.specs.Seen.{Saw}
use Rattle.cell_solo.specs.Turns.{whole_seen}
use Rattle.cell_solo.specs.Laws.{EachSightExtends}
use Rattle.list_lemmas.proofs.BoolTests.{not_Some, nat_eq_is}
use Rattle.cell_laws.proofs.CallerLemmas.{entry_at-last, entry_at-more}
use Rattle.cell_solo.proofs.Plays.{at_placed, last_or_earlier}

-- places count from 1
positive : (h : History) (place : ℕ) (e : Entry) → entry_at h place ≡ Some e → 1 ≤ place
positive (Base base) place e is = absurd (not_Some e (sym is))
positive (Then h last) place e is = at (nat_eq place (len h + 1)) refl is (positive h place e)
  where
    at : (b : Bool) → nat_eq place (len h + 1) ≡ b → (if b then Some last else entry_at h place) ≡ Some e → (entry_at h place ≡ Some e → 1 ≤ place) → 1 ≤ place
    at true eq is go = let same = nat_eq_is _ _ eq in omega (arith, same)
    at false eq is go = go is

-- and each up to the length has an entry
stands : (h : History) (place : ℕ) → 1 ≤ place → place ≤ len h → (e : Entry) × (entry_at h place ≡ Some e)
stands (Base base) place one most = absurd (omega (arith, one, most))
stands (Then h last) place one most = at (last_or_earlier place (len h) most) (stands h place one)
  where
    at : (place ≡ len h + 1) ⊎ (place ≤ len h) → (place ≤ len h → (e : Entry) × (entry_at h place ≡ Some e)) → (e : Entry) × (entry_at (Then h last) place ≡ Some e)
    at (inl same) go = (last, ap (entry_at (Then h last)) same ∙ entry_at-last h last)
    at (inr less) go = let w = go less in (w.0, entry_at-more h last w.0 place w.1)

pub each_sight_extends : EachSightExtends
each_sight_extends h later caller other alone x = record {
  base = x.base;
  length = x.length;
  kept = x.kept;
  fits = λ g f. record {
    base = f.base ∙ x.base;
    long = let l = f.long in let m = x.length in omega (arith, l, m);
    seen = λ place e saw. f.seen place e (x.kept place e saw);
    no_other = λ place e le own is.
        let w = stands h place (positive g place e is) le in
        let saw : Saw (whole_seen h other alone) place w.0 = (le, at_placed h place w.0 w.1) in
        let there : entry_at g place ≡ Some w.0 = f.seen place w.0 (x.kept place w.0 saw) in
        let same : w.0 ≡ e = let both : Some w.0 ≡ Some e = sym there ∙ is in cc in
        subst (λ (y : Entry). Saw (whole_seen h other alone) place y) same saw;
  };
}
