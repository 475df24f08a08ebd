-- Histories that others begin, by entries of some callers.
use Rattle.std.proofs.Common.{◌≡◌, ◌≢◌, ◌⊎◌, inl, inr, ℕ, ◌+◌, ◌≤◌, false, refl, ap, ◌∙◌, arith}
use Rattle.std.proofs.lemmas.Bool.{false≢true}
use Rattle.std.specs.Prelude.{Contains}
use Rattle.cell_model.specs.declared.events.Entry.{Entry}
use Rattle.cell_model.specs.declared.events.Placed.{Placed}
use Rattle.cell_model.specs.History.{History, len}
use Rattle.cell_model.specs.History.History.{Then}
use Rattle.cell_model.specs.Seen.{Saw, IsOwn, Waited}
use Rattle.cell_solo.specs.Turns.{all_placed, whole_seen}
use Rattle.list_lemmas.proofs.ListMembers.{there, split, not_in}
use Rattle.cell_laws.proofs.CallerLemmas.{nothing_waited, bounded}
use Rattle.cell_solo.proofs.CallerLemmas.{placed_at}
use Rattle.weave_rows.specs.WovenHistories.{IsLater}
use Rattle.weave_rows.specs.WovenHistories.IsLater.{same, more}
use Rattle.weave_rows.proofs.Waiting.{waits_join}

-- one after the other
pub later_joined : (n : ℕ) {a b c : History} → IsLater n a b → IsLater n b c → IsLater n a c
later_joined n one same = one
later_joined n one (more two least most) = more (later_joined n one two) least most

-- of callers further behind
pub later_from : (n m : ℕ) {a b : History} → n ≤ m → IsLater m a b → IsLater n a b
later_from n m le same = same
later_from n m le (more two least most) = more (later_from n m le two) (omega (arith, le, least)) most

-- an entry of another caller
other_waits : (n : ℕ) (h : History) (e : Entry) → e.caller ≢ n → Waited (whole_seen h n false) (whole_seen (Then h e) n false)
other_waits n h e other = record {
  base = refl;
  caller = refl;
  absorbed = refl;
  length = omega arith;
  kept = λ place x saw. (let le = saw.0 in omega (arith, le), there _ _ (all_placed h) saw.1);
  no_own = λ place x saw own. older place x own (split _ _ (all_placed h) saw.1);
  alone = refl;
  still = λ is. absurd (false≢true is);
}
  where
    not_own : (x : Entry) → e ≡ x → IsOwn (whole_seen h n false) x.caller → ⊥
    not_own x is (inl own) = other (ap (λ (y : Entry). y.caller) is ∙ own)
    not_own x is (inr has) = not_in x.caller has

    older : (place : ℕ) (x : Entry) → IsOwn (whole_seen h n false) x.caller → (◌≡◌ {A = Placed} (record { place = len h + 1; entry = e }) (record { place = place; entry = x })) ⊎ Contains (all_placed h) (record { place = place; entry = x })
        → Saw (whole_seen h n false) place x
    older place x own (inl is) = absurd (not_own x (ap (λ (p : Placed). p.entry) is) own)
    older place x own (inr has) = (bounded h place x (placed_at h place x has), has)

-- to a caller all entries of those behind it are others'
pub later_waits : (n : ℕ) {a b : History} → IsLater (n + 1) a b → Waited (whole_seen a n false) (whole_seen b n false)
later_waits n {a} same = nothing_waited (whole_seen a n false)
later_waits n {a} (more {h} {e} two least most) = waits_join (whole_seen a n false) (whole_seen h n false) (whole_seen (Then h e) n false) (later_waits n two) (other_waits n h e (λ is. omega (arith, is, least)))
