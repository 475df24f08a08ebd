-- What one caller did in a part of a history, and what was seen before and after it.
use Rattle.std.specs.Prelude.{◌≡◌, ℕ, ◌+◌, ◌<◌, ◌≤◌, Some, true, ◌&&◌, List, AllPairs, Contains, ◌-◌, [], ◌∷◌, ◌++◌, nat_eq, nat_lt, nat_le, cond}
use Rattle.cell_model.specs.declared.events.Entry.{Entry}
use Rattle.cell_model.specs.History.{History, len, entry_at}
use Rattle.cell_model.specs.History.History.{Base, Then}
use Rattle.cell_model.specs.declared.events.Placed.{Placed}
use Rattle.cell_model.specs.declared.events.Step.{Step}
use Rattle.cell_model.specs.declared.events.Reply.{Reply}
use Rattle.cell_model.specs.Seen.{Seen, Saw, Fits, IsPossible}

-- the entry at its place
abbrev pub placed : ℕ → Entry → Placed
placed place e = record { place = place; entry = e }

-- the caller's entries at places above `from` up to `to`, in order
abbrev pub deeds : History → ℕ → ℕ → ℕ → List Placed
deeds (Base b) caller from to = []
deeds (Then h e) caller from to =
    deeds h caller from to ++ cond (nat_lt from (len h + 1) && nat_le (len h + 1) to && nat_eq e.caller caller) (placed (len h + 1) e ∷ []) []

-- nothing seen is lost: what fits the later fits the earlier
pub record Extends (old new : Seen) : Type 0 where
  pub base : new.base ≡ old.base
  pub length : old.length ≤ new.length
  pub kept : (place : ℕ) (e : Entry) → Saw old place e → Saw new place e
  pub fits : (h : History) → Fits new h → Fits old h

-- the same caller, later: nothing seen is lost, and where it is alone nobody else stepped
pub record Since (old new : Seen) : Type 0 where
  pub extends : Extends old new
  pub caller : new.caller ≡ old.caller
  pub alone : new.alone ≡ old.alone
  pub only : old.alone ≡ true → (h : History) → Fits new h → (place : ℕ) (e : Entry) → old.length < place → place ≤ new.length → entry_at h place ≡ Some e → e.caller ≡ old.caller
  pub lives : IsPossible old → IsPossible new

-- between the two this caller made these entries and no other
pub record Made (old : Seen) (list : List Placed) (new : Seen) : Type 0 where
  pub since : Since old new
  pub made : (h : History) → Fits new h → deeds h old.caller old.length new.length ≡ list

-- the call made entries of which this holds, and no other
abbrev pub MadeSo : Seen → (List Placed → Type 0) → Seen → Type 0
MadeSo old P new = (list : List Placed) × Made old list new × P list

-- the entry is this step with this reply
abbrev pub Did : Placed → Step → Reply → Type 0
Did d step reply = (d.entry.step ≡ step) × (d.entry.reply ≡ reply)

-- these entries stand in the history up to this length, in order of place
pub record InOrder (h : History) (end : ℕ) (own : List Placed) : Type 0 where
  pub rising : AllPairs (λ p q. p.place < q.place) own
  pub each : (p : Placed) → Contains own p → (p.place ≤ end) × (entry_at h p.place ≡ Some p.entry)

-- the length before the first of them, or this one where there is none
abbrev pub before_first : List Placed → ℕ → ℕ
before_first [] end = end
before_first (p ∷ own) end = p.place - 1
