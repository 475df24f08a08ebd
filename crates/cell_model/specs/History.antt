-- A history: a base store and the entries that were added to it, with places from 1.
use Rattle.std.specs.Prelude.{◌≡◌, ℕ, ◌+◌, Option, None, Some, nat_eq, nat_le, if◌then◌else◌}
use Rattle.cell_model.specs.declared.events.Entry.{Entry}
use Rattle.cell_model.specs.Store.{Store}
use Rattle.cell_model.specs.Machine.{after}

-- Base s is the history without an entry over s; Then h e is h with one more, which is its last
pub data History : Type 0 where
  Base : (base : Store) → History
  Then : (earlier : History) (entry : Entry) → History

-- the store with which it began
abbrev pub base_of : History → Store
base_of (Base base) = base
base_of (Then h e) = base_of h

-- how many entries it has
abbrev pub len : History → ℕ
len (Base base) = 0
len (Then h e) = len h + 1

-- the store after them
abbrev pub store_after : History → Store
store_after (Base base) = base
store_after (Then h e) = after (store_after h) (len h + 1) e.step

-- the entry at a place, where there is one
abbrev pub entry_at : History → ℕ → Option Entry
entry_at (Base base) place = None
entry_at (Then h e) place = if nat_eq place (len h + 1) then Some e else entry_at h place

-- its first n entries, over the same base
abbrev pub first : ℕ → History → History
first n (Base base) = Base base
first n (Then h e) = if nat_le (len h + 1) n then Then h e else first n h

-- the entry stands in the history, at some place
abbrev pub Had : History → Entry → Type 0
Had h e = (place : ℕ) × (entry_at h place ≡ Some e)
