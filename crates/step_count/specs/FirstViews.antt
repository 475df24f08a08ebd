-- The store that a counter is over, and what the first seat and the first licences know.
use Rattle.std.specs.Prelude.{ℕ, zero, suc, ◌+◌, List, [], ◌∷◌, Some, None}
use Rattle.std.specs.declared.option.Option.{Option}
use Rattle.row_key.specs.Made.{three}
use Rattle.atomic_table.specs.declared.shared.Seat.{Seat}
use Rattle.cell_model.specs.Store.{Store, entries}
use Rattle.step_count.specs.declared.counter_rule.TheConstants.{OPENINGS}
use Rattle.step_count.specs.declared.view.Named.{Named}
use Rattle.step_count.specs.declared.view.View.{View}
use Rattle.step_count.specs.CounterRule.{Log, region_count}

-- this store, with so many data regions
abbrev pub named : Store → ℕ → Named
named store data_regions = record { widths = store.widths; base = entries store; data_regions = data_regions }

-- the store that the origin was told; there is one wherever a counter is
abbrev pub name_in : Option Named → Named
name_in None = record { widths = three; base = []; data_regions = 1 }
name_in (Some n) = n

abbrev pub name_of : Seat (Unit {0}) (Option Named) → Named
name_of origin = name_in origin.me.0

-- the licences of so many regions from a number on, without an entry
abbrev pub unused : ℕ → ℕ → List Log
unused number zero = []
unused number (suc count) = (number, []) ∷ unused (number + 1) count

-- a seat that has them, and has seen nothing
abbrev pub holding : Option Named → ℕ → ℕ → View
holding name number count = record { named = name; length = 0; seen = []; callers = []; licences = unused number count }

-- a seat that has them and the licence of openings, and has seen nothing; without them it is that by which callers are opened
abbrev pub opener : Option Named → ℕ → ℕ → View
opener name number count = record { named = name; length = 0; seen = []; callers = []; licences = (OPENINGS, []) ∷ unused number count }

-- the first seat has the licence of openings and that of every region
abbrev pub first_of : Named → View
first_of n = opener (Some n) 0 (region_count n)

abbrev pub first_view : Seat (Unit {0}) (Option Named) → View
first_view origin = first_of (name_of origin)

-- the licences of so many regions from a number on, each a seat of its own
abbrev pub unused_licences : Option Named → ℕ → ℕ → List View
unused_licences name number zero = []
unused_licences name number (suc count) = holding name number 1 ∷ unused_licences name (number + 1) count
