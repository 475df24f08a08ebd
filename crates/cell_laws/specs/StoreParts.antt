-- The part of a store that some rows make, and the entries that look at those rows.
use Rattle.std.specs.Prelude.{◌≡◌, ℕ, ◌+◌, Bool, true, false, List, [], ◌∷◌, ◌++◌, filter, nat_eq, if◌then◌else◌, cond}
use Rattle.std.specs.FinMap.{from_sorted}
use Rattle.row_key.specs.declared.widths.Widths.{Widths}
use Rattle.row_key.specs.Regions.{region_number}
use Rattle.cell_model.specs.declared.row.Row.{Row}
use Rattle.cell_model.specs.declared.events.Step.{Step}
use Rattle.cell_model.specs.declared.events.Step.TheVariants.{Open, Read, NextRow, Bump, Claim, PutPoint, AppendPoint, PutMerged, DropCells}
use Rattle.cell_model.specs.declared.events.Entry.{Entry}
use Rattle.cell_model.specs.declared.events.Placed.{Placed}
use Rattle.cell_model.specs.Store.{Store, entries, is_between}
use Rattle.cell_model.specs.Machine.{after, counter_row}
use Rattle.cell_model.specs.History.{History, len}
use Rattle.cell_model.specs.History.History.{Base, Then}
use Rattle.cell_model.specs.Deeds.{placed}

-- the region of a row where ids have these widths and there are so many data regions
abbrev pub region_in : Widths → ℕ → Row → ℕ
region_in w data_regions row = region_number w data_regions row.table row.bytes

-- whether the row is of a region, and whether it is of this one where regions are those of `region_in`
abbrev pub of_region : (Row → ℕ) → ℕ → Row → Bool
of_region region number row = nat_eq (region row) number

abbrev pub is_in : Widths → ℕ → ℕ → Row → Bool
is_in w data_regions = of_region (region_in w data_regions)

-- the cells of these rows
abbrev pub part : (Row → Bool) → Store → Store
part mine s = record { widths = s.widths; cells = from_sorted (filter (λ e. mine e.0.row) (entries s)) }

-- whether the step looks at one of these rows; a scan by its first row
abbrev pub is_mine : (Row → Bool) → Step → Bool
is_mine mine Open = false
is_mine mine (Read row) = mine row
is_mine mine (NextRow table from to) = mine (record { table = table; bytes = from })
is_mine mine (Bump kind) = mine counter_row
is_mine mine (Claim row qual value) = mine row
is_mine mine (PutPoint point row qual value) = mine row
is_mine mine (AppendPoint point row piece) = mine row
is_mine mine (PutMerged row qual value) = mine row
is_mine mine (DropCells row which) = mine row

-- a scan looks at these rows alone
abbrev pub StaysWithin : (Row → Bool) → Step → Type 0
StaysWithin mine (NextRow table from to) = (row : Row) → is_between table from to row ≡ true → mine row ≡ true
StaysWithin mine _ = Unit {0}

-- what the entries of these rows alone make of their part, each at its place in the whole history
abbrev pub part_after : (Row → Bool) → History → Store
part_after mine (Base base) = part mine base
part_after mine (Then h e) = if is_mine mine e.step then after (part_after mine h) (len h + 1) e.step else part_after mine h

-- the entries that a test picks, each at its place
abbrev pub picked : (Entry → Bool) → History → List Placed
picked test (Base base) = []
picked test (Then h e) = picked test h ++ cond (test e) (placed (len h + 1) e ∷ []) []

-- the store after entries, each made at its place
abbrev pub replayed : Store → List Placed → Store
replayed s [] = s
replayed s (p ∷ ps) = replayed (after s p.place p.entry.step) ps
