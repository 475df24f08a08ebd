-- Stores that stand beside one another, each with the rows of one region, and the store that they make together.
use Rattle.std.specs.Prelude.{◌≡◌, ℕ, ◌+◌, ◌<◌, true, List, [], ◌∷◌, length, slice_set, slice_index_or}
use Rattle.std.specs.List.{flat_map}
use Rattle.std.specs.FinMap.{from_entries}
use Rattle.row_key.specs.declared.widths.Widths.{Widths}
use Rattle.cell_model.specs.declared.row.Row.{Row}
use Rattle.cell_model.specs.declared.events.Step.{Step}
use Rattle.cell_model.specs.Store.{Store, entries, no_cells}
use Rattle.cell_model.specs.Machine.{after, reply_of}
use Rattle.cell_laws.specs.StoreParts.{part, of_region, is_mine, StaysWithin}

-- the parts have these widths, and the rows of the regions from n on, in order
abbrev pub AreParts : Widths → (Row → ℕ) → ℕ → List Store → Type 0
AreParts w region n [] = Unit {0}
AreParts w region n (p ∷ ps) = (part (of_region region n) p ≡ p) × (p.widths ≡ w) × AreParts w region (n + 1) ps

-- the store with these widths and the cells of all
abbrev pub joined : Widths → List Store → Store
joined w parts = record { widths = w; cells = from_entries (flat_map entries parts) }

-- the part with a number, without a cell where there is none
abbrev pub part_at : Widths → List Store → ℕ → Store
part_at w parts k = slice_index_or parts k (no_cells w)

-- each part is that of the whole, and a step on one part is the step on the whole
pub record StepsInParts : Type 0 where
  pub parts : (w : Widths) (region : Row → ℕ) (ps : List Store) (k : ℕ) → AreParts w region 0 ps → part (of_region region k) (joined w ps) ≡ part_at w ps k
  pub steps : (w : Widths) (region : Row → ℕ) (ps : List Store) (k place : ℕ) (step : Step) → AreParts w region 0 ps → k < length ps → is_mine (of_region region k) step ≡ true
      → (joined w (slice_set ps k (after (part_at w ps k) place step)) ≡ after (joined w ps) place step) × AreParts w region 0 (slice_set ps k (after (part_at w ps k) place step))
  pub replies : (w : Widths) (region : Row → ℕ) (ps : List Store) (k place : ℕ) (step : Step) → AreParts w region 0 ps → is_mine (of_region region k) step ≡ true → StaysWithin (of_region region k) step
      → reply_of (part_at w ps k) place step ≡ reply_of (joined w ps) place step
