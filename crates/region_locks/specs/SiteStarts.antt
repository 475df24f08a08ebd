-- Regions and their licences before and behind the locks.
use Rattle.std.specs.Prelude.{◌≡◌, ℕ, ◌+◌, ◌<◌, ◌≤◌, Bool, List, [], ◌∷◌, length, Some, None}
use Rattle.std.specs.declared.option.Option.{Option}
use Rattle.std.specs.declared.vec.IntoIter.{IntoIter}
use Rattle.std.specs.Vec.Iter.{into_iter_items, into_iter_len}
use Rattle.atomic_table.specs.Seated.{TableId}
use Rattle.cell_model.specs.declared.row.Row.{Row}
use Rattle.cell_model.specs.Store.{Store}
use Rattle.cell_laws.specs.StoreParts.{is_in, part}
use Rattle.cell_region.specs.declared.region.Region.{Region}
use Rattle.cell_region.specs.RegionLists.{cells_in, rows_of}
use Rattle.step_count.specs.declared.view.Named.{Named}
use Rattle.step_count.specs.declared.steps.Licence.{Licence}
use Rattle.step_count.specs.CounterRule.{region_count, store_in}
use Rattle.step_count.specs.FirstViews.{holding}
use Rattle.step_count.specs.Tokens.{counter_of_licence, view_of_licence}
use Rattle.region_locks.specs.CallerViews.{Replays}

-- which counter a site is to have, and over which store
pub record Unnamed : Type 0 where
  pub counter : TableId
  pub name : Named

-- the region has its part of the base, and its licence has no entry
pub record IsUnopened (counter : TableId) (name : Named) (number : ℕ) (region : Region) (licence : Licence) : Type 0 where
  pub among : number < region_count name
  pub cells : cells_in region ≡ part (is_in name.widths name.data_regions number) (store_in name)
  pub rows : rows_of region ≡ is_in name.widths name.data_regions number
  pub counter_is : counter_of_licence licence ≡ counter
  pub view : view_of_licence licence ≡ holding (Some name) number 1

-- these are the regions from a number on to the last, with their licences
abbrev pub AreUnopened : TableId → Named → ℕ → List Region → List Licence → Type 0
AreUnopened counter name number [] [] = region_count name ≤ number
AreUnopened counter name number (region ∷ regions) (licence ∷ licences) = IsUnopened counter name number region licence × AreUnopened counter name (number + 1) regions licences
AreUnopened counter name number _ _ = ⊥

-- the regions from a number on, with their licences, are still to come
pub record AreToCome {Y Z : Type 0} (counter : TableId) (name : Named) (number : ℕ) (regions : IntoIter Region Y) (licences : IntoIter Licence Z) : Type 0 where
  pub unopened : AreUnopened counter name number (into_iter_items regions) (into_iter_items licences)
  pub regions_len : into_iter_len regions ≡ length (into_iter_items regions)
  pub licences_len : into_iter_len licences ≡ length (into_iter_items licences)

-- what lies under the lock of a region between steps: its cells are the replay of its licence, or the site doesn't have it
abbrev pub IsHeld : TableId → Named → ℕ → Store → (Row → Bool) → Option Licence → Type 0
IsHeld counter name number cells rows None = region_count name ≤ number
IsHeld counter name number cells rows (Some licence) = (number < region_count name) × (counter_of_licence licence ≡ counter) × Replays name number cells rows (view_of_licence licence)

-- five numbers that follow one another
abbrev pub FollowOn : ℕ → ℕ → ℕ → ℕ → ℕ → Type 0
FollowOn a b c d e = (b ≡ a + 1) × (c ≡ a + 2) × (d ≡ a + 3) × (e ≡ a + 4)
