-- Regions whose licences a pass takes, and what is known at a site's end.
use Rattle.std.specs.Prelude.{◌≡◌, ℕ, ◌+◌, min, List, [], ◌∷◌, ◌++◌, length, Contains, Some}
use Rattle.cell_model.specs.declared.events.Entry.{Entry}
use Rattle.cell_model.specs.History.{History, base_of, entry_at, store_after}
use Rattle.cell_model.specs.Lawful.{IsLawful}
use Rattle.cell_model.specs.Seen.{Seen, Saw, IsOwn, Fits}
use Rattle.cell_region.specs.declared.region.Region.{Region}
use Rattle.cell_region.specs.DividedStore.{DividedStore}
use Rattle.cell_region.specs.RegionLists.{cells_in, rows_of}
use Rattle.step_count.specs.declared.view.Named.{Named}
use Rattle.step_count.specs.declared.view.View.{View}
use Rattle.step_count.specs.CounterRule.{opening, region_count, store_in}
use Rattle.step_count.specs.ViewSteps.{met}
use Rattle.region_locks.specs.CallerViews.{Replays}

-- the view after it met these
abbrev pub took : View → List View → View
took v [] = v
took v (l ∷ ls) = took (met v l) ls

-- regions from a number on, in order, beside their licences
abbrev pub AreReplays : Named → ℕ → List Region → List View → Type 0
AreReplays name number [] [] = Unit {0}
AreReplays name number (region ∷ regions) (licence ∷ licences) = Replays name number (cells_in region) (rows_of region) licence × AreReplays name (number + 1) regions licences
AreReplays name number _ _ = ⊥

-- of the regions with numbers from the first and below the last, the pass took the licences, and the list got those that the site has
pub record Closed (name : Named) (first last : ℕ) (old : View) (before : List Region) (new : View) (now : List Region) : Type 0 where
  pub regions : List Region
  pub licences : List View
  pub added : now ≡ before ++ regions
  pub took_them : new ≡ took old licences
  pub replays : AreReplays name (min first (region_count name)) regions licences
  pub count : min first (region_count name) + length regions ≡ min last (region_count name)

-- One lawful history over the named store fits what was seen, and the store of all regions is the store after it. The caller, and each that it absorbed, opened in it
-- and made no entry behind those that it had seen. These are all that opened, and each entry is of one of them.
pub record EndsAt (name : Named) (opened : List ℕ) (s : Seen) (d : DividedStore) : Type 0 where
  pub history : History
  pub lawful : IsLawful history
  pub base_is : base_of history ≡ store_in name
  pub fits : Fits s history
  pub own : (place : ℕ) (e : Entry) → IsOwn s e.caller → entry_at history place ≡ Some e → Saw s place e
  pub mine : (caller : ℕ) → IsOwn s caller → (entry_at history caller ≡ Some (opening caller)) × Contains opened caller
  pub callers : (place : ℕ) (e : Entry) → entry_at history place ≡ Some e → Contains opened e.caller
  pub regions_are : d.data_regions ≡ name.data_regions
  pub store_is : d.content ≡ store_after history
