-- The dots of a row that stay, in order.
use Rattle.std.specs.Prelude.{◌≡◌, ◌≢◌, ℕ, ℤ, Bool, false, ◌+◌, nat_eq, List, [], ◌∷◌, AllPairs, Contains, map, Option, None, Some}
use Rattle.std.specs.List.{slice_get}
use Rattle.std.specs.Ordering.{int_cmp, nat_cmp, ordering_then}
use Rattle.std.specs.BTreeMap.{BTreeMap, get}
use Rattle.std.specs.declared.cmp.Ordering.{Ordering}
use Rattle.std.specs.declared.cmp.Ordering.TheVariants.{Less}
use Rattle.qual_codec.specs.declared.cells.Dot.{Dot}
use Rattle.qual_codec.specs.Order.{IsAsGood}
use Rattle.listing_dump.specs.declared.best_dots.PlacedDot.{PlacedDot}
use Rattle.listing_dump.specs.Dumps.{Stays}

-- by offset, then by place
abbrev pub dot_cmp : PlacedDot → PlacedDot → Ordering
dot_cmp p q = ordering_then (nat_cmp p.dot.item.offset q.dot.item.offset) (nat_cmp p.place q.place)

-- each dot with its place, in order
pub record ArePlaced (dots : List Dot) (placed : List PlacedDot) : Type 0 where
  pub rising : AllPairs (λ p q. dot_cmp p q ≡ Less) placed
  pub each : (p : PlacedDot) → Contains placed p → slice_get dots p.place ≡ Some p.dot
  pub all : (place : ℕ) (d : Dot) → slice_get dots place ≡ Some d → Contains placed (record { place = place; dot = d })

-- the dots that stay, with their places, in order
pub record AreKept (dots : List Dot) (placed : List PlacedDot) : Type 0 where
  pub rising : AllPairs (λ p q. dot_cmp p q ≡ Less) placed
  pub each : (p : PlacedDot) → Contains placed p → Stays dots p.place p.dot
  pub all : (place : ℕ) (d : Dot) → Stays dots place d → Contains placed (record { place = place; dot = d })

-- the dots that stay, in order
pub record Keeps (dots kept : List Dot) : Type 0 where
  pub placed : List PlacedDot
  pub are : AreKept dots placed
  pub dots_are : kept ≡ map (λ (p : PlacedDot). p.dot) placed

-- ---- the best dot of each offset and value

-- by offset, then by value
abbrev pub value_cmp : ℕ × ℤ → ℕ × ℤ → Ordering
value_cmp a b = ordering_then (nat_cmp a.0 b.0) (int_cmp a.1 b.1)

abbrev pub kept_of : BTreeMap (ℕ × ℤ) PlacedDot → Dot → Option PlacedDot
kept_of best d = get value_cmp best (d.item.offset, d.value)

-- of each dot's offset and value the dot that stays is kept
pub record AreBest (dots : List Dot) (best : BTreeMap (ℕ × ℤ) PlacedDot) : Type 0 where
  pub found : (offset : ℕ) (value : ℤ) (p : PlacedDot) → get value_cmp best (offset, value) ≡ Some p → Stays dots p.place p.dot × (p.dot.item.offset ≡ offset) × (p.dot.value ≡ value)
  pub all : (place : ℕ) (d : Dot) → slice_get dots place ≡ Some d → kept_of best d ≢ None

-- the dot is better than all of these that have its offset and value
abbrev pub Beats : List Dot → Dot → Type 0
Beats dots d = (other : ℕ) (e : Dot) → slice_get dots other ≡ Some e → e.item.offset ≡ d.item.offset → e.value ≡ d.value → IsAsGood e.item d.item × (IsAsGood d.item e.item → ⊥)

-- the dot at this place is the one that is kept
abbrev pub is_kept : Option PlacedDot → ℕ → Bool
is_kept None place = false
is_kept (Some p) place = nat_eq p.place place

abbrev pub is_best : BTreeMap (ℕ × ℤ) PlacedDot → PlacedDot → Bool
is_best best p = is_kept (kept_of best p.dot) p.place

-- the dots with their places, of which the first is this one
abbrev pub numbered : ℕ → List Dot → List PlacedDot
numbered n [] = []
numbered n (d ∷ dots) = record { place = n; dot = d } ∷ numbered (n + 1) dots
