-- The points of a sound store, in the order in which they are dumped.
use Rattle.std.specs.Prelude.{◌≡◌, ◌↔◌, ℕ, ◌≤◌, List, ◌++◌, AllPairs, Contains, Option, Some}
use Rattle.std.specs.List.{flat_map, slice_get}
use Rattle.std.specs.Ordering.{nat_cmp, ordering_then}
use Rattle.std.specs.declared.cmp.Ordering.{Ordering}
use Rattle.std.specs.declared.cmp.Ordering.TheVariants.{Less}
use Rattle.std.specs.Io.KnownBytes.{Appends}
use Rattle.list_lemmas.specs.BytesOrder.{bytes_cmp}
use Rattle.tsd_base.specs.TagList.{tags_cmp}
use Rattle.tsd_base.specs.Points.{DataPoint}
use Rattle.qual_codec.specs.declared.cells.Dot.{Dot}
use Rattle.qual_codec.specs.Merge.{AreDots}
use Rattle.qual_codec.specs.Order.{IsAsGood}
use Rattle.cell_model.specs.Store.{Store, cells_of}
use Rattle.cell_model.specs.IdRows.{name_in}
use Rattle.cell_model.specs.Readings.{DotReads, point_row, reading_of}
use Rattle.tsd_hooks.specs.PointText.{point_text}

-- The dot at this place is the one that stays of its offset and value: none of the others is better, and none before it is as good.
pub record Stays (dots : List Dot) (place : ℕ) (d : Dot) : Type 0 where
  pub there : slice_get dots place ≡ Some d
  pub best : (other : ℕ) (e : Dot) → slice_get dots other ≡ Some e → e.item.offset ≡ d.item.offset → e.value ≡ d.value → IsAsGood e.item d.item × (IsAsGood d.item e.item → place ≤ other)

-- a point, and the place of its dot among the dots of its row
pub record PlacedPoint : Type 0 where
  pub point : DataPoint
  pub place : ℕ

-- the point of a dot that stays, of the cells of this row in their order
pub record IsPointOfRow (s : Store) (row : List ℕ) (p : PlacedPoint) : Type 0 where
  pub dots : List Dot
  pub dots_are : AreDots (cells_of s (point_row row)) dots
  pub dot : Dot
  pub stays : Stays dots p.place dot
  pub reads : DotReads s.widths (name_in s) row dot (reading_of p.point)
  pub form : p.point.fine ≡ dot.item.fine

-- a point of some row
abbrev pub IsPointOf : Store → PlacedPoint → Type 0
IsPointOf s p = (row : List ℕ) × IsPointOfRow s row p

-- by metric, then by tags, then by time, then by the place in the row
abbrev pub placed_cmp : PlacedPoint → PlacedPoint → Ordering
placed_cmp p q =
    ordering_then (bytes_cmp p.point.metric q.point.metric) (ordering_then (tags_cmp p.point.tags q.point.tags) (ordering_then (nat_cmp p.point.time q.point.time) (nat_cmp p.place q.place)))

-- the points of a store, each once, in order
pub record AreDumped (s : Store) (points : List PlacedPoint) : Type 0 where
  pub rising : AllPairs (λ p q. placed_cmp p q ≡ Less) points
  pub each : (p : PlacedPoint) → Contains points p ↔ IsPointOf s p

-- a line for each point
abbrev pub dump_text : List PlacedPoint → List ℕ
dump_text points = flat_map (λ (p : PlacedPoint). point_text p.point) points

-- the points of the store were given as text
pub record GivesDump (s : Store) (held held' : Option (List ℕ)) : Type 0 where
  pub points : List PlacedPoint
  pub are : AreDumped s points
  pub gives : Appends held held' (dump_text points)

-- a front of that text was given
pub record GivesFront (s : Store) (held held' : Option (List ℕ)) : Type 0 where
  pub given : List ℕ
  pub gives : Appends held held' given
  pub front : (points : List PlacedPoint) → AreDumped s points → (rest : List ℕ) × (dump_text points ≡ given ++ rest)
