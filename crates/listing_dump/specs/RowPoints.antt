-- The points of one row, and of the first rows.
use Rattle.std.specs.Prelude.{◌≡◌, ℕ, ◌+◌, ◌*◌, List, ◌∷◌, ◌++◌, [], AllPairs, Contains, map, Option, unwrap_or, option_map}
use Rattle.std.specs.List.{flat_map, slice_get}
use Rattle.std.specs.Fmt.{signed_decimal}
use Rattle.std.specs.declared.cmp.Ordering.TheVariants.{Less}
use Rattle.tsd_base.specs.TagList.{Pair}
use Rattle.qual_codec.specs.declared.cells.Dot.{Dot}
use Rattle.cell_model.specs.declared.row.ListLine.{ListLine}
use Rattle.cell_model.specs.Store.{Store}
use Rattle.listing_dump.specs.Dumps.{IsPointOfRow, PlacedPoint, placed_cmp, dump_text}
use Rattle.listing_dump.specs.Gifts.{Gives}
use Rattle.tsd_hooks.specs.PointText.{tags_text, time_text}
use Rattle.listing_dump.specs.declared.row_places.RowPlace.{RowPlace}

-- the row of a line, which of a line of ids is a name
abbrev pub row_at : List ListLine → ℕ → List ℕ
row_at cells at = unwrap_or (option_map (λ (l : ListLine). l.row) (slice_get cells at)) []

-- the tags of these ranks
abbrev pub tags_at : List ListLine → List (ℕ × ℕ) → List Pair
tags_at cells ranks = map (λ (r : ℕ × ℕ). (row_at cells r.0, row_at cells r.1)) ranks

-- the line of a dot, of a row with this metric and this hour; the tail has the tags and LF
abbrev pub dot_text : List ℕ → ℕ → List ℕ → Dot → List ℕ
dot_text metric base tail d = metric ++ 32 ∷ (time_text (base * 1000 + d.item.offset) d.item.fine ++ 32 ∷ (signed_decimal d.value ++ tail))

abbrev pub row_text : List ℕ → ℕ → List ℕ → List Dot → List ℕ
row_text metric base tail dots = flat_map (dot_text metric base tail) dots

-- the tags and LF
abbrev pub tail_of : List ListLine → List (ℕ × ℕ) → List ℕ
tail_of cells ranks = tags_text (tags_at cells ranks) ++ 10 ∷ []

-- the points of a row, in order
pub record AreOfRow (s : Store) (row : List ℕ) (points : List PlacedPoint) : Type 0 where
  pub rising : AllPairs (λ p q. placed_cmp p q ≡ Less) points
  pub each : (p : PlacedPoint) → Contains points p → IsPointOfRow s row p
  pub all : (p : PlacedPoint) → IsPointOfRow s row p → Contains points p

-- the text is that of the points of a row
pub record IsTextOfRow (s : Store) (row text : List ℕ) : Type 0 where
  pub points : List PlacedPoint
  pub are : AreOfRow s row points
  pub text_is : text ≡ dump_text points

-- the points of these rows, in order
pub record AreOfRows (s : Store) (cells : List ListLine) (rows : List RowPlace) (points : List PlacedPoint) : Type 0 where
  pub rising : AllPairs (λ p q. placed_cmp p q ≡ Less) points
  pub each : (p : PlacedPoint) → Contains points p → (r : RowPlace) × Contains rows r × IsPointOfRow s (row_at cells r.line) p
  pub all : (r : RowPlace) (p : PlacedPoint) → Contains rows r → IsPointOfRow s (row_at cells r.line) p → Contains points p

-- a front of the text of these rows was given, and the rest waits
pub record GivesRows (s : Store) (cells : List ListLine) (rows : List RowPlace) (held held' : Option (List ℕ)) (waiting : List ℕ) : Type 0 where
  pub points : List PlacedPoint
  pub are : AreOfRows s cells rows points
  pub gives : Gives held held' (dump_text points) waiting
