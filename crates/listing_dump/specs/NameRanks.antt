-- The ranks of ids: an id's rank is the line on which its name stands among the cells, and lines of one kind rise by name.
use Rattle.std.specs.Prelude.{◌≡◌, ◌≢◌, ◌⊎◌, ℕ, ◌<◌, ◌≤◌, Bool, true, false, not, ◌&&◌, List, [], ◌∷◌, length, None, Some}
use Rattle.std.specs.List.{slice_get}
use Rattle.std.specs.BTreeMap.{BTreeMap, get}
use Rattle.std.specs.Ordering.{nat_cmp}
use Rattle.tsd_base.specs.declared.kinds.Kind.{Kind}
use Rattle.row_key.specs.declared.tables.Table.{Table}
use Rattle.row_key.specs.declared.tables.Table.TheVariants.{Ids, Names, Points}
use Rattle.cell_model.specs.declared.row.ListLine.{ListLine}
use Rattle.cell_model.specs.KindWidths.{Widths, greatest, kind_bytes, width_of}
use Rattle.cell_model.specs.Machine.{kind_qual}
use Rattle.cell_model.specs.Store.{same_bytes}

abbrev pub is_ids : Table → Bool
is_ids Ids = true
is_ids Names = false
is_ids Points = false

-- the cell has the id of a name of this kind
abbrev pub is_name_of : Kind → ListLine → Bool
is_name_of kind l = is_ids l.table && (same_bytes l.qual (kind_qual kind) && not (same_bytes l.row (0 ∷ [])))

-- so many bytes has each id of a name of this kind
abbrev pub HaveWidth : Widths → List ListLine → Kind → Type 0
HaveWidth w cells kind = (at : ℕ) (l : ListLine) → slice_get cells at ≡ Some l → is_name_of kind l ≡ true → length l.value ≡ width_of w kind

-- the line of the name of an id
pub record IsRank (w : Widths) (cells : List ListLine) (kind : Kind) (id rank : ℕ) : Type 0 where
  pub line : ListLine
  pub there : slice_get cells rank ≡ Some line
  pub names : is_name_of kind line ≡ true
  pub fits : id ≤ greatest w kind
  pub value_is : line.value ≡ kind_bytes w kind id

-- each id that a name of the first so many cells has is found, with the line of a name that has it
pub record AreRanksTo (w : Widths) (cells : List ListLine) (kind : Kind) (ranks : BTreeMap ℕ ℕ) (end : ℕ) : Type 0 where
  pub found : (id rank : ℕ) → get nat_cmp ranks id ≡ Some rank → IsRank w cells kind id rank
  pub all : (id at : ℕ) (l : ListLine) → slice_get cells at ≡ Some l → at < end → is_name_of kind l ≡ true → id ≤ greatest w kind → l.value ≡ kind_bytes w kind id → get nat_cmp ranks id ≢ None

-- each id that a name has is found, with the line of a name that has it
pub record AreRanks (w : Widths) (cells : List ListLine) (kind : Kind) (ranks : BTreeMap ℕ ℕ) : Type 0 where
  pub found : (id rank : ℕ) → get nat_cmp ranks id ≡ Some rank → IsRank w cells kind id rank
  pub all : (id rank : ℕ) → IsRank w cells kind id rank → get nat_cmp ranks id ≢ None

-- the rank of a cell's id is kept, if it is a name's, and the other ranks stay
pub record AddsRank (w : Widths) (kind : Kind) (l : ListLine) (rank : ℕ) (old new : BTreeMap ℕ ℕ) : Type 0 where
  pub found : (id other : ℕ) → get nat_cmp new id ≡ Some other → ((other ≡ rank) × (is_name_of kind l ≡ true) × (id ≤ greatest w kind) × (l.value ≡ kind_bytes w kind id)) ⊎ (get nat_cmp old id ≡ Some other)
  pub own : (id : ℕ) → is_name_of kind l ≡ true → id ≤ greatest w kind → l.value ≡ kind_bytes w kind id → get nat_cmp new id ≢ None
  pub rest : (id : ℕ) → get nat_cmp old id ≢ None → get nat_cmp new id ≢ None
