-- Which stores are sound, and with which a history may begin.
use Rattle.std.specs.Prelude.{◌≡◌, ◌≢◌, ℕ, ◌≤◌, List, [], ◌∷◌, Some}
use Rattle.std.specs.Int.{w64, to_be_bytes}
use Rattle.tsd_base.specs.declared.kinds.Kind.{Kind}
use Rattle.tsd_base.specs.Alphabet.{IsName}
use Rattle.row_key.specs.declared.tables.Table.TheVariants.{Points}
use Rattle.qual_codec.specs.CellDots.{Reads}
use Rattle.cell_model.specs.declared.row.Row.{Row}
use Rattle.cell_model.specs.declared.events.Content.{Content}
use Rattle.cell_model.specs.Store.{Store, content_at, value_at}
use Rattle.cell_model.specs.KindWidths.{Widths, IsKindId, greatest, kind_bytes}
use Rattle.cell_model.specs.Machine.{kind_qual, counter_row, counter_of}
use Rattle.cell_model.specs.IdRows.{name_row, reverse_row, id_in, name_in}
use Rattle.cell_model.specs.Layout.{RowResolved}

-- the counter of a kind: a number from 1 to the kind's greatest id, in eight bytes
pub record IsCounter (w : Widths) (qual value : List ℕ) : Type 0 where
  pub kind : Kind
  pub number : ℕ
  pub is_kind : qual ≡ kind_qual kind
  pub least : 1 ≤ number
  pub most : number ≤ greatest w kind
  pub value_is : value ≡ to_be_bytes w64 number

-- no counter cell has a flaw
abbrev pub CountersRead : Store → Type 0
CountersRead s = (qual value : List ℕ) → value_at s counter_row qual ≡ Some value → IsCounter s.widths qual value

-- an id that isn't above the counter of its kind
pub record IsGiven (s : Store) (kind : Kind) (id : ℕ) : Type 0 where
  pub is_id : IsKindId s.widths kind id
  pub counted : id ≤ counter_of s kind

-- the id of a name, which has the name
pub record IsForward (s : Store) (name qual value : List ℕ) : Type 0 where
  pub kind : Kind
  pub id : ℕ
  pub is_kind : qual ≡ kind_qual kind
  pub is_name : IsName name
  pub given : IsGiven s kind id
  pub value_is : value ≡ kind_bytes s.widths kind id
  pub name_is : name_in s kind id ≡ Some name

-- the name of an id
pub record IsReverse (s : Store) (bytes qual name : List ℕ) : Type 0 where
  pub kind : Kind
  pub id : ℕ
  pub is_kind : qual ≡ kind_qual kind
  pub is_name : IsName name
  pub given : IsGiven s kind id
  pub bytes_are : bytes ≡ kind_bytes s.widths kind id

-- a store without a flaw: counters read, each name has an id and each id a name, each point row has a key whose ids are those of names, and each point cell reads
pub record IsSound (s : Store) : Type 0 where
  pub counters : CountersRead s
  pub forward : (name qual value : List ℕ) → name ≢ 0 ∷ [] → value_at s (name_row name) qual ≡ Some value → IsForward s name qual value
  pub reverse : (bytes qual name : List ℕ) → value_at s (reverse_row bytes) qual ≡ Some name → IsReverse s bytes qual name
  pub rows : (row : Row) (qual value : List ℕ) → row.table ≡ Points → value_at s row qual ≡ Some value → RowResolved s.widths (id_in s) row.bytes
  pub cells : (row : Row) (qual value : List ℕ) → row.table ≡ Points → value_at s row qual ≡ Some value → Reads qual value

-- what a history may begin with: a sound store in which no cell has a version yet
pub record IsBase (s : Store) : Type 0 where
  pub sound : IsSound s
  pub versions : (row : Row) (qual : List ℕ) (c : Content) → content_at s row qual ≡ Some c → c.version ≡ 0
