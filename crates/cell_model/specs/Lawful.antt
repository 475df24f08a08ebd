-- Which entries are allowed after a history, and the histories that only have such.
use Rattle.std.specs.Prelude.{◌≡◌, ◌⊎◌, ℕ, ◌+◌, List, ◌++◌, Some, Contains}
use Rattle.tsd_base.specs.Points.{DataPoint}
use Rattle.tsd_base.specs.declared.kinds.Kind.{Kind}
use Rattle.row_key.specs.declared.tables.Table.{Table}
use Rattle.row_key.specs.declared.tables.Table.TheVariants.{Ids, Names, Points}
use Rattle.cell_model.specs.declared.row.Row.{Row}
use Rattle.cell_model.specs.declared.events.Step.{Step}
use Rattle.cell_model.specs.declared.events.Step.TheVariants.{Open, Read, NextRow, Bump, Claim, PutPoint, AppendPoint, PutMerged, DropCells}
use Rattle.cell_model.specs.declared.answers.Bumped.TheVariants.{Given}
use Rattle.cell_model.specs.declared.answers.Claimed.TheVariants.{Done}
use Rattle.cell_model.specs.Store.{value_at}
use Rattle.qual_codec.specs.declared.cells.Dot.{Dot}
use Rattle.qual_codec.specs.CellDots.{IsDots}
use Rattle.qual_codec.specs.Order.{IsBelow}
use Rattle.tsd_base.specs.Alphabet.{IsName}
use Rattle.cell_model.specs.Layout.{IsPoint, IsLayout, names_of}
use Rattle.cell_model.specs.Machine.{kind_qual, reply_of}
use Rattle.cell_model.specs.declared.events.Reply.TheVariants.{Opened, BumpReply, ClaimReply}
use Rattle.cell_model.specs.declared.events.Entry.{Entry}
use Rattle.cell_model.specs.History.{History, base_of, len, store_after, Had}
use Rattle.cell_model.specs.History.History.{Base, Then}
use Rattle.cell_model.specs.KindWidths.{Widths, kind_bytes}
use Rattle.cell_model.specs.IdRows.{reverse_row, id_of}
use Rattle.cell_model.specs.Sound.{IsBase}

-- this caller was given the id
abbrev pub given : ℕ → Kind → ℕ → Entry
given caller kind id = record { caller = caller; step = Bump kind; reply = BumpReply (Given id) }

-- this caller wrote the cell by a claim
abbrev pub claimed : ℕ → Row → List ℕ → List ℕ → Entry
claimed caller row qual value = record { caller = caller; step = Claim row qual value; reply = ClaimReply Done }

-- what a claim in Names of an id stands on: a bump of the same caller that gave this id
pub record NamesBasis (w : Widths) (Has : Entry → Type 0) (caller : ℕ) (id qual name : List ℕ) : Type 0 where
  pub kind : Kind
  pub number : ℕ
  pub is_kind : qual ≡ kind_qual kind
  pub is_id : id ≡ kind_bytes w kind number
  pub is_name : IsName name
  pub bumped : Has (given caller kind number)

-- what a claim in Ids of a name stands on: the reverse cell was claimed before, by whomever
pub record IdsBasis (Has : Entry → Type 0) (name qual id : List ℕ) : Type 0 where
  pub who : ℕ
  pub reversed : Has (claimed who (reverse_row id) qual name)

-- what a claim stands on, among the entries that Has has
abbrev pub ClaimBasis : Widths → (Entry → Type 0) → ℕ → Table → List ℕ → List ℕ → List ℕ → Type 0
ClaimBasis w Has caller Names row qual value = NamesBasis w Has caller row qual value
ClaimBasis w Has caller Ids row qual value = IdsBasis Has row qual value
ClaimBasis w Has caller Points row qual value = ⊥

-- what a put of a point stands on: that it is one, an id of each of its names, and the layout with these ids
pub record PointBasis (w : Widths) (Has : Kind → List ℕ → ℕ → Type 0) (point : DataPoint) (row : Row) (qual value : List ℕ) : Type 0 where
  pub is_point : IsPoint point
  pub in_points : row.table ≡ Points
  pub ids : Kind → List ℕ → ℕ
  pub resolved : (kind : Kind) (name : List ℕ) → Contains (names_of point) (kind, name) → Has kind name (ids kind name)
  pub layout : IsLayout w ids point row.bytes qual value

-- what an append of a point stands on: that a put of it may write some qualifier and value, and that these are its piece
pub record AppendBasis (w : Widths) (Has : Kind → List ℕ → ℕ → Type 0) (point : DataPoint) (row : Row) (piece : List ℕ) : Type 0 where
  pub qual : List ℕ
  pub value : List ℕ
  pub piece_is : piece ≡ qual ++ value
  pub put : PointBasis w Has point row qual value

-- what a merged cell stands on: it reads by its items, and each of its data points stood in a cell of the row that has it by items, so neither is the column
pub record MergedBasis (HasCell : List ℕ → List ℕ → Type 0) (row : Row) (qual value : List ℕ) : Type 0 where
  pub in_points : row.table ≡ Points
  pub dots : List Dot
  pub reads : IsDots qual value dots
  pub each : (d : Dot) → Contains dots d → (q : List ℕ) × (v : List ℕ) × (ds : List Dot) × HasCell q v × IsDots q v ds × Contains ds d

-- what a drop stands on: for each qualifier a cell of the row strictly above it, so neither is the column's
pub record DropBasis (HasCell : List ℕ → List ℕ → Type 0) (row : Row) (which : List (List ℕ × ℕ)) : Type 0 where
  pub in_points : row.table ≡ Points
  pub each : (d : List ℕ × ℕ) → Contains which d → (q : List ℕ) × (v : List ℕ) × HasCell q v × IsBelow d.0 q

-- the step puts this cell of a point row; an append puts none, but adds to one
abbrev pub Wrote : Row → List ℕ → List ℕ → Step → Type 0
Wrote row q v (PutPoint point r qual value) = (r ≡ row) × (qual ≡ q) × (value ≡ v)
Wrote row q v (PutMerged r qual value) = (r ≡ row) × (qual ≡ q) × (value ≡ v)
Wrote row q v _ = ⊥

-- a cell of the row was in the base, or an entry put it
abbrev pub HadCell : History → Row → List ℕ → List ℕ → Type 0
HadCell h row q v = (value_at (base_of h) row q ≡ Some v) ⊎ ((e : Entry) × Had h e × Wrote row q v e.step)

-- the step is allowed to this caller after the history
abbrev pub MayStep : History → ℕ → Step → Type 0
MayStep h caller Open = caller ≡ len h + 1
MayStep h caller (Read row) = Unit {0}
MayStep h caller (NextRow table from to) = Unit {0}
MayStep h caller (Bump kind) = Unit {0}
MayStep h caller (Claim row qual value) = ClaimBasis (store_after h).widths (Had h) caller row.table row.bytes qual value
MayStep h caller (PutPoint point row qual value) = PointBasis (store_after h).widths (λ kind name id. id_of h kind name ≡ Some id) point row qual value
MayStep h caller (AppendPoint point row piece) = AppendBasis (store_after h).widths (λ kind name id. id_of h kind name ≡ Some id) point row piece
MayStep h caller (PutMerged row qual value) = MergedBasis (HadCell h row) row qual value
MayStep h caller (DropCells row which) = DropBasis (HadCell h row) row which

-- only an opening needs no earlier opening of its caller
abbrev pub HasOpened : History → ℕ → Step → Type 0
HasOpened h caller Open = Unit {0}
HasOpened h caller _ = Had h (record { caller = caller; step = Open; reply = Opened caller })

-- the entry's caller has opened, and may make its step
pub record IsAllowed (h : History) (e : Entry) : Type 0 where
  pub opened : HasOpened h e.caller e.step
  pub may : MayStep h e.caller e.step

-- it begins with a base, each entry is allowed by those before it, and each reply is that of the machine at its place
abbrev pub IsLawful : History → Type 0
IsLawful (Base base) = IsBase base
IsLawful (Then h e) = IsLawful h × IsAllowed h e × (e.reply ≡ reply_of (store_after h) (len h + 1) e.step)
