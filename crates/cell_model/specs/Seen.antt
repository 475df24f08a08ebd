-- What a caller has seen of the history, and which histories fit it.
use Rattle.std.specs.Prelude.{◌≡◌, ◌≢◌, ℕ, ◌+◌, ◌<◌, ◌≤◌, ◌⊎◌, List, Contains, Some, Bool, true, Result, Ok, Err}
use Rattle.cell_model.specs.declared.events.Placed.{Placed}
use Rattle.cell_model.specs.declared.events.Step.{Step}
use Rattle.cell_model.specs.declared.events.Step.TheVariants.{Open, Read, NextRow, Bump, Claim, PutPoint, AppendPoint, PutMerged, DropCells}
use Rattle.row_key.specs.declared.tables.Table.{Table}
use Rattle.cell_model.specs.declared.answers.RowsFault.{RowsFault}
use Rattle.cell_model.specs.Stops.{RoseIf, StandsIfNot, is_stop}
use Rattle.cell_model.specs.declared.row.Row.{Row}
use Rattle.qual_codec.specs.declared.cells.Cell.{Cell}
use Rattle.cell_model.specs.declared.row.Found.{Found}
use Rattle.tsd_base.specs.Points.{DataPoint}
use Rattle.cell_model.specs.declared.answers.Claimed.TheVariants.{Done, Held}
use Rattle.cell_model.specs.Store.{Store, value_among}
use Rattle.cell_model.specs.declared.events.Reply.{Reply}
use Rattle.cell_model.specs.KindWidths.{greatest, kind_bytes}
use Rattle.cell_model.specs.Machine.{kind_qual}
use Rattle.cell_model.specs.declared.events.Reply.TheVariants.{Opened, Shown, Next, ClaimReply, Written}
use Rattle.cell_model.specs.IdRows.{name_row}
use Rattle.cell_model.specs.declared.events.Entry.{Entry}
use Rattle.cell_model.specs.History.{History, base_of, len, entry_at}
use Rattle.cell_model.specs.Lawful.{ClaimBasis, PointBasis, AppendBasis, MergedBasis, DropBasis, IsLawful}

-- What a caller has seen: the base, its number, the callers that it absorbed, a length, entries at their places, and whether it steps alone.
pub record Seen : Type 0 where
  pub base : Store
  pub caller : ℕ
  pub absorbed : List ℕ
  pub length : ℕ
  pub entries : List Placed
  pub alone : Bool

-- the caller has seen this entry at this place; nothing is seen past the seen length
abbrev pub Saw : Seen → ℕ → Entry → Type 0
Saw s place e = (place ≤ s.length) × Contains s.entries (record { place = place; entry = e })

-- the caller is this one, or one that it absorbed
abbrev pub IsOwn : Seen → ℕ → Type 0
IsOwn s caller = (caller ≡ s.caller) ⊎ Contains s.absorbed caller

-- the history may be the store's, by all that the caller has seen: it has the base, is at least as long, has each seen entry at its place, and up to the seen length no other entry of this caller
pub record Fits (s : Seen) (h : History) : Type 0 where
  pub base : base_of h ≡ s.base
  pub long : s.length ≤ len h
  pub seen : (place : ℕ) (e : Entry) → Saw s place e → entry_at h place ≡ Some e
  pub no_other : (place : ℕ) (e : Entry) → place ≤ s.length → IsOwn s e.caller → entry_at h place ≡ Some e → Saw s place e

-- nothing seen is lost, and no entry of this caller is new
pub record Waited (old new : Seen) : Type 0 where
  pub base : new.base ≡ old.base
  pub caller : new.caller ≡ old.caller
  pub absorbed : new.absorbed ≡ old.absorbed
  pub length : old.length ≤ new.length
  pub kept : (place : ℕ) (e : Entry) → Saw old place e → Saw new place e
  pub no_own : (place : ℕ) (e : Entry) → Saw new place e → IsOwn old e.caller → Saw old place e
  pub alone : new.alone ≡ old.alone
  pub still : old.alone ≡ true → new.length ≡ old.length

-- nothing seen is lost; the one new entry of this caller is this step, at the new length
pub record Stepped (old : Seen) (step : Step) (reply : Reply) (new : Seen) : Type 0 where
  pub base : new.base ≡ old.base
  pub caller : new.caller ≡ old.caller
  pub absorbed : new.absorbed ≡ old.absorbed
  pub length : old.length < new.length
  pub kept : (place : ℕ) (e : Entry) → Saw old place e → Saw new place e
  pub stepped : Saw new new.length (record { caller = old.caller; step = step; reply = reply })
  pub no_own : (place : ℕ) (e : Entry) → Saw new place e → IsOwn old e.caller → place ≢ new.length → Saw old place e
  pub alone : new.alone ≡ old.alone
  pub next : old.alone ≡ true → new.length ≡ old.length + 1

-- a lawful history fits, as the store's own does; of a caller that is alone it is as long as what was seen
pub record IsPossible (s : Seen) : Type 0 where
  pub history : History
  pub lawful : IsLawful history
  pub fits : Fits s history
  pub whole : s.alone ≡ true → len history ≡ s.length

-- a step and its reply show that a cell of the row has this value: by a read, by a next row, by a claim or by a put; what an append leaves depends on what was there
pub data Shows : Row → List ℕ → List ℕ → Step → Reply → Type 0 where
  by_read : {row : Row} {qual value : List ℕ} {cells : List Cell} → value_among cells qual ≡ Some value → Shows row qual value (Read row) (Shown cells)
  by_next : {table : Table} {from to qual value : List ℕ} {found : Found} → value_among found.cells qual ≡ Some value → Shows found.row qual value (NextRow table from to) (Next (Some found))
  by_claim : {row : Row} {qual value : List ℕ} → Shows row qual value (Claim row qual value) (ClaimReply Done)
  by_held : {row : Row} {qual other value : List ℕ} → Shows row qual value (Claim row qual other) (ClaimReply (Held value))
  by_point : {point : DataPoint} {row : Row} {qual value : List ℕ} → Shows row qual value (PutPoint point row qual value) Written
  by_merged : {row : Row} {qual value : List ℕ} → Shows row qual value (PutMerged row qual value) Written

-- the caller has seen an entry that shows the cell
abbrev pub KnowsCell : Seen → Row → List ℕ → List ℕ → Type 0
KnowsCell s row qual value = (place : ℕ) × (e : Entry) × Saw s place e × Shows row qual value e.step e.reply

-- what the caller has seen shows that the step is allowed
abbrev pub Knows : Seen → Step → Type 0
Knows s Open = ⊥
Knows s (Read row) = Unit {0}
Knows s (NextRow table from to) = Unit {0}
Knows s (Bump kind) = Unit {0}
Knows s (Claim row qual value) = ClaimBasis s.base.widths (λ e. (place : ℕ) × Saw s place e) s.caller row.table row.bytes qual value
Knows s (PutPoint point row qual value) = PointBasis s.base.widths (λ kind name id. KnowsCell s (name_row name) (kind_qual kind) (kind_bytes s.base.widths kind id) × (id ≤ greatest s.base.widths kind)) point row qual value
Knows s (AppendPoint point row piece) = AppendBasis s.base.widths (λ kind name id. KnowsCell s (name_row name) (kind_qual kind) (kind_bytes s.base.widths kind id) × (id ≤ greatest s.base.widths kind)) point row piece
Knows s (PutMerged row qual value) = MergedBasis (KnowsCell s row) row qual value
Knows s (DropCells row which) = DropBasis (KnowsCell s row) row which

-- the caller has seen that it opened
abbrev pub HasSeenOpening : Seen → Type 0
HasSeenOpening s = (place : ℕ) × Saw s place (record { caller = s.caller; step = Open; reply = Opened s.caller })

-- so it is in each lawful history that fits what the caller has seen
abbrev pub InEach : Seen → (History → Type 0) → Type 0
InEach s P = (h : History) → IsLawful h → Fits s h → P h

-- a caller is stopped only where its count of stops rose
abbrev pub RoseIfStopped : ℕ → ℕ → RowsFault → Type 0
RoseIfStopped before now fault = RoseIf (is_stop fault) before now

-- the count of stops stands, unless the answer is that the caller was stopped
abbrev pub StandsIfUnstopped : {T : Type 0} → ℕ → ℕ → Result T RowsFault → Type 0
StandsIfUnstopped before now (Ok answer) = now ≡ before
StandsIfUnstopped before now (Err fault) = StandsIfNot (is_stop fault) before now
