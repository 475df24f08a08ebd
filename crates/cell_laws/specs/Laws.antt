-- Laws over every lawful history.
use Rattle.std.specs.Prelude.{◌≡◌, ◌≢◌, ℕ, ◌-◌, ◌<◌, ◌≤◌, ◌⊎◌, ◌↔◌, List, [], ◌∷◌, ◌++◌, Contains, Option, Some}
use Rattle.tsd_base.specs.declared.kinds.Kind.{Kind}
use Rattle.tsd_base.specs.declared.kinds.Kind.TheVariants.{Metric, TagKey, TagValue}
use Rattle.tsd_base.specs.Alphabet.{IsName}
use Rattle.row_key.specs.declared.keys.RowKey.{RowKey}
use Rattle.row_key.specs.Key.{IsKey, key_bytes}
use Rattle.cell_model.specs.KindWidths.{IsKindId, kind_bytes}
use Rattle.row_key.specs.declared.tables.Table.TheVariants.{Points}
use Rattle.qual_codec.specs.CellDots.{Reads, column_qual}
use Rattle.qual_codec.specs.Order.{IsBelow}
use Rattle.cell_model.specs.declared.row.Row.{Row}
use Rattle.cell_model.specs.declared.events.Step.{Step}
use Rattle.cell_model.specs.declared.events.Step.TheVariants.{Bump, Claim, PutPoint, AppendPoint, PutMerged, DropCells}
use Rattle.cell_model.specs.declared.events.Reply.{Reply}
use Rattle.cell_model.specs.declared.events.Reply.TheVariants.{BumpReply, ClaimReply}
use Rattle.cell_model.specs.declared.answers.Bumped.TheVariants.{Given}
use Rattle.cell_model.specs.declared.answers.Claimed.TheVariants.{Held}
use Rattle.cell_model.specs.declared.events.Entry.{Entry}
use Rattle.cell_model.specs.declared.events.Placed.{Placed}
use Rattle.cell_model.specs.declared.events.Content.{Content}
use Rattle.cell_model.specs.Store.{Store, content_at, value_at}
use Rattle.cell_model.specs.Counts.{listing_of}
use Rattle.cell_model.specs.Listed.{store_of}
use Rattle.cell_model.specs.Machine.{reply_of, counter_of, kind_qual}
use Rattle.cell_model.specs.History.{History, base_of, len, entry_at, first, store_after, Had}
use Rattle.cell_model.specs.History.History.{Then}
use Rattle.cell_model.specs.IdRows.{id_in, id_of, name_of, id_number, id_row, name_row}
use Rattle.cell_model.specs.Layout.{RowResolved}
use Rattle.cell_model.specs.Sound.{IsSound}
use Rattle.cell_model.specs.Lawful.{IsLawful, IsAllowed, MayStep, HadCell, Wrote, given, claimed}
use Rattle.cell_model.specs.Readings.{Reading, reading_of, Meets, OneValued, CellReads, IsStanding, Accepted, point_row}
use Rattle.cell_model.specs.Seen.{Seen, Saw, Fits, KnowsCell, Knows, HasSeenOpening, Waited, Stepped, IsPossible}
use Rattle.cell_model.specs.Deeds.{Made, InOrder, placed}

-- what a caller knows to be allowed is allowed, whatever others did in between
abbrev pub KnownIsAllowed : Type 0
KnownIsAllowed = (s : Seen) (h : History) (step : Step) → IsLawful h → Fits s h → Knows s step → MayStep h s.caller step

-- and so is its entry, where the caller has seen that it opened
abbrev pub KnownEntryIsAllowed : Type 0
KnownEntryIsAllowed = (s : Seen) (h : History) (step : Step) (reply : Reply) → IsLawful h → Fits s h → Knows s step → HasSeenOpening s
    → IsAllowed h (record { caller = s.caller; step = step; reply = reply })

-- the first entries of a lawful history are one
abbrev pub FirstIsLawful : Type 0
FirstIsLawful = (h : History) (n : ℕ) → IsLawful h → IsLawful (first n h)

-- the entry at this place is allowed by those before it, and its reply is the machine's
pub record IsLawfulEntry (h : History) (place : ℕ) (e : Entry) : Type 0 where
  pub least : 1 ≤ place
  pub most : place ≤ len h
  pub allowed : IsAllowed (first (place - 1) h) e
  pub reply : e.reply ≡ reply_of (store_after (first (place - 1) h)) place e.step

-- each entry of a lawful history is so
abbrev pub EntriesAreLawful : Type 0
EntriesAreLawful = (h : History) (place : ℕ) (e : Entry) → IsLawful h → entry_at h place ≡ Some e → IsLawfulEntry h place e

-- a cell of a point row that a seen entry shows reads, and the ids of its row are those of names
abbrev pub SeenCellReads : Type 0
SeenCellReads = (s : Seen) (h : History) (row : Row) (qual value : List ℕ) → IsLawful h → Fits s h → row.table ≡ Points → KnowsCell s row qual value
    → Reads qual value × RowResolved s.base.widths (id_of h) row.bytes

-- what a seen entry shows of a name's cell is an id, which the name has in each lawful history that fits
abbrev pub SeenIdStands : Type 0
SeenIdStands = (s : Seen) (h : History) (kind : Kind) (name value : List ℕ) → IsLawful h → Fits s h → IsName name → KnowsCell s (name_row name) (kind_qual kind) value
    → (id : ℕ) × IsKindId s.base.widths kind id × (value ≡ kind_bytes s.base.widths kind id) × (id_number value ≡ Some id) × (id_of h kind name ≡ Some id)

-- what a seen entry shows of an id's cell is a name, which the id has in each lawful history that fits
abbrev pub SeenNameStands : Type 0
SeenNameStands = (s : Seen) (h : History) (kind : Kind) (id : ℕ) (name : List ℕ) → IsLawful h → Fits s h → KnowsCell s (id_row s.base.widths kind id) (kind_qual kind) name
    → IsName name × (name_of h kind id ≡ Some name)

-- what a bump gave is an id
abbrev pub GivenIsId : Type 0
GivenIsId = (s : Seen) (h : History) (place caller : ℕ) (kind : Kind) (id : ℕ) → IsLawful h → Fits s h → Saw s place (given caller kind id) → IsKindId s.base.widths kind id

-- a caller that was just given an id doesn't find its cell held
abbrev pub GivenIsFree : Type 0
GivenIsFree = (before bumped claimed : Seen) (kind : Kind) (id : ℕ) (name value : List ℕ) → Stepped before (Bump kind) (BumpReply (Given id)) bumped
    → Stepped bumped (Claim (id_row before.base.widths kind id) (kind_qual kind) name) (ClaimReply (Held value)) claimed → IsPossible claimed → ⊥

-- a resolved name keeps its id
abbrev pub KeepsId : Type 0
KeepsId = (h : History) (n m : ℕ) (kind : Kind) (name : List ℕ) (id : ℕ) → IsLawful h → IsName name → n ≤ m
    → id_of (first n h) kind name ≡ Some id → id_of (first m h) kind name ≡ Some id

-- no two resolved names of a kind have one id
abbrev pub OneName : Type 0
OneName = (h : History) (kind : Kind) (a b : List ℕ) (id : ℕ) → IsLawful h → IsName a → IsName b
    → id_of h kind a ≡ Some id → id_of h kind b ≡ Some id → a ≡ b

-- the name of a resolved name's id is that name
abbrev pub NamesBack : Type 0
NamesBack = (h : History) (kind : Kind) (name : List ℕ) (id : ℕ) → IsLawful h → IsName name
    → id_of h kind name ≡ Some id → name_of h kind id ≡ Some name

-- the store after a lawful history is sound: among others, no id in the tables of ids and names is above the counter of its kind
abbrev pub StaysSound : Type 0
StaysSound = (h : History) → IsLawful h → IsSound (store_after h)

-- the id is that of a name which is the id's, and isn't above its counter
pub record IsTaken (h : History) (kind : Kind) (id : ℕ) : Type 0 where
  pub name : List ℕ
  pub is_name : IsName name
  pub id_is : id_of h kind name ≡ Some id
  pub name_is : name_of h kind id ≡ Some name
  pub counted : id ≤ counter_of (store_after h) kind

-- so is each id of a key
pub record IsTakenKey (h : History) (key : RowKey) : Type 0 where
  pub metric : IsTaken h Metric key.metric
  pub tags : (i : ℕ × ℕ) → Contains key.pairs.items i → IsTaken h TagKey i.0 × IsTaken h TagValue i.1

-- each id in a point row has a name, and isn't above its counter
abbrev pub RowIdsAreTaken : Type 0
RowIdsAreTaken = (h : History) (row qual value : List ℕ) → IsLawful h → value_at (store_after h) (point_row row) qual ≡ Some value
    → (key : RowKey) × IsKey (store_after h).widths key × (row ≡ key_bytes (store_after h).widths key) × IsTakenKey h key

-- the id was up to the counter of the base, and no name had it there
pub record WasWasted (h : History) (kind : Kind) (id : ℕ) : Type 0 where
  pub counted : id ≤ counter_of (base_of h) kind
  pub unnamed : (name : List ℕ) → IsName name → id_in (base_of h) kind name ≢ Some id

-- the id was given by one bump, and nobody wrote it to a name
pub record WasLost (h : History) (kind : Kind) (id : ℕ) : Type 0 where
  pub caller : ℕ
  pub place : ℕ
  pub bumped : entry_at h place ≡ Some (given caller kind id)
  pub once : (other who : ℕ) → entry_at h other ≡ Some (given who kind id) → other ≡ place
  pub unclaimed : (who : ℕ) (name : List ℕ) → Had h (claimed who (name_row name) (kind_qual kind) (kind_bytes (base_of h).widths kind id)) → ⊥

-- an id up to the counter that no name has was wasted in the base, or by one bump
abbrev pub Waste : Type 0
Waste = (h : History) (kind : Kind) (id : ℕ) → IsLawful h → 1 ≤ id → id ≤ counter_of (store_after h) kind → ((name : List ℕ) → IsName name → id_of h kind name ≢ Some id)
    → WasWasted h kind id ⊎ WasLost h kind id

-- the cell of this qualifier stands, or one strictly above it
pub record Kept (s : Store) (row : Row) (qual : List ℕ) : Type 0 where
  pub other : List ℕ
  pub value : List ℕ
  pub stands : value_at s row other ≡ Some value
  pub at_least : (other ≡ qual) ⊎ IsBelow qual other

-- in each point row, each qualifier that the base had or an entry wrote is kept
abbrev pub Keep : Type 0
Keep = (h : History) (row : Row) (qual value : List ℕ) → IsLawful h → row.table ≡ Points → HadCell h row qual value → Kept (store_after h) row qual

-- the column of appends, once there, stands, and what stood in it stands at its front
abbrev pub ColumnGrows : Type 0
ColumnGrows = (h : History) (n m : ℕ) (row : Row) (value : List ℕ) → IsLawful h → row.table ≡ Points → n ≤ m → value_at (store_after (first n h)) row column_qual ≡ Some value
    → (more : List ℕ) × (value_at (store_after (first m h)) row column_qual ≡ Some (value ++ more))

-- a qualifier that no standing one is strictly above
abbrev pub IsGreatest : Store → Row → List ℕ → Type 0
IsGreatest s row qual = (other value : List ℕ) → value_at s row other ≡ Some value → IsBelow qual other → ⊥

-- no drop that is allowed next names it
abbrev pub GreatestStays : Type 0
GreatestStays = (h : History) (caller : ℕ) (row : Row) (which : List (List ℕ × ℕ)) (d : List ℕ × ℕ) → IsLawful h → MayStep h caller (DropCells row which) → Contains which d
    → IsGreatest (store_after h) row d.0 → ⊥

-- each cell of a point row reads
abbrev pub EachReads : Type 0
EachReads = (h : History) (row : Row) (qual value : List ℕ) → IsLawful h → row.table ≡ Points → value_at (store_after h) row qual ≡ Some value → Reads qual value

-- each reading that stands was accepted
abbrev pub StandingWasAccepted : Type 0
StandingWasAccepted = (h : History) (r : Reading) → IsLawful h → IsStanding h r → Accepted h r

-- at the series and time of each accepted reading one stands
abbrev pub AcceptedTimesStand : Type 0
AcceptedTimesStand = (h : History) (r : Reading) → IsLawful h → Accepted h r → (s : Reading) × IsStanding h s × Meets r s

-- where no series was given two values at one time, the readings that stand are the accepted ones
abbrev pub StandingIsAccepted : Type 0
StandingIsAccepted = (h : History) (r : Reading) → IsLawful h → OneValued (Accepted h) → Accepted h r ↔ IsStanding h r

-- the step merges or drops cells
abbrev pub IsCompaction : Step → Type 0
IsCompaction (PutMerged row qual value) = Unit {0}
IsCompaction (DropCells row which) = Unit {0}
IsCompaction _ = ⊥

-- the step puts or appends no point and assigns no id: it opens, reads, merges or drops
abbrev pub IsInvisible : Step → Type 0
IsInvisible (Bump kind) = ⊥
IsInvisible (Claim row qual value) = ⊥
IsInvisible (PutPoint point row qual value) = ⊥
IsInvisible (AppendPoint point row piece) = ⊥
IsInvisible _ = Unit {0}

-- where no series was given two values at one time, merges and drops change no reading that stands
abbrev pub CompactionIsInvisible : Type 0
CompactionIsInvisible = (h : History) (e : Entry) (r : Reading) → IsLawful (Then h e) → IsCompaction e.step → OneValued (Accepted h) → IsStanding h r ↔ IsStanding (Then h e) r

-- where in neither a series was given two values at one time, histories with the same accepted readings have the same readings standing
abbrev pub SameAcceptedSameStanding : Type 0
SameAcceptedSameStanding = (g h : History) → IsLawful g → IsLawful h → OneValued (Accepted g) → OneValued (Accepted h) → ((r : Reading) → Accepted g r ↔ Accepted h r)
    → (r : Reading) → IsStanding g r ↔ IsStanding h r

-- the step writes the cell of this qualifier in the row: it puts it, merges into it, or appends to it where it is the column
abbrev pub WritesAt : Row → List ℕ → Step → Type 0
WritesAt row qual (PutPoint point r q value) = (r ≡ row) × (q ≡ qual)
WritesAt row qual (AppendPoint point r piece) = (r ≡ row) × (column_qual ≡ qual)
WritesAt row qual (PutMerged r q value) = (r ≡ row) × (q ≡ qual)
WritesAt row qual _ = ⊥

-- between the two lengths no entry merges or drops cells, and none writes this cell of the row
abbrev pub IsUntouched : History → ℕ → ℕ → Row → List ℕ → Type 0
IsUntouched h n m row qual = (place : ℕ) (e : Entry) → n < place → place ≤ m → entry_at h place ≡ Some e → (IsCompaction e.step → ⊥) × (WritesAt row qual e.step → ⊥)

-- then the cell, or its absence, is at the later length what it is at the earlier one
abbrev pub UntouchedStays : Type 0
UntouchedStays = (h : History) (n m : ℕ) (row : Row) (qual : List ℕ) → IsLawful h → row.table ≡ Points → n ≤ m → IsUntouched h n m row qual
    → value_at (store_after (first m h)) row qual ≡ value_at (store_after (first n h)) row qual

-- a cell that an entry wrote stands, without merges and drops, until an entry writes its qualifier again
abbrev pub WrittenStands : Type 0
WrittenStands = (h : History) (place m : ℕ) (e : Entry) (row : Row) (qual value : List ℕ) → IsLawful h → row.table ≡ Points → entry_at h place ≡ Some e → Wrote row qual value e.step → place ≤ m → IsUntouched h place m row qual
    → value_at (store_after (first m h)) row qual ≡ Some value

-- a cell of this point row of the store has the reading, with these names
pub record HasInRow (names : Kind → ℕ → Option (List ℕ)) (s : Store) (row : List ℕ) (r : Reading) : Type 0 where
  pub qual : List ℕ
  pub value : List ℕ
  pub stands : value_at s (point_row row) qual ≡ Some value
  pub reads : CellReads s.widths names row qual value r

-- the step puts or appends a point of this reading in the row
abbrev pub IsPutInRow : List ℕ → Step → Reading → Type 0
IsPutInRow row (PutPoint point p qual value) r = (p ≡ point_row row) × (reading_of point ≡ r)
IsPutInRow row (AppendPoint point p piece) r = (p ≡ point_row row) × (reading_of point ≡ r)
IsPutInRow row _ r = ⊥

-- the reading is of a cell that the row has in the base, with these names, or of a point that was put or appended in it
abbrev pub AcceptedInRow : (Kind → ℕ → Option (List ℕ)) → History → List ℕ → Reading → Type 0
AcceptedInRow names h row r = HasInRow names (base_of h) row r ⊎ ((e : Entry) × Had h e × IsPutInRow row e.step r)

-- each reading that stands in a row was accepted in that row
abbrev pub StandingWasAcceptedInRow : Type 0
StandingWasAcceptedInRow = (h : History) (row : List ℕ) (r : Reading) → IsLawful h → HasInRow (name_of h) (store_after h) row r → AcceptedInRow (name_of h) h row r

-- a wait makes no entry
abbrev pub WaitIsMade : Type 0
WaitIsMade = (old new : Seen) → Waited old new → (IsPossible old → IsPossible new) → Made old [] new

-- a step makes one, at the new length
abbrev pub StepIsMade : Type 0
StepIsMade = (old new : Seen) (step : Step) (reply : Reply) → Stepped old step reply new → IsPossible new
    → Made old (placed new.length (record { caller = old.caller; step = step; reply = reply }) ∷ []) new

-- what is made composes
abbrev pub MadeJoins : Type 0
MadeJoins = (a b c : Seen) (xs ys : List Placed) → Made a xs b → Made b ys c → Made a (xs ++ ys) c

-- what was made stands, in order, in each history that fits
abbrev pub MadeStands : Type 0
MadeStands = (old new : Seen) (own : List Placed) (h : History) → Made old own new → Fits new h → InOrder h new.length own

-- a store in which no cell has a version yet is the one that its lines tell
abbrev pub LinesTellStore : Type 0
LinesTellStore = (s : Store) → ((row : Row) (qual : List ℕ) (c : Content) → content_at s row qual ≡ Some c → c.version ≡ 0) → store_of (listing_of s) ≡ s

-- the first entries of a history that fits, up to the seen length, fit
abbrev pub FirstFits : Type 0
FirstFits = (s : Seen) (h : History) → Fits s h → Fits s (first s.length h)
