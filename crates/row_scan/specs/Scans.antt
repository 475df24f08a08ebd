-- A scan: steps by next row, each from behind the row that the last one found, or further on where no row in between is wanted.
use Rattle.std.specs.Prelude.{◌≡◌, ℕ, ◌≤◌, Bool, false, List, [], ◌∷◌, ◌++◌, IsTrue, Contains, Option, None, Some, Result, Ok, Err}
use Rattle.std.specs.Ordering.{is_lt}
use Rattle.row_key.specs.declared.tables.Table.TheVariants.{Points}
use Rattle.row_key.specs.declared.widths.Widths.{Widths}
use Rattle.row_key.specs.declared.keys.RowKey.{RowKey}
use Rattle.row_key.specs.Key.{IsKey, key_bytes}
use Rattle.cell_model.specs.declared.row.Row.{Row}
use Rattle.cell_model.specs.declared.row.Found.{Found}
use Rattle.cell_model.specs.declared.events.Step.{Step}
use Rattle.cell_model.specs.declared.events.Step.TheVariants.{NextRow}
use Rattle.cell_model.specs.declared.events.Reply.TheVariants.{Next}
use Rattle.cell_model.specs.declared.events.Placed.{Placed}
use Rattle.cell_model.specs.declared.answers.RowsFault.{RowsFault}
use Rattle.cell_model.specs.Store.{Store, value_at, is_between}
use Rattle.list_lemmas.specs.BytesOrder.{bytes_cmp}
use Rattle.cell_model.specs.Readings.{point_row}
pub use Rattle.cell_model.specs.Deeds.{MadeSo}

-- what is left of a scan: the point rows from `from` on and below `to`, whose ids have these widths
pub record Left : Type 0 where
  pub widths : Widths
  pub from : List ℕ
  pub to : List ℕ

-- the row is one of the metric, in an hour that begins at one of the seconds from `first` to `last`
pub record IsRowOf (w : Widths) (metric first last : ℕ) (row : Row) : Type 0 where
  pub key : RowKey
  pub is_key : IsKey w key
  pub row_is : row ≡ point_row (key_bytes w key)
  pub metric_is : key.metric ≡ metric
  pub from_on : first ≤ key.base
  pub up_to : key.base ≤ last

-- of the rows with a key, those of the metric in these hours are left, and no other
pub record IsStart (w : Widths) (metric first last : ℕ) (left : Left) : Type 0 where
  pub widths_are : left.widths ≡ w
  pub all : (row : Row) → IsRowOf w metric first last row → IsTrue (is_between Points left.from left.to row)
  pub only : (key : RowKey) → IsKey w key → IsTrue (is_between Points left.from left.to (point_row (key_bytes w key))) → IsRowOf w metric first last (point_row (key_bytes w key))

-- what is left from these bytes on
abbrev pub left_at : Left → List ℕ → Left
left_at left from = record { widths = left.widths; from = from; to = left.to }

-- what is left behind a row: the least bytes above the row's are the first
abbrev pub behind : Left → Row → Left
behind left row = left_at left (row.bytes ++ 0 ∷ [])

-- what is left after a turn
abbrev pub after_turn : Left → Result (Option Found) RowsFault → Left
after_turn left (Ok (Some found)) = behind left found.row
after_turn left (Ok None) = left
after_turn left (Err fault) = left

-- the entry looks for the next of the rows that are left, and found this one
abbrev pub IsNext : Left → Option Found → Placed → Type 0
IsNext left found p = (p.entry.step ≡ NextRow Points left.from left.to) × (p.entry.reply ≡ Next found)

-- a turn makes one next row, and its answer is what that found; a fault has made nothing
abbrev pub TurnMade : Left → Result (Option Found) RowsFault → List Placed → Type 0
TurnMade left (Ok found) list = (p : Placed) × (list ≡ p ∷ []) × IsNext left found p
TurnMade left (Err fault) list = list ≡ []

-- the step isn't one by which a scan goes on
abbrev pub IsOther : Step → Type 0
IsOther (NextRow table from to) = ⊥
IsOther _ = Unit {0}

abbrev pub AreOther : List Placed → Type 0
AreOther list = (p : Placed) → Contains list p → IsOther p.entry.step

-- the rows with which keys a scan is made for
abbrev pub Wanting : Type 0
Wanting = RowKey → Bool

-- the row has a key that is wanted
pub record IsWanted (w : Widths) (wants : Wanting) (row : Row) : Type 0 where
  pub key : RowKey
  pub is_key : IsKey w key
  pub row_is : row ≡ point_row (key_bytes w key)
  pub wanted : IsTrue (wants key)

-- the scan may go on at these bytes: they are not before those at which the rest begins, and no row in between is wanted
pub record Skips (wants : Wanting) (left : Left) (from : List ℕ) : Type 0 where
  pub forward : is_lt (bytes_cmp from left.from) ≡ false
  pub over : (key : RowKey) → IsKey left.widths key → IsTrue (is_between Points left.from from (point_row (key_bytes left.widths key))) → wants key ≡ false

-- The next rows among the entries make a whole scan of what is left: each looks behind the row that the one before it found, or further on
-- where no row in between is wanted, and the last found none. A scan for all rows passes none over.
pub data Scanned (wants : Wanting) : Left → List Placed → List Found → Type 0 where
  ended : {left : Left} {p : Placed} {own : List Placed} → IsNext left None p → AreOther own → Scanned wants left (p ∷ own) []
  found : {left : Left} {p : Placed} {own : List Placed} {f : Found} {founds : List Found} → IsNext left (Some f) p → Scanned wants (behind left f.row) own founds → Scanned wants left (p ∷ own) (f ∷ founds)
  other : {left : Left} {p : Placed} {own : List Placed} {founds : List Found} → IsOther p.entry.step → Scanned wants left own founds → Scanned wants left (p ∷ own) founds
  skipped : {left : Left} {from : List ℕ} {own : List Placed} {founds : List Found} → Skips wants left from → Scanned wants (left_at left from) own founds → Scanned wants left own founds

-- The entries so far found these rows: with any whole scan of what is now left they make one of what was left at first.
abbrev pub Scanning : Wanting → Left → List Placed → List Found → Left → Type 0
Scanning wants first own founds now = (more : List Placed) (rest : List Found) → Scanned wants now more rest → Scanned wants first (own ++ more) (founds ++ rest)

-- the row is there
abbrev pub HasCell : Store → Row → Type 0
HasCell s row = (qual : List ℕ) × (value : List ℕ) × (value_at s row qual ≡ Some value)
