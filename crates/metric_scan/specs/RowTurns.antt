-- One turn of going through the rows of a metric.
use Rattle.std.specs.Prelude.{◌≡◌, false, List, [], ◌∷◌, ◌++◌, IsTrue, All, Contains, Some, Result, Ok, Err}
use Rattle.std.specs.declared.cmp.Ordering.TheVariants.{Less}
use Rattle.row_key.specs.declared.keys.RowKey.{RowKey}
use Rattle.qual_codec.specs.CellDots.{Reads}
use Rattle.cell_model.specs.declared.row.Found.{Found}
use Rattle.cell_model.specs.declared.events.Placed.{Placed}
use Rattle.cell_model.specs.declared.events.Reply.TheVariants.{Next}
use Rattle.cell_model.specs.declared.answers.RowsFault.{RowsFault}
use Rattle.list_lemmas.specs.BytesOrder.{bytes_cmp}
use Rattle.cell_model.specs.Seen.{Seen}
use Rattle.cell_model.specs.Deeds.{Extends}
use Rattle.row_scan.specs.Scans.{Left}
use Rattle.metric_scan.specs.RowNames.{Names, AreReads}
use Rattle.metric_scan.specs.Walks.{Picks, KeyOf, ShowsBelow, RowRange, Walked, WalkedAll, WalkCut, HasWalked, picks_of, names_of}
use Rattle.metric_scan.specs.declared.metric_rows.MetricRows.{MetricRows}
use Rattle.metric_scan.specs.declared.row_turn.RowTurn.{RowTurn}
use Rattle.metric_scan.specs.declared.row_turn.RowTurn.TheVariants.{End, Passed, Picked}

-- one more entry found no row
pub record TurnedToEnd (r : RowRange) (own : List Placed) (founds : List Found) (picks : Picks) (names : Names) (now : Seen) : Type 0 where
  pub at : Placed
  pub all : WalkedAll r (own ++ at ∷ []) founds picks names now

-- one more entry found a row that isn't picked
pub record TurnedPast (r : RowRange) (own : List Placed) (founds : List Found) (picks : Picks) (left : Left) (names : Names) (now : Seen) : Type 0 where
  pub at : Placed
  pub found : Found
  pub key : RowKey
  pub of : KeyOf r.begun.base.widths r.id r.start r.end found key
  pub fails : picks key.pairs.items ≡ false
  pub walked : Walked r (own ++ at ∷ []) (founds ++ found ∷ []) picks left names now

-- One more entry found the row, which has this key and is picked. It is above those before it. The entries before it show each such row below it
-- that was there. The reads behind it are of names of its ids.
pub record TurnedTo (r : RowRange) (own : List Placed) (founds : List Found) (picks : Picks) (left : Left) (names : Names) (key : RowKey) (found : Found) (now : Seen) : Type 0 where
  pub at : Placed
  pub reads : List Placed
  pub of : KeyOf r.begun.base.widths r.id r.start r.end found key
  pub cells_read : All (λ c. Reads c.qual c.value) found.cells
  pub picked : IsTrue (picks key.pairs.items)
  pub reply : at.entry.reply ≡ Next (Some found)
  pub are_reads : AreReads reads
  pub above : (f : Found) → Contains founds f → bytes_cmp f.row.bytes found.row.bytes ≡ Less
  pub passed : ShowsBelow picks r.begun.base.widths r.id r.start r.end (own ++ at ∷ reads) own found.row
  pub walked : Walked r (own ++ at ∷ reads) (founds ++ found ∷ []) picks left names now

-- it was broken off, after these and perhaps more entries
abbrev pub TurnCut : RowRange → Seen → Type 0
TurnCut r now = (own : List Placed) × (founds : List Found) × WalkCut r own founds now

abbrev pub TurnIs : RowRange → List Placed → List Found → Result RowTurn RowsFault → Picks → Left → Names → Seen → Type 0
TurnIs r own founds (Ok End) picks left names now = TurnedToEnd r own founds picks names now
TurnIs r own founds (Ok Passed) picks left names now = TurnedPast r own founds picks left names now
TurnIs r own founds (Ok (Picked key found)) picks left names now = TurnedTo r own founds picks left names key found now
TurnIs r own founds (Err fault) picks left names now = TurnCut r now

-- nothing seen is lost, the filters are those of before, and so the turn goes on from wherever it was
pub record TurnSays (before : MetricRows) (old : Seen) (result : Result RowTurn RowsFault) (after : MetricRows) (new : Seen) : Type 0 where
  pub extends : Extends old new
  pub filters_are : after.filters.items ≡ before.filters.items
  pub is : (r : RowRange) (own : List Placed) (founds : List Found) → HasWalked r own founds before old → TurnIs r own founds result (picks_of before) after.scan (names_of after) new
