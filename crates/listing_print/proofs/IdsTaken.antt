-- The rows of ids that were taken so far.
use Rattle.std.proofs.Common.{ℕ, List, []}
use Rattle.row_key.specs.declared.tables.Table.TheVariants.{Names}
use Rattle.cell_model.specs.declared.row.ListLine.{ListLine}
use Rattle.cell_model.specs.Store.{Store}
use Rattle.listing_print.specs.StoreRows.{TookRows, row_at}
use Rattle.listing_print.specs.declared.ids_left.IdsLeft.{IdsLeft}
use Rattle.listing_print.proofs.LeastIds.{IdsDone}

-- the rows below some bytes were taken, and the ids that are left are those from there on
pub record IdsTaken {S : Type 0} (took : List ListLine → S → S → Type 0) (s : Store) (ids : IdsLeft) (a b : S) : Type 0 where
  pub bound : List ℕ
  pub done : IdsDone s ids bound
  pub taken : TookRows took s (row_at Names []) (row_at Names bound) a b
