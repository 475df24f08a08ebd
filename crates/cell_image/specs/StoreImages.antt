-- The image of a store, gathered cell by cell.
use Rattle.std.proofs.Common.{sym, subst, append_assoc, append-nil}
use Rattle.std.specs.Prelude.{◌≡◌, ℕ, ◌+◌, Bool, true, false, List, [], ◌∷◌, ◌++◌, length, Option, None, Some}
use Rattle.cell_model.specs.declared.row.ListLine.{ListLine}
use Rattle.cell_model.specs.Store.{Store}
use Rattle.cell_model.specs.Counts.{lines_of, listing_of}
use Rattle.listing_print.specs.LineTaking.{JoinsLines}
use Rattle.cell_image.specs.Images.{cells_image, first_large, image}
use Rattle.cell_image.specs.declared.image_cells.ImageCells.{ImageCells}
use Rattle.cell_image.specs.declared.image_cells.StoreImage.{StoreImage}
use Rattle.cell_image.specs.declared.image_cells.StoreImage.TheVariants.{TooLarge, Whole}

-- the store's image, where each cell fits; else the number of the first that doesn't
abbrev pub ImagesStore : Store → StoreImage → Type 0
ImagesStore store (TooLarge cell) = first_large (lines_of store) ≡ Some cell
ImagesStore store (Whole head cells) = (first_large (lines_of store) ≡ None) × (image (listing_of store) ≡ head.items ++ cells.items)

-- these cells were gathered: how many they are, the first that is too large, and where there is none their bytes
pub record HoldsCells (lines : List ListLine) (c : ImageCells) : Type 0 where
  pub number : c.number ≡ length lines
  pub large : c.large ≡ first_large lines
  pub cells : c.large ≡ None → c.cells.items ≡ cells_image lines

-- the cells of a store were
abbrev pub HoldsStore : Store → ImageCells → Type 0
HoldsStore store c = HoldsCells (lines_of store) c

-- one more was added to whatever was gathered before
abbrev pub AddsLine : ListLine → ImageCells → ImageCells → Type 0
AddsLine line c c' = (before : List ListLine) → HoldsCells before c → HoldsCells (before ++ line ∷ []) c'

-- the first that is too large: the one that was found, or else one with this number, if it doesn't fit
abbrev pub large_with : Option ℕ → ℕ → Bool → Option ℕ
large_with (Some cell) number fits = Some cell
large_with None number true = None
large_with None number false = Some number

-- these lines were added to whatever was gathered before
abbrev pub TookCells : List ListLine → Option (List ℕ) × ImageCells → Option (List ℕ) × ImageCells → Type 0
TookCells lines a b = (before : List ListLine) → HoldsCells before a.1 → HoldsCells (before ++ lines) b.1

-- of what is gathered where memory runs out nothing is told
abbrev pub EndedCells : List ListLine → Option (List ℕ) × ImageCells → Option (List ℕ) × ImageCells → Type 0
EndedCells lines a b = Unit {0}

pub joins_cells : JoinsLines TookCells EndedCells
joins_cells = record {
  none = λ a before holds. subst (λ (ls : List ListLine). HoldsCells ls a.1) (sym (append-nil before)) holds;
  on = λ xs ys a b c f g before holds. subst (λ (ls : List ListLine). HoldsCells ls c.1) (append_assoc before xs ys) (g (before ++ xs) (f before holds));
  stays = λ xs a. tt;
  ends = λ xs ys a b c f g. tt;
  part = λ xs ys a b f. tt;
}
