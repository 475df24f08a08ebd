-- An image is read cell by cell.
use Rattle.std.proofs.Common.{◌≡◌, ℕ, suc, true, false, cond, List, [], length, ap, ◌∙◌}
use Rattle.std.specs.Prelude.{Result, Ok, Err, nat_eq}
use Rattle.cell_model.specs.declared.row.ListLine.{ListLine}
use Rattle.cell_image.specs.ImageReads.{◌>>=◌, Fails, Spot, cells_read, head_read, image_by, image_read, next_cell}
use Rattle.cell_image.specs.declared.image_fault.ImageFault.{ImageFault}
use Rattle.cell_image.specs.declared.image_fault.ImageFault.TheVariants.{CutShort, BadMark, BadWidths, BadTable, EmptyPart, NotRising, Trailing, OutOfMemory}

abbrev pub with_cells : List ℕ → List ListLine → Result (List ℕ × List ListLine) ImageFault
with_cells widths cells = Ok (widths, cells)

-- so many cells are left behind these
abbrev pub left_to_read : List ℕ → ℕ → List ListLine → Spot → Result (List ℕ × List ListLine) ImageFault
left_to_read widths n cells s = cells_read n cells s >>= with_cells widths

pub begins : (bytes widths : List ℕ) (n : ℕ) (s : Spot) → head_read (record { at = 0; bytes = bytes }) ≡ Ok ((widths, n), s) → image_read bytes ≡ left_to_read widths n [] s
begins bytes widths n s e = ap (λ r. r >>= image_by) e

pub goes_on : (r : Result (List ℕ × List ListLine) ImageFault) (widths : List ℕ) (n m : ℕ) (cells cells' : List ListLine) (s s' : Spot) → n ≡ suc m → r ≡ left_to_read widths n cells s → next_cell cells s ≡ Ok (cells', s')
    → r ≡ left_to_read widths m cells' s'
goes_on r widths n m cells cells' s s' more e next = e ∙ ap (λ k. left_to_read widths k cells s) more ∙ ap (λ q. (q >>= λ p. cells_read m p.0 p.1) >>= with_cells widths) next

-- a fault, or want of memory, is told of the whole
pub as_whole : {A B : Type 0} (fault : ImageFault) (r : Result A ImageFault) (whole : Result B ImageFault) → ((f : ImageFault) → r ≡ Err f → whole ≡ Err f) → Fails fault r → Fails fault whole
as_whole (CutShort at) r whole f e = f (CutShort at) e
as_whole BadMark r whole f e = f BadMark e
as_whole BadWidths r whole f e = f BadWidths e
as_whole (BadTable at) r whole f e = f (BadTable at) e
as_whole (EmptyPart at) r whole f e = f (EmptyPart at) e
as_whole (NotRising at) r whole f e = f (NotRising at) e
as_whole (Trailing at) r whole f e = f (Trailing at) e
as_whole OutOfMemory r whole f e = tt

-- a fault of reading is one that may be told
pub is_fault : {A : Type 0} (fault : ImageFault) (r : Result A ImageFault) → r ≡ Err fault → Fails fault r
is_fault (CutShort at) r e = e
is_fault BadMark r e = e
is_fault BadWidths r e = e
is_fault (BadTable at) r e = e
is_fault (EmptyPart at) r e = e
is_fault (NotRising at) r e = e
is_fault (Trailing at) r e = e
is_fault OutOfMemory r e = tt

pub stops : (r : Result (List ℕ × List ListLine) ImageFault) (widths : List ℕ) (n m : ℕ) (cells : List ListLine) (s : Spot) (fault : ImageFault) → n ≡ suc m → r ≡ left_to_read widths n cells s → Fails fault (next_cell cells s) → Fails fault r
stops r widths n m cells s fault more e fails =
    as_whole fault (next_cell cells s) r (λ f h. e ∙ ap (λ k. left_to_read widths k cells s) more ∙ ap (λ q. (q >>= λ p. cells_read m p.0 p.1) >>= with_cells widths) h) fails

pub ends : (r : Result (List ℕ × List ListLine) ImageFault) (widths : List ℕ) (n : ℕ) (cells : List ListLine) (s : Spot) → n ≡ 0 → r ≡ left_to_read widths n cells s → nat_eq (length s.bytes) 0 ≡ true → r ≡ Ok (widths, cells)
ends r widths n cells s none e t = e ∙ ap (λ k. left_to_read widths k cells s) none ∙ ap (λ b. cond b (Ok cells) (Err (Trailing s.at)) >>= with_cells widths) t

pub trails : (r : Result (List ℕ × List ListLine) ImageFault) (widths : List ℕ) (n : ℕ) (cells : List ListLine) (s : Spot) → n ≡ 0 → r ≡ left_to_read widths n cells s → nat_eq (length s.bytes) 0 ≡ false → r ≡ Err (Trailing s.at)
trails r widths n cells s none e t = e ∙ ap (λ k. left_to_read widths k cells s) none ∙ ap (λ b. cond b (Ok cells) (Err (Trailing s.at)) >>= with_cells widths) t
