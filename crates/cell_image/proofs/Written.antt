-- What is written of a listing is read back.
use Rattle.std.proofs.Common.{◌≡◌, ℕ, suc, ◌+◌, ◌^◌, ◌<◌, ◌≤◌, true, false, ◌&&◌, cond, List, [], ◌∷◌, ◌++◌, take, length, refl, sym, ap, subst, ◌∙◌, append_assoc, append-nil, arith, length-append, le-ltb, le-leb}
use Rattle.std.specs.Prelude.{All, Contains, Ok, Err, nat_eq}
use Rattle.std.specs.Int.{Width, w8, w16, w32, w64, byte_len, from_be_bytes, to_be_bytes}
use Rattle.std.specs.List.{list_all}
use Rattle.std.specs.Ordering.{is_lt}
use Rattle.std.proofs.Math.Seq.{drop-append_seam, take-append_seam}
use Rattle.std.proofs.lemmas.Bool.{and_from, false_from_ne_true}
use Rattle.list_lemmas.proofs.BoolTests.{nat_eq_is}
use Rattle.list_lemmas.proofs.ListMembers.{here, there, pairs_in, pairs_tail}
use Rattle.row_key.specs.declared.widths.Widths.{Widths}
use Rattle.row_key.specs.declared.tables.Table.{Table}
use Rattle.row_key.specs.declared.tables.Table.TheVariants.{Ids, Names, Points}
use Rattle.cell_model.specs.declared.row.ListLine.{ListLine}
use Rattle.cell_model.specs.declared.row.Listing.{Listing}
use Rattle.cell_model.specs.PlaceOrder.{place_cmp, table_number}
use Rattle.cell_model.specs.Rising.{LinesRise, is_above, place_of_line}
use Rattle.cell_image.specs.Images.{IsImage, IsImageCell, IsPart, cell_image, cells_image, head_image, image, mark, part_image, width_bytes}
use Rattle.cell_image.specs.ImageReads.{◌>>=◌, Spot, cell_read, cells_read, cells_with, field_read, head_read, image_by, image_read, is_width, mark_by, mark_read, moved, next_cell, number_read, part_by, part_read, table_by, table_read, widths_by, widths_read}
use Rattle.cell_image.specs.declared.image_fault.ImageFault.TheVariants.{BadWidths, CutShort, EmptyPart, NotRising}
use Rattle.cell_image.proofs.Numbers.{IsNumber, eight, four, length-to_be_bytes, two}
use Rattle.cell_image.proofs.Rising.{IsBelow}
use Rattle.cell_image.proofs.Steps.{on, with_mark, with_number, with_qual, with_row, with_table, with_value, with_widths}

abbrev spot : ℕ → List ℕ → Spot
spot at bytes = record { at = at; bytes = bytes }

-- ---- fields
field_comes : (at : ℕ) (xs rest : List ℕ) → field_read (length xs) (spot at (xs ++ rest)) ≡ Ok (xs, spot (at + length xs) rest)
field_comes at xs rest =
    let l = length-append xs rest in
    ap (λ b. cond b (Err (CutShort at)) (Ok (take (length xs) (xs ++ rest), moved (length xs) (spot at (xs ++ rest))))) (le-ltb (length (xs ++ rest)) (length xs) (omega (arith, l)))
    ∙ (λ i. Ok (take-append_seam xs rest i, spot (at + length xs) (drop-append_seam xs rest i)))

number_comes : (w : Width) (k : IsNumber w) (at n : ℕ) (rest : List ℕ) → n < 256 ^ byte_len w → number_read w (spot at (to_be_bytes w n ++ rest)) ≡ Ok (n, spot (at + byte_len w) rest)
number_comes w k at n rest fits =
    on (field_read (byte_len w) (spot at (to_be_bytes w n ++ rest))) (λ f. Ok (from_be_bytes w f.0, f.1)) (to_be_bytes w n, spot (at + byte_len w) rest) (Ok (n, spot (at + byte_len w) rest))
    (subst (λ (len : ℕ). field_read len (spot at (to_be_bytes w n ++ rest)) ≡ Ok (to_be_bytes w n, spot (at + len) rest)) (length-to_be_bytes w n) (field_comes at (to_be_bytes w n) rest))
    (ap (λ m. Ok (m, spot (at + byte_len w) rest)) (k.back n fits))

part_comes : (w : Width) (k : IsNumber w) (at : ℕ) (part rest : List ℕ) → IsPart w part → part_read w (spot at (part_image w part ++ rest)) ≡ Ok (part, spot (at + byte_len w + length part) rest)
part_comes w k at part rest is =
    ap (λ bytes. part_read w (spot at bytes)) (append_assoc (to_be_bytes w (length part)) part rest)
    ∙ on (number_read w (spot at (to_be_bytes w (length part) ++ (part ++ rest)))) (part_by at) (length part, spot (at + byte_len w) (part ++ rest)) (Ok (part, spot (at + byte_len w + length part) rest))
    (number_comes w k at (length part) (part ++ rest) is.fits)
    (ap (λ b. cond b (Err (EmptyPart at)) (field_read (length part) (spot (at + byte_len w) (part ++ rest)))) some ∙ field_comes (at + byte_len w) part rest)
  where
    some : nat_eq (length part) 0 ≡ false
    some = false_from_ne_true (nat_eq (length part) 0) (λ e. let n = nat_eq_is (length part) 0 e in let s = is.some in absurd (omega (arith, n, s)))

-- ---- a cell
table_comes : (at : ℕ) (t : Table) (rest : List ℕ) → table_read (spot at (table_number t ∷ rest)) ≡ Ok (t, spot (at + 1) rest)
table_comes at t rest = on (number_read w8 (spot at (table_number t ∷ rest))) (table_by at) (table_number t, spot (at + 1) rest) (Ok (t, spot (at + 1) rest)) number (by t)
  where
    number : number_read w8 (spot at (table_number t ∷ rest)) ≡ Ok (table_number t, spot (at + 1) rest)
    number = ap (λ r. r >>= λ f. Ok (from_be_bytes w8 f.0, f.1)) (field_comes at (table_number t ∷ []) rest)

    by : (u : Table) → table_by at (table_number u, spot (at + 1) rest) ≡ Ok (u, spot (at + 1) rest)
    by Ids = refl
    by Names = refl
    by Points = refl

-- a cell is read, and this is left
pub record Comes (c : ListLine) (rest : List ℕ) (at : ℕ) (bytes : List ℕ) : Type 0 where
  pub end : ℕ
  pub is : cell_read (spot at bytes) ≡ Ok (c, spot end rest)

cell_comes : (at : ℕ) (c : ListLine) (rest : List ℕ) → IsImageCell c → Comes c rest at (cell_image c ++ rest)
cell_comes at c rest is = record {
  end = at3 + 4 + length c.value;
  is = ap (λ bytes. cell_read (spot at bytes)) apart
      ∙ on (table_read (spot at (table_number c.table ∷ (part_image w16 c.row ++ behind_row)))) with_table (c.table, spot at1 (part_image w16 c.row ++ behind_row)) (Ok (c, end)) (table_comes at c.table (part_image w16 c.row ++ behind_row))
      (on (part_read w16 (spot at1 (part_image w16 c.row ++ behind_row))) (with_row c.table) (c.row, spot at2 behind_row) (Ok (c, end)) (part_comes w16 two at1 c.row behind_row is.row)
      (on (part_read w32 (spot at2 behind_row)) (with_qual c.table c.row) (c.qual, spot at3 behind_qual) (Ok (c, end)) (part_comes w32 four at2 c.qual behind_qual is.qual)
      (on (part_read w32 (spot at3 behind_qual)) (with_value c.table c.row c.qual) (c.value, end) (Ok (c, end)) (part_comes w32 four at3 c.value rest is.value) refl)));
}
  where
    at1 : ℕ
    at1 = at + 1

    at2 : ℕ
    at2 = at1 + 2 + length c.row

    at3 : ℕ
    at3 = at2 + 4 + length c.qual

    behind_qual : List ℕ
    behind_qual = part_image w32 c.value ++ rest

    behind_row : List ℕ
    behind_row = part_image w32 c.qual ++ behind_qual

    end : Spot
    end = spot (at3 + 4 + length c.value) rest

    apart : cell_image c ++ rest ≡ table_number c.table ∷ (part_image w16 c.row ++ behind_row)
    apart = ap (λ xs. table_number c.table ∷ xs) (append_assoc (part_image w16 c.row) (part_image w32 c.qual ++ part_image w32 c.value) rest ∙ ap (λ xs. part_image w16 c.row ++ xs) (append_assoc (part_image w32 c.qual) (part_image w32 c.value) rest))

-- ---- the cells
in_back : (front : List ListLine) (c : ListLine) (cells : List ListLine) → Contains (front ++ c ∷ cells) c
in_back [] c cells = here c cells
in_back (m ∷ front) c cells = there m c (front ++ c ∷ cells) (in_back front c cells)

above_front : (front : List ListLine) (c : ListLine) (cells : List ListLine) → LinesRise (front ++ c ∷ cells) → is_above front (place_of_line c) ≡ true
above_front [] c cells rise = refl
above_front (m ∷ front) c cells rise =
    and_from (is_lt (place_cmp (place_of_line m) (place_of_line c))) (is_above front (place_of_line c)) (ap is_lt (pairs_in IsBelow m c (front ++ c ∷ cells) rise (in_back front c cells)))
    (above_front front c cells (pairs_tail IsBelow m (front ++ c ∷ cells) rise))

cells_come : (cells front : List ListLine) (at : ℕ) → All IsImageCell cells → LinesRise (front ++ cells) → cells_read (length cells) front (spot at (cells_image cells)) ≡ Ok (front ++ cells)
cells_come [] front at all rise = ap Ok (sym (append-nil front))
cells_come (c ∷ cells) front at all rise =
    let comes = cell_comes at c (cells_image cells) (all 0 c (omega arith)) in
    let next : next_cell front (spot at (cell_image c ++ cells_image cells)) ≡ Ok (front ++ c ∷ [], spot comes.end (cells_image cells)) =
    on (cell_read (spot at (cell_image c ++ cells_image cells))) (cells_with front at) (c, spot comes.end (cells_image cells)) (Ok (front ++ c ∷ [], spot comes.end (cells_image cells))) comes.is
    (ap (λ b. cond b (Ok (front ++ c ∷ [], spot comes.end (cells_image cells))) (Err (NotRising at))) (above_front front c cells rise)) in
    on (next_cell front (spot at (cell_image c ++ cells_image cells))) (λ more. cells_read (length cells) more.0 more.1) (front ++ c ∷ [], spot comes.end (cells_image cells)) (Ok (front ++ c ∷ cells)) next
    (cells_come cells (front ++ c ∷ []) comes.end (λ i d lt. all (suc i) d (omega (arith, lt))) (subst LinesRise (sym (append_assoc front (c ∷ []) cells)) rise)
    ∙ ap Ok (append_assoc front (c ∷ []) cells))

-- ---- the head
are_widths : (w : Widths) → list_all is_width (width_bytes w) ≡ true
are_widths w = and_from (is_width w.metric) (is_width w.tag_key && (is_width w.tag_value && true)) (one_width w.metric w.metric_fits) (and_from (is_width w.tag_key) (is_width w.tag_value && true) (one_width w.tag_key w.key_fits) (and_from (is_width w.tag_value) true (one_width w.tag_value w.value_fits) refl))
  where
    one_width : (n : ℕ) → (2 ≤ n) × (n ≤ 4) → is_width n ≡ true
    one_width n f = and_from _ _ (le-leb 2 n f.0) (le-leb n 4 f.1)

head_comes : (l : Listing) (rest : List ℕ) → length l.lines < 2 ^ 64 → head_read (spot 0 (head_image l ++ rest)) ≡ Ok ((width_bytes l.widths, length l.lines), spot 19 rest)
head_comes l rest fits =
    ap (λ bytes. head_read (spot 0 bytes)) apart
    ∙ on (mark_read (spot 0 (mark ++ behind_mark))) with_mark (tt, spot 8 behind_mark) (Ok end) (ap (λ r. r >>= mark_by) (field_comes 0 mark behind_mark))
    (on (widths_read (spot 8 behind_mark)) with_widths (width_bytes l.widths, spot 11 behind_widths) (Ok end) widths
    (on (number_read w64 (spot 11 behind_widths)) (with_number (width_bytes l.widths)) (length l.lines, spot 19 rest) (Ok end) (number_comes w64 eight 11 (length l.lines) rest fits) refl))
  where
    behind_widths : List ℕ
    behind_widths = to_be_bytes w64 (length l.lines) ++ rest

    behind_mark : List ℕ
    behind_mark = width_bytes l.widths ++ behind_widths

    end : (List ℕ × ℕ) × Spot
    end = ((width_bytes l.widths, length l.lines), spot 19 rest)

    apart : head_image l ++ rest ≡ mark ++ behind_mark
    apart = append_assoc mark (width_bytes l.widths ++ to_be_bytes w64 (length l.lines)) rest ∙ ap (λ xs. mark ++ xs) (append_assoc (width_bytes l.widths) (to_be_bytes w64 (length l.lines)) rest)

    widths : widths_read (spot 8 behind_mark) ≡ Ok (width_bytes l.widths, spot 11 behind_widths)
    widths = on (field_read 3 (spot 8 behind_mark)) widths_by (width_bytes l.widths, spot 11 behind_widths) (Ok (width_bytes l.widths, spot 11 behind_widths)) (field_comes 8 (width_bytes l.widths) behind_widths)
        (ap (λ b. cond b (Ok (width_bytes l.widths, spot 11 behind_widths)) (Err BadWidths)) (are_widths l.widths))

-- an image is read as its listing
pub image_comes : (l : Listing) (bytes : List ℕ) → IsImage l bytes → image_read bytes ≡ Ok (width_bytes l.widths, l.lines)
image_comes l bytes is =
    ap image_read is.spelling
    ∙ on (head_read (spot 0 (image l))) image_by ((width_bytes l.widths, length l.lines), spot 19 (cells_image l.lines)) (Ok (width_bytes l.widths, l.lines)) (head_comes l (cells_image l.lines) is.number)
    (ap (λ r. r >>= λ cells. Ok (width_bytes l.widths, cells)) (cells_come l.lines [] 19 is.cells is.rising))
