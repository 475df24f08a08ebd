-- What is read is the image of what it is read as.
use Rattle.std.proofs.Common.{◌≡◌, ℕ, zero, suc, ◌^◌, ◌<◌, ◌≤◌, Bool, true, false, cond, List, [], ◌∷◌, ◌++◌, take, length, refl, sym, ap, subst, ◌∙◌, append_assoc, append-nil, arith, take-append-drop, ltb-false}
use Rattle.std.specs.Prelude.{All, Result, Ok, Err, nat_eq, nat_lt}
use Rattle.std.specs.Int.{Width, w8, w16, w32, w64, byte_len, from_be_bytes, to_be_bytes}
use Rattle.std.specs.Cmp.Lexicographic.{same_text}
use Rattle.std.proofs.lemmas.List.{length-take-le}
use Rattle.list_lemmas.proofs.BoolTests.{nat_eq_is}
use Rattle.hex.specs.Hex.{IsBytes}
use Rattle.tsd_base.specs.TagList.{is_same}
use Rattle.row_key.specs.declared.tables.Table.{Table}
use Rattle.row_key.specs.declared.tables.Table.TheVariants.{Ids, Names, Points}
use Rattle.cell_model.specs.declared.row.ListLine.{ListLine}
use Rattle.cell_model.specs.declared.row.Listing.{Listing}
use Rattle.cell_model.specs.PlaceOrder.{table_number}
use Rattle.cell_model.specs.Rising.{LinesRise, is_above, place_of_line}
use Rattle.cell_image.specs.Images.{IsImage, IsImageCell, IsPart, cell_image, cells_image, mark, part_image, width_bytes}
use Rattle.cell_image.specs.ImageReads.{Spot, cell_read, cells_read, cells_with, field_read, head_read, image_by, image_read, is_width, mark_by, mark_read, moved, next_cell, number_read, part_by, part_read, table_by, table_read, widths_by, widths_read}
use Rattle.std.specs.List.{list_all}
use Rattle.cell_image.specs.declared.image_fault.ImageFault.{ImageFault}
use Rattle.cell_image.specs.declared.image_fault.ImageFault.TheVariants.{BadMark, BadTable, BadWidths, CutShort, EmptyPart, NotRising, Trailing}
use Rattle.cell_image.proofs.Numbers.{IsNumber, eight, four, one, two}
use Rattle.cell_image.proofs.Rising.{still_rise}
use Rattle.cell_image.proofs.Steps.{Read, parts_of, same_Ok, with_mark, with_number, with_qual, with_row, with_table, with_value, with_widths}

-- ---- bytes
bytes_front : (xs ys : List ℕ) → IsBytes (xs ++ ys) → IsBytes xs
bytes_front [] ys is i = omega arith
bytes_front (x ∷ xs) ys is zero = is 0
bytes_front (x ∷ xs) ys is (suc i) = bytes_front xs ys (λ k. is (suc k)) i

bytes_behind : (xs ys : List ℕ) → IsBytes (xs ++ ys) → IsBytes ys
bytes_behind [] ys is = is
bytes_behind (x ∷ xs) ys is = bytes_behind xs ys (λ k. is (suc k))

-- these bytes were read, and those behind them are left
pub record IsRead (spelling : List ℕ) (s left : Spot) : Type 0 where
  pub is : s.bytes ≡ spelling ++ left.bytes
  pub behind : IsBytes left.bytes

-- ---- fields
field_of : (count : ℕ) (s : Spot) (f : List ℕ × Spot) → field_read count s ≡ Ok f → (s.bytes ≡ f.0 ++ f.1.bytes) × (length f.0 ≡ count)
field_of count s f e = at (nat_lt (length s.bytes) count) refl e
  where
    at : (b : Bool) → nat_lt (length s.bytes) count ≡ b → cond b (Err (CutShort s.at)) (Ok (take count s.bytes, moved count s)) ≡ Ok f → (s.bytes ≡ f.0 ++ f.1.bytes) × (length f.0 ≡ count)
    at true t h = absurd cc
    at false t h =
        let same = same_Ok (take count s.bytes, moved count s) f h in
        (sym (take-append-drop count s.bytes) ∙ (λ i. (same i).0 ++ (same i).1.bytes), ap length (sym (ap (λ (p : List ℕ × Spot). p.0) same)) ∙ length-take-le count s.bytes (ltb-false (length s.bytes) count t))

number_of : (w : Width) (k : IsNumber w) (s : Spot) (n : ℕ × Spot) → IsBytes s.bytes → number_read w s ≡ Ok n → (n.0 < 256 ^ byte_len w) × IsRead (to_be_bytes w n.0) s n.1
number_of w k s n all e =
    let p = parts_of (field_read (byte_len w) s) (λ f. Ok (from_be_bytes w f.0, f.1)) n e in
    let f = field_of (byte_len w) s p.first p.is in
    let same : (from_be_bytes w p.first.0, p.first.1) ≡ n = same_Ok _ n p.then in
    let joined : IsBytes (p.first.0 ++ p.first.1.bytes) = subst IsBytes f.0 all in
    let own : IsBytes p.first.0 = bytes_front p.first.0 p.first.1.bytes joined in
    subst (λ (m : ℕ × Spot). (m.0 < 256 ^ byte_len w) × IsRead (to_be_bytes w m.0) s m.1) same
    (k.fits p.first.0 f.1 own, record { is = f.0 ∙ ap (λ xs. xs ++ p.first.1.bytes) (sym (k.again p.first.0 f.1 own)); behind = bytes_behind p.first.0 p.first.1.bytes joined })

part_of : (w : Width) (k : IsNumber w) (s : Spot) (part : List ℕ × Spot) → IsBytes s.bytes → part_read w s ≡ Ok part → IsPart w part.0 × IsRead (part_image w part.0) s part.1
part_of w k s part all e = at (nat_eq p.first.0 0) refl p.then
  where
    p : Read (number_read w s) (part_by s.at) part
    p = parts_of (number_read w s) (part_by s.at) part e

    n : (p.first.0 < 256 ^ byte_len w) × IsRead (to_be_bytes w p.first.0) s p.first.1
    n = number_of w k s p.first all p.is

    at : (b : Bool) → nat_eq p.first.0 0 ≡ b → cond b (Err (EmptyPart s.at)) (field_read p.first.0 p.first.1) ≡ Ok part → IsPart w part.0 × IsRead (part_image w part.0) s part.1
    at true t h = absurd cc
    at false t h =
        let f = field_of p.first.0 p.first.1 part h in
        let some : 1 ≤ length part.0 = positive (length part.0) (ap (λ m. nat_eq m 0) f.1 ∙ t) in
        let fits : length part.0 < 256 ^ byte_len w = subst (λ m. m < 256 ^ byte_len w) (sym f.1) n.0 in (
          record { some = some; fits = fits },
          record {
            is = n.1.is ∙ (λ i. to_be_bytes w (sym f.1 i) ++ f.0 i) ∙ sym (append_assoc (to_be_bytes w (length part.0)) part.0 part.1.bytes);
            behind = bytes_behind part.0 part.1.bytes (subst IsBytes f.0 n.1.behind);
          },
        )
      where
        positive : (m : ℕ) → nat_eq m 0 ≡ false → 1 ≤ m
        positive zero h = absurd cc
        positive (suc m) h = omega arith

-- ---- a cell
table_of : (s : Spot) (t : Table × Spot) → IsBytes s.bytes → table_read s ≡ Ok t → IsRead (table_number t.0 ∷ []) s t.1
table_of s t all e = at (nat_eq p.first.0 0) refl (nat_eq p.first.0 1) refl (nat_eq p.first.0 2) refl p.then
  where
    p : Read (number_read w8 s) (table_by s.at) t
    p = parts_of (number_read w8 s) (table_by s.at) t e

    n : (p.first.0 < 256 ^ byte_len w8) × IsRead (to_be_bytes w8 p.first.0) s p.first.1
    n = number_of w8 one s p.first all p.is

    by : (u : Table) → p.first.0 ≡ table_number u → ◌≡◌ {A = Result (Table × Spot) ImageFault} (Ok (u, p.first.1)) (Ok t) → IsRead (table_number t.0 ∷ []) s t.1
    by u number h =
        let same = same_Ok (u, p.first.1) t h in
        let small : table_number u < 256 = few u in
        subst (λ (m : Table × Spot). IsRead (table_number m.0 ∷ []) s m.1) same
        (record { is = n.1.is ∙ ap (λ m. to_be_bytes w8 m ++ p.first.1.bytes) number ∙ ap (λ m. m ∷ p.first.1.bytes) (omega (arith, small)); behind = n.1.behind })
      where
        few : (u : Table) → table_number u < 256
        few Ids = omega arith
        few Names = omega arith
        few Points = omega arith

    at : (a : Bool) → nat_eq p.first.0 0 ≡ a → (b : Bool) → nat_eq p.first.0 1 ≡ b → (c : Bool) → nat_eq p.first.0 2 ≡ c
        → cond a (Ok (Ids, p.first.1)) (cond b (Ok (Names, p.first.1)) (cond c (Ok (Points, p.first.1)) (Err (BadTable s.at)))) ≡ Ok t → IsRead (table_number t.0 ∷ []) s t.1
    at true ea b eb c ec h = by Ids (nat_eq_is p.first.0 0 ea) h
    at false ea true eb c ec h = by Names (nat_eq_is p.first.0 1 eb) h
    at false ea false eb true ec h = by Points (nat_eq_is p.first.0 2 ec) h
    at false ea false eb false ec h = absurd cc

cell_from : (s : Spot) (t : Table × Spot) (r q v : List ℕ × Spot) (c : ListLine × Spot) → IsRead (table_number t.0 ∷ []) s t.1 → IsPart w16 r.0 × IsRead (part_image w16 r.0) t.1 r.1 → IsPart w32 q.0 × IsRead (part_image w32 q.0) r.1 q.1
    → IsPart w32 v.0 × IsRead (part_image w32 v.0) q.1 v.1 → with_value t.0 r.0 q.0 v ≡ Ok c → IsImageCell c.0 × IsRead (cell_image c.0) s c.1
cell_from s t r q v c table row qual value e =
    subst (λ (m : ListLine × Spot). IsImageCell m.0 × IsRead (cell_image m.0) s m.1) (same_Ok (record { table = t.0; row = r.0; qual = q.0; value = v.0 }, v.1) c e)
    (record { row = row.0; qual = qual.0; value = value.0 }, record { is = joined; behind = value.1.behind })
  where
    behind_row : r.1.bytes ≡ (part_image w32 q.0 ++ part_image w32 v.0) ++ v.1.bytes
    behind_row = qual.1.is ∙ ap (λ xs. part_image w32 q.0 ++ xs) value.1.is ∙ sym (append_assoc (part_image w32 q.0) (part_image w32 v.0) v.1.bytes)

    joined : s.bytes ≡ (table_number t.0 ∷ (part_image w16 r.0 ++ (part_image w32 q.0 ++ part_image w32 v.0))) ++ v.1.bytes
    joined = table.is
        ∙ ap (λ xs. table_number t.0 ∷ xs) (row.1.is ∙ ap (λ xs. part_image w16 r.0 ++ xs) behind_row ∙ sym (append_assoc (part_image w16 r.0) (part_image w32 q.0 ++ part_image w32 v.0) v.1.bytes))

cell_of : (s : Spot) (c : ListLine × Spot) → IsBytes s.bytes → cell_read s ≡ Ok c → IsImageCell c.0 × IsRead (cell_image c.0) s c.1
cell_of s c all e =
    let t = parts_of (table_read s) with_table c e in
    let table = table_of s t.first all t.is in
    let r = parts_of (part_read w16 t.first.1) (with_row t.first.0) c t.then in
    let row = part_of w16 two t.first.1 r.first table.behind r.is in
    let q = parts_of (part_read w32 r.first.1) (with_qual t.first.0 r.first.0) c r.then in
    let qual = part_of w32 four r.first.1 q.first row.1.behind q.is in
    let v = parts_of (part_read w32 q.first.1) (with_value t.first.0 r.first.0 q.first.0) c q.then in
    let value = part_of w32 four q.first.1 v.first qual.1.behind v.is in
    cell_from s t.first r.first q.first v.first c table row qual value v.then

-- ---- the cells
pub record AreCells (number : ℕ) (front : List ListLine) (bytes : List ℕ) (all : List ListLine) : Type 0 where
  pub cells : List ListLine
  pub joined : all ≡ front ++ cells
  pub length_is : length cells ≡ number
  pub spelling : bytes ≡ cells_image cells
  pub good : All IsImageCell cells
  pub rising : LinesRise all

pub record IsNext (front : List ListLine) (s : Spot) (more : List ListLine × Spot) : Type 0 where
  pub cell : ListLine
  pub added : more.0 ≡ front ++ cell ∷ []
  pub good : IsImageCell cell
  pub read : IsRead (cell_image cell) s more.1
  pub rising : LinesRise (front ++ cell ∷ [])

next_of : (front : List ListLine) (s : Spot) (more : List ListLine × Spot) → IsBytes s.bytes → LinesRise front → next_cell front s ≡ Ok more → IsNext front s more
next_of front s more all rise e = at (is_above front (place_of_line p.first.0)) refl p.then
  where
    p : Read (cell_read s) (cells_with front s.at) more
    p = parts_of (cell_read s) (cells_with front s.at) more e

    c : IsImageCell p.first.0 × IsRead (cell_image p.first.0) s p.first.1
    c = cell_of s p.first all p.is

    at : (b : Bool) → is_above front (place_of_line p.first.0) ≡ b → cond b (Ok (front ++ p.first.0 ∷ [], p.first.1)) (Err (NotRising s.at)) ≡ Ok more → IsNext front s more
    at true t h =
        let same = same_Ok (front ++ p.first.0 ∷ [], p.first.1) more h in
        record {
          cell = p.first.0;
          added = sym (ap (λ (m : List ListLine × Spot). m.0) same);
          good = c.0;
          read = subst (λ (m : List ListLine × Spot). IsRead (cell_image p.first.0) s m.1) same c.1;
          rising = still_rise front p.first.0 rise t;
        }
    at false t h = absurd cc

cells_of : (n : ℕ) (front : List ListLine) (s : Spot) (all : List ListLine) → IsBytes s.bytes → LinesRise front → cells_read n front s ≡ Ok all → AreCells n front s.bytes all
cells_of zero front s all is rise e = at (nat_eq (length s.bytes) 0) refl e
  where
    none : (xs : List ℕ) → length xs ≡ 0 → xs ≡ []
    none [] h = refl
    none (x ∷ xs) h = absurd (omega (arith, h))

    at : (b : Bool) → nat_eq (length s.bytes) 0 ≡ b → cond b (Ok front) (Err (Trailing s.at)) ≡ Ok all → AreCells 0 front s.bytes all
    at true t h =
        let same = same_Ok front all h in
        record {
          cells = [];
          joined = sym same ∙ sym (append-nil front);
          length_is = refl;
          spelling = none s.bytes (nat_eq_is (length s.bytes) 0 t);
          good = λ i d lt. absurd (omega (arith, lt));
          rising = subst LinesRise same rise;
        }
    at false t h = absurd cc
cells_of (suc n) front s all is rise e =
    let p = parts_of (next_cell front s) (λ more. cells_read n more.0 more.1) all e in
    let next = next_of front s p.first is rise p.is in
    let rest = cells_of n p.first.0 p.first.1 all next.read.behind (subst LinesRise (sym next.added) next.rising) p.then in
    record {
      cells = next.cell ∷ rest.cells;
      joined = rest.joined ∙ ap (λ xs. xs ++ rest.cells) next.added ∙ append_assoc front (next.cell ∷ []) rest.cells;
      length_is = (let l = rest.length_is in omega (arith, l));
      spelling = next.read.is ∙ ap (λ xs. cell_image next.cell ++ xs) rest.spelling;
      good = both next.cell rest.cells next.good rest.good;
      rising = rest.rising;
    }
  where
    both : (c : ListLine) (cells : List ListLine) → IsImageCell c → All IsImageCell cells → All IsImageCell (c ∷ cells)
    both c cells g gs zero d lt = g
    both c cells g gs (suc i) d lt = gs i d (omega (arith, lt))

-- ---- the whole
pub record IsHead (s : Spot) (widths : List ℕ) (number : ℕ) (left : Spot) : Type 0 where
  pub is : s.bytes ≡ mark ++ (widths ++ (to_be_bytes w64 number ++ left.bytes))
  pub behind : IsBytes left.bytes
  pub fits : number < 2 ^ 64

head_of : (s : Spot) (head : (List ℕ × ℕ) × Spot) → IsBytes s.bytes → head_read s ≡ Ok head → IsHead s head.0.0 head.0.1 head.1
head_of s head all e =
    let m = parts_of (mark_read s) with_mark head e in
    let begun = mark_of m.first m.is in
    let w = parts_of (widths_read m.first.1) with_widths head m.then in
    let widths = widths_of m.first.1 w.first begun.1 w.is in
    let n = parts_of (number_read w64 w.first.1) (with_number w.first.0) head w.then in
    let number = number_of w64 eight w.first.1 n.first widths.1 n.is in
    subst (λ (h : (List ℕ × ℕ) × Spot). IsHead s h.0.0 h.0.1 h.1) (same_Ok _ head n.then)
    (record {
      is = begun.0 ∙ ap (λ xs. mark ++ xs) (widths.0 ∙ ap (λ xs. w.first.0 ++ xs) number.1.is);
      behind = number.1.behind;
      fits = number.0;
    })
  where
    mark_of : (m : Unit {0} × Spot) → mark_read s ≡ Ok m → (s.bytes ≡ mark ++ m.1.bytes) × IsBytes m.1.bytes
    mark_of m h = at (is_same p.first.0 mark) refl p.then
      where
        p : Read (field_read 8 s) mark_by m
        p = parts_of (field_read 8 s) mark_by m h

        f : (s.bytes ≡ p.first.0 ++ p.first.1.bytes) × (length p.first.0 ≡ 8)
        f = field_of 8 s p.first p.is

        at : (b : Bool) → is_same p.first.0 mark ≡ b → cond b (Ok (tt, p.first.1)) (Err BadMark) ≡ Ok m → (s.bytes ≡ mark ++ m.1.bytes) × IsBytes m.1.bytes
        at true t k =
            let same = same_Ok (tt, p.first.1) m k in
            let is : s.bytes ≡ mark ++ p.first.1.bytes = f.0 ∙ ap (λ xs. xs ++ p.first.1.bytes) (same_text p.first.0 mark (sym t)) in
            subst (λ (u : Unit {0} × Spot). (s.bytes ≡ mark ++ u.1.bytes) × IsBytes u.1.bytes) same (is, bytes_behind p.first.0 p.first.1.bytes (subst IsBytes f.0 all))
        at false t k = absurd cc

    widths_of : (r : Spot) (w : List ℕ × Spot) → IsBytes r.bytes → widths_read r ≡ Ok w → (r.bytes ≡ w.0 ++ w.1.bytes) × IsBytes w.1.bytes
    widths_of r w is h = at (list_all is_width p.first.0) p.then
      where
        p : Read (field_read 3 r) widths_by w
        p = parts_of (field_read 3 r) widths_by w h

        f : (r.bytes ≡ p.first.0 ++ p.first.1.bytes) × (length p.first.0 ≡ 3)
        f = field_of 3 r p.first p.is

        at : (b : Bool) → cond b (Ok p.first) (Err BadWidths) ≡ Ok w → (r.bytes ≡ w.0 ++ w.1.bytes) × IsBytes w.1.bytes
        at true k = subst (λ (u : List ℕ × Spot). (r.bytes ≡ u.0 ++ u.1.bytes) × IsBytes u.1.bytes) (same_Ok p.first w k) (f.0, bytes_behind p.first.0 p.first.1.bytes (subst IsBytes f.0 is))
        at false k = absurd cc

-- what is read as a listing is its image
pub image_of : (l : Listing) (bytes : List ℕ) → IsBytes bytes → image_read bytes ≡ Ok (width_bytes l.widths, l.lines) → IsImage l bytes
image_of l bytes all e =
    let h = parts_of (head_read (record { at = 0; bytes = bytes })) image_by (width_bytes l.widths, l.lines) e in
    let head = head_of (record { at = 0; bytes = bytes }) h.first all h.is in
    let c = parts_of (cells_read h.first.0.1 [] h.first.1) (λ cells. Ok (h.first.0.0, cells)) (width_bytes l.widths, l.lines) h.then in
    let same = same_Ok (h.first.0.0, c.first) (width_bytes l.widths, l.lines) c.then in
    let cells = cells_of h.first.0.1 [] h.first.1 c.first head.behind (λ i j d below within. absurd (omega (arith, within))) c.is in
    let lines : l.lines ≡ cells.cells = sym (ap (λ (p : List ℕ × List ListLine). p.1) same) ∙ cells.joined in
    let widths : h.first.0.0 ≡ width_bytes l.widths = ap (λ (p : List ℕ × List ListLine). p.0) same in
    let number : h.first.0.1 ≡ length l.lines = sym cells.length_is ∙ ap length (sym lines) in
    let n = head.fits in
    record {
      spelling = head.is
          ∙ (λ i. mark ++ (widths i ++ (to_be_bytes w64 (number i) ++ (cells.spelling ∙ ap cells_image (sym lines)) i)))
          ∙ sym (append_assoc mark (width_bytes l.widths ++ to_be_bytes w64 (length l.lines)) (cells_image l.lines) ∙ ap (λ xs. mark ++ xs) (append_assoc (width_bytes l.widths) (to_be_bytes w64 (length l.lines)) (cells_image l.lines)));
      cells = subst (All IsImageCell) (sym lines) cells.good;
      number = omega (arith, number, n);
      rising = subst LinesRise (ap (λ (p : List ℕ × List ListLine). p.1) same) cells.rising;
    }
