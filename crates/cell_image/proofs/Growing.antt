-- What was read of bytes stands whatever more comes, unless they were cut short.
use Rattle.std.proofs.Common.{◌≡◌, ℕ, ◌+◌, ◌-◌, ◌≤◌, Bool, true, false, cond, List, [], ◌∷◌, ◌++◌, take, length, refl, sym, ap, subst, ◌∙◌, arith, length-append, add-zero, le-ltb, ltb-false}
use Rattle.std.specs.Prelude.{Result, Ok, Err, nat_eq, nat_lt}
use Rattle.std.specs.Int.{Width, w8, w16, w32, w64, byte_len, from_be_bytes}
use Rattle.std.specs.List.{list_all}
use Rattle.std.proofs.lemmas.List.{drop-append-le, drop-drop, length-drop, take-append-le}
use Rattle.tsd_base.specs.TagList.{is_same}
use Rattle.row_key.specs.declared.tables.Table.TheVariants.{Ids, Names, Points}
use Rattle.cell_model.specs.declared.row.ListLine.{ListLine}
use Rattle.cell_model.specs.Rising.{is_above, place_of_line}
use Rattle.cell_image.specs.Images.{mark}
use Rattle.cell_image.specs.ImageReads.{◌>>=◌, Spot, cell_read, cells_with, field_read, head_read, is_width, mark_by, mark_read, moved, next_cell, number_read, part_by, part_read, table_by, table_read, widths_by, widths_read}
use Rattle.cell_image.specs.ImageTakes.{taken_to, with_more}
use Rattle.cell_image.specs.declared.image_fault.ImageFault.{ImageFault}
use Rattle.cell_image.specs.declared.image_fault.ImageFault.TheVariants.{CutShort, BadMark, BadWidths, BadTable, EmptyPart, NotRising, Trailing, OutOfMemory}
use Rattle.cell_image.proofs.Steps.{with_mark, with_number, with_qual, with_row, with_table, with_value, with_widths}

-- a spot behind another one, so many bytes on
pub record IsBehind (s b : Spot) : Type 0 where
  pub count : ℕ
  pub is : b ≡ moved count s
  pub within : count ≤ length s.bytes

stays : (s : Spot) → IsBehind s s
stays s = record { count = 0; is = (λ i. record { at = sym (add-zero s.at) i; bytes = s.bytes }); within = omega arith }

goes_on : (s b c : Spot) → IsBehind s b → IsBehind b c → IsBehind s c
goes_on s b c p q =
    let is : c ≡ moved q.count (moved p.count s) = q.is ∙ ap (moved q.count) p.is in
    let left : length b.bytes ≡ length s.bytes - p.count = ap (λ (r : Spot). length r.bytes) p.is ∙ length-drop p.count s.bytes in
    let w = p.within in
    let v = q.within in
    record {
      count = p.count + q.count;
      is = is ∙ (λ i. record { at = at i; bytes = drop-drop q.count p.count s.bytes i });
      within = omega (arith, left, w, v);
    }
  where
    at : s.at + p.count + q.count ≡ s.at + (p.count + q.count)
    at = omega arith

-- the fault is told whatever more comes
abbrev pub IfCertain : ImageFault → Type 0 → Type 0
IfCertain (CutShort at) P = Unit {0}
IfCertain fault P = P

on_certain : (fault : ImageFault) (P Q : Type 0) → (P → Q) → IfCertain fault P → IfCertain fault Q
on_certain (CutShort at) P Q f p = tt
on_certain BadMark P Q f p = f p
on_certain BadWidths P Q f p = f p
on_certain (BadTable at) P Q f p = f p
on_certain (EmptyPart at) P Q f p = f p
on_certain (NotRising at) P Q f p = f p
on_certain (Trailing at) P Q f p = f p
on_certain OutOfMemory P Q f p = f p

certain : (fault : ImageFault) (P : Type 0) → P → IfCertain fault P
certain (CutShort at) P p = tt
certain BadMark P p = p
certain BadWidths P p = p
certain (BadTable at) P p = p
certain (EmptyPart at) P p = p
certain (NotRising at) P p = p
certain (Trailing at) P p = p
certain OutOfMemory P p = p

-- what was read at a spot, and what is read there where more comes
abbrev pub Grows : {A : Type 0} → Spot → List ℕ → Result (A × Spot) ImageFault → Result (A × Spot) ImageFault → Type 0
Grows s later (Ok x) longer = (longer ≡ Ok (x.0, with_more x.1 later)) × IsBehind s x.1
Grows s later (Err fault) longer = IfCertain fault (longer ≡ Err fault)

from_front : {A : Type 0} (s b : Spot) (later : List ℕ) (r longer : Result (A × Spot) ImageFault) → IsBehind s b → Grows b later r longer → Grows s later r longer
from_front s b later (Ok x) longer p g = (g.0, goes_on s b x.1 p g.1)
from_front s b later (Err fault) longer p g = g

grows_on : {A B : Type 0} (s : Spot) (later : List ℕ) (r longer : Result (A × Spot) ImageFault) (f g : A × Spot → Result (B × Spot) ImageFault) → Grows s later r longer
    → ((x : A × Spot) → Grows x.1 later (f x) (g (x.0, with_more x.1 later))) → Grows s later (r >>= f) (longer >>= g)
grows_on s later (Ok x) longer f g h next = from_front s x.1 later (f x) (longer >>= g) h.1 (subst (λ q. Grows x.1 later (f x) (q >>= g)) (sym h.0) (next x))
grows_on s later (Err fault) longer f g h next = on_certain fault (longer ≡ Err fault) ((longer >>= g) ≡ Err fault) (λ e. ap (λ q. q >>= g) e) h

read_so : {A : Type 0} (x : A) (s : Spot) (later : List ℕ) → Grows s later (Ok (x, s)) (Ok (x, with_more s later))
read_so x s later = (refl, stays s)

-- a test that doesn't look at the spot
if_so : {A : Type 0} (b : Bool) (s : Spot) (later : List ℕ) (r longer : Result (A × Spot) ImageFault) (fault : ImageFault) → Grows s later r longer → Grows s later (cond b r (Err fault)) (cond b longer (Err fault))
if_so true s later r longer fault g = g
if_so false s later r longer fault g = certain fault (Err fault ≡ Err fault) refl

if_not : {A : Type 0} (b : Bool) (s : Spot) (later : List ℕ) (r longer : Result (A × Spot) ImageFault) (fault : ImageFault) → Grows s later r longer → Grows s later (cond b (Err fault) r) (cond b (Err fault) longer)
if_not true s later r longer fault g = certain fault (Err fault ≡ Err fault) refl
if_not false s later r longer fault g = g

if_either : {A : Type 0} (b : Bool) (s : Spot) (later : List ℕ) (r longer q further : Result (A × Spot) ImageFault) → Grows s later r longer → Grows s later q further → Grows s later (cond b r q) (cond b longer further)
if_either true s later r longer q further g h = g
if_either false s later r longer q further g h = h

-- ---- fields
field_grows : (count : ℕ) (s : Spot) (later : List ℕ) → Grows s later (field_read count s) (field_read count (with_more s later))
field_grows count s later = at (nat_lt (length s.bytes) count) refl
  where
    at : (b : Bool) → nat_lt (length s.bytes) count ≡ b → Grows s later (cond b (Err (CutShort s.at)) (Ok (take count s.bytes, moved count s))) (field_read count (with_more s later))
    at true t = tt
    at false t =
        let within : count ≤ length s.bytes = ltb-false (length s.bytes) count t in
        let l = length-append s.bytes later in (
          ap (λ b. cond b (Err (CutShort s.at)) (Ok (take count (s.bytes ++ later), moved count (with_more s later)))) (le-ltb (length (s.bytes ++ later)) count (omega (arith, within, l)))
              ∙ (λ i. Ok (take-append-le count s.bytes later within i, record { at = s.at + count; bytes = drop-append-le count s.bytes later within i })),
          record { count = count; is = refl; within = within },
        )

number_grows : (w : Width) (s : Spot) (later : List ℕ) → Grows s later (number_read w s) (number_read w (with_more s later))
number_grows w s later =
    grows_on s later (field_read (byte_len w) s) (field_read (byte_len w) (with_more s later)) (λ f. Ok (from_be_bytes w f.0, f.1)) (λ f. Ok (from_be_bytes w f.0, f.1)) (field_grows (byte_len w) s later)
    (λ f. read_so (from_be_bytes w f.0) f.1 later)

part_grows : (w : Width) (s : Spot) (later : List ℕ) → Grows s later (part_read w s) (part_read w (with_more s later))
part_grows w s later =
    grows_on s later (number_read w s) (number_read w (with_more s later)) (part_by s.at) (part_by s.at) (number_grows w s later)
    (λ n. if_not (nat_eq n.0 0) n.1 later (field_read n.0 n.1) (field_read n.0 (with_more n.1 later)) (EmptyPart s.at) (field_grows n.0 n.1 later))

table_grows : (s : Spot) (later : List ℕ) → Grows s later (table_read s) (table_read (with_more s later))
table_grows s later =
    grows_on s later (number_read w8 s) (number_read w8 (with_more s later)) (table_by s.at) (table_by s.at) (number_grows w8 s later)
    (λ n. if_either (nat_eq n.0 0) n.1 later _ _ _ _ (read_so Ids n.1 later)
    (if_either (nat_eq n.0 1) n.1 later _ _ _ _ (read_so Names n.1 later) (if_so (nat_eq n.0 2) n.1 later _ _ (BadTable s.at) (read_so Points n.1 later))))

cell_grows : (s : Spot) (later : List ℕ) → Grows s later (cell_read s) (cell_read (with_more s later))
cell_grows s later =
    grows_on s later (table_read s) (table_read (with_more s later)) with_table with_table (table_grows s later)
    (λ t. grows_on t.1 later (part_read w16 t.1) (part_read w16 (with_more t.1 later)) (with_row t.0) (with_row t.0) (part_grows w16 t.1 later)
    (λ r. grows_on r.1 later (part_read w32 r.1) (part_read w32 (with_more r.1 later)) (with_qual t.0 r.0) (with_qual t.0 r.0) (part_grows w32 r.1 later)
    (λ q. grows_on q.1 later (part_read w32 q.1) (part_read w32 (with_more q.1 later)) (with_value t.0 r.0 q.0) (with_value t.0 r.0 q.0) (part_grows w32 q.1 later)
    (λ v. read_so (record { table = t.0; row = r.0; qual = q.0; value = v.0 }) v.1 later))))

pub next_grows : (cells : List ListLine) (s : Spot) (later : List ℕ) → Grows s later (next_cell cells s) (next_cell cells (with_more s later))
next_grows cells s later =
    grows_on s later (cell_read s) (cell_read (with_more s later)) (cells_with cells s.at) (cells_with cells s.at) (cell_grows s later)
    (λ c. if_so (is_above cells (place_of_line c.0)) c.1 later _ _ (NotRising s.at) (read_so (cells ++ c.0 ∷ []) c.1 later))

pub head_grows : (s : Spot) (later : List ℕ) → Grows s later (head_read s) (head_read (with_more s later))
head_grows s later =
    grows_on s later (mark_read s) (mark_read (with_more s later)) with_mark with_mark
    (grows_on s later (field_read 8 s) (field_read 8 (with_more s later)) mark_by mark_by (field_grows 8 s later) (λ f. if_so (is_same f.0 mark) f.1 later _ _ BadMark (read_so tt f.1 later)))
    (λ m. grows_on m.1 later (widths_read m.1) (widths_read (with_more m.1 later)) with_widths with_widths
    (grows_on m.1 later (field_read 3 m.1) (field_read 3 (with_more m.1 later)) widths_by widths_by (field_grows 3 m.1 later) (λ f. if_so (list_all is_width f.0) f.1 later _ _ BadWidths (read_so f.0 f.1 later)))
    (λ w. grows_on w.1 later (number_read w64 w.1) (number_read w64 (with_more w.1 later)) (with_number w.0) (with_number w.0) (number_grows w64 w.1 later) (λ n. read_so (w.0, n.0) n.1 later)))

-- ---- what a spot behind another one has
pub behind_at : (s b : Spot) → IsBehind s b → (s.at ≤ b.at) × (b.at ≤ taken_to s)
behind_at s b p = let e = ap (λ (r : Spot). r.at) p.is in let w = p.within in (omega (arith, e), omega (arith, e, w))

pub behind_is : (s b : Spot) → IsBehind s b → moved (b.at - s.at) s ≡ b
behind_is s b p = let e = ap (λ (r : Spot). r.at) p.is in ap (λ n. moved n s) (omega (arith, e)) ∙ sym p.is

pub behind_taken : (s b : Spot) → IsBehind s b → taken_to b ≡ taken_to s
behind_taken s b p =
    let e = ap (λ (r : Spot). r.at) p.is in
    let l = ap (λ (r : Spot). length r.bytes) p.is ∙ length-drop p.count s.bytes in
    let w = p.within in
    omega (arith, e, l, w)
