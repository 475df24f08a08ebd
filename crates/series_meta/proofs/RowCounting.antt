-- Counting the offsets of a row's data points.
use Rattle.std.proofs.Common.{◌≡◌, ℕ, ◌+◌, ◌<◌, ◌≤◌, List, [], ◌∷◌, ◌++◌, length, take, get_or, refl, sym, ap, subst, ◌∙◌, arith, inl, length-append, length-take}
use Rattle.std.specs.Prelude.{ℤ, pos, Contains, AllPairs, None, map}
use Rattle.std.proofs.lemmas.List.{length-map}
use Rattle.list_lemmas.proofs.ListMembers.{there, map_in, in_map, pairs_in, pairs_tail}
use Rattle.list_lemmas.proofs.ListParts.{pairs_cons}
use Rattle.row_hours.specs.declared.hours.TheConstants.{LAST_OFFSET}
use Rattle.qual_codec.specs.declared.cells.Cell.{Cell}
use Rattle.qual_codec.specs.declared.cells.Dot.{Dot}
use Rattle.qual_codec.specs.CellDots.{IsDots}
use Rattle.qual_codec.specs.Merge.{AreDots, Keeps, values_at, first_conflict}
use Rattle.qual_codec.proofs.CallerLemmas.{RiseBelow, none_below, rise_push, are_next, dot_in, no_conflict, value_dot}
use Rattle.row_scan.proofs.CallerLemmas.{dot_offset}
use Rattle.series_meta.specs.RowCounts.{CountsOffsets, without_value}

abbrev pub offset_of : Dot → ℕ
offset_of d = d.item.offset

-- the offsets of dots that rise
rising_offsets : (dots : List Dot) → AllPairs (λ (d e : Dot). d.item.offset < e.item.offset) dots → AllPairs (λ i j. i < j) (map offset_of dots)
rising_offsets [] up = λ i j d lt within. absurd (omega (arith, within))
rising_offsets (x ∷ dots) up =
    pairs_cons (λ i j. i < j) x.item.offset (map offset_of dots) (λ o c. let w = map_in offset_of dots o c in subst (λ n. x.item.offset < n) w.2 (pairs_in (λ (d e : Dot). d.item.offset < e.item.offset) x w.0 dots up w.1))
    (rising_offsets dots (pairs_tail (λ (d e : Dot). d.item.offset < e.item.offset) x dots up))

-- ---- cells of one data point each

-- the data points of the cells rise and are below this offset, one of each cell
pub record AreSingle (cells : List Cell) (least : ℕ) : Type 0 where
  pub all : List Dot
  pub are : AreDots cells all
  pub rise : RiseBelow all least
  pub one_each : length all ≡ length cells

pub none_single : AreSingle [] 0
none_single = record { all = []; are = refl; rise = none_below; one_each = refl }

taken_length : {X : Type 0} (xs : List X) (i : ℕ) → i < length xs → length (take (i + 1) xs) ≡ length (take i xs) + 1
taken_length xs i lt = grind (arith, length-take)

pub next_single : (cells : List Cell) (i : ℕ) (c : Cell) (qual value : List ℕ) (least next : ℕ) (d : Dot) → AreSingle (take i cells) least → i < length cells → c ≡ get_or cells i c → qual ≡ c.qual → value ≡ c.value → IsDots qual value (d ∷ []) → least ≤ d.item.offset → next ≡ d.item.offset + 1
    → AreSingle (take (i + 1) cells) next
next_single cells i c qual value least next d r lt is q v reads from_on n = record {
  all = r.all ++ d ∷ [];
  are = are_next cells i c qual value r.all (r.all ++ d ∷ []) r.are lt is q v (d ∷ [], refl, inl reads);
  rise = rise_push r.all d least next r.rise from_on n;
  one_each = length-append r.all (d ∷ []) ∙ ap (λ m. m + 1) r.one_each ∙ sym (taken_length cells i lt);
}

pub all_single : (cells : List Cell) (least count : ℕ) → AreSingle cells least → count ≡ length cells → CountsOffsets cells count
all_single cells least count r is = record {
  dots = r.all;
  are_dots = r.are;
  offsets = map offset_of r.all;
  are = record { rising = rising_offsets r.all r.rise.rising; each = λ o c. map_in offset_of r.all o c; there = λ d c. in_map offset_of r.all d c };
  count_is = is ∙ sym r.one_each ∙ sym (length-map r.all offset_of);
}

-- ---- of several items

all_zero : (dots : List Dot) (o : ℕ) (v : ℤ) → Contains (values_at o (map without_value dots)) v → v ≡ pos 0
all_zero dots o v c =
    let d = value_dot (map without_value dots) o v c in
    let w = map_in without_value dots d.dot d.among in
    sym d.value_is ∙ ap (λ (x : Dot). x.value) (sym w.2)

pub never_conflict : (dots : List Dot) (o : ℕ) → first_conflict (values_at o (map without_value dots)) ≡ None
never_conflict dots o = no_conflict (values_at o (map without_value dots)) (λ v w c d. all_zero dots o v c ∙ sym (all_zero dots o w d))

pub counts_kept : (cells : List Cell) (dots kept : List Dot) (count : ℕ) → AreDots cells dots → Keeps (map without_value dots) 0 LAST_OFFSET kept → count ≡ length kept → CountsOffsets cells count
counts_kept cells dots kept count are k is = record {
  dots = dots;
  are_dots = are;
  offsets = map offset_of kept;
  are = record {
    rising = rising_offsets kept k.rising;
    each = λ o c.
        let w = map_in offset_of kept o c in
        let v = map_in without_value dots w.0 (k.each w.0 w.1).0 in
        (v.0, v.1, ap offset_of v.2 ∙ w.2);
    there = λ d c.
        let w = dot_in cells dots d are c in
        let e = k.best (without_value d) (in_map without_value dots d c) (omega arith) (dot_offset w.cell.qual w.cell.value w.dots d w.are w.has) in
        subst (Contains (map offset_of kept)) (sym e.2.offset) (in_map offset_of kept e.0 e.1);
  };
  count_is = is ∙ sym (length-map kept offset_of);
}
