-- Points made of data points, one after the other.
use Rattle.std.proofs.Common.{◌≡◌, ℕ, zero, suc, ◌+◌, ◌*◌, ◌<◌, ◌≤◌, Bool, true, false, cond, List, [], ◌∷◌, ◌++◌, length, take, drop, get_or, refl, sym, ap, subst, ◌∙◌, arith, take-append-drop, drop-cons, inl, inr}
use Rattle.std.specs.Prelude.{ℤ, Contains, IfOk, IfSome, None, Ok, Err, Option, Result, Some, map, filter, nat_eq, slice_index_or, if◌then◌else◌}
use Rattle.std.proofs.lemmas.List.{get_or_default, map-append, append-nil}
use Rattle.std.proofs.lemmas.List.Elements.{filter-append}
use Rattle.tsd_base.specs.Dots.{IsAboveAll}
use Rattle.qual_codec.specs.declared.cells.Cell.{Cell}
use Rattle.qual_codec.specs.declared.cells.Dot.{Dot}
use Rattle.qual_codec.specs.CellDots.{ArePieces, IsDots, column_qual}
use Rattle.qual_codec.specs.CellSteps.{IsNextPiece}
use Rattle.qual_codec.specs.Merge.{AreDots, MergesTo, is_within}
use Rattle.row_scan.specs.RowTimes.{IsColumnRead, KeepsPoints, dot_at}
use Rattle.row_scan.proofs.Lower as lower
use Rattle.row_scan.proofs.Lower.{Rise, AreRising, RiseBelow}

-- ---- later than points

above : (base time : ℕ) (dots : List Dot) → ((x : Dot) → Contains dots x → base * 1000 + x.item.offset < time) → IsAboveAll time (map (dot_at base) dots)
above base time [] h = tt
above base time (x ∷ dots) h = (h x (lower.here x dots), above base time dots (λ y c. h y (lower.there x y dots c)))

-- ---- the points of a list of data points

around : (dots : List Dot) (i : ℕ) (d : Dot) → i < length dots → d ≡ get_or dots i d → dots ≡ take i dots ++ d ∷ drop (suc i) dots
around dots i d lt is = sym (take-append-drop i dots) ∙ ap (λ (l : List Dot). take i dots ++ l) (drop-cons dots i d lt ∙ ap (λ (x : Dot). x ∷ drop (suc i) dots) (sym is))

pub next_above : (base : ℕ) (dots : List Dot) (i : ℕ) (d : Dot) (points : List (ℕ × ℤ)) → i < length dots → AreRising dots → points ≡ map (dot_at base) (take i dots) → IsAboveAll (base * 1000 + (get_or dots i d).item.offset) points
next_above base dots i d points lt rising is =
    let x = get_or dots i d in
    let cut = around dots i x lt (get_or_default dots i d x lt) in
    subst (IsAboveAll (base * 1000 + x.item.offset)) (sym is)
    (above base (base * 1000 + x.item.offset) (take i dots) (λ y c.
    let b = lower.pairs_before Rise (take i dots) x (drop (suc i) dots) (subst AreRising cut rising) y c in
    omega (arith, b)))

-- ---- the points of cells that are one data point each

-- the data points of the cells rise and are below this offset, and these are the points of those in the range
pub record AreRead (cells : List Cell) (base first last least : ℕ) (points : List (ℕ × ℤ)) : Type 0 where
  pub all : List Dot
  pub are : AreDots cells all
  pub rise : RiseBelow all least
  pub points_are : points ≡ map (dot_at base) (filter (is_within first last) all)

pub none_read : (base first last : ℕ) → AreRead [] base first last 0 []
none_read base first last = record { all = []; are = refl; rise = lower.none_below; points_are = refl }

-- what is from this offset on is later than the points of dots below it
above_read : (base first last least offset : ℕ) (points : List (ℕ × ℤ)) (all : List Dot) → RiseBelow all least → points ≡ map (dot_at base) (filter (is_within first last) all) → least ≤ offset → IsAboveAll (base * 1000 + offset) points
above_read base first last least offset points all rise is from_on =
    subst (IsAboveAll (base * 1000 + offset)) (sym is)
    (above base (base * 1000 + offset) (filter (is_within first last) all) (λ x c.
    let f = lower.in_filter (is_within first last) all x c in
    let b = rise.below x f.0 in
    omega (arith, b, from_on)))

-- a data point from this offset on is later than all of them
pub read_above : (cells : List Cell) (base first last least offset : ℕ) (points : List (ℕ × ℤ)) → AreRead cells base first last least points → least ≤ offset → IsAboveAll (base * 1000 + offset) points
read_above cells base first last least offset points r from_on = above_read base first last least offset points r.all r.rise r.points_are from_on

added : (base : ℕ) (points : List (ℕ × ℤ)) (d : Dot) (b : Bool) → (if b then points ++ dot_at base d ∷ [] else points) ≡ points ++ map (dot_at base) (cond b (d ∷ []) [])
added base points d true = refl
added base points d false = sym (append-nil points)

-- the points of one more
points_next : (base first last : ℕ) (points more : List (ℕ × ℤ)) (all : List Dot) (d : Dot) → points ≡ map (dot_at base) (filter (is_within first last) all) → more ≡ (if is_within first last d then points ++ dot_at base d ∷ [] else points)
    → more ≡ map (dot_at base) (filter (is_within first last) (all ++ d ∷ []))
points_next base first last points more all d is m =
    m ∙ added base points d (is_within first last d)
    ∙ ap (λ (l : List (ℕ × ℤ)). l ++ map (dot_at base) (cond (is_within first last d) (d ∷ []) [])) is
    ∙ sym (map-append (dot_at base) (filter (is_within first last) all) (filter (is_within first last) (d ∷ [])))
    ∙ sym (ap (map (dot_at base)) (filter-append (is_within first last) all (d ∷ [])))

-- the next cell
pub read_next : (cells : List Cell) (i : ℕ) (c : Cell) (qual value : List ℕ) (base first last least next : ℕ) (points more : List (ℕ × ℤ)) (d : Dot) → AreRead (take i cells) base first last least points → i < length cells → c ≡ get_or cells i c → qual ≡ c.qual → value ≡ c.value
    → IsDots qual value (d ∷ []) → least ≤ d.item.offset → next ≡ d.item.offset + 1 → more ≡ (if is_within first last d then points ++ dot_at base d ∷ [] else points)
    → AreRead (take (i + 1) cells) base first last next more
read_next cells i c qual value base first last least next points more d r lt is q v reads from_on n m = record {
  all = r.all ++ d ∷ [];
  are = lower.are_next cells i c qual value r.all (r.all ++ d ∷ []) r.are lt is q v (d ∷ [], refl, inl reads);
  rise = lower.rise_push r.all d least next r.rise from_on n;
  points_are = points_next base first last points more r.all d r.points_are m;
}

-- the points of all
pub read_all : (cells : List Cell) (base first last least : ℕ) (points : List (ℕ × ℤ)) → AreRead cells base first last least points → KeepsPoints cells base first last points
read_all cells base first last least points r = (filter (is_within first last) r.all, (r.all, r.are, lower.keeps_rising r.all first last r.rise.rising), r.points_are)

-- ---- the points of a column's pieces

-- the pieces before `rest` have dots that rise and are below this offset, and these are the points of those in the range
pub record ArePiecesRead (value rest : List ℕ) (base first last least : ℕ) (points : List (ℕ × ℤ)) : Type 0 where
  pub all : List Dot
  pub has : lower.HasPieces value rest [] all
  pub rise : RiseBelow all least
  pub points_are : points ≡ map (dot_at base) (filter (is_within first last) all)

pub no_piece_read : (value : List ℕ) (base first last : ℕ) → ArePiecesRead value value base first last 0 []
no_piece_read value base first last = record { all = []; has = lower.none_yet value []; rise = lower.none_below; points_are = refl }

-- a dot from this offset on is later than all of them
pub piece_above : (value rest : List ℕ) (base first last least offset : ℕ) (points : List (ℕ × ℤ)) → ArePiecesRead value rest base first last least points → least ≤ offset → IsAboveAll (base * 1000 + offset) points
piece_above value rest base first last least offset points r from_on = above_read base first last least offset points r.all r.rise r.points_are from_on

-- the next piece
pub piece_next : (value rest behind : List ℕ) (base first last least next : ℕ) (points more : List (ℕ × ℤ)) (d : Dot) → ArePiecesRead value rest base first last least points → IsNextPiece rest d behind → least ≤ d.item.offset → next ≡ d.item.offset + 1
    → more ≡ (if is_within first last d then points ++ dot_at base d ∷ [] else points) → ArePiecesRead value behind base first last next more
piece_next value rest behind base first last least next points more d r piece from_on n m = record {
  all = r.all ++ d ∷ [];
  has = lower.piece_on value rest behind [] r.all (r.all ++ d ∷ []) d r.has piece refl;
  rise = lower.rise_push r.all d least next r.rise from_on n;
  points_are = points_next base first last points more r.all d r.points_are m;
}

-- bytes that aren't none
pub some_bytes : (b : Bool) (n : ℕ) → b ≡ nat_eq n 0 → b ≡ false → 1 ≤ n
some_bytes b zero e f = let no : true ≡ false = sym e ∙ f in cc
some_bytes b (suc n) e f = omega arith

-- all pieces
pub pieces_read : (value rest : List ℕ) (base first last least : ℕ) (points : List (ℕ × ℤ)) → ArePiecesRead value rest base first last least points → length rest ≡ 0 → 1 ≤ length value → IsColumnRead value base first last points
pieces_read value rest base first last least points r none some =
    let a = lower.all_pieces value rest [] r.all r.has none some in
    record { dots = r.all; pieces = subst (ArePieces value) (sym a.1) a.2; rising = r.rise.rising; points_are = r.points_are }

-- the one cell is this column
pub column_read : (cells : List Cell) (c : Cell) (base first last : ℕ) (points : List (ℕ × ℤ)) → cells ≡ c ∷ [] → c.qual ≡ column_qual → IsColumnRead c.value base first last points → KeepsPoints cells base first last points
column_read cells c base first last points alone is r =
    let are : AreDots (c ∷ []) r.dots = (r.dots, [], inr (record { qual_is = is; pieces = r.pieces }), refl, sym (append-nil r.dots)) in
    (filter (is_within first last) r.dots, (r.dots, subst (λ (l : List Cell). AreDots l r.dots) (sym alone) are, lower.keeps_rising r.dots first last r.rising), r.points_are)

one_cell : (cells : List Cell) (c : Cell) → length cells ≡ 1 → c ≡ slice_index_or cells 0 c → cells ≡ c ∷ []
one_cell [] c len is = absurd (omega (arith, len))
one_cell (x ∷ []) c len is = ap (λ (y : Cell). y ∷ []) (sym is)
one_cell (x ∷ y ∷ cells) c len is = absurd (omega (arith, len))

-- and its points are given, if any
pub column_answer : {E : Type 0} (cells : List Cell) (c : Cell) (value : List ℕ) (base first last : ℕ) (r : Result (Option (List (ℕ × ℤ))) E) → length cells ≡ 1 → c ≡ slice_index_or cells 0 c → c.qual ≡ column_qual → value ≡ c.value
    → IfOk r (λ a. IfSome a (IsColumnRead value base first last)) → IfOk r (λ a. IfSome a (KeepsPoints cells base first last))
column_answer cells c value base first last (Ok (Some points)) len is qual same read = column_read cells c base first last points (one_cell cells c len is) qual (subst (λ (v : List ℕ). IsColumnRead v base first last points) same read)
column_answer cells c value base first last (Ok None) len is qual same read = tt
column_answer cells c value base first last (Err e) len is qual same read = tt

-- the points of those that merging kept
pub kept_points : (cells : List Cell) (base first last : ℕ) (kept slice : List Dot) (points : List (ℕ × ℤ)) → MergesTo cells first last kept → slice ≡ kept → points ≡ map (dot_at base) slice → KeepsPoints cells base first last points
kept_points cells base first last kept slice points m same is = (kept, m, is ∙ ap (map (dot_at base)) same)
