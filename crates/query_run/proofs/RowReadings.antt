-- The readings of a row that are wanted, by its data points.
use Rattle.std.proofs.Common.{◌≡◌, ◌⊎◌, inl, inr, ℕ, ◌+◌, ◌*◌, ◌/◌, ◌≤◌, Bool, true, false, List, [], ◌∷◌, ◌++◌, refl, sym, ap, subst, ◌∙◌, arith}
use Rattle.std.specs.Prelude.{Contains, Option, Some, IsTrue, nat_le, ◌&&◌}
use Rattle.std.specs.declared.cmp.Ordering.TheVariants.{Less}
use Rattle.std.specs.Cmp.Lexicographic.{bytes_decides, nat_list_cmp_total}
use Rattle.std.specs.Cmp.{tied_itself}
use Rattle.std.proofs.lemmas.Bool.{le-leb, leb-true}
use Rattle.std.proofs.lemmas.List.Elements.{Contains-append_left, Contains-append_right, Contains-append_cases}
use Rattle.tsd_base.specs.declared.kinds.Kind.{Kind}
use Rattle.tsd_base.specs.declared.kinds.Kind.TheVariants.{Metric}
use Rattle.tsd_base.specs.TagList.{Pair, is_same}
use Rattle.list_lemmas.specs.BytesOrder.{bytes_cmp}
use Rattle.row_key.specs.declared.widths.Widths.{Widths}
use Rattle.row_key.specs.declared.keys.RowKey.{RowKey}
use Rattle.qual_codec.specs.declared.cells.Cell.{Cell}
use Rattle.qual_codec.specs.declared.cells.Dot.{Dot}
use Rattle.qual_codec.specs.CellDots.{HoldsDots}
use Rattle.cell_model.specs.declared.row.Row.{Row}
use Rattle.cell_model.specs.declared.row.Found.{Found}
use Rattle.cell_model.specs.Layout.{base_time}
use Rattle.cell_model.specs.Readings.{Reading, OneValued, Named}
use Rattle.qual_codec.specs.Merge.{AreDots, values_at}
use Rattle.row_scan.specs.RowReadings.{RowReads, Chosen, BySeries}
use Rattle.query_text.specs.declared.queries.Filter.{Filter}
use Rattle.tag_match.specs.Patterns.{passes}
use Rattle.query_run.specs.AskedQueries.{is_wanted}
use Rattle.query_run.specs.RowDots.{IsIn}
use Rattle.metric_scan.specs.Walks.{Picks, KeyOf}
use Rattle.query_run.specs.Collection.{RowIsConflictFree}
use Rattle.query_run.proofs.Lower as lower
use Rattle.query_run.proofs.RowPoints.{one_value}

-- ---- what is wanted

both : (a b : Bool) → (a && b) ≡ true → (a ≡ true) × (b ≡ true)
both true b e = (refl, e)
both false b e = cc

and_true : (a b : Bool) → a ≡ true → b ≡ true → (a && b) ≡ true
and_true true b e f = f
and_true false b e f = cc

pub record Asks (start end : ℕ) (metric : List ℕ) (filters : List Filter) (r : Reading) : Type 0 where
  pub metric_is : r.metric ≡ metric
  pub within : IsIn start end r.time
  pub passed : passes filters r.tags ≡ true

pub asks : (start end : ℕ) (metric : List ℕ) (filters : List Filter) (r : Reading) → IsTrue (is_wanted start end metric filters r) → Asks start end metric filters r
asks start end metric filters r w =
    let m = both (is_same r.metric metric) (nat_le start r.time && (nat_le r.time end && passes filters r.tags)) w in
    let t = both (nat_le start r.time) (nat_le r.time end && passes filters r.tags) m.1 in
    let u = both (nat_le r.time end) (passes filters r.tags) t.1 in
    record { metric_is = (bytes_decides r.metric metric).0 m.0; within = (leb-true start r.time t.0, leb-true r.time end u.0); passed = u.1 }

pub is_asked : (start end : ℕ) (metric : List ℕ) (filters : List Filter) (r : Reading) → r.metric ≡ metric → IsIn start end r.time → passes filters r.tags ≡ true → IsTrue (is_wanted start end metric filters r)
is_asked start end metric filters r m t p =
    and_true (is_same r.metric metric) (nat_le start r.time && (nat_le r.time end && passes filters r.tags)) ((bytes_decides r.metric metric).1 m)
    (and_true (nat_le start r.time) (nat_le r.time end && passes filters r.tags) (le-leb start r.time t.0) (and_true (nat_le r.time end) (passes filters r.tags) (le-leb r.time end t.1) p))

pub by_series : (start end : ℕ) (metric : List ℕ) (filters : List Filter) → BySeries (is_wanted start end metric filters)
by_series start end metric filters a b m = λ i. is_same (m.metric i) metric && (nat_le start (m.time i) && (nat_le (m.time i) end && passes filters (m.tags i)))

pub hours_within : (start end time : ℕ) → IsIn start end time → (base_time start ≤ base_time time) × (base_time time ≤ base_time end)
hours_within start end time w = (low start time w.0, low time end w.1)
  where
    low : (a b : ℕ) → a ≤ b → a / 3600000 * 3600 ≤ b / 3600000 * 3600
    low a b le = omega (arith, le)

-- ---- the data points of a row's cells

pub record CellOf (cells : List Cell) (x : Dot) : Type 0 where
  pub cell : Cell
  pub among : Contains cells cell
  pub dots : List Dot
  pub reads : HoldsDots cell.qual cell.value dots
  pub there : Contains dots x

pub cell_of_dot : (cells : List Cell) (all : List Dot) (x : Dot) → AreDots cells all → Contains all x → CellOf cells x
cell_of_dot [] all x are c = absurd (lower.not_in x (subst (λ (l : List Dot). Contains l x) are c))
cell_of_dot (k ∷ cells) all x are c =
    elim (Contains-append_cases are.0 are.1 x (subst (λ (l : List Dot). Contains l x) are.4 c)) [
      | inl l ↦ record { cell = k; among = lower.here k cells; dots = are.0; reads = are.2; there = l }
      | inr r ↦ (let w = cell_of_dot cells are.1 x are.3 r in record { cell = w.cell; among = lower.there k w.cell cells w.among; dots = w.dots; reads = w.reads; there = w.there })
    ]

pub dot_of_cell : (cells : List Cell) (all : List Dot) (cell : Cell) (dots : List Dot) (x : Dot) → AreDots cells all → Contains cells cell → HoldsDots cell.qual cell.value dots → Contains dots x → Contains all x
dot_of_cell [] all cell dots x are c is i = absurd (lower.not_in cell c)
dot_of_cell (k ∷ cells) all cell dots x are c is i = subst (λ (l : List Dot). Contains l x) (sym are.4) (at (lower.split k cell cells c) (dot_of_cell cells are.1 cell dots x are.3))
  where
    at : (k ≡ cell) ⊎ Contains cells cell → (Contains cells cell → HoldsDots cell.qual cell.value dots → Contains dots x → Contains are.1 x) → Contains (are.0 ++ are.1) x
    at (inl same) go =
        let one = lower.one_dots cell.qual cell.value dots are.0 is (subst (λ (z : Cell). HoldsDots z.qual z.value are.0) same are.2) in
        Contains-append_left are.0 are.1 x (subst (λ (l : List Dot). Contains l x) one i)
    at (inr later) go = Contains-append_right are.0 are.1 x (go later is i)

-- the data points of cells are one list
pub same_dots : (cells : List Cell) (a b : List Dot) → AreDots cells a → AreDots cells b → a ≡ b
same_dots [] a b x y = x ∙ sym y
same_dots (k ∷ cells) a b x y =
    let one = lower.one_dots k.qual k.value x.0 y.0 x.2 y.2 in
    let rest = same_dots cells x.1 y.1 x.3 y.3 in
    x.4 ∙ (λ i. one i ++ rest i) ∙ sym y.4

-- ---- the readings of a row

-- a reading of the row is one of its data points
pub record ReadsDot (names : Kind → ℕ → Option (List ℕ)) (key : RowKey) (all : List Dot) (r : Reading) : Type 0 where
  pub dot : Dot
  pub there : Contains all dot
  pub metric_is : names Metric key.metric ≡ Some r.metric
  pub tags_are : Named names key.pairs.items r.tags
  pub time_is : r.time ≡ key.base * 1000 + dot.item.offset
  pub value_is : r.value ≡ dot.value

pub reads_dot : (names : Kind → ℕ → Option (List ℕ)) (widths : Widths) (id start end : ℕ) (f : Found) (key : RowKey) (all : List Dot) (r : Reading) → KeyOf widths id start end f key → AreDots f.cells all → RowReads widths names f r → ReadsDot names key all r
reads_dot names widths id start end f key all r of are x =
    let d = x.reads.dot_reads in
    let same : d.key ≡ key = lower.one_key widths d.key key d.is_key of.is_key (sym d.row_is ∙ ap (λ (w : Row). w.bytes) of.row_is) in
    record {
      dot = x.reads.dot;
      there = dot_of_cell f.cells all x.cell x.reads.dots x.reads.dot are x.among x.reads.reads x.reads.among;
      metric_is = subst (λ (k : RowKey). names Metric k.metric ≡ Some r.metric) same d.metric_is;
      tags_are = subst (λ (k : RowKey). Named names k.pairs.items r.tags) same d.tags_are;
      time_is = d.time_is ∙ ap (λ (k : RowKey). k.base * 1000 + x.reads.dot.item.offset) same;
      value_is = d.value_is;
    }

-- the tags of a reading of the row have the names of its ids
pub read_tags : (names : Kind → ℕ → Option (List ℕ)) (widths : Widths) (id start end : ℕ) (f : Found) (key : RowKey) (r : Reading) → KeyOf widths id start end f key → RowReads widths names f r → Named names key.pairs.items r.tags
read_tags names widths id start end f key r of x =
    let d = x.reads.dot_reads in
    let same : d.key ≡ key = lower.one_key widths d.key key d.is_key of.is_key (sym d.row_is ∙ ap (λ (w : Row). w.bytes) of.row_is) in
    subst (λ (k : RowKey). Named names k.pairs.items r.tags) same d.tags_are

-- and each data point, with names, is a reading
pub dot_reads : (names : Kind → ℕ → Option (List ℕ)) (widths : Widths) (id start end : ℕ) (f : Found) (key : RowKey) (all : List Dot) (r : Reading) → KeyOf widths id start end f key → AreDots f.cells all → ReadsDot names key all r → RowReads widths names f r
dot_reads names widths id start end f key all r of are x =
    let c = cell_of_dot f.cells all x.dot are x.there in
    record {
      cell = c.cell;
      among = c.among;
      reads = record {
        dots = c.dots;
        reads = c.reads;
        dot = x.dot;
        among = c.there;
        dot_reads = record { key = key; is_key = of.is_key; row_is = ap (λ (w : Row). w.bytes) of.row_is; metric_is = x.metric_is; tags_are = x.tags_are; time_is = x.time_is; value_is = x.value_is };
      };
    }

same_offset : (base a b s t : ℕ) → s ≡ base * 1000 + a → t ≡ base * 1000 + b → s ≡ t → a ≡ b
same_offset base a b s t x y e = omega (arith, x, y, e)

-- the row is asked for exactly where its tags pass the filters
abbrev pub PicksBy : Picks → List Filter → (Kind → ℕ → Option (List ℕ)) → RowKey → Type 0
PicksBy picks filters names key = (tags : List Pair) → Named names key.pairs.items tags → picks key.pairs.items ≡ passes filters tags

-- at one time a conflict_free row has one value
pub conflict_free_row : (picks : Picks) (names : Kind → ℕ → Option (List ℕ)) (widths : Widths) (id start end : ℕ) (metric : List ℕ) (filters : List Filter) (f : Found) → (c : RowIsConflictFree picks widths id start end f) → PicksBy picks filters names c.key → OneValued (Chosen (is_wanted start end metric filters) (RowReads widths names f))
conflict_free_row picks names widths id start end metric filters f c by a b x y meets =
    let w = asks start end metric filters a x.1 in
    let tags = read_tags names widths id start end f c.key a c.of x.0 in
    let conflict_free = c.conflict_free (by a.tags tags ∙ w.passed) in
    let p = reads_dot names widths id start end f c.key conflict_free.all a c.of conflict_free.are x.0 in
    let q = reads_dot names widths id start end f c.key conflict_free.all b c.of conflict_free.are y.0 in
    let offset = same_offset c.key.base p.dot.item.offset q.dot.item.offset a.time b.time p.time_is q.time_is meets.time in
    let none = conflict_free.one p.dot.item.offset (subst (IsIn start end) p.time_is w.within) in
    p.value_is ∙ one_value (values_at p.dot.item.offset conflict_free.all) none p.dot.value q.dot.value (lower.dot_value conflict_free.all p.dot p.dot.item.offset p.there refl) (lower.dot_value conflict_free.all q.dot p.dot.item.offset q.there (sym offset)) ∙ sym q.value_is

-- ---- tags are one

not_less_itself : (x : List ℕ) → bytes_cmp x x ≡ Less → ⊥
not_less_itself x e = let t = tied_itself nat_list_cmp_total x in cc

tags_asym : (s t : Pair) → bytes_cmp s.0 t.0 ≡ Less → bytes_cmp t.0 s.0 ≡ Less → ⊥
tags_asym s t x y = not_less_itself s.0 (nat_list_cmp_total.trans s.0 t.0 s.0 x y)

same_Some : {X : Type 0} (x y : X) → ◌≡◌ {A = Option X} (Some x) (Some y) → x ≡ y
same_Some x y e = cc

tags_within : (names : Kind → ℕ → Option (List ℕ)) (pairs : List (ℕ × ℕ)) (s t : List Pair) → Named names pairs s → Named names pairs t → (z : Pair) → Contains s z → Contains t z
tags_within names pairs s t x y z c =
    let p = x.back z c in
    let u = y.each p.0 p.1 in
    let k = same_Some u.0.0 z.0 (sym u.2.0 ∙ p.2.0) in
    let v = same_Some u.0.1 z.1 (sym u.2.1 ∙ p.2.1) in
    let same : ◌≡◌ {A = Pair} u.0 z = λ i. (k i, v i) in
    subst (Contains t) same u.1

pub same_tags : (names : Kind → ℕ → Option (List ℕ)) (pairs : List (ℕ × ℕ)) (s t : List Pair) → Named names pairs s → Named names pairs t → s ≡ t
same_tags names pairs s t x y = lower.same_rising (λ (p q : Pair). bytes_cmp p.0 q.0 ≡ Less) tags_asym s t x.rising y.rising (tags_within names pairs s t x y) (tags_within names pairs t s y x)
