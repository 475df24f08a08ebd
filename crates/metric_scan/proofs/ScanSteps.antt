-- A row that a turn of the scan found.
use Rattle.std.proofs.Common.{◌≡◌, ℕ, ◌+◌, ◌-◌, ◌*◌, ◌%◌, ◌<◌, ◌≤◌, false, List, [], ◌∷◌, ◌++◌, refl, sym, ap, subst, ◌∙◌, arith}
use Rattle.std.specs.Prelude.{Contains, All, Some, IsTrue, if◌then◌else◌}
use Rattle.std.specs.declared.cmp.Ordering.{Ordering}
use Rattle.std.specs.declared.cmp.Ordering.TheVariants.{Less, Equal, Greater}
use Rattle.std.specs.Ordering.{is_lt, nat_cmp, ordering_then}
use Rattle.std.specs.Cmp.{tied_itself, IsTotalOrder, nat_cmp_total, on_total, ranked, then_total}
use Rattle.std.specs.Cmp.Lexicographic.{lists_total, slice_cmp}
use Rattle.std.proofs.lemmas.Bool.{le-leb}
use Rattle.tsd_base.specs.declared.kinds.Kind.{Kind}
use Rattle.tsd_base.specs.declared.kinds.Kind.TheVariants.{TagKey, TagValue}
use Rattle.tsd_base.specs.Alphabet.{IsName}
use Rattle.row_key.specs.declared.widths.Widths.{Widths}
use Rattle.row_key.specs.declared.keys.RowKey.{RowKey}
use Rattle.row_key.specs.declared.tables.Table.TheVariants.{Points}
use Rattle.row_key.specs.Key.{IsKey, key_bytes}
use Rattle.row_key.specs.KeyOrder.{key_cmp, pair_cmp}
use Rattle.qual_codec.specs.declared.cells.Cell.{Cell}
use Rattle.qual_codec.specs.CellDots.{Reads}
use Rattle.cell_model.specs.declared.row.Row.{Row}
use Rattle.cell_model.specs.declared.row.Found.{Found}
use Rattle.cell_model.specs.declared.events.Placed.{Placed}
use Rattle.list_lemmas.specs.BytesOrder.{bytes_cmp}
use Rattle.cell_model.specs.Store.{is_between, next_row_of, value_at}
use Rattle.cell_model.specs.History.{History, len, first, store_after, entry_at}
use Rattle.cell_model.specs.History.History.{Base, Then}
use Rattle.cell_model.specs.IdRows.{id_of}
use Rattle.cell_model.specs.Lawful.{IsLawful}
use Rattle.cell_model.specs.Readings.{point_row}
use Rattle.cell_model.specs.Seen.{Seen, IsPossible, Fits}
use Rattle.cell_model.specs.Deeds.{Made}
use Rattle.row_scan.specs.Scans.{Left, IsNext, left_at, behind}
use Rattle.metric_scan.specs.RowNames.{KnowsPair}
use Rattle.metric_scan.specs.Walks.{FoundRow, OnlyRows}
use Rattle.metric_scan.proofs.Lower as lower

pairs_total : IsTotalOrder (slice_cmp pair_cmp)
pairs_total = lists_total (then_total (on_total (λ (p : ℕ × ℕ). p.0) nat_cmp_total) (on_total (λ (p : ℕ × ℕ). p.1) nat_cmp_total))

-- ---- what is known of a row that was found

-- a next row stands in each history that fits
pub entry_stands : (s t : Seen) (p : Placed) (h : History) → Made s (p ∷ []) t → Fits t h → (p.place ≤ t.length) × (entry_at h p.place ≡ Some p.entry)
entry_stands s t p h made fits = (lower.made_stands s t (p ∷ []) h made fits).each p (lower.here p [])

found_next : (s t : Seen) (left : Left) (p : Placed) (f : Found) (h : History) → Made s (p ∷ []) t → IsNext left (Some f) p → IsLawful h → Fits t h → next_row_of (store_after (first (p.place - 1) h)) Points left.from left.to ≡ Some f
found_next s t left p f h made next lawful fits = lower.placed_next h p left (Some f) lawful (entry_stands s t p h made fits).1 next

first_len : (h : History) → first (len h) h ≡ h
first_len (Base base) = refl
first_len (Then h e) = ap (λ b. if b then Then h e else first (len h + 1) h) (le-leb (len h + 1) (len h + 1) (omega arith))

-- each of its ids is that of a name
named_id : (h : History) (kind : Kind) (id : ℕ) → lower.IsOf (first (len h) h) kind id → (name : List ℕ) × IsName name × (id_of h kind name ≡ Some id)
named_id h kind id o = (o.name, o.is_name, subst (λ (g : History). id_of g kind o.name ≡ Some id) (first_len h) o.id_is)

-- the widths that were seen are those of each beginning
at_place : (t : Seen) (h : History) (n : ℕ) (widths : Widths) → t.base.widths ≡ widths → Fits t h → (store_after (first n h)).widths ≡ widths
at_place t h n widths known fits = lower.same_widths (lower.begins_first n h) ∙ sym (lower.seen_widths t h fits) ∙ known

-- a key of a row that stood is the row's
pub key_stood : (g : History) (widths : Widths) (key : RowKey) → (store_after g).widths ≡ widths → IsKey widths key → (row : lower.StoodRow g (key_bytes widths key)) → key ≡ row.key
key_stood g widths key same is row = lower.one_key (store_after g).widths key row.key (subst (λ (w : Widths). IsKey w key) (sym same) is) row.is_key (ap (λ (w : Widths). key_bytes w key) same ∙ row.row_is)

stood_row : (s t : Seen) (left : Left) (p : Placed) (f : Found) (bytes : List ℕ) (h : History) → Made s (p ∷ []) t → IsNext left (Some f) p → f.row ≡ point_row bytes → IsLawful h → Fits t h → lower.StoodRow (first (len h) h) bytes
stood_row s t left p f bytes h made next row lawful fits =
    let place = p.place in
    let has = lower.next_has (store_after (first (p.place - 1) h)) left.from left.to f (found_next s t left p f h made next lawful fits) in
    let within = (lower.made_stands s t (p ∷ []) h made fits).each p (lower.here p []) in
    let low = within.0 in
    let long = fits.long in
    lower.row_stood h (p.place - 1) (len h) bytes has.0 has.1 lawful (omega (arith, low, long)) (subst (λ (r : Row). value_at (store_after (first (place - 1) h)) r has.0 ≡ Some has.1) row has.2)

knows_pairs : (s t : Seen) (widths : Widths) (left : Left) (p : Placed) (f : Found) (key : RowKey) → t.base.widths ≡ widths → Made s (p ∷ []) t → IsNext left (Some f) p → IsKey widths key → f.row ≡ point_row (key_bytes widths key) → (q : ℕ × ℕ) → Contains key.pairs.items q → KnowsPair t q
knows_pairs s t widths left p f key known made next is row q c =
    let ids : (h : History) → IsLawful h → Fits t h → lower.IsOf (first (len h) h) TagKey q.0 × lower.IsOf (first (len h) h) TagValue q.1 = λ h l fits.
    let st = stood_row s t left p f (key_bytes widths key) h made next row l fits in
    st.tags q (subst (λ (k : RowKey). Contains k.pairs.items q) (key_stood (first (len h) h) widths key (at_place t h (len h) widths known fits) is st) c) in
    (λ h l fits. named_id h TagKey q.0 (ids h l fits).0, λ h l fits. named_id h TagValue q.1 (ids h l fits).1)

-- its cells read
cells_read : (s t : Seen) (left : Left) (p : Placed) (f : Found) → Made s (p ∷ []) t → IsNext left (Some f) p → IsPossible t → f.row.table ≡ Points → All (λ (c : Cell). Reads c.qual c.value) f.cells
cells_read s t left p f made next possible points =
    let h = possible.history in
    let store = store_after (first (p.place - 1) h) in
    let cells = lower.next_cells store left.from left.to f (found_next s t left p f h made next possible.lawful possible.fits) in
    lower.all_of (λ (c : Cell). Reads c.qual c.value) f.cells (λ c i.
    lower.each_reads (first (p.place - 1) h) f.row c.qual c.value (lower.first_lawful h (p.place - 1) possible.lawful) points (lower.cell_at store f.row c (subst (λ (l : List Cell). Contains l c) cells i)))

pub record NextFound (s : Seen) (widths : Widths) (id start end : ℕ) (left : Left) (f : Found) : Type 0 where
  pub row : FoundRow s widths id start end f
  pub from_on : is_lt (bytes_cmp f.row.bytes left.from) ≡ false

pub next_found : (s t : Seen) (widths : Widths) (id start end : ℕ) (left : Left) (p : Placed) (f : Found) → t.base.widths ≡ widths → Made s (p ∷ []) t → IsNext left (Some f) p → IsPossible t → OnlyRows widths id start end left → NextFound t widths id start end left f
next_found s t widths id start end left p f known made next possible only =
    let h = possible.history in
    let k = subst (λ (w : Widths). lower.HasKey w left.from left.to f.row) (at_place t h (p.place - 1) widths known possible.fits) (lower.found_key h (p.place - 1) left.from left.to f possible.lawful (found_next s t left p f h made next possible.lawful possible.fits)) in
    let in_range = subst (λ (r : Row). IsTrue (is_between Points left.from left.to r)) k.row_is (lower.between_is left.from left.to f.row k.between) in
    let r = only k.key k.is_key in_range in
    let row = k.row_is ∙ r.row_is in
    record {
      row = record {
        key = r.key;
        of = record { is_key = r.is_key; row_is = row; metric_is = r.metric_is; from_on = r.from_on; up_to = r.up_to };
        reads = cells_read s t left p f made next possible k.between.in_points;
        knows = knows_pairs s t widths left p f r.key known made next r.is_key row;
      };
      from_on = k.between.from_on;
    }

-- ---- behind it

pub only_from : (widths : Widths) (id start end : ℕ) (left : Left) (from : List ℕ) → OnlyRows widths id start end left → is_lt (bytes_cmp from left.from) ≡ false → OnlyRows widths id start end (left_at left from)
only_from widths id start end left from only on key is in_range =
    let b = lower.between from left.to (point_row (key_bytes widths key)) in_range in
    only key is (lower.between_is left.from left.to (point_row (key_bytes widths key)) (record { in_points = b.in_points; from_on = lower.from_on_from_on left.from from (key_bytes widths key) on b.from_on; below = b.below }))

pub only_behind : (widths : Widths) (id start end : ℕ) (left : Left) (row : Row) → OnlyRows widths id start end left → is_lt (bytes_cmp row.bytes left.from) ≡ false → OnlyRows widths id start end (behind left row)
only_behind widths id start end left row only on =
    only_from widths id start end left (row.bytes ++ 0 ∷ []) only (lower.from_on_from_on left.from row.bytes (row.bytes ++ 0 ∷ []) on (lower.not_back row.bytes (row.bytes ++ 0 ∷ []) (lower.below_behind row.bytes)))

-- rows that were passed are below those that are left
pub below_next : (a : List ℕ) (left : Left) (row : Row) → bytes_cmp a left.from ≡ Less → is_lt (bytes_cmp row.bytes left.from) ≡ false → bytes_cmp a row.bytes ≡ Less
below_next a left row less on = lower.below_from_on a left.from row.bytes less on

pub below_rest : (a : List ℕ) (left : Left) (row : Row) → bytes_cmp a row.bytes ≡ Less → bytes_cmp a (behind left row).from ≡ Less
below_rest a left row less = lower.below_from_on a row.bytes (behind left row).from less (lower.not_back row.bytes (behind left row).from (lower.below_behind row.bytes))

-- ---- the hours of a series rise

then_less : (a b : Ordering) → a ≡ Equal → ordering_then a b ≡ b
then_less a b e = ap (λ r. ordering_then r b) e

first_less : (a b : Ordering) → b ≡ Equal → ordering_then a b ≡ Less → a ≡ Less
first_less Less b e l = refl
first_less Equal b e l = absurd (let x : Equal ≡ Less = sym e ∙ l in cc)
first_less Greater b e l = cc

pub hours_rise : (widths : Widths) (a b : RowKey) → IsKey widths a → IsKey widths b → a.metric ≡ b.metric → a.pairs.items ≡ b.pairs.items → bytes_cmp (key_bytes widths a) (key_bytes widths b) ≡ Less → a.base < b.base
hours_rise widths a b ia ib metric pairs less =
    let keys : key_cmp a b ≡ Less = sym (lower.keys_compare widths a b ia ib) ∙ less in
    let same_metric : nat_cmp a.metric b.metric ≡ Equal = subst (λ n. nat_cmp a.metric n ≡ Equal) metric (tied_itself nat_cmp_total a.metric) in
    let same_pairs : slice_cmp pair_cmp a.pairs.items b.pairs.items ≡ Equal = subst (λ (l : List (ℕ × ℕ)). slice_cmp pair_cmp a.pairs.items l ≡ Equal) pairs (tied_itself pairs_total a.pairs.items) in
    let rest = sym (then_less (nat_cmp a.metric b.metric) (ordering_then (nat_cmp a.base b.base) (slice_cmp pair_cmp a.pairs.items b.pairs.items)) same_metric) ∙ keys in
    ranked a.base b.base Less (sym (first_less (nat_cmp a.base b.base) (slice_cmp pair_cmp a.pairs.items b.pairs.items) same_pairs rest))

-- a time of an earlier hour is before a later one
pub hour_before : (a b offset : ℕ) → a < b → offset ≤ 3599999 → a % 3600 ≡ 0 → b % 3600 ≡ 0 → a * 1000 + offset < b * 1000
hour_before a b offset lt le ha hb = omega (arith, lt, le, ha, hb)
