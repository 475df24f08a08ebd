-- Where the rows of a sound store stand: names, ids and points.
use Rattle.std.proofs.Common.{◌≡◌, ◌≢◌, ◌⊎◌, inl, inr, ℕ, ◌+◌, ◌≤◌, ◌<◌, Bool, true, false, List, [], ◌∷◌, ◌++◌, refl, sym, ap, subst, ◌∙◌, append_assoc, ◌%◌, ◌^◌, arith}
use Rattle.std.proofs.lemmas.Bool.Decides.{nat_tests}
use Rattle.std.proofs.lemmas.Cmp.{ranked}
use Rattle.std.specs.Prelude.{Option, Some, None, option_and_then}
use Rattle.std.specs.List.{flat_map, list_all}
use Rattle.std.specs.Int.{w32, to_be_bytes}
use Rattle.std.specs.declared.cmp.Ordering.{Ordering}
use Rattle.std.specs.declared.cmp.Ordering.TheVariants.{Less, Equal, Greater}
use Rattle.std.specs.Ordering.{nat_cmp, ordering_then, is_lt}
use Rattle.std.specs.Cmp.Lexicographic.{nat_list_cmp_total}
use Rattle.tsd_base.specs.declared.kinds.Kind.{Kind}
use Rattle.tsd_base.specs.declared.kinds.Kind.TheVariants.{Metric}
use Rattle.tsd_base.specs.Alphabet.{IsName, is_name_byte}
use Rattle.list_lemmas.specs.BytesOrder.{bytes_cmp}
use Rattle.list_lemmas.proofs.BoolTests.{both_true, not_Some, same_Some}
use Rattle.list_lemmas.proofs.OrderedBytes.{not_below_none}
use Rattle.row_key.specs.declared.tables.Table.{Table}
use Rattle.row_key.specs.declared.tables.Table.TheVariants.{Ids, Names, Points}
use Rattle.row_key.specs.declared.keys.RowKey.{RowKey}
use Rattle.row_key.specs.Key.{IsKey, hour_bytes, id_bytes, key_bytes, most_ids, pair_bytes}
use Rattle.row_key.proofs.CallerLemmas.{hours_between}
use Rattle.cell_model.specs.declared.row.Row.{Row}
use Rattle.cell_model.specs.IdRows.{id_in, id_number, name_row}
use Rattle.cell_model.specs.KindWidths.{Widths}
use Rattle.cell_model.specs.Machine.{counter_of, counter_row, kind_qual}
use Rattle.cell_model.specs.Readings.{point_row}
use Rattle.cell_model.specs.Sound.{IsSound}
use Rattle.cell_model.specs.Store.{Store, row_cmp, value_at}
use Rattle.cell_model.proofs.CallerLemmas.{number-bytes}
use Rattle.cell_laws.proofs.CallerLemmas.{not_zero, same_kind}
use Rattle.listing_print.specs.MetricRows.{metric_end, metric_start}
use Rattle.listing_print.proofs.IdOrder.{id_below}
use Rattle.listing_print.proofs.RowOrder.{behind_row, not_back, not_less}
use Rattle.listing_print.proofs.RowLines.{Gap, NoneFrom, first_row}
use Rattle.listing_print.proofs.NextRows.{row_between}

-- ---- names

byte_range : (b : ℕ) → is_name_byte b ≡ true → (45 ≤ b) × (b ≤ 122)
byte_range b e = (grind (arith, nat_tests), grind (arith, nat_tests))

greater_if : (a b : ℕ) (o : Ordering) → b < a → is_lt (ordering_then (nat_cmp a b) o) ≡ false
greater_if a b o lt = at (nat_cmp a b) refl
  where
    at : (r : Ordering) → r ≡ nat_cmp a b → is_lt (ordering_then r o) ≡ false
    at Less e = let up = ranked a b Less e in absurd (omega (arith, up, lt))
    at Equal e = let same = ranked a b Equal e in absurd (omega (arith, same, lt))
    at Greater e = refl

less_if : (a b : ℕ) (o : Ordering) → a < b → is_lt (ordering_then (nat_cmp a b) o) ≡ true
less_if a b o lt = at (nat_cmp a b) refl
  where
    at : (r : Ordering) → r ≡ nat_cmp a b → is_lt (ordering_then r o) ≡ true
    at Less e = refl
    at Equal e = let same = ranked a b Equal e in absurd (omega (arith, same, lt))
    at Greater e = let up = ranked a b Greater e in absurd (omega (arith, up, lt))

-- a name's bytes are from 1 on and below 123
name_range : (name : List ℕ) → IsName name → (is_lt (bytes_cmp name (1 ∷ [])) ≡ false) × (is_lt (bytes_cmp name (123 ∷ [])) ≡ true)
name_range [] n = let some = n.some in absurd (omega (arith, some))
name_range (b ∷ rest) n =
    let r = byte_range b (both_true (is_name_byte b) (list_all is_name_byte rest) n.alphabet).0 in
    (greater_if b 1 (bytes_cmp rest []) (omega (arith, r.0)), less_if b 123 (bytes_cmp rest []) (omega (arith, r.1)))

pub clash : (b : Bool) → b ≡ true → b ≡ false → ⊥
clash true e f = cc
clash false e f = cc

pub lt_less : (r : Ordering) → is_lt r ≡ true → r ≡ Less
lt_less Less e = refl
lt_less Equal e = cc
lt_less Greater e = cc

below_of : (a b c : List ℕ) → is_lt (bytes_cmp a b) ≡ true → is_lt (bytes_cmp b c) ≡ true → is_lt (bytes_cmp a c) ≡ true
below_of a b c e f = ap is_lt (nat_list_cmp_total.trans a b c (lt_less _ e) (lt_less _ f))

is_name_of : (s : Store) → IsSound s → (name qual value : List ℕ) → name ≢ 0 ∷ [] → value_at s (name_row name) qual ≡ Some value → IsName name
is_name_of s sound name qual value other is = (sound.forward name qual value other is).is_name

pub at_row : (s : Store) (row : Row) (table : Table) (qual value : List ℕ) → row.table ≡ table → value_at s row qual ≡ Some value → value_at s (record { table = table; bytes = row.bytes }) qual ≡ Some value
at_row s row table qual value e is = subst (λ (t : Table). value_at s (record { table = t; bytes = row.bytes }) qual ≡ Some value) e is

-- before the counters there is no row
pub before_counters : (s : Store) → IsSound s → Gap s first_row counter_row
before_counters s sound row qual value is on below =
    let b = row_between Ids [] (0 ∷ []) row on below in
    let other : row.bytes ≢ 0 ∷ [] = λ e. clash (is_lt (bytes_cmp row.bytes (0 ∷ []))) b.below (ap (λ (xs : List ℕ). is_lt (bytes_cmp xs (0 ∷ []))) e) in
    let n = name_range row.bytes (is_name_of s sound row.bytes qual value other (at_row s row Ids qual value b.in_table is)) in
    clash (is_lt (bytes_cmp row.bytes (1 ∷ []))) (below_of row.bytes (0 ∷ []) (1 ∷ []) b.below refl) n.0

-- and none is between them and the names
pub behind_counters : (s : Store) → IsSound s → Gap s (behind_row counter_row) (record { table = Ids; bytes = 1 ∷ [] })
behind_counters s sound row qual value is on below =
    let b = row_between Ids (0 ∷ 0 ∷ []) (1 ∷ []) row on below in
    let other : row.bytes ≢ 0 ∷ [] = λ e. clash (is_lt (bytes_cmp row.bytes (0 ∷ 0 ∷ []))) (ap (λ (xs : List ℕ). is_lt (bytes_cmp xs (0 ∷ 0 ∷ []))) e) b.from_on in
    let n = name_range row.bytes (is_name_of s sound row.bytes qual value other (at_row s row Ids qual value b.in_table is)) in
    clash (is_lt (bytes_cmp row.bytes (1 ∷ []))) b.below n.0

-- and none behind the names
pub behind_names : (s : Store) → IsSound s → Gap s (record { table = Ids; bytes = 123 ∷ [] }) (record { table = Names; bytes = [] })
behind_names s sound row qual value is on below = at row.table refl on below
  where
    at : (t : Table) → row.table ≡ t → is_lt (row_cmp (record { table = t; bytes = row.bytes }) (record { table = Ids; bytes = 123 ∷ [] })) ≡ false → is_lt (row_cmp (record { table = t; bytes = row.bytes }) (record { table = Names; bytes = [] })) ≡ true → ⊥
    at Ids e on below =
        let other : row.bytes ≢ 0 ∷ [] = λ f. clash (is_lt (bytes_cmp row.bytes (123 ∷ []))) (ap (λ (xs : List ℕ). is_lt (bytes_cmp xs (123 ∷ []))) f) on in
        clash (is_lt (bytes_cmp row.bytes (123 ∷ []))) (name_range row.bytes (is_name_of s sound row.bytes qual value other (at_row s row Ids qual value e is))).1 on
    at Names e on below = clash (is_lt (bytes_cmp row.bytes [])) below (not_below_none row.bytes)
    at Points e on below = cc

-- ---- points

pub le_or_gt : (a b : ℕ) → (a ≤ b) ⊎ (b < a)
le_or_gt a b = at (nat_cmp a b) refl
  where
    at : (r : Ordering) → r ≡ nat_cmp a b → (a ≤ b) ⊎ (b < a)
    at Less e = let up = ranked a b Less e in inl (omega (arith, up))
    at Equal e = let same = ranked a b Equal e in inl (omega (arith, same))
    at Greater e = inr (ranked a b Greater e)

-- a row of points has a key, whose metric isn't above the counter
pub record HasMetric (s : Store) (bytes : List ℕ) : Type 0 where
  pub key : RowKey
  pub is_key : IsKey s.widths key
  pub bytes_are : bytes ≡ key_bytes s.widths key
  pub counted : key.metric ≤ counter_of s Metric

value_of : (o : Option (List ℕ)) (id : ℕ) → option_and_then id_number o ≡ Some id → (value : List ℕ) × (o ≡ Some value) × (id_number value ≡ Some id)
value_of None id e = absurd (not_Some id (sym e))
value_of (Some value) id e = (value, refl, e)

metric_counted : (s : Store) → IsSound s → (name : List ℕ) (id : ℕ) → IsName name → id_in s Metric name ≡ Some id → id ≤ counter_of s Metric
metric_counted s sound name id n is =
    let v = value_of (value_at s (name_row name) (kind_qual Metric)) id is in
    let f = sound.forward name (kind_qual Metric) v.0 (not_zero name n) v.1 in
    let kind_is : f.kind ≡ Metric = sym (same_kind Metric f.kind f.is_kind) in
    let number : id_number v.0 ≡ Some f.id = ap id_number f.value_is ∙ number-bytes s.widths f.kind f.id f.given.is_id.1 in
    let same : f.id ≡ id = same_Some f.id id (sym number ∙ v.2) in
    let counted : f.id ≤ counter_of s Metric = subst (λ (k : Kind). f.id ≤ counter_of s k) kind_is f.given.counted in
    subst (λ (n : ℕ). n ≤ counter_of s Metric) same counted

pub has_metric : (s : Store) → IsSound s → (row : Row) (qual value : List ℕ) → row.table ≡ Points → value_at s row qual ≡ Some value → HasMetric s row.bytes
has_metric s sound row qual value e is =
    let r = sound.rows row qual value e is in
    record { key = r.key; is_key = r.is_key; bytes_are = r.row_is; counted = metric_counted s sound r.name r.key.metric r.is_name r.metric_is }

key_parts : (w : Widths) (key : RowKey) → key_bytes w key ≡ id_bytes w.metric key.metric ++ (to_be_bytes w32 key.base ++ flat_map (pair_bytes w) key.pairs.items)
key_parts w key = append_assoc (id_bytes w.metric key.metric) (to_be_bytes w32 key.base) (flat_map (pair_bytes w) key.pairs.items)

-- a key of a lesser metric is below, and one of a greater metric isn't
lesser_metric : (w : Widths) (key : RowKey) (metric base : ℕ) → key.metric < metric → metric ≤ most_ids w.metric → bytes_cmp (key_bytes w key) (hour_bytes w metric base) ≡ Less
lesser_metric w key metric base lt most =
    ap (λ (xs : List ℕ). bytes_cmp xs (hour_bytes w metric base)) (key_parts w key) ∙ id_below w.metric w.metric_fits key.metric metric (to_be_bytes w32 key.base ++ flat_map (pair_bytes w) key.pairs.items) (to_be_bytes w32 base) lt most

pub greater_metric : (w : Widths) (key : RowKey) (metric base : ℕ) → IsKey w key → metric < key.metric → is_lt (bytes_cmp (key_bytes w key) (hour_bytes w metric base)) ≡ false
greater_metric w key metric base is lt =
    not_back nat_list_cmp_total (hour_bytes w metric base) (key_bytes w key)
    (ap (bytes_cmp (hour_bytes w metric base)) (key_parts w key) ∙ id_below w.metric w.metric_fits metric key.metric (to_be_bytes w32 base) (to_be_bytes w32 key.base ++ flat_map (pair_bytes w) key.pairs.items) lt is.metric.1)

no_last_second : (base : ℕ) → base < 2 ^ 32 → base % 3600 ≡ 0 → base < 4294967295
no_last_second base lt hour = omega (arith, lt, hour)

-- the keys of a metric are from its beginning on and below its end
own_metric : (w : Widths) (key : RowKey) → IsKey w key → (is_lt (bytes_cmp (key_bytes w key) (metric_start w key.metric)) ≡ false) × (bytes_cmp (key_bytes w key) (metric_end w key.metric) ≡ Less)
own_metric w key is = (hours_between w key key.metric 0 4294967295 is is.metric.1 (omega arith) (omega arith)).1 (refl, omega arith, no_last_second key.base is.base is.hour)

-- a metric up to this one is below its end
up_to : (w : Widths) (key : RowKey) (metric : ℕ) → IsKey w key → key.metric ≤ metric → metric ≤ most_ids w.metric → bytes_cmp (key_bytes w key) (metric_end w metric) ≡ Less
up_to w key metric is le most = at (nat_cmp key.metric metric) refl
  where
    at : (r : Ordering) → r ≡ nat_cmp key.metric metric → bytes_cmp (key_bytes w key) (metric_end w metric) ≡ Less
    at Less e = lesser_metric w key metric 4294967295 (ranked key.metric metric Less e) most
    at Equal e = subst (λ (n : ℕ). bytes_cmp (key_bytes w key) (metric_end w n) ≡ Less) (ranked key.metric metric Equal e) (own_metric w key is).1
    at Greater e = let up = ranked key.metric metric Greater e in absurd (omega (arith, up, le))

-- a metric from this one on isn't below its beginning
from_metric : (w : Widths) (key : RowKey) (metric : ℕ) → IsKey w key → metric ≤ key.metric → is_lt (bytes_cmp (key_bytes w key) (metric_start w metric)) ≡ false
from_metric w key metric is le = at (nat_cmp metric key.metric) refl
  where
    at : (r : Ordering) → r ≡ nat_cmp metric key.metric → is_lt (bytes_cmp (key_bytes w key) (metric_start w metric)) ≡ false
    at Less e = greater_metric w key metric 0 is (ranked metric key.metric Less e)
    at Equal e = subst (λ (n : ℕ). is_lt (bytes_cmp (key_bytes w key) (metric_start w n)) ≡ false) (sym (ranked metric key.metric Equal e)) (own_metric w key is).0
    at Greater e = let up = ranked metric key.metric Greater e in absurd (omega (arith, up, le))

-- between the end of a metric and the beginning of the next one there is no row
pub between_metrics : (s : Store) → IsSound s → (metric : ℕ) → metric + 1 ≤ most_ids s.widths.metric → Gap s (point_row (metric_end s.widths metric)) (point_row (metric_start s.widths (metric + 1)))
between_metrics s sound metric most row qual value is on below =
    let b = row_between Points (metric_end s.widths metric) (metric_start s.widths (metric + 1)) row on below in
    let m = has_metric s sound row qual value b.in_table is in
    let on_end : is_lt (bytes_cmp (key_bytes s.widths m.key) (metric_end s.widths metric)) ≡ false = subst (λ (xs : List ℕ). is_lt (bytes_cmp xs (metric_end s.widths metric)) ≡ false) m.bytes_are b.from_on in
    let before : is_lt (bytes_cmp (key_bytes s.widths m.key) (metric_start s.widths (metric + 1))) ≡ true = subst (λ (xs : List ℕ). is_lt (bytes_cmp xs (metric_start s.widths (metric + 1))) ≡ true) m.bytes_are b.below in
    elim (le_or_gt m.key.metric metric) [
      | inl le ↦ not_less _ (up_to s.widths m.key metric m.is_key le (omega (arith, most))) on_end
      | inr gt ↦ clash _ before (from_metric s.widths m.key (metric + 1) m.is_key (omega (arith, gt)))
    ]

-- behind the last metric there is no row
pub behind_metrics : (s : Store) → IsSound s → counter_of s Metric ≤ most_ids s.widths.metric → NoneFrom s (point_row (metric_end s.widths (counter_of s Metric)))
behind_metrics s sound most row qual value is on = at row.table refl on
  where
    at : (t : Table) → row.table ≡ t → is_lt (row_cmp (record { table = t; bytes = row.bytes }) (point_row (metric_end s.widths (counter_of s Metric)))) ≡ false → ⊥
    at Ids e on = cc
    at Names e on = cc
    at Points e on =
        let m = has_metric s sound row qual value e is in
        not_less _ (up_to s.widths m.key (counter_of s Metric) m.is_key m.counted most) (subst (λ (xs : List ℕ). is_lt (bytes_cmp xs (metric_end s.widths (counter_of s Metric))) ≡ false) m.bytes_are on)
