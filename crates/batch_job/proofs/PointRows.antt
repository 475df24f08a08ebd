-- A row with the bytes of a key, a cell of which reads as data points, is a point row.
use Rattle.std.proofs.Common.{◌≡◌, ◌≢◌, inl, inr, ℕ, ℤ, ◌+◌, ◌-◌, ◌*◌, ◌/◌, ◌%◌, ◌≤◌, Bool, true, false, List, [], ◌∷◌, ◌++◌, length, get_or, refl, sym, ap, subst, ◌∙◌, arith, length-append, lt-ltb}
use Rattle.std.specs.Prelude.{Some, if◌then◌else◌}
use Rattle.std.specs.Int.{w16, w32, to_be_bytes}
use Rattle.std.specs.List.{flat_map}
use Rattle.std.proofs.lemmas.List.Elements.{All-head, All-tail}
use Rattle.row_key.specs.declared.keys.RowKey.{RowKey}
use Rattle.row_key.specs.declared.tables.Table.{Table}
use Rattle.row_key.specs.declared.tables.Table.TheVariants.{Ids, Names, Points}
use Rattle.row_key.specs.declared.widths.Widths.{Widths}
use Rattle.row_key.specs.Key.{key_bytes}
use Rattle.row_key.specs.Made.{three}
use Rattle.qual_codec.specs.declared.cells.Dot.{Dot}
use Rattle.qual_codec.specs.CellDots.{HoldsDots, IsDots, column_qual, has_both, items_of, number_bytes, tail_for, tail_of, value_bytes}
use Rattle.qual_codec.specs.Items.{IsItem, IsLength, fields_of, item_bytes}
use Rattle.qual_codec.specs.Items.IsLength.{one, two, four, eight}
use Rattle.tsd_base.specs.declared.kinds.Kind.{Kind}
use Rattle.tsd_base.specs.declared.kinds.Kind.TheVariants.{Metric, TagKey, TagValue}
use Rattle.cell_model.specs.declared.row.Row.{Row}
use Rattle.cell_model.specs.KindWidths.{kind_bytes, width_of}
use Rattle.cell_model.specs.Machine.{kind_qual}
use Rattle.cell_model.specs.Sound.{IsSound}
use Rattle.cell_model.specs.Store.{Store, value_at}
use Rattle.batch_job.proofs.Lower.{even_items, key_length, length_bytes, long_fields}

-- ---- a cell of the table of ids reads as no data points
number_len : (len : ℕ) → IsLength len → (v : ℤ) → length (number_bytes len v) ≡ len
number_len _ one v = refl
number_len _ two v = refl
number_len _ four v = refl
number_len _ eight v = refl

not_three : (len : ℕ) → IsLength len → len ≡ 3 → ⊥
not_three _ one e = absurd (omega (arith, e))
not_three _ two e = absurd (omega (arith, e))
not_three _ four e = absurd (omega (arith, e))
not_three _ eight e = absurd (omega (arith, e))

some_len : (len : ℕ) → IsLength len → 1 ≤ len
some_len _ one = omega arith
some_len _ two = omega arith
some_len _ four = omega arith
some_len _ eight = omega arith

-- the first of two items isn't in seconds with a value of one byte
first_item : (b : Bool) (n m flags : ℕ) (rest : List ℕ) (x z w : ℕ) → flags ≡ 0 → 2 ≤ length rest → (if b then to_be_bytes w32 n else to_be_bytes w16 (m * 16 + flags)) ++ rest ≡ x ∷ 97 ∷ z ∷ w ∷ [] → ⊥
first_item true n m flags rest x z w none long e = let l = ap length e in absurd (omega (arith, l, long))
first_item false n m flags rest x z w none long e =
    let h : (m * 16 + flags) % 256 ≡ 97 = ap (λ (xs : List ℕ). get_or xs 1 0) e in
    absurd (omega (arith, h, none))

one_tail : (count : ℕ) (both : Bool) → 2 ≤ count → length (tail_for count both) ≡ 1
one_tail count both le = ap (λ (b : Bool). length {A = ℕ} (if b then (if both then 1 else 0) ∷ [] else [])) (lt-ltb 1 count (omega (arith, le)))

four_bytes : (x z w : ℕ) (value : List ℕ) (dots : List Dot) → length value ≡ 3 → IsDots (x ∷ 97 ∷ z ∷ w ∷ []) value dots → ⊥
four_bytes x z w value [] three d = let some = d.items.some in absurd (omega (arith, some))
four_bytes x z w value (a ∷ []) three d =
    let item = All-head IsItem a.item [] d.items.each in
    let all = ap length d.value_is in
    let outer = length-append (value_bytes a ++ []) [] in
    let inner = length-append (value_bytes a) [] in
    let len = number_len a.item.len item.len a.value in
    absurd (not_three a.item.len item.len (omega (arith, all, outer, inner, len, three)))
four_bytes x z w value (a ∷ b ∷ dots) three d =
    let first = All-head IsItem a.item (b.item ∷ items_of dots) d.items.each in
    let second = All-head IsItem b.item (items_of dots) (All-tail IsItem a.item (b.item ∷ items_of dots) d.items.each) in
    let values = flat_map value_bytes dots in
    let all = ap length d.value_is in
    let outer = length-append (value_bytes a ++ (value_bytes b ++ values)) (tail_of (items_of (a ∷ b ∷ dots))) in
    let left = length-append (value_bytes a) (value_bytes b ++ values) in
    let right = length-append (value_bytes b) values in
    let la = number_len a.item.len first.len a.value in
    let lb = number_len b.item.len second.len b.value in
    let sa = some_len a.item.len first.len in
    let sb = some_len b.item.len second.len in
    let tail : length (tail_of (items_of (a ∷ b ∷ dots))) ≡ 1 = one_tail (length (items_of (a ∷ b ∷ dots))) (has_both (items_of (a ∷ b ∷ dots))) (omega arith) in
    let none : a.item.len - 1 ≡ 0 = omega (arith, all, outer, left, right, la, lb, sa, sb, tail, three) in
    let rest = item_bytes b.item ++ flat_map item_bytes (items_of dots) in
    let joined = length-append (item_bytes b.item) (flat_map item_bytes (items_of dots)) in
    let long = long_fields (fields_of b.item) in
    first_item a.item.fine _ (a.item.offset / 1000) (a.item.len - 1) rest x z w none (omega (arith, joined, long)) (sym d.items.qual_is)

-- the qualifier of an id isn't the column's, by its length
no_column : (kind : Kind) → kind_qual kind ≡ column_qual → ⊥
no_column Metric e = let l = ap length e in absurd (omega (arith, l))
no_column TagKey e = let l = ap length e in absurd (omega (arith, l))
no_column TagValue e = let l = ap length e in absurd (omega (arith, l))

no_dots : (kind : Kind) (value : List ℕ) (dots : List Dot) → length value ≡ 3 → HoldsDots (kind_qual kind) value dots → ⊥
no_dots kind value dots three (inr d) = no_column kind d.qual_is
no_dots Metric value dots three (inl d) = let even = even_items (items_of dots) in let l = ap length d.items.qual_is in absurd (omega (arith, even, l))
no_dots TagKey value dots three (inl d) = four_bytes 116 103 107 value dots three d
no_dots TagValue value dots three (inl d) = four_bytes 116 103 118 value dots three d

-- ---- a key has more bytes than an id
long_key : (w : Widths) (key : RowKey) → w.metric + 4 ≤ length (key_bytes w key)
long_key w key = let l = key_length w key in omega (arith, l)

-- an id has three bytes, where each kind's have
three_bytes : (w : Widths) (kind : Kind) (id : ℕ) → w ≡ three → length (kind_bytes w kind id) ≡ 3
three_bytes w kind id same = length_bytes (width_of w kind) id ∙ ap (λ (x : Widths). width_of x kind) same ∙ at kind
  where
    at : (k : Kind) → width_of three k ≡ 3
    at Metric = refl
    at TagKey = refl
    at TagValue = refl

pub in_points : (s : Store) (row : Row) (qual value : List ℕ) (dots : List Dot) (key : RowKey) → IsSound s → value_at s row qual ≡ Some value → HoldsDots qual value dots → row.bytes ≡ key_bytes s.widths key → s.widths ≡ three → row.table ≡ Points
in_points s row qual value dots key sound is reads bytes wide = at row.table refl
  where
    long : 7 ≤ length row.bytes
    long = let l = long_key s.widths key in let e = ap length bytes in let m = ap (λ (w : Widths). w.metric) wide in omega (arith, l, e, m)

    as_row : (t : Table) → row.table ≡ t → row ≡ record { table = t; bytes = row.bytes }
    as_row t e = λ i. record { table = e i; bytes = row.bytes }

    not_counter : row.bytes ≢ 0 ∷ []
    not_counter e = let l = ap length e in absurd (omega (arith, l, long))

    at : (t : Table) → row.table ≡ t → row.table ≡ Points
    at Points e = e
    at Ids e =
        let f = sound.forward row.bytes qual value not_counter (ap (λ (r : Row). value_at s r qual) (sym (as_row Ids e)) ∙ is) in
        let bytes_are : length value ≡ 3 = ap length f.value_is ∙ three_bytes s.widths f.kind f.id wide in
        absurd (no_dots f.kind value dots bytes_are (subst (λ q. HoldsDots q value dots) f.is_kind reads))
    at Names e =
        let r = sound.reverse row.bytes qual value (ap (λ (r : Row). value_at s r qual) (sym (as_row Names e)) ∙ is) in
        let bytes_are : length row.bytes ≡ 3 = ap length r.bytes_are ∙ three_bytes s.widths r.kind r.id wide in
        absurd (omega (arith, bytes_are, long))
