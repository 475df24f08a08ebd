-- The ids that are left, from the least of their bytes on.
use Rattle.std.proofs.Common.{◌≡◌, inl, inr, ℕ, ◌+◌, ◌≤◌, ◌<◌, Bool, true, false, cond, List, [], refl, sym, ap, subst, ◌∙◌, arith}
use Rattle.std.proofs.lemmas.Bool.Decides.{nat_tests}
use Rattle.std.proofs.lemmas.Nat.{from_be_bytes-to_be_bytes_8}
use Rattle.std.specs.Prelude.{Option, None, Some, nat_le}
use Rattle.std.specs.Option.{option_map_or}
use Rattle.std.specs.Int.{w64, from_be_bytes}
use Rattle.std.specs.declared.cmp.Ordering.{Ordering}
use Rattle.std.specs.declared.cmp.Ordering.TheVariants.{Less, Equal, Greater}
use Rattle.std.specs.Ordering.{is_eq, is_lt, ordering_reverse}
use Rattle.std.specs.Cmp.{tied_itself}
use Rattle.std.specs.Cmp.Lexicographic.{nat_list_cmp_total, texts_ties}
use Rattle.std.specs.FinMap.{slice_cmp-IsAntisymmetric, nat_cmp-IsAntisymmetric}
use Rattle.tsd_base.specs.declared.kinds.Kind.{Kind}
use Rattle.tsd_base.specs.declared.kinds.Kind.TheVariants.{Metric, TagKey, TagValue}
use Rattle.list_lemmas.specs.BytesOrder.{bytes_cmp}
use Rattle.list_lemmas.proofs.BoolTests.{is_equal}
use Rattle.list_lemmas.proofs.OrderedBytes.{behind, below_behind, below_from_on, from_on_from_on, less_behind, not_below_none}
use Rattle.row_key.specs.declared.tables.Table.{Table}
use Rattle.row_key.specs.declared.tables.Table.TheVariants.{Ids, Names, Points}
use Rattle.row_key.specs.IdWidths.{IsWidth, id_bytes, most_ids}
use Rattle.row_key.proofs.CallerLemmas.{at_width}
use Rattle.cell_model.specs.KindWidths.{Widths, greatest, kind_bytes, width_of}
use Rattle.cell_model.specs.Machine.{counter_of, counter_row, kind_qual}
use Rattle.cell_model.specs.Sound.{IsSound}
use Rattle.cell_model.specs.Store.{Store, row_cmp, same_bytes, value_at}
use Rattle.cell_model.proofs.CallerLemmas.{greatest_fits}
use Rattle.cell_laws.proofs.CallerLemmas.{same_kind}
use Rattle.listing_print.specs.IdsLeft.{AreIds, all_ids, first_of, least_of, left_of, lesser, passed_all, without, without_first}
use Rattle.listing_print.specs.MetricRows.{metric_end}
use Rattle.listing_print.specs.StoreRows.{row_at}
use Rattle.listing_print.specs.declared.ids_left.Left.{Left}
use Rattle.listing_print.specs.declared.ids_left.IdsLeft.{IdsLeft}
use Rattle.listing_print.proofs.IdOrder.{kind_below, kind_on}
use Rattle.listing_print.proofs.NextRows.{row_between}
use Rattle.listing_print.proofs.RowOrder.{not_back}
use Rattle.listing_print.proofs.SoundRows.{at_row, clash, greater_metric, has_metric, le_or_gt, lt_less}
use Rattle.listing_print.proofs.RowLines.{Gap}

-- ---- how great an id may be

pub most_fits : (width : ℕ) → IsWidth width → most_ids width ≤ 4294967295
most_fits width fits = at_width (λ n. most_ids n ≤ 4294967295) (omega arith) (omega arith) (omega arith) width fits

-- no counter is above the greatest id of its kind
pub counter_fits : (s : Store) → IsSound s → (kind : Kind) → counter_of s kind ≤ greatest s.widths kind
counter_fits s sound kind = at (value_at s counter_row (kind_qual kind)) refl
  where
    at : (o : Option (List ℕ)) → value_at s counter_row (kind_qual kind) ≡ o → option_map_or (from_be_bytes w64) o 0 ≤ greatest s.widths kind
    at None e = omega arith
    at (Some value) e =
        let c = sound.counters (kind_qual kind) value e in
        let most = greatest_fits s.widths c.kind in
        let fits = c.most in
        let number : from_be_bytes w64 value ≡ c.number = ap (from_be_bytes w64) c.value_is ∙ from_be_bytes-to_be_bytes_8 c.number (omega (arith, most, fits)) in
        subst (λ (n : ℕ). n ≤ greatest s.widths kind) (sym number) (subst (λ (k : Kind). c.number ≤ greatest s.widths k) (sym (same_kind kind c.kind c.is_kind)) c.most)

-- ---- what isn't below some bytes

-- the bytes, if there are any, aren't below these
abbrev pub On : List ℕ → Option (List ℕ) → Type 0
On r None = Unit {0}
On r (Some x) = is_lt (bytes_cmp x r) ≡ false

on_itself : (r : List ℕ) → is_lt (bytes_cmp r r) ≡ false
on_itself r = ap is_lt (tied_itself nat_list_cmp_total r)

-- each of two is so where the lesser is
on_each : (a b : Option (List ℕ)) (r : List ℕ) → On r (lesser a b) → On r a × On r b
on_each None None r h = (tt, tt)
on_each None (Some b) r h = (tt, h)
on_each (Some a) None r h = (h, tt)
on_each (Some a) (Some b) r h = at (is_lt (bytes_cmp b a)) refl h
  where
    at : (t : Bool) → is_lt (bytes_cmp b a) ≡ t → On r (cond t (Some b) (Some a)) → On r (Some a) × On r (Some b)
    at true e h = (from_on_from_on r b a h (not_back nat_list_cmp_total b a (lt_less _ e)), h)
    at false e h = (h, from_on_from_on r a b h e)

-- and the lesser where each is
on_lesser : (a b : Option (List ℕ)) (r : List ℕ) → On r a → On r b → On r (lesser a b)
on_lesser None None r g h = tt
on_lesser None (Some b) r g h = h
on_lesser (Some a) None r g h = g
on_lesser (Some a) (Some b) r g h = at (is_lt (bytes_cmp b a))
  where
    at : (t : Bool) → On r (cond t (Some b) (Some a))
    at true = h
    at false = g

lesser_none : (a b : Option (List ℕ)) → lesser a b ≡ None → (a ≡ None) × (b ≡ None)
lesser_none None None e = (refl, refl)
lesser_none None (Some b) e = cc
lesser_none (Some a) None e = cc
lesser_none (Some a) (Some b) e = at (is_lt (bytes_cmp b a)) e
  where
    at : (t : Bool) → cond t (Some b) (Some a) ≡ None → (Some a ≡ None) × (Some b ≡ None)
    at true e = cc
    at false e = cc

-- ---- the first id of a kind that is left

le_test : (a b : ℕ) → a ≤ b → nat_le a b ≡ true
le_test a b le = grind (arith, nat_tests)

test_le : (a b : ℕ) → nat_le a b ≡ true → a ≤ b
test_le a b e = grind (arith, nat_tests)

test_gt : (a b : ℕ) → nat_le a b ≡ false → b < a
test_gt a b e = grind (arith, nat_tests)

first_is : (width : ℕ) (left : Left) → left.next ≤ left.last → first_of width left ≡ Some (id_bytes width left.next)
first_is width left le = ap (λ b. cond b (Some (id_bytes width left.next)) None) (le_test left.next left.last le)

pub first_within : (width : ℕ) (left : Left) (bytes : List ℕ) → first_of width left ≡ Some bytes → left.next ≤ left.last
first_within width left bytes e = at (nat_le left.next left.last) refl e
  where
    at : (b : Bool) → nat_le left.next left.last ≡ b → cond b (Some (id_bytes width left.next)) None ≡ Some bytes → left.next ≤ left.last
    at true f e = test_le left.next left.last f
    at false f e = cc

none_first : (width : ℕ) (left : Left) → first_of width left ≡ None → left.last < left.next
none_first width left e = at (nat_le left.next left.last) refl e
  where
    at : (b : Bool) → nat_le left.next left.last ≡ b → cond b (Some (id_bytes width left.next)) None ≡ None → left.last < left.next
    at true f e = cc
    at false f e = test_gt left.next left.last f

same_is : (x y : List ℕ) → same_bytes x y ≡ true → x ≡ y
same_is x y e = slice_cmp-IsAntisymmetric nat_cmp-IsAntisymmetric x y (is_equal (bytes_cmp x y) (sym (texts_ties x y) ∙ e))

-- what isn't below others, and isn't the same, is above them
above : (x y : List ℕ) → is_lt (bytes_cmp x y) ≡ false → same_bytes x y ≡ false → bytes_cmp y x ≡ Less
above x y on other = at (bytes_cmp x y) refl (sym on) (sym (texts_ties x y) ∙ other)
  where
    at : (r : Ordering) → bytes_cmp x y ≡ r → false ≡ is_lt (bytes_cmp x y) → is_eq (bytes_cmp x y) ≡ false → bytes_cmp y x ≡ Less
    at Less e on other = let up = on ∙ ap is_lt e in cc
    at Equal e on other = let same = sym (ap is_eq e) ∙ other in cc
    at Greater e on other = nat_list_cmp_total.antisymm y x ∙ ap ordering_reverse e

-- ---- what was passed, and what is ahead

-- the ids of each kind up to its counter: those before the next one have bytes below a bound, and the next one hasn't
pub record IdsDone (s : Store) (ids : IdsLeft) (bound : List ℕ) : Type 0 where
  pub counted : (kind : Kind) → (left_of ids kind).last ≡ counter_of s kind
  pub passed : (kind : Kind) (id : ℕ) → 1 ≤ id → id < (left_of ids kind).next → is_lt (bytes_cmp (kind_bytes s.widths kind id) bound) ≡ true
  pub ahead : (kind : Kind) → On bound (first_of (width_of s.widths kind) (left_of ids kind))

on_none : (o : Option (List ℕ)) → On [] o
on_none None = tt
on_none (Some x) = not_below_none x

pub ids_begin : (s : Store) → IdsDone s (all_ids s) []
ids_begin s = record {
  counted = λ kind. counted kind;
  passed = λ kind id least below. let one = begins kind in absurd (omega (arith, one, least, below));
  ahead = λ kind. on_none (first_of (width_of s.widths kind) (left_of (all_ids s) kind));
}
  where
    counted : (kind : Kind) → (left_of (all_ids s) kind).last ≡ counter_of s kind
    counted Metric = refl
    counted TagKey = refl
    counted TagValue = refl

    begins : (kind : Kind) → (left_of (all_ids s) kind).next ≡ 1
    begins Metric = refl
    begins TagKey = refl
    begins TagValue = refl

kind_fit : (s : Store) → IsSound s → (ids : IdsLeft) (bound : List ℕ) → IdsDone s ids bound → (kind : Kind) → (left_of ids kind).last ≤ greatest s.widths kind
kind_fit s sound ids bound done kind = let last = done.counted kind in let fits = counter_fits s sound kind in omega (arith, last, fits)

pub ids_fit : (s : Store) → IsSound s → (ids : IdsLeft) (bound : List ℕ) → IdsDone s ids bound → AreIds s.widths ids
ids_fit s sound ids bound done = record { metric = kind_fit s sound ids bound done Metric; tag_key = kind_fit s sound ids bound done TagKey; tag_value = kind_fit s sound ids bound done TagValue }

-- the least one isn't below the bound
pub least_on : (s : Store) (ids : IdsLeft) (bound r : List ℕ) → IdsDone s ids bound → least_of s.widths ids ≡ Some r → is_lt (bytes_cmp r bound) ≡ false
least_on s ids bound r done is = subst (On bound) is (on_lesser _ (first_of s.widths.tag_value ids.tag_value) bound (on_lesser (first_of s.widths.metric ids.metric) (first_of s.widths.tag_key ids.tag_key) bound (done.ahead Metric) (done.ahead TagKey)) (done.ahead TagValue))

-- and no first id is below the least one
least_each : (w : Widths) (ids : IdsLeft) (r : List ℕ) → least_of w ids ≡ Some r → (kind : Kind) → On r (first_of (width_of w kind) (left_of ids kind))
least_each w ids r is kind =
    let two = on_each (lesser (first_of w.metric ids.metric) (first_of w.tag_key ids.tag_key)) (first_of w.tag_value ids.tag_value) r (subst (On r) (sym is) (on_itself r)) in
    let each = on_each (first_of w.metric ids.metric) (first_of w.tag_key ids.tag_key) r two.0 in
    at kind each.0 each.1 two.1
  where
    at : (kind : Kind) → On r (first_of w.metric ids.metric) → On r (first_of w.tag_key ids.tag_key) → On r (first_of w.tag_value ids.tag_value) → On r (first_of (width_of w kind) (left_of ids kind))
    at Metric m k v = m
    at TagKey m k v = k
    at TagValue m k v = v

-- where there is none, none is left of any kind
none_each : (w : Widths) (ids : IdsLeft) → least_of w ids ≡ None → (kind : Kind) → (left_of ids kind).last < (left_of ids kind).next
none_each w ids is kind =
    let two = lesser_none (lesser (first_of w.metric ids.metric) (first_of w.tag_key ids.tag_key)) (first_of w.tag_value ids.tag_value) is in
    let each = lesser_none (first_of w.metric ids.metric) (first_of w.tag_key ids.tag_key) two.0 in
    at kind each.0 each.1 two.1
  where
    at : (kind : Kind) → first_of w.metric ids.metric ≡ None → first_of w.tag_key ids.tag_key ≡ None → first_of w.tag_value ids.tag_value ≡ None → (left_of ids kind).last < (left_of ids kind).next
    at Metric m k v = none_first w.metric ids.metric m
    at TagKey m k v = none_first w.tag_key ids.tag_key k
    at TagValue m k v = none_first w.tag_value ids.tag_value v

-- before the least one no id's row is left
pub least_gap : (s : Store) → IsSound s → (ids : IdsLeft) (bound r : List ℕ) → IdsDone s ids bound → least_of s.widths ids ≡ Some r → Gap s (row_at Names bound) (row_at Names r)
least_gap s sound ids bound r done is row qual value stands on below =
    let b = row_between Names bound r row on below in
    let v = sound.reverse row.bytes qual value (at_row s row Names qual value b.in_table stands) in
    let bytes_on : is_lt (bytes_cmp (kind_bytes s.widths v.kind v.id) bound) ≡ false = subst (λ (xs : List ℕ). is_lt (bytes_cmp xs bound) ≡ false) v.bytes_are b.from_on in
    let bytes_below : is_lt (bytes_cmp (kind_bytes s.widths v.kind v.id) r) ≡ true = subst (λ (xs : List ℕ). is_lt (bytes_cmp xs r) ≡ true) v.bytes_are b.below in
    let last = done.counted v.kind in
    let counted = v.given.counted in
    elim (le_or_gt (left_of ids v.kind).next v.id) [
      | inr gt ↦ clash _ (done.passed v.kind v.id v.given.is_id.0 gt) bytes_on
      | inl le ↦ clash _ bytes_below
          (from_on_from_on r (kind_bytes s.widths v.kind (left_of ids v.kind).next) (kind_bytes s.widths v.kind v.id)
          (subst (On r) (first_is (width_of s.widths v.kind) (left_of ids v.kind) (omega (arith, last, counted, le))) (least_each s.widths ids r is v.kind))
          (kind_on s.widths v.kind (left_of ids v.kind).next v.id le v.given.is_id.1))
    ]

-- where none is left the next row is one of points
pub none_gap : (s : Store) → IsSound s → (ids : IdsLeft) (bound : List ℕ) → IdsDone s ids bound → least_of s.widths ids ≡ None → Gap s (row_at Names bound) (row_at Points (metric_end s.widths 0))
none_gap s sound ids bound done is row qual value stands on below = at row.table refl on below
  where
    at : (t : Table) → row.table ≡ t → is_lt (row_cmp (row_at t row.bytes) (row_at Names bound)) ≡ false → is_lt (row_cmp (row_at t row.bytes) (row_at Points (metric_end s.widths 0))) ≡ true → ⊥
    at Ids e on below = cc
    at Names e on below =
        let v = sound.reverse row.bytes qual value (at_row s row Names qual value e stands) in
        let last = done.counted v.kind in
        let counted = v.given.counted in
        let behind_last = none_each s.widths ids is v.kind in
        clash _ (done.passed v.kind v.id v.given.is_id.0 (omega (arith, last, counted, behind_last))) (subst (λ (xs : List ℕ). is_lt (bytes_cmp xs bound) ≡ false) v.bytes_are on)
    at Points e on below =
        let m = has_metric s sound row qual value e stands in
        clash _ (subst (λ (xs : List ℕ). is_lt (bytes_cmp xs (metric_end s.widths 0)) ≡ true) m.bytes_are below) (greater_metric s.widths m.key 0 4294967295 m.is_key m.is_key.metric.0)

-- ---- one kind, behind the least bytes

-- those before the next one are below what is behind these bytes
kind_passed : (w : Widths) (kind : Kind) (left : Left) (bound r : List ℕ) → is_lt (bytes_cmp r bound) ≡ false → ((id : ℕ) → 1 ≤ id → id < left.next → is_lt (bytes_cmp (kind_bytes w kind id) bound) ≡ true)
    → (id : ℕ) → 1 ≤ id → id < (without (width_of w kind) left r).next → is_lt (bytes_cmp (kind_bytes w kind id) (behind r)) ≡ true
kind_passed w kind left bound r on passed id least below = at (nat_le left.next left.last) below
  where
    known : id < left.next → is_lt (bytes_cmp (kind_bytes w kind id) (behind r)) ≡ true
    known lt = ap is_lt (nat_list_cmp_total.trans (kind_bytes w kind id) r (behind r) (below_from_on (kind_bytes w kind id) bound r (lt_less _ (passed id least lt)) on) (below_behind r))

    by : (t : Bool) → same_bytes (kind_bytes w kind left.next) r ≡ t → id < (cond t (record { next = left.next + 1; last = left.last }) left).next → is_lt (bytes_cmp (kind_bytes w kind id) (behind r)) ≡ true
    by true e below = elim (le_or_gt left.next id) [
      | inr lt ↦ known lt
      | inl le ↦ let is : id ≡ left.next = omega (arith, below, le) in ap (λ n. is_lt (bytes_cmp (kind_bytes w kind n) (behind r))) is ∙ ap (λ (xs : List ℕ). is_lt (bytes_cmp xs (behind r))) (same_is (kind_bytes w kind left.next) r e) ∙ ap is_lt (below_behind r)
    ]
    by false e below = known below

    at : (b : Bool) → id < (without_first left (cond b (Some (kind_bytes w kind left.next)) None) r).next → is_lt (bytes_cmp (kind_bytes w kind id) (behind r)) ≡ true
    at true below = by (same_bytes (kind_bytes w kind left.next) r) refl below
    at false below = known below

-- and the next one isn't
kind_ahead : (w : Widths) (kind : Kind) (left : Left) (r : List ℕ) → left.last ≤ greatest w kind → On r (first_of (width_of w kind) left) → On (behind r) (first_of (width_of w kind) (without (width_of w kind) left r))
kind_ahead w kind left r most on = at (nat_le left.next left.last) refl on
  where
    up : (id : ℕ) → bytes_cmp r (kind_bytes w kind id) ≡ Less → (b : Bool) → On (behind r) (cond b (Some (kind_bytes w kind id)) None)
    up id less true = less_behind r (kind_bytes w kind id) less
    up id less false = tt

    no : (b : Bool) → b ≡ false → On (behind r) (cond b (Some (kind_bytes w kind left.next)) None)
    no true e = cc
    no false e = tt

    further : kind_bytes w kind left.next ≡ r → (b : Bool) → nat_le (left.next + 1) left.last ≡ b → On (behind r) (cond b (Some (kind_bytes w kind (left.next + 1))) None)
    further is true e =
        let le = test_le (left.next + 1) left.last e in
        less_behind r (kind_bytes w kind (left.next + 1)) (subst (λ (xs : List ℕ). bytes_cmp xs (kind_bytes w kind (left.next + 1)) ≡ Less) is (kind_below w kind left.next (left.next + 1) (omega arith) (omega (arith, le, most))))
    further is false e = tt

    by : (t : Bool) → same_bytes (kind_bytes w kind left.next) r ≡ t → is_lt (bytes_cmp (kind_bytes w kind left.next) r) ≡ false → On (behind r) (first_of (width_of w kind) (cond t (record { next = left.next + 1; last = left.last }) left))
    by true e on = further (same_is (kind_bytes w kind left.next) r e) (nat_le (left.next + 1) left.last) refl
    by false e on = up left.next (above (kind_bytes w kind left.next) r on e) (nat_le left.next left.last)

    at : (b : Bool) → nat_le left.next left.last ≡ b → On r (cond b (Some (kind_bytes w kind left.next)) None) → On (behind r) (first_of (width_of w kind) (without_first left (cond b (Some (kind_bytes w kind left.next)) None) r))
    at true e on = by (same_bytes (kind_bytes w kind left.next) r) refl on
    at false e on = no (nat_le left.next left.last) e

kept_last : (width : ℕ) (left : Left) (r : List ℕ) → (without width left r).last ≡ left.last
kept_last width left r = at (nat_le left.next left.last)
  where
    by : (t : Bool) → (cond t (record { next = left.next + 1; last = left.last }) left).last ≡ left.last
    by true = refl
    by false = refl

    at : (b : Bool) → (without_first left (cond b (Some (id_bytes width left.next)) None) r).last ≡ left.last
    at true = by (same_bytes (id_bytes width left.next) r)
    at false = refl

passed_kind : (w : Widths) (ids : IdsLeft) (r : List ℕ) (kind : Kind) → left_of (passed_all w ids r) kind ≡ without (width_of w kind) (left_of ids kind) r
passed_kind w ids r Metric = refl
passed_kind w ids r TagKey = refl
passed_kind w ids r TagValue = refl

-- behind the least bytes the ids that have them are passed
pub ids_on : (s : Store) → IsSound s → (ids : IdsLeft) (bound r : List ℕ) → IdsDone s ids bound → least_of s.widths ids ≡ Some r → IdsDone s (passed_all s.widths ids r) (behind r)
ids_on s sound ids bound r done is = record {
  counted = λ kind. ap (λ (l : Left). l.last) (passed_kind s.widths ids r kind) ∙ kept_last (width_of s.widths kind) (left_of ids kind) r ∙ done.counted kind;
  passed = λ kind id least below. kind_passed s.widths kind (left_of ids kind) bound r (least_on s ids bound r done is) (done.passed kind) id least (subst (λ (l : Left). id < l.next) (passed_kind s.widths ids r kind) below);
  ahead = λ kind. subst (λ (l : Left). On (behind r) (first_of (width_of s.widths kind) l)) (sym (passed_kind s.widths ids r kind)) (kind_ahead s.widths kind (left_of ids kind) r (kind_fit s sound ids bound done kind) (least_each s.widths ids r is kind));
}
