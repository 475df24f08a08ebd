-- Series that are pending, each with its values and its text.
use Rattle.std.proofs.Common.{◌≡◌, ℕ, ℤ, ◌<◌, Bool, true, false, cond, zero, suc, List, [], ◌∷◌, ◌++◌, Option, Some, None, length, get_or, refl, sym, ap, subst, ◌∙◌, arith}
use Rattle.std.specs.Prelude.{All, Contains, IfOk, OnErr, OnOk, Result, Ok, Err, option_map, slice_get}
use Rattle.std.specs.declared.alloc.AllocError.{AllocError}
use Rattle.std.specs.List.{IsDistinct}
use Rattle.std.specs.Map.{keys_of, lookup, lookup_key, values_of}
use Rattle.std.specs.Cmp.{IsEquivalence, and_equiv, bool_eq_equiv, on_equiv}
use Rattle.std.specs.Cmp.Lexicographic.{nat_list_eq_equiv}
use Rattle.std.proofs.lemmas.Map.Made.{lookup-map_values, lookup_key_passes}
use Rattle.std.proofs.lemmas.Map.Views.{lookup-from_Contains}
use Rattle.std.proofs.lemmas.Option.{none-some, same_Some, slice_get_within}
use Rattle.indexmap.specs.IndexMap.{IndexMap, IsUnique, Updates, insert_entry, set_value_at}
use Rattle.indexmap.proofs.CallerLemmas.{insert_entry-new, updates-with_value_at}
use Rattle.tsd_base.specs.declared.text_parts.TextParts.{TextParts}
use Rattle.tsd_base.specs.TagOrder.{is_same_tags_equiv}
use Rattle.batch_job.specs.AddedTexts.{AddsAt, AddsKnown, AddsValue}
use Rattle.batch_job.specs.PendingSeries.{IsOneOf, KeepTexts, StandsAt, all_values, pushed_if, with_values}
use Rattle.batch_job.specs.SeriesTexts.{IsKnownBy}
use Rattle.batch_job.specs.SeriesValues.{Series, SeriesEntry, is_same_series, values_in}
use Rattle.batch_job.specs.declared.pending_series.PendingSeries.{PendingSeries}
use Rattle.batch_job.specs.declared.series_text.SeriesText.{SeriesText}
use Rattle.batch_job.proofs.GatherLemmas.{same_series}
use Rattle.batch_job.proofs.SeriesReads.{parts_read_as}

abbrev Held : Type 0
Held = Series × PendingSeries

pub series_equiv : IsEquivalence is_same_series
series_equiv = and_equiv (and_equiv (on_equiv (λ (s : Series). s.0.0) nat_list_eq_equiv) (on_equiv (λ (s : Series). s.0.1) is_same_tags_equiv)) (on_equiv (λ (s : Series). s.1) bool_eq_equiv)

-- ---- places
-- the entry of a value
pub entry_at : (es : List Held) (i : ℕ) (v : PendingSeries) → slice_get (values_of es) i ≡ Some v → (k : Series) × (slice_get es i ≡ Some (k, v))
entry_at [] i v is = absurd (none-some v is)
entry_at (e ∷ es) zero v is = (e.0, ap (λ (w : PendingSeries). Some (e.0, w)) (same_Some e.1 v is))
entry_at (e ∷ es) (suc i) v is = entry_at es i v is

-- and back
pub value_at : (es : List Held) (i : ℕ) (k : Series) (v : PendingSeries) → slice_get es i ≡ Some (k, v) → slice_get (values_of es) i ≡ Some v
value_at [] i k v is = absurd (none-some (k, v) is)
value_at (e ∷ es) zero k v is = ap (λ (f : Held). Some f.1) (same_Some e (k, v) is)
value_at (e ∷ es) (suc i) k v is = value_at es i k v is

get_at : {A : Type 0} (xs : List A) (i : ℕ) (x : A) → slice_get xs i ≡ Some x → get_or xs i x ≡ x
get_at [] i x is = absurd (none-some x is)
get_at (y ∷ ys) zero x is = same_Some y x is
get_at (y ∷ ys) (suc i) x is = get_at ys i x is

contains_at : {A : Type 0} (xs : List A) (i : ℕ) (x : A) → slice_get xs i ≡ Some x → Contains xs x
contains_at xs i x is = (i, slice_get_within xs i x is, get_at xs i x is)

-- ---- texts
text_at : (es : List Held) (i : ℕ) (k : Series) (v : PendingSeries) → slice_get es i ≡ Some (k, v) → KeepTexts es → IsKnownBy k v.text
text_at [] i k v is h = absurd (none-some (k, v) is)
text_at (e ∷ es) zero k v is h = subst (λ (f : Held). IsKnownBy f.0 f.1.text) (same_Some e (k, v) is) h.0
text_at (e ∷ es) (suc i) k v is h = text_at es i k v is h.1

-- the same text, or another one that reads as the series
pub same_texts : (es : List Held) (i : ℕ) (v w : PendingSeries) → slice_get (values_of es) i ≡ Some v → w.text ≡ v.text → KeepTexts es → KeepTexts (set_value_at es i w)
same_texts [] i v w is same h = tt
same_texts (e ∷ es) zero v w is same h = (subst (IsKnownBy e.0) (ap (λ (u : PendingSeries). u.text) (same_Some e.1 v is) ∙ sym same) h.0, h.1)
same_texts (e ∷ es) (suc i) v w is same h = (h.0, same_texts es i v w is same h.1)

pub other_text : (es : List Held) (i : ℕ) (k : Series) (v w : PendingSeries) → slice_get es i ≡ Some (k, v) → IsKnownBy k w.text → KeepTexts es → KeepTexts (set_value_at es i w)
other_text [] i k v w is known h = tt
other_text (e ∷ es) zero k v w is known h = (subst (λ (s : Series). IsKnownBy s w.text) (ap (λ (f : Held). f.0) (sym (same_Some e (k, v) is))) known, h.1)
other_text (e ∷ es) (suc i) k v w is known h = (h.0, other_text es i k v w is known h.1)

pub more_texts : (es : List Held) (k : Series) (v : PendingSeries) → KeepTexts es → IsKnownBy k v.text → KeepTexts (es ++ (k, v) ∷ [])
more_texts [] k v h known = (known, tt)
more_texts (e ∷ es) k v h known = (h.0, more_texts es k v h.1 known)

-- ---- values
-- the same values under another text
pub same_values : (es : List Held) (i : ℕ) (v w : PendingSeries) → slice_get (values_of es) i ≡ Some v → w.values ≡ v.values → all_values (set_value_at es i w) ≡ all_values es
same_values [] i v w is same = refl
same_values (e ∷ es) zero v w is same = ap (λ (xs : List (ℕ × ℤ)). (e.0, xs) ∷ all_values es) (same ∙ ap (λ (u : PendingSeries). u.values) (sym (same_Some e.1 v is)))
same_values (e ∷ es) (suc i) v w is same = ap (λ (rest : List SeriesEntry). with_values e ∷ rest) (same_values es i v w is same)

abbrev only_values : Option PendingSeries → Option (List (ℕ × ℤ))
only_values = option_map (λ (p : PendingSeries). p.values)

values_found : (s : Series) (es : List Held) → values_in (all_values es) s ≡ only_values (lookup (is_same_series s) es)
values_found s es = lookup-map_values (λ (p : PendingSeries). p.values) (is_same_series s) es

is_none : (o : Option PendingSeries) → only_values o ≡ None → o ≡ None
is_none None e = refl
is_none (Some v) e = absurd (none-some v.values (sym e))

-- no entry is found where no values are
pub none_found : (s : Series) (es : List Held) → values_in (all_values es) s ≡ None → lookup (is_same_series s) es ≡ None
none_found s es none = is_none (lookup (is_same_series s) es) (sym (values_found s es) ∙ none)

pub no_values : (s : Series) (es : List Held) → lookup (is_same_series s) es ≡ None → values_in (all_values es) s ≡ None
no_values s es none = values_found s es ∙ ap only_values none

-- what a change of one series makes of all values
changed : (m n : List Held) (k : Series) (w : PendingSeries) (s : Series) → lookup (is_same_series s) n ≡ cond (is_same_series k s) (Some w) (lookup (is_same_series s) m) → values_in (all_values n) s ≡ cond (is_same_series k s) (Some w.values) (values_in (all_values m) s)
changed m n k w s step = values_found s n ∙ ap only_values step ∙ by (is_same_series k s)
  where
    by : (b : Bool) → only_values (cond b (Some w) (lookup (is_same_series s) m)) ≡ cond b (Some w.values) (values_in (all_values m) s)
    by true = refl
    by false = sym (values_found s m)

module _ {S : Type 0} (m : IndexMap Series PendingSeries S) (unique : IsUnique is_same_series m) (i : ℕ) (k : Series) (v w : PendingSeries) (at : slice_get m.entries i ≡ Some (k, v)) where
  pub stands_found : values_in (all_values m.entries) k ≡ Some v.values
  stands_found = values_found k m.entries ∙ ap only_values (lookup-from_Contains series_equiv k v m.entries unique (contains_at m.entries i (k, v) at))

  -- one more value of the series there
  pub pushed_adds : (value : ℕ × ℤ) → w.values ≡ v.values ++ value ∷ [] → AddsValue k v.values value (all_values m.entries) (all_values (set_value_at m.entries i w))
  pushed_adds value is s =
      changed m.entries (set_value_at m.entries i w) k w s ((updates-with_value_at m i w series_equiv unique k v at).0 s)
      ∙ ap (λ (xs : List (ℕ × ℤ)). cond (is_same_series k s) (Some xs) (values_in (all_values m.entries) s)) is

  pub pushed_at : (value : ℕ × ℤ) → w.values ≡ v.values ++ value ∷ [] → AddsAt m.entries k value (set_value_at m.entries i w)
  pushed_at value is = record { values = v.values; found = stands_found; adds = pushed_adds value is }

-- a value that was pushed where the parts are those of the series
pub pushed_known : {S : Type 0} (m : IndexMap Series PendingSeries S) → IsUnique is_same_series m → (i : ℕ) (v w : PendingSeries) (parts : TextParts) (known : Bool) → slice_get (values_of m.entries) i ≡ Some v → IsOneOf v parts known
    → w.values ≡ pushed_if known v.values parts → KeepTexts m.entries → AddsKnown parts (all_values m.entries) known (all_values (set_value_at m.entries i w))
pushed_known m unique i v w parts true is one values keep =
    let e = entry_at m.entries i v is in record {
      series = e.0;
      values = v.values;
      reads = parts_read_as parts e.0 v.text (text_at m.entries i e.0 v e.1 keep) one;
      found = stands_found m unique i e.0 v w e.1;
      adds = pushed_adds m unique i e.0 v w e.1 (parts.time, parts.value) values;
    }
pushed_known m unique i v w parts false is one values keep = same_values m.entries i v w is values

-- a series that was begun
pub begun_adds : {S : Type 0} (m n : IndexMap Series PendingSeries S) (k : Series) (w : PendingSeries) (value : ℕ × ℤ) → Updates is_same_series m n k (Some w) → w.values ≡ value ∷ [] → AddsValue k [] value (all_values m.entries) (all_values n.entries)
begun_adds m n k w value step is s =
    changed m.entries n.entries k w s (step.0 s) ∙ ap (λ (xs : List (ℕ × ℤ)). cond (is_same_series k s) (Some xs) (values_in (all_values m.entries) s)) is

pub begun_texts : {S : Type 0} (m : IndexMap Series PendingSeries S) (k : Series) (v : PendingSeries) → values_in (all_values m.entries) k ≡ None → KeepTexts m.entries → IsKnownBy k v.text → KeepTexts (insert_entry is_same_series m.entries k v)
begun_texts m k v none keep known = subst KeepTexts (sym (insert_entry-new is_same_series m k v (none_found k m.entries none))) (more_texts m.entries k v keep known)

-- each series is found with its values
same_keys : (es : List Held) → keys_of (all_values es) ≡ keys_of es
same_keys [] = refl
same_keys (e ∷ es) = ap (λ (ks : List Series). e.0 ∷ ks) (same_keys es)

pub each_found : (es : List Held) → IsDistinct is_same_series (keys_of es) → All (λ e. values_in (all_values es) e.0 ≡ Some e.1) (all_values es)
each_found es distinct i d within =
    let all = all_values es in
    let e : SeriesEntry = get_or all i d in
    lookup-from_Contains series_equiv e.0 e.1 all (subst (IsDistinct is_same_series) (sym (same_keys es)) distinct) (i, within, same_default all i d e within)
  where
    same_default : {A : Type 0} (xs : List A) (i : ℕ) (d e : A) → i < length xs → get_or xs i e ≡ get_or xs i d
    same_default [] i d e within = absurd (omega (arith, within))
    same_default (x ∷ xs) zero d e within = refl
    same_default (x ∷ xs) (suc i) d e within = same_default xs i d e (omega (arith, within))

-- ---- answers of calls
-- what pushing the parts' value answers
pub pushed_or : {S : Type 0} (m : IndexMap Series PendingSeries S) → IsUnique is_same_series m → (i : ℕ) (v w : PendingSeries) (parts : TextParts) (r : Result Bool AllocError) → slice_get (values_of m.entries) i ≡ Some v → IfOk r (IsOneOf v parts)
    → IfOk r (λ known. w.values ≡ pushed_if known v.values parts) → KeepTexts m.entries → IfOk r (λ known. AddsKnown parts (all_values m.entries) known (all_values (set_value_at m.entries i w)))
pushed_or m unique i v w parts (Ok known) is one values keep = pushed_known m unique i v w parts known is one values keep
pushed_or m unique i v w parts (Err e) is one values keep = tt

-- what is held where a push failed
pub unpushed_or : {T E : Type 0} (es : List Held) (i : ℕ) (v w : PendingSeries) (r : Result T E) → slice_get (values_of es) i ≡ Some v → OnErr r (w.values ≡ v.values) → OnErr r (all_values (set_value_at es i w) ≡ all_values es)
unpushed_or es i v w (Ok done) is same = tt
unpushed_or es i v w (Err e) is same = same_values es i v w is same

pub unpushed_there : {T E : Type 0} (es : List Held) (i : ℕ) (v w : PendingSeries) (r : Result T E) → slice_get (values_of es) i ≡ Some v → OnErr r (w ≡ v) → OnErr r (all_values (set_value_at es i w) ≡ all_values es)
unpushed_there es i v w (Ok done) is same = tt
unpushed_there es i v w (Err e) is same = same_values es i v w is (ap (λ (u : PendingSeries). u.values) same)

-- the value of a series that stands there
pub standing : (es : List Held) (i : ℕ) (k : Series) (v : PendingSeries) → StandsAt es k i → slice_get (values_of es) i ≡ Some v → slice_get es i ≡ Some (k, v)
standing es i k v s is = s.1 ∙ ap (λ (w : PendingSeries). Some (k, w)) (same_Some s.0 v (sym (value_at es i k s.0 s.1) ∙ is))

pub nothing_stands : (es : List Held) (i : ℕ) (k : Series) → StandsAt es k i → slice_get (values_of es) i ≡ None → ⊥
nothing_stands es i k s none = none-some s.0 (sym none ∙ value_at es i k s.0 s.1)

-- what pushing a value of a series that stands there answers
pub pushed_there : {S : Type 0} (m : IndexMap Series PendingSeries S) → IsUnique is_same_series m → (i : ℕ) (k : Series) (v w : PendingSeries) (value : ℕ × ℤ) (r : Result (Unit {0}) AllocError) → StandsAt m.entries k i → slice_get (values_of m.entries) i ≡ Some v
    → OnOk r (w.values ≡ v.values ++ value ∷ []) → OnOk r (AddsAt m.entries k value (set_value_at m.entries i w))
pushed_there m unique i k v w value (Ok done) s is values = pushed_at m unique i k v w (standing m.entries i k v s is) value values
pushed_there m unique i k v w value (Err e) s is values = tt

pub texts_there : (es : List Held) (i : ℕ) (k : Series) (v w : PendingSeries) (text : Option SeriesText) (r : Result (Unit {0}) AllocError) → StandsAt es k i → slice_get (values_of es) i ≡ Some v
    → OnOk r (w.text ≡ text) → OnErr r (w ≡ v) → IsKnownBy k text → KeepTexts es → KeepTexts (set_value_at es i w)
texts_there es i k v w text (Ok done) s is new same known keep = other_text es i k v w (standing es i k v s is) (subst (IsKnownBy k) (sym new) known) keep
texts_there es i k v w text (Err e) s is new same known keep = same_texts es i v w is (ap (λ (u : PendingSeries). u.text) same) keep

-- where a series is found
pub found_stands : (es : List Held) (i : ℕ) (k j : Series) (v : PendingSeries) → slice_get es i ≡ Some (j, v) → lookup_key (is_same_series k) es ≡ Some j → StandsAt es k i
found_stands es i k j v is key =
    let same : k ≡ j = same_series k j (lookup_key_passes (is_same_series k) es j key) in
    (v, is ∙ ap (λ (s : Series). Some (s, v)) (sym same))
