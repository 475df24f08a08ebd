-- What is kept was kept before or put, and stays shown.
use Rattle.std.proofs.Common.{◌≡◌, inl, inr, ℕ, suc, ◌-◌, ◌≤◌, Bool, true, false, List, [], ◌∷◌, length, take, Contains, rules, IfSome, Option, Some, None, refl, sym, ap, subst, ◌∙◌, arith}
use Rattle.std.proofs.lemmas.List.{length-take}
use Rattle.std.specs.Borrow.{Bor}
use Rattle.std.specs.Prelude.{option_copied, Result, Ok, Err, IfOk, OnOk, OnErr}
use Rattle.std.specs.Map.{lookup, lookup_entry, remove_entry}
use Rattle.std.specs.Option.{option_map_or}
use Rattle.list_lemmas.proofs.BoolTests.{both_true}
use Rattle.list_lemmas.proofs.ListMembers.{not_in}
use Rattle.lru.specs.LruCache.{LruCache, lru_cache, promoted, put_entries}
use Rattle.lru.proofs.CallerLemmas.{Contains-lookup, Contains-promoted, Contains-put_entries}
use Rattle.short_bytes.specs.Alike.{same_list}
use Rattle.tsd_base.specs.declared.kinds.Kind.{Kind}
use Rattle.tsd_base.specs.contracts.kinds.KindPartialEq.TheImpl as kinds
use Rattle.row_key.specs.declared.tables.Table.{Table}
use Rattle.row_key.specs.contracts.tables.TablePartialEq.TheImpl as tables
use Rattle.uid_table.specs.declared.cache.NameKey.{NameKey}
use Rattle.uid_table.specs.declared.cache.IdKey.{IdKey}
use Rattle.uid_table.specs.contracts.cache.NameKeyPartialEq.TheImpl as names
use Rattle.uid_table.specs.contracts.cache.IdKeyPartialEq.TheImpl as ids
use Rattle.cell_model.specs.declared.events.Step.{Step}
use Rattle.cell_model.specs.declared.events.Reply.{Reply}
use Rattle.cell_model.specs.declared.events.Placed.{Placed}
use Rattle.cell_model.specs.IdRows.{id_row}
use Rattle.cell_model.specs.Machine.{kind_qual}
use Rattle.cell_model.specs.Readings.{point_row}
use Rattle.cell_model.specs.Seen.{Seen, Waited, Stepped, IsPossible, KnowsCell}
use Rattle.cell_model.specs.Deeds.{Extends}
use Rattle.uid_table.specs.Shown.{HasShown, HasShownName}
use Rattle.uid_table.specs.IdSteps.{MadeSo}
use Rattle.std.specs.Global.{Box}
use Rattle.tsd_base.specs.declared.kinds.Kind.TheVariants.{Metric, TagKey, TagValue}
use Rattle.tsd_base.specs.TagList.{Pair}
use Rattle.tsd_base.specs.Points.{DataPoint, data_point}
use Rattle.row_key.specs.declared.keys.RowKey.{RowKey}
use Rattle.row_key.specs.Key.{IsKey, key_bytes}
use Rattle.cell_model.specs.Layout.{names_of}
use Rattle.uid_table.specs.declared.known_series.KnownSeries.{KnownSeries}
use Rattle.uid_table.specs.declared.placed_point.PlacedPoint.{PlacedPoint}
use Rattle.uid_table.specs.ShownKeys.{AllShown, IdsShown, PairsShown, KeyShown}
use Rattle.uid_table.specs.PlacedPoints.{IsPlaced}
use Rattle.uid_table.specs.KnownSeries.{IsShownSeries, IsShownSlot, KeepsSeries, KeepsNone}
use Rattle.uid_table.specs.Cache.{AreAmong, IsCapped, IsShownId, IsWithin, KeepsIds, KeepsNames, StaysWithin}
use Rattle.cell_laws.proofs.CallerLemmas.{wait_made, step_extends, extends_joined}
use Rattle.uid_table.proofs.Shows.{shown_kept, with_base}

same_kind : (k j : Kind) → (kinds.eq-value).it k j ≡ true → k ≡ j
same_kind k j e = search rules

same_table : (t u : Table) → (tables.eq-value).it t u ≡ true → t ≡ u
same_table t u e = search rules

pub same_name_key : (k j : NameKey) → (names.eq-value).it k j ≡ true → k ≡ j
same_name_key k j e =
    let p = both_true _ _ e in
    let q = both_true _ _ p.1 in
    let kind = same_kind k.kind j.kind p.0 in
    let table = same_table k.row.table j.row.table q.0 in
    let bytes = same_list k.row.bytes j.row.bytes q.1 in
    λ i. record { kind = kind i; row = record { table = table i; bytes = bytes i } }

pub same_id_key : (k j : IdKey) → (ids.eq-value).it k j ≡ true → k ≡ j
same_id_key k j e = search rules

as_it_is : {K V : Type 0} (old new it : LruCache K V) → new ≡ it → StaysWithin old it → StaysWithin old new
as_it_is old new it is = subst (StaysWithin old) (sym is)

module _ {K V : Type 0} (test : K → Bool) where
  -- a pair that is there goes out once
  removed_length : (es : List (K × V)) (f : K × V) → lookup_entry test es ≡ Some f → suc (length (remove_entry test es)) ≡ length es
  removed_length [] f h = cc
  removed_length (e ∷ es) f h = (elim (test e.0) as (λ y. test e.0 ≡ y → suc (length (remove_entry test (e ∷ es))) ≡ suc (length es)) [
    | true ↦ λ t. rw t refl
    | false ↦ λ t. rw t (ap suc (removed_length es f (rw t at h)))
  ]) refl

  front_length : (es : List (K × V)) (o : Option (K × V)) → lookup_entry test es ≡ o → length (option_map_or (λ e. e ∷ remove_entry test es) o es) ≡ length es
  front_length es None h = refl
  front_length es (Some f) h = removed_length es f h

  pub promoted_length : (es : List (K × V)) → length (promoted test es) ≡ length es
  promoted_length es = front_length es (lookup_entry test es) refl

module _ {K V : Type 0} (eq : K → K → Bool) (c : LruCache K V) (k : K) (v : V) where
  put_within : (o : Option (K × V)) → lookup_entry (eq k) c.entries ≡ o → IsWithin c → length (option_map_or (λ e. (e.0, v) ∷ remove_entry (eq k) c.entries) o ((k, v) ∷ take (c.cap - 1) c.entries)) ≤ c.cap
  put_within None h w = let most = length-take (c.cap - 1) c.entries in omega (arith, most, w.0)
  put_within (Some f) h w = subst (λ n. n ≤ c.cap) (sym (removed_length (eq k) c.entries f h)) w.1

  -- one more pushes the last out of a full cache
  put_length : IsWithin c → length (put_entries eq c k v) ≤ c.cap
  put_length w = put_within (lookup_entry (eq k) c.entries) refl w

module _ {K V : Type 0} (eq : K → K → Bool) (exact : (k j : K) → eq k j ≡ true → k ≡ j) where
  -- a value that was found is kept by the key
  pub found_kept : (es : List (K × V)) (k : K) (o : Option V) → o ≡ lookup (eq k) es → IfSome o (λ v. Contains es (k, v))
  found_kept es k None e = tt
  found_kept es k (Some v) e = let in_it = Contains-lookup (eq k) es v (sym e) in subst (λ j. Contains es (j, v)) (sym (exact k in_it.0 in_it.2)) in_it.1

  -- and so is a copy of it
  pub copy_kept : (es : List (K × V)) (k : K) (r : Option (Bor V)) (x : Bor V) (v : V) → option_copied r ≡ lookup (eq k) es → r ≡ Some x → v ≡ x.now → Contains es (k, v)
  copy_kept es k r x v found is same = subst (λ w. Contains es (k, w)) (sym same) (found_kept es k (Some x.now) (ap option_copied (sym is) ∙ found))

  each_put : (P : K × V → Type 0) (c : LruCache K V) (k : K) (v : V) → ((e : K × V) → Contains c.entries e → P e) → P (k, v) → (e : K × V) → Contains (put_entries eq c k v) e → P e
  each_put P c k v all one e is = elim (Contains-put_entries eq c k v e is) [
    | inl was ↦ all e was
    | inr (value, inl key) ↦ subst P (λ i. (sym key i, sym value i)) one
    | inr (value, inr (w, was, same)) ↦ subst P (λ i. (exact k e.0 same i, sym value i)) one
  ]

  -- what holds of each pair and of the one that is put holds of each afterwards, whether there was memory or not
  pub after_put : {T E : Type 0} (P : K × V → Type 0) (old new : LruCache K V) (k : K) (v : V) (r : Result T E) → OnOk r (new ≡ lru_cache (put_entries eq old k v) old.cap) → OnErr r (new ≡ old)
      → ((e : K × V) → Contains old.entries e → P e) → P (k, v) → (e : K × V) → Contains new.entries e → P e
  after_put P old new k v (Ok x) done kept all one e is = each_put P old k v all one e (subst (λ (c : LruCache K V). Contains c.entries e) done is)
  after_put P old new k v (Err x) done kept all one e is = all e (subst (λ (c : LruCache K V). Contains c.entries e) kept is)

  -- nor does it change how many there may be, and no more are kept
  pub cap_put : {T E : Type 0} (old new : LruCache K V) (k : K) (v : V) (r : Result T E) → OnOk r (new ≡ lru_cache (put_entries eq old k v) old.cap) → OnErr r (new ≡ old) → StaysWithin old new
  cap_put old new k v (Ok x) done kept = as_it_is old new (lru_cache (put_entries eq old k v) old.cap) done record { cap = refl; within = λ w. (w.0, put_length eq old k v w) }
  cap_put old new k v (Err x) done kept = as_it_is old new old kept record { cap = refl; within = λ w. w }

  -- and so with a look
  pub cap_get : (old new : LruCache K V) (k : K) → new ≡ lru_cache (promoted (eq k) old.entries) old.cap → StaysWithin old new
  cap_get old new k same = as_it_is old new (lru_cache (promoted (eq k) old.entries) old.cap) same record { cap = refl; within = λ w. (w.0, subst (λ n. n ≤ old.cap) (sym (promoted_length (eq k) old.entries)) w.1) }

  -- a look leaves the pairs
  pub after_get : (old new : LruCache K V) (k : K) → new ≡ lru_cache (promoted (eq k) old.entries) old.cap → AreAmong new.entries old.entries
  after_get old new k same e is = Contains-promoted (eq k) old.entries e (subst (λ (c : LruCache K V). Contains c.entries e) same is)

-- nothing seen was lost, and it is possible where it was
abbrev pub IsLater : Seen → Seen → Type 0
IsLater old new = Extends old new × (IsPossible old → IsPossible new)

pub name_shown_kept : (s t : Seen) (kind : Kind) (id : ℕ) (name : List ℕ) → Extends s t → HasShownName s kind id name → HasShownName t kind id name
name_shown_kept s t kind id name e h = record {
  is_name = h.is_name;
  known = let k = with_base s t (λ w. KnowsCell s (id_row w kind id) (kind_qual kind) name) e.base h.known in (k.0, k.1, e.kept k.0 k.1 k.2, k.3);
  stands = λ later more. h.stands later (extends_joined s t later e more);
}

-- then what is kept stays shown
pub ids_kept : (s t : Seen) (ids : List (NameKey × ℕ)) → IsLater s t → KeepsIds s ids → KeepsIds t ids
ids_kept s t ids on all pair is = let shown = all pair is in (shown_kept s t pair.0.kind pair.0.row.bytes pair.1 on.0 shown.0, on.1 shown.1)

pub names_kept : (s t : Seen) (names : List (IdKey × List ℕ)) → IsLater s t → KeepsNames s names → KeepsNames t names
names_kept s t names on all pair is = let shown = all pair is in (name_shown_kept s t pair.0.kind pair.0.id pair.1 on.0 shown.0, on.1 shown.1)

-- so it is after a call, whatever it made
pub made_on : (old new : Seen) (P : List Placed → Type 0) → MadeSo old P new → IsLater old new
made_on old new P m = (m.1.since.extends, m.1.since.lives)

-- and after a step, whether it was made or not
pub step_on : {T E : Type 0} (old new : Seen) (step : Step) (reply : T → Reply) (r : Result T E) → IfOk r (λ x. Stepped old step (reply x) new) → OnErr r (Waited old new)
    → OnOk r (IsPossible new) → OnErr r (IsPossible old → IsPossible new) → IsLater old new
step_on old new step reply (Ok x) done waited possible lives = (step_extends old new step (reply x) done, λ _. possible)
step_on old new step reply (Err e) done waited possible lives = made_on old new (λ list. list ≡ []) ([], wait_made old new waited lives, refl)

all_shown_kept : (s t : Seen) (names : List (Kind × List ℕ)) → Extends s t → AllShown s names → AllShown t names
all_shown_kept s t names e all k n c = let w = all k n c in (w.0, shown_kept s t k n w.0 e w.1)

ids_shown_kept : (s t : Seen) (p : Pair) (i : ℕ × ℕ) → Extends s t → IdsShown s p i → IdsShown t p i
ids_shown_kept s t p i e shown = (shown_kept s t TagKey p.0 i.0 e shown.0, shown_kept s t TagValue p.1 i.1 e shown.1)

pairs_shown_kept : (s t : Seen) (tags : List Pair) (pairs : List (ℕ × ℕ)) → Extends s t → PairsShown s tags pairs → PairsShown t tags pairs
pairs_shown_kept s t tags pairs e p = record {
  rising = p.rising;
  count = p.count;
  each_tag = λ g c. let w = p.each_tag g c in (w.0, w.1, ids_shown_kept s t g w.0 e w.2);
  each_pair = λ i c. let w = p.each_pair i c in (w.0, w.1, ids_shown_kept s t w.0 i e w.2);
}

key_shown_kept : (s t : Seen) (p : DataPoint) (key : RowKey) → Extends s t → KeyShown s p key → KeyShown t p key
key_shown_kept s t p key e k = record {
  is_point = k.is_point;
  is_key = with_base s t (λ w. IsKey w key) e.base k.is_key;
  metric = shown_kept s t Metric p.metric key.metric e k.metric;
  base = k.base;
  pairs = pairs_shown_kept s t p.tags key.pairs.items e k.pairs;
}

-- a point that is placed stays so
pub placed_kept : (s t : Seen) (p : PlacedPoint) → IsLater s t → IsPlaced s p → IsPlaced t p
placed_kept s t p on h = record {
  key = h.key;
  shown = key_shown_kept s t (data_point p.point) h.key on.0 h.shown;
  row = with_base s t (λ w. p.row ≡ point_row (key_bytes w h.key)) on.0.base h.row;
  base = h.base;
  width = with_base s t (λ w. w.metric ≡ p.metric_width) on.0.base h.width;
  names = all_shown_kept s t (names_of (data_point p.point)) on.0 h.names;
  possible = on.1 h.possible;
}

pub series_shown_kept : (s t : Seen) (k : KnownSeries) → IsLater s t → IsShownSeries s k → IsShownSeries t k
series_shown_kept s t k on h = record { reads = h.reads; placed = placed_kept s t k.placed on h.placed }

slot_kept : (s t : Seen) (slot : Option (Box KnownSeries)) → IsLater s t → IsShownSlot s slot → IsShownSlot t slot
slot_kept s t None on h = tt
slot_kept s t (Some b) on h = series_shown_kept s t b.value on h

pub series_kept : (s t : Seen) (slots : List (Option (Box KnownSeries))) → IsLater s t → KeepsSeries s slots → KeepsSeries t slots
series_kept s t slots on all k d lt = slot_kept s t _ on (all k d lt)

pub none_kept : (s : Seen) (slots : List (Option (Box KnownSeries))) → KeepsNone slots → KeepsSeries s slots
none_kept s slots none k d lt = subst (IsShownSlot s) (sym (none k d lt)) tt

-- a cache that was emptied keeps no more than it may
pub emptied_within : {K V : Type 0} (old new : LruCache K V) → new ≡ lru_cache [] old.cap → StaysWithin old new
emptied_within old new is = as_it_is old new (lru_cache [] old.cap) is record { cap = refl; within = λ w. (w.0, omega arith) }

-- no pair is kept
pub no_pairs : {K V : Type 0} (P : K × V → Type 0) (c : LruCache K V) (cap : ℕ) → c ≡ lru_cache [] cap → (e : K × V) → Contains c.entries e → P e
no_pairs P c cap is e h = absurd (not_in e (subst (λ (x : LruCache _ _). Contains x.entries e) is h))

pub kept_on : {C : Type 0} (s t : Seen) (ids : List (NameKey × ℕ)) (names : List (IdKey × List ℕ)) (slots : List (Option (Box KnownSeries))) → KeepsIds s ids × KeepsNames s names × KeepsSeries s slots × C → IsLater s t
    → KeepsIds t ids × KeepsNames t names × KeepsSeries t slots × C
kept_on s t ids names slots all on = (ids_kept s t ids on all.0, names_kept s t names on all.1, series_kept s t slots on all.2, all.3)

-- a cache that nothing was done to
pub still_within : {K V : Type 0} (c : LruCache K V) → StaysWithin c c
still_within c = record { cap = refl; within = λ w. w }

-- no call changes how many pairs may be kept, and none keeps more
pub capped_on : (ids ids' : LruCache NameKey ℕ) (names names' : LruCache IdKey (List ℕ)) → StaysWithin ids ids' → StaysWithin names names' → IsCapped ids names → IsCapped ids' names'
capped_on ids ids' names names' a b capped = (
  a.within capped.0,
  b.within capped.1,
  subst (λ n. n ≤ 1000000) (sym a.cap) capped.2,
  subst (λ n. n ≤ 1000000) (sym b.cap) capped.3,
)

-- a look leaves what is kept shown
pub look_kept : {K V : Type 0} (P : K × V → Type 0) (old new : List (K × V)) → AreAmong new old → ((e : K × V) → Contains old e → P e) → (e : K × V) → Contains new e → P e
look_kept P old new among all e is = all e (among e is)

-- what was shown, under the names of its key
pub shown_as : (s : Seen) (key : NameKey) (kind : Kind) (name : List ℕ) (id id' : ℕ) → key.kind ≡ kind → key.row.bytes ≡ name → id' ≡ id → HasShown s kind name id → IsPossible s → IsShownId s (key, id')
shown_as s key kind name id id' k n i shown possible = (subst (λ (x : Kind × List ℕ × ℕ). HasShown s x.0 x.1 x.2) (λ j. (sym k j, sym n j, sym i j)) shown, possible)

-- what holds of the id that a look showed
pub one_found : (P : ℕ → Type 0) (o : Option ℕ) (id : ℕ) → o ≡ Some id → IfSome o P → P id
one_found P o id is shows = subst (λ x. IfSome x P) is shows
