-- Asking for the ids of names, one after the other.
use Rattle.std.proofs.Common.{◌≡◌, inl, inr, ℕ, suc, ◌+◌, ◌<◌, ◌≤◌, List, [], ◌∷◌, ◌++◌, length, take, drop, get_or, refl, sym, ap, subst, ◌∙◌, arith, append_assoc, length-append}
use Rattle.std.specs.Prelude.{Contains, Ok, Err, map}
use Rattle.std.specs.List.{AllZip, flat_map}
use Rattle.std.proofs.lemmas.Grind.{flat_map-append}
use Rattle.std.proofs.lemmas.List.{append-nil, take_all}
use Rattle.std.proofs.lemmas.List.Elements.{Contains-append_right, Contains-append_cases}
use Rattle.tsd_base.specs.declared.kinds.Kind.{Kind}
use Rattle.tsd_base.specs.declared.kinds.Kind.TheVariants.{TagKey, TagValue}
use Rattle.query_text.specs.declared.queries.Test.{Test}
use Rattle.query_text.specs.declared.queries.Test.TheVariants as text
use Rattle.query_text.specs.declared.queries.Filter.{Filter}
use Rattle.cell_model.specs.declared.events.Placed.{Placed}
use Rattle.cell_model.specs.KindWidths.{Widths, IsKindId, kind_bytes}
use Rattle.cell_model.specs.IdRows.{name_row}
use Rattle.cell_model.specs.Machine.{kind_qual}
use Rattle.cell_model.specs.Store.{Store}
use Rattle.cell_model.specs.Seen.{Seen, KnowsCell}
use Rattle.cell_model.specs.Deeds.{Extends}
use Rattle.uid_table.specs.declared.id_answers.ResolveFault.TheVariants as resolve
use Rattle.uid_table.specs.Shown.{HasShown}
use Rattle.uid_table.specs.IdSteps.{MadeSo, LookedOrKept, ResolveMade}
use Rattle.metric_scan.specs.declared.fault.AskFault.{AskFault}
use Rattle.metric_scan.specs.declared.fault.AskFault.TheVariants.{TooManyBuckets, BadFilter, Unknown, Duplicate, Overflow, OutOfMemory, Stopped}
use Rattle.metric_scan.specs.declared.id_filter.IdTest.{IdTest}
use Rattle.metric_scan.specs.declared.id_filter.IdTest.TheVariants.{Any, OneOf, NotOneOf}
use Rattle.metric_scan.specs.declared.id_filter.IdFilter.{IdFilter}
use Rattle.std.specs.List.Sorted.{IsPermutation}
use Rattle.metric_scan.specs.IdFilters.{AreIds, IsIdTest, IsIdFilter}
use Rattle.metric_scan.specs.Parts.{NameOf}
use Rattle.metric_scan.specs.SubNames.{filter_names, test_names}
use Rattle.metric_scan.specs.ResolvedIds.{AreShown, AreLooks, AreResolved, IsFirstUnknown, UnresolvedBy, IsUnresolved}
use Rattle.metric_scan.proofs.Lower as lower
use Rattle.metric_scan.proofs.NameReads.{AreFew, no_reads, none_few, one_few, reads_joined, about, taken}
use Rattle.metric_scan.proofs.TagNames.{zip_push}

-- ---- what is seen stays so

pub id_later : (s t : Seen) (kind : Kind) (name : List ℕ) (id : ℕ) → Extends s t → HasShown s kind name id → HasShown t kind name id
id_later s t kind name id e h = record {
  is_id = subst (λ (b : Store). IsKindId b.widths kind id) (sym e.base) h.is_id;
  is_name = h.is_name;
  known =
      let k = h.known in
      let still : KnowsCell t (name_row name) (kind_qual kind) (kind_bytes s.base.widths kind id) = (k.0, k.1, e.kept k.0 k.1 k.2, k.3) in
      subst (λ (b : Store). KnowsCell t (name_row name) (kind_qual kind) (kind_bytes b.widths kind id)) (sym e.base) still;
  stands = λ later more. h.stands later (lower.extends_joined s t later e more);
}

shown_later : (s t : Seen) (names : List NameOf) → Extends s t → AreShown s names → AreShown t names
shown_later s t names e all n c = let w = all n c in (w.0, id_later s t n.0 n.1 w.0 e w.1)

shown_joined : (s : Seen) (ns ms : List NameOf) → AreShown s ns → AreShown s ms → AreShown s (ns ++ ms)
shown_joined s ns ms a b n c = elim (Contains-append_cases ns ms n c) [ inl l ↦ a n l | inr r ↦ b n r ]

zip_weaker : {A B : Type 0} (R S : A → B → Type 0) → ((a : A) (b : B) → R a b → S a b) → (xs : List A) (ys : List B) → AllZip R xs ys → AllZip S xs ys
zip_weaker R S h [] [] z = tt
zip_weaker R S h [] (y ∷ ys) z = absurd z
zip_weaker R S h (x ∷ xs) [] z = absurd z
zip_weaker R S h (x ∷ xs) (y ∷ ys) z = (h x y z.0, zip_weaker R S h xs ys z.1)

ids_later : (s t : Seen) (names : List (List ℕ)) (ids : List ℕ) → Extends s t → AreIds s names ids → AreIds t names ids
ids_later s t names ids e = zip_weaker (λ name id. HasShown s TagValue name id) (λ name id. HasShown t TagValue name id) (λ name id. id_later s t TagValue name id e) names ids

test_later : (s t : Seen) (test : Test) (by : IdTest) → Extends s t → IsIdTest s test by → IsIdTest t test by
test_later s t text.Any Any e h = tt
test_later s t text.Any (OneOf ids) e h = absurd h
test_later s t text.Any (NotOneOf ids) e h = absurd h
test_later s t (text.OneOf names) Any e h = absurd h
test_later s t (text.OneOf names) (OneOf ids) e h = (h.0, ids_later s t names h.0 e h.1, h.2)
test_later s t (text.OneOf names) (NotOneOf ids) e h = absurd h
test_later s t (text.NotOneOf names) Any e h = absurd h
test_later s t (text.NotOneOf names) (OneOf ids) e h = absurd h
test_later s t (text.NotOneOf names) (NotOneOf ids) e h = (h.0, ids_later s t names h.0 e h.1, h.2)
test_later s t (text.Wild part) Any e h = tt
test_later s t (text.Wild part) (OneOf ids) e h = absurd h
test_later s t (text.Wild part) (NotOneOf ids) e h = absurd h
test_later s t (text.Pattern part) Any e h = tt
test_later s t (text.Pattern part) (OneOf ids) e h = absurd h
test_later s t (text.Pattern part) (NotOneOf ids) e h = absurd h

filter_later : (s t : Seen) (f : Filter) (by : IdFilter) → Extends s t → IsIdFilter s f by → IsIdFilter t f by
filter_later s t f by e h = record { key = id_later s t TagKey f.key by.key e h.key; test = test_later s t f.test by.test e h.test }

-- ---- names behind names

looks_joined : (ns ms : List NameOf) (xs ys : List Placed) → AreLooks ns xs → AreLooks ms ys → AreLooks (ns ++ ms) (xs ++ ys)
looks_joined ns ms xs ys a b = record {
  reads = reads_joined xs ys a.reads b.reads;
  few = let x = a.few in let y = b.few in let l = length-append xs ys in let m = length-append ns ms in omega (arith, x, y, l, m);
}

looks_wider : (ns ms : List NameOf) (xs : List Placed) → AreLooks ns xs → AreLooks (ns ++ ms) xs
looks_wider ns ms xs a = record { reads = a.reads; few = let x = a.few in let m = length-append ns ms in omega (arith, x, m) }

pub resolved_none : (s : Seen) → AreResolved s [] s
resolved_none s = record { list = []; made = lower.nothing_made s; looks = record { reads = no_reads; few = omega arith }; shown = λ n c. absurd (lower.not_in {X = NameOf} n c) }

pub resolved_joined : (a b c : Seen) (ns ms : List NameOf) → AreResolved a ns b → AreResolved b ms c → AreResolved a (ns ++ ms) c
resolved_joined a b c ns ms p q = record {
  list = p.list ++ q.list;
  made = lower.made_joined a b c p.list q.list p.made q.made;
  looks = looks_joined ns ms p.list q.list p.looks q.looks;
  shown = shown_joined c ns ms (shown_later b c ns q.made.since.extends p.shown) q.shown;
}

unresolved_by : (ns ms : List NameOf) (list : List Placed) (new : Seen) (fault : AskFault) → UnresolvedBy ns list new fault → UnresolvedBy (ns ++ ms) list new fault
unresolved_by ns ms list new (Unknown kind name) u =
    record { before = u.before; after = u.after ++ ms; cut = ap (λ l. l ++ ms) u.cut ∙ append_assoc u.before ((kind, name) ∷ u.after) ms; shown = u.shown; none = u.none }
unresolved_by ns ms list new OutOfMemory u = tt
unresolved_by ns ms list new Stopped u = tt
unresolved_by ns ms list new (TooManyBuckets count) u = absurd u
unresolved_by ns ms list new (BadFilter index) u = absurd u
unresolved_by ns ms list new (Duplicate time x y) u = absurd u
unresolved_by ns ms list new (Overflow time) u = absurd u

pub unresolved_wider : (a b : Seen) (ns ms : List NameOf) (fault : AskFault) → IsUnresolved a ns fault b → IsUnresolved a (ns ++ ms) fault b
unresolved_wider a b ns ms fault p = record { list = p.list; made = p.made; looks = looks_wider ns ms p.list p.looks; cause = unresolved_by ns ms p.list b fault p.cause }

unresolved_after : (ns ms : List NameOf) (xs ys : List Placed) (new : Seen) (fault : AskFault) → AreShown new ns → UnresolvedBy ms ys new fault → UnresolvedBy (ns ++ ms) (xs ++ ys) new fault
unresolved_after ns ms xs ys new (Unknown kind name) shown u = record {
  before = ns ++ u.before;
  after = u.after;
  cut = ap (λ l. ns ++ l) u.cut ∙ sym (append_assoc ns u.before ((kind, name) ∷ u.after));
  shown = shown_joined new ns u.before shown u.shown;
  none = let w = u.none in (w.0, Contains-append_right xs ys w.0 w.1, w.2);
}
unresolved_after ns ms xs ys new OutOfMemory shown u = tt
unresolved_after ns ms xs ys new Stopped shown u = tt
unresolved_after ns ms xs ys new (TooManyBuckets count) shown u = absurd u
unresolved_after ns ms xs ys new (BadFilter index) shown u = absurd u
unresolved_after ns ms xs ys new (Duplicate time x y) shown u = absurd u
unresolved_after ns ms xs ys new (Overflow time) shown u = absurd u

pub unresolved_behind : (a b c : Seen) (ns ms : List NameOf) (fault : AskFault) → AreResolved a ns b → IsUnresolved b ms fault c → IsUnresolved a (ns ++ ms) fault c
unresolved_behind a b c ns ms fault p q = record {
  list = p.list ++ q.list;
  made = lower.made_joined a b c p.list q.list p.made q.made;
  looks = looks_joined ns ms p.list q.list p.looks q.looks;
  cause = unresolved_after ns ms p.list q.list c fault (shown_later b c ns q.made.since.extends p.shown) q.cause;
}

-- no memory for what was resolved
pub resolved_lost : (a b : Seen) (ns : List NameOf) → AreResolved a ns b → IsUnresolved a ns OutOfMemory b
resolved_lost a b ns p = record { list = p.list; made = p.made; looks = p.looks; cause = tt }

-- ---- one name

looks_few : (widths : Widths) (kind : Kind) (name : List ℕ) (id : ℕ) (list : List Placed) → LookedOrKept widths kind name id list → AreFew list
looks_few widths kind name id list (inl is) = none_few list is
looks_few widths kind name id list (inr (d, is, look)) = one_few list d is look

one_look : (n : NameOf) (list : List Placed) → AreFew list → AreLooks (n ∷ []) list
one_look n list f = record { reads = f.0; few = let l = f.1 in omega (arith, l) }

pub name_resolved : (old new : Seen) (kind : Kind) (name : List ℕ) (id : ℕ) → MadeSo old (ResolveMade old.base.widths kind name (Ok id)) new → HasShown new kind name id → AreResolved old ((kind, name) ∷ []) new
name_resolved old new kind name id (list, made, how) shown = record {
  list = list;
  made = made;
  looks = one_look (kind, name) list (looks_few old.base.widths kind name id list how);
  shown = λ n c. elim (lower.split {X = NameOf} (kind, name) n [] c) [
    | inl is ↦ subst (λ (x : NameOf). (i : ℕ) × HasShown new x.0 x.1 i) is (id, shown)
    | inr none ↦ absurd (lower.not_in {X = NameOf} n none)
  ];
}

-- the name is unknown, or there is no memory to tell it
pub name_unknown : (old new : Seen) (kind k : Kind) (name : List ℕ) → MadeSo old (ResolveMade old.base.widths kind name (Err (resolve.Unknown k))) new → IsUnresolved old ((kind, name) ∷ []) (Unknown k name) new
name_unknown old new kind k name (list, made, (same, (d, is, look))) = record {
  list = list;
  made = made;
  looks = one_look (kind, name) list (one_few list d is look);
  cause = subst (λ (x : Kind). IsFirstUnknown ((kind, name) ∷ []) (x, name) list new) (sym same) (record {
    before = [];
    after = [];
    cut = refl;
    shown = λ m c. absurd (lower.not_in {X = NameOf} m c);
    none = (d, subst (λ (l : List Placed). Contains l d) (sym is) (lower.here d []), look);
  });
}

pub name_untold : (old new : Seen) (kind k : Kind) (name : List ℕ) → MadeSo old (ResolveMade old.base.widths kind name (Err (resolve.Unknown k))) new → IsUnresolved old ((kind, name) ∷ []) OutOfMemory new
name_untold old new kind k name m = let u = name_unknown old new kind k name m in record { list = u.list; made = u.made; looks = u.looks; cause = tt }

pub name_lost : (old new : Seen) (kind : Kind) (name : List ℕ) → MadeSo old (ResolveMade old.base.widths kind name (Err resolve.OutOfMemory)) new → IsUnresolved old ((kind, name) ∷ []) OutOfMemory new
name_lost old new kind name (list, made, is) = record { list = list; made = made; looks = one_look (kind, name) list (none_few list is); cause = tt }

pub name_stopped : (old new : Seen) (kind : Kind) (name : List ℕ) → MadeSo old (ResolveMade old.base.widths kind name (Err resolve.Stopped)) new → IsUnresolved old ((kind, name) ∷ []) Stopped new
name_stopped old new kind name (list, made, is) = record { list = list; made = made; looks = one_look (kind, name) list (none_few list is); cause = tt }

-- ---- along a list, each of whose elements has names

module _ {X Y : Type 0} (names : X → List NameOf) (Is : Seen → X → Y → Type 0) (later : (s t : Seen) (x : X) (y : Y) → Extends s t → Is s x y → Is t x y) where
  abbrev names_of : List X → List NameOf
  names_of xs = flat_map names xs

  -- the first ones were resolved
  pub record SoFar (old : Seen) (xs : List X) (ys : List Y) (now : Seen) : Type 0 where
    pub resolved : AreResolved old (names_of xs) now
    pub are : AllZip (Is now) xs ys

  pub far_none : (s : Seen) (ys : List Y) → ys ≡ [] → SoFar s [] ys s
  far_none s ys is = record { resolved = resolved_none s; are = subst (AllZip (Is s) []) (sym is) tt }

  all_later : (s t : Seen) (xs : List X) (ys : List Y) → Extends s t → AllZip (Is s) xs ys → AllZip (Is t) xs ys
  all_later s t xs ys e = zip_weaker (Is s) (Is t) (λ x y. later s t x y e) xs ys

  names_behind : (xs : List X) (x : X) → names_of (xs ++ x ∷ []) ≡ names_of xs ++ names x
  names_behind xs x = flat_map-append names xs (x ∷ []) ∙ ap (λ l. names_of xs ++ l) (append-nil (names x))

  module _ (old now new : Seen) (xs : List X) (i : ℕ) (x : X) (ys : List Y) (lt : i < length xs) (is : x ≡ get_or xs i x) (far : SoFar old (take i xs) ys now) where
    pub far_more : (y : Y) (more : List Y) → AreResolved now (names x) new → Is new x y → more ≡ ys ++ y ∷ [] → SoFar old (take (i + 1) xs) more new
    far_more y more r one are = record {
      resolved = subst (λ (l : List X). AreResolved old (names_of l) new) (sym (taken xs i x lt is)) (subst (λ l. AreResolved old l new) (sym (names_behind (take i xs) x)) (resolved_joined old now new (names_of (take i xs)) (names x) far.resolved r));
      are = subst (λ (l : List X). AllZip (Is new) l more) (sym (taken xs i x lt is)) (subst (AllZip (Is new) (take i xs ++ x ∷ [])) (sym are)
          (zip_push (Is new) (take i xs) ys x y (all_later now new (take i xs) ys r.made.since.extends far.are) one));
    }

    names_cut : names_of xs ≡ (names_of (take i xs) ++ names x) ++ names_of (drop (suc i) xs)
    names_cut = ap names_of (about xs i x lt is) ∙ flat_map-append names (take i xs) (x ∷ drop (suc i) xs) ∙ sym (append_assoc (names_of (take i xs)) (names x) (names_of (drop (suc i) xs)))

    pub far_fails : (fault : AskFault) → IsUnresolved now (names x) fault new → IsUnresolved old (names_of xs) fault new
    far_fails fault u = subst (λ l. IsUnresolved old l fault new) (sym names_cut)
        (unresolved_wider old new (names_of (take i xs) ++ names x) (names_of (drop (suc i) xs)) fault (unresolved_behind old now new (names_of (take i xs)) (names x) fault far.resolved u))

    -- no memory to keep it
    pub far_lost : AreResolved now (names x) new → IsUnresolved old (names_of xs) OutOfMemory new
    far_lost r = far_fails OutOfMemory (resolved_lost now new (names x) r)

  pub far_all : (old now : Seen) (xs : List X) (i : ℕ) (ys : List Y) → length xs ≤ i → SoFar old (take i xs) ys now → SoFar old xs ys now
  far_all old now xs i ys le far = subst (λ (l : List X). SoFar old l ys now) (take_all i xs le) far

-- ---- values, and filters

abbrev pub value_name : List ℕ → List NameOf
value_name name = (TagValue, name) ∷ []

pub value_names : (values : List (List ℕ)) → flat_map value_name values ≡ map (λ name. (TagValue, name)) values
value_names [] = refl
value_names (v ∷ values) = ap (λ (l : List NameOf). (TagValue, v) ∷ l) (value_names values)

abbrev pub IsValue : Seen → List ℕ → ℕ → Type 0
IsValue s name id = HasShown s TagValue name id

pub value_later : (s t : Seen) (name : List ℕ) (id : ℕ) → Extends s t → IsValue s name id → IsValue t name id
value_later s t name id e h = id_later s t TagValue name id e h

pub by_filter_later : (s t : Seen) (f : Filter) (by : IdFilter) → Extends s t → IsIdFilter s f by → IsIdFilter t f by
by_filter_later s t f by e h = filter_later s t f by e h

-- the ids of a test's names
pub one_of_test : (old new : Seen) (test : Test) (names : List (List ℕ)) (listed ids : List ℕ) → test ≡ text.OneOf names → AreResolved old (map (λ name. (TagValue, name)) names) new × AreIds new names listed → IsPermutation listed ids
    → AreResolved old (map (λ name. (TagValue, name)) (test_names test)) new × IsIdTest new test (OneOf ids)
one_of_test old new test names listed ids is (resolved, are) same = subst (λ (t : Test). AreResolved old (map (λ name. (TagValue, name)) (test_names t)) new × IsIdTest new t (OneOf ids)) (sym is) (resolved, (listed, are, same))

pub not_one_of_test : (old new : Seen) (test : Test) (names : List (List ℕ)) (listed ids : List ℕ) → test ≡ text.NotOneOf names → AreResolved old (map (λ name. (TagValue, name)) names) new × AreIds new names listed → IsPermutation listed ids
    → AreResolved old (map (λ name. (TagValue, name)) (test_names test)) new × IsIdTest new test (NotOneOf ids)
not_one_of_test old new test names listed ids is (resolved, are) same = subst (λ (t : Test). AreResolved old (map (λ name. (TagValue, name)) (test_names t)) new × IsIdTest new t (NotOneOf ids)) (sym is) (resolved, (listed, are, same))

-- a test that names nothing
pub any_test : (s : Seen) (test : Test) → test ≡ text.Any → AreResolved s (map (λ name. (TagValue, name)) (test_names test)) s × IsIdTest s test Any
any_test s test is = subst (λ (t : Test). AreResolved s (map (λ name. (TagValue, name)) (test_names t)) s × IsIdTest s t Any) (sym is) (resolved_none s, tt)

pub wild_test : (s : Seen) (test : Test) (part : List ℕ) → test ≡ text.Wild part → AreResolved s (map (λ name. (TagValue, name)) (test_names test)) s × IsIdTest s test Any
wild_test s test part is = subst (λ (t : Test). AreResolved s (map (λ name. (TagValue, name)) (test_names t)) s × IsIdTest s t Any) (sym is) (resolved_none s, tt)

pub pattern_test : (s : Seen) (test : Test) (part : List ℕ) → test ≡ text.Pattern part → AreResolved s (map (λ name. (TagValue, name)) (test_names test)) s × IsIdTest s test Any
pattern_test s test part is = subst (λ (t : Test). AreResolved s (map (λ name. (TagValue, name)) (test_names t)) s × IsIdTest s t Any) (sym is) (resolved_none s, tt)

-- a filter's key, and then its test
module _ (f : Filter) (old mid new : Seen) where
  abbrev key_name : List NameOf
  key_name = (TagKey, f.key) ∷ []

  abbrev value_names_of : List NameOf
  value_names_of = map (λ name. (TagValue, name)) (test_names f.test)

  pub key_unresolved : (fault : AskFault) → IsUnresolved old key_name fault mid → IsUnresolved old (filter_names f) fault mid
  key_unresolved fault u = unresolved_wider old mid key_name value_names_of fault u

  pub test_unresolved : (fault : AskFault) → AreResolved old key_name mid → IsUnresolved mid value_names_of fault new → IsUnresolved old (filter_names f) fault new
  test_unresolved fault r u = unresolved_behind old mid new key_name value_names_of fault r u

  pub filter_resolved : (by : IdFilter) → AreResolved old key_name mid → HasShown mid TagKey f.key by.key → AreResolved mid value_names_of new → IsIdTest new f.test by.test → AreResolved old (filter_names f) new × IsIdFilter new f by
  filter_resolved by r shown t test = (resolved_joined old mid new key_name value_names_of r t, record { key = id_later mid new TagKey f.key by.key t.made.since.extends shown; test = test })
