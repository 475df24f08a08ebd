-- Asking for the ids of names, one after the other.
use Rattle.std.proofs.Common.{◌≡◌, inl, inr, ℕ, suc, ◌+◌, ◌<◌, ◌≤◌, List, [], ◌∷◌, ◌++◌, length, take, drop, get_or, refl, sym, ap, subst, ◌∙◌, arith, append_assoc, length-append}
use Rattle.std.specs.Prelude.{Contains, Option, Result, Ok, Err, IsErrAnd}
use Rattle.std.proofs.lemmas.List.Elements.{All-contains_itself, Contains-append_right, Contains-append_cases}
use Rattle.std.proofs.lemmas.Result.{err_from_is_err_and}
use Rattle.tsd_base.specs.declared.kinds.Kind.{Kind}
use Rattle.tsd_base.specs.declared.kinds.Kind.TheVariants.{Metric, TagKey, TagValue}
use Rattle.tsd_base.specs.TagList.{Pair, IsTags}
use Rattle.row_key.specs.declared.keys.RowKey.{RowKey}
use Rattle.qual_codec.specs.declared.cells.Cell.{Cell}
use Rattle.cell_model.specs.declared.row.Row.{Row}
use Rattle.cell_model.specs.declared.events.Placed.{Placed}
use Rattle.cell_model.specs.declared.events.Step.TheVariants.{Read}
use Rattle.cell_model.specs.declared.events.Reply.TheVariants.{Shown}
use Rattle.cell_model.specs.KindWidths.{Widths}
use Rattle.cell_model.specs.Layout.{base_time, tag_names}
use Rattle.cell_model.specs.Seen.{Seen}
use Rattle.cell_model.specs.Deeds.{Extends}
use Rattle.uid_table.specs.declared.id_answers.ResolveFault.TheVariants as resolve
use Rattle.uid_table.specs.Shown.{HasShown}
use Rattle.uid_table.specs.ShownKeys.{IdsShown, PairsShown}
use Rattle.uid_table.specs.IdSteps.{MadeSo, DidRead, LookedOrKept, ResolveMade}
use Rattle.metric_scan.specs.declared.fault.AskFault.{AskFault}
use Rattle.metric_scan.specs.declared.fault.AskFault.TheVariants.{TooManyBuckets, BadFilter, Unknown, Duplicate, Overflow, OutOfMemory, Stopped}
use Rattle.metric_scan.specs.Parts.{NameOf}
use Rattle.metric_scan.specs.RowNames.{AreReads}
use Rattle.metric_scan.specs.ResolvedIds.{AreShown, AreLooks, AreResolved, IsFirstUnknown, UnresolvedBy, IsUnresolved}
use Rattle.series_meta.specs.SeriesRows.{series_names, IsShownKey}
use Rattle.list_lemmas.proofs.ListMembers.{here, split, not_in}
use Rattle.cell_laws.proofs.CallerLemmas.{made_joined, nothing_made}
use Rattle.uid_table.proofs.CallerLemmas.{shown_kept}
use Rattle.series_meta.proofs.TagPairs.{about, taken, names_joined}

pub passed_on : {T E : Type 0} (P : Result T E → Type 0) (e : E) (r : Result T E) → IsErrAnd r (λ y. y ≡ e) → P (Err e) → P r
passed_on P e r is p = let y = err_from_is_err_and r is in subst P (sym (y.1 ∙ ap (λ x. Err x) y.2)) p

-- ---- reads

pub no_reads : AreReads []
no_reads p c = absurd (not_in p c)

pub one_read : (d : Placed) (row : Row) (cells : List Cell) → d.entry.step ≡ Read row → d.entry.reply ≡ Shown cells → AreReads (d ∷ [])
one_read d row cells s r p c = elim (split d p [] c) [
  | inl same ↦ (row, cells, sym (ap (λ (x : Placed). x.entry.step) same) ∙ s, sym (ap (λ (x : Placed). x.entry.reply) same) ∙ r)
  | inr none ↦ absurd (not_in p none)
]

did_read : {d : Placed} {row : Row} {kind : Kind} {o : Option (List ℕ)} → DidRead d row kind o → AreReads (d ∷ [])
did_read {d} {row} x = one_read d row x.cells x.did.0 x.did.1

pub reads_joined : (xs ys : List Placed) → AreReads xs → AreReads ys → AreReads (xs ++ ys)
reads_joined xs ys a b p c = elim (Contains-append_cases xs ys p c) [ inl l ↦ a p l | inr r ↦ b p r ]

-- at most one read, or none
abbrev AreFew : List Placed → Type 0
AreFew list = AreReads list × (length list ≤ 1)

none_few : (list : List Placed) → list ≡ [] → AreFew list
none_few list is = (subst AreReads (sym is) no_reads, let l = ap length is in omega (arith, l))

one_few : {row : Row} {kind : Kind} {o : Option (List ℕ)} (list : List Placed) (d : Placed) → list ≡ d ∷ [] → DidRead d row kind o → AreFew list
one_few list d is did = (subst AreReads (sym is) (did_read did), let l = ap length is in omega (arith, l))

-- ---- what is seen stays so

shown_later : (s t : Seen) (names : List NameOf) → Extends s t → AreShown s names → AreShown t names
shown_later s t names e all n c = let w = all n c in (w.0, shown_kept s t n.0 n.1 w.0 e w.1)

shown_joined : (s : Seen) (ns ms : List NameOf) → AreShown s ns → AreShown s ms → AreShown s (ns ++ ms)
shown_joined s ns ms a b n c = elim (Contains-append_cases ns ms n c) [ inl l ↦ a n l | inr r ↦ b n r ]

-- ---- names behind names

looks_joined : (ns ms : List NameOf) (xs ys : List Placed) → AreLooks ns xs → AreLooks ms ys → AreLooks (ns ++ ms) (xs ++ ys)
looks_joined ns ms xs ys a b = record {
  reads = reads_joined xs ys a.reads b.reads;
  few = let x = a.few in let y = b.few in let l = length-append xs ys in let m = length-append ns ms in omega (arith, x, y, l, m);
}

looks_wider : (ns ms : List NameOf) (xs : List Placed) → AreLooks ns xs → AreLooks (ns ++ ms) xs
looks_wider ns ms xs a = record { reads = a.reads; few = let x = a.few in let m = length-append ns ms in omega (arith, x, m) }

pub resolved_none : (s : Seen) → AreResolved s [] s
resolved_none s = record { list = []; made = nothing_made s; looks = record { reads = no_reads; few = omega arith }; shown = λ n c. absurd (not_in {X = NameOf} n c) }

pub resolved_joined : (a b c : Seen) (ns ms : List NameOf) → AreResolved a ns b → AreResolved b ms c → AreResolved a (ns ++ ms) c
resolved_joined a b c ns ms p q = record {
  list = p.list ++ q.list;
  made = made_joined a b c p.list q.list p.made q.made;
  looks = looks_joined ns ms p.list q.list p.looks q.looks;
  shown = shown_joined c ns ms (shown_later b c ns q.made.since.extends p.shown) q.shown;
}

unresolved_by : (ns ms : List NameOf) (list : List Placed) (new : Seen) (fault : AskFault) → UnresolvedBy ns list new fault → UnresolvedBy (ns ++ ms) list new fault
unresolved_by ns ms list new (Unknown kind name) u =
    record { before = u.before; after = u.after ++ ms; cut = ap (λ l. l ++ ms) u.cut ∙ append_assoc u.before ((kind, name) ∷ u.after) ms; shown = u.shown; none = u.none }
unresolved_by ns ms list new OutOfMemory u = tt
unresolved_by ns ms list new Stopped u = tt
unresolved_by ns ms list new (TooManyBuckets count) u = absurd u
unresolved_by ns ms list new (BadFilter index) u = absurd u
unresolved_by ns ms list new (Duplicate time x y) u = absurd u
unresolved_by ns ms list new (Overflow time) u = absurd u

pub unresolved_wider : (a b : Seen) (ns ms : List NameOf) (fault : AskFault) → IsUnresolved a ns fault b → IsUnresolved a (ns ++ ms) fault b
unresolved_wider a b ns ms fault p = record { list = p.list; made = p.made; looks = looks_wider ns ms p.list p.looks; cause = unresolved_by ns ms p.list b fault p.cause }

unresolved_after : (ns ms : List NameOf) (xs ys : List Placed) (new : Seen) (fault : AskFault) → AreShown new ns → UnresolvedBy ms ys new fault → UnresolvedBy (ns ++ ms) (xs ++ ys) new fault
unresolved_after ns ms xs ys new (Unknown kind name) shown u = record {
  before = ns ++ u.before;
  after = u.after;
  cut = ap (λ l. ns ++ l) u.cut ∙ sym (append_assoc ns u.before ((kind, name) ∷ u.after));
  shown = shown_joined new ns u.before shown u.shown;
  none = let w = u.none in (w.0, Contains-append_right xs ys w.0 w.1, w.2);
}
unresolved_after ns ms xs ys new OutOfMemory shown u = tt
unresolved_after ns ms xs ys new Stopped shown u = tt
unresolved_after ns ms xs ys new (TooManyBuckets count) shown u = absurd u
unresolved_after ns ms xs ys new (BadFilter index) shown u = absurd u
unresolved_after ns ms xs ys new (Duplicate time x y) shown u = absurd u
unresolved_after ns ms xs ys new (Overflow time) shown u = absurd u

pub unresolved_behind : (a b c : Seen) (ns ms : List NameOf) (fault : AskFault) → AreResolved a ns b → IsUnresolved b ms fault c → IsUnresolved a (ns ++ ms) fault c
unresolved_behind a b c ns ms fault p q = record {
  list = p.list ++ q.list;
  made = made_joined a b c p.list q.list p.made q.made;
  looks = looks_joined ns ms p.list q.list p.looks q.looks;
  cause = unresolved_after ns ms p.list q.list c fault (shown_later b c ns q.made.since.extends p.shown) q.cause;
}

-- no memory for what was resolved
pub resolved_lost : (a b : Seen) (ns : List NameOf) → AreResolved a ns b → IsUnresolved a ns OutOfMemory b
resolved_lost a b ns p = record { list = p.list; made = p.made; looks = p.looks; cause = tt }

-- ---- one name

looks_few : (widths : Widths) (kind : Kind) (name : List ℕ) (id : ℕ) (list : List Placed) → LookedOrKept widths kind name id list → AreFew list
looks_few widths kind name id list (inl is) = none_few list is
looks_few widths kind name id list (inr (d, is, look)) = one_few list d is look

one_look : (n : NameOf) (list : List Placed) → AreFew list → AreLooks (n ∷ []) list
one_look n list f = record { reads = f.0; few = let l = f.1 in omega (arith, l) }

pub name_resolved : (old new : Seen) (kind : Kind) (name : List ℕ) (id : ℕ) → MadeSo old (ResolveMade old.base.widths kind name (Ok id)) new → HasShown new kind name id → AreResolved old ((kind, name) ∷ []) new
name_resolved old new kind name id (list, made, how) shown = record {
  list = list;
  made = made;
  looks = one_look (kind, name) list (looks_few old.base.widths kind name id list how);
  shown = λ n c. elim (split {X = NameOf} (kind, name) n [] c) [
    | inl is ↦ subst (λ (x : NameOf). (i : ℕ) × HasShown new x.0 x.1 i) is (id, shown)
    | inr none ↦ absurd (not_in {X = NameOf} n none)
  ];
}

-- the name is unknown, or there is no memory to tell it
pub name_unknown : (old new : Seen) (kind k : Kind) (name : List ℕ) → MadeSo old (ResolveMade old.base.widths kind name (Err (resolve.Unknown k))) new → IsUnresolved old ((kind, name) ∷ []) (Unknown k name) new
name_unknown old new kind k name (list, made, (same, (d, is, look))) = record {
  list = list;
  made = made;
  looks = one_look (kind, name) list (one_few list d is look);
  cause = subst (λ (x : Kind). IsFirstUnknown ((kind, name) ∷ []) (x, name) list new) (sym same) (record {
    before = [];
    after = [];
    cut = refl;
    shown = λ m c. absurd (not_in {X = NameOf} m c);
    none = (d, subst (λ (l : List Placed). Contains l d) (sym is) (here d []), look);
  });
}

pub name_untold : (old new : Seen) (kind k : Kind) (name : List ℕ) → MadeSo old (ResolveMade old.base.widths kind name (Err (resolve.Unknown k))) new → IsUnresolved old ((kind, name) ∷ []) OutOfMemory new
name_untold old new kind k name m = let u = name_unknown old new kind k name m in record { list = u.list; made = u.made; looks = u.looks; cause = tt }

pub name_lost : (old new : Seen) (kind : Kind) (name : List ℕ) → MadeSo old (ResolveMade old.base.widths kind name (Err resolve.OutOfMemory)) new → IsUnresolved old ((kind, name) ∷ []) OutOfMemory new
name_lost old new kind name (list, made, is) = record { list = list; made = made; looks = one_look (kind, name) list (none_few list is); cause = tt }

pub name_stopped : (old new : Seen) (kind : Kind) (name : List ℕ) → MadeSo old (ResolveMade old.base.widths kind name (Err resolve.Stopped)) new → IsUnresolved old ((kind, name) ∷ []) Stopped new
name_stopped old new kind name (list, made, is) = record { list = list; made = made; looks = one_look (kind, name) list (none_few list is); cause = tt }

-- ---- a tag

-- a tag's key, and then its value
module _ (t : Pair) (old mid new : Seen) where
  abbrev key_name : List NameOf
  key_name = (TagKey, t.0) ∷ []

  abbrev value_name : List NameOf
  value_name = (TagValue, t.1) ∷ []

  pub key_unresolved : (fault : AskFault) → IsUnresolved old key_name fault mid → IsUnresolved old (tag_names (t ∷ [])) fault mid
  key_unresolved fault u = unresolved_wider old mid key_name value_name fault u

  pub value_unresolved : (fault : AskFault) → AreResolved old key_name mid → IsUnresolved mid value_name fault new → IsUnresolved old (tag_names (t ∷ [])) fault new
  value_unresolved fault r u = unresolved_behind old mid new key_name value_name fault r u

  pub tag_resolved : (ids : ℕ × ℕ) → AreResolved old key_name mid → HasShown mid TagKey t.0 ids.0 → AreResolved mid value_name new → HasShown new TagValue t.1 ids.1 → AreResolved old (tag_names (t ∷ [])) new × IdsShown new t ids
  tag_resolved ids r key s value = (resolved_joined old mid new key_name value_name r s, (shown_kept mid new TagKey t.0 ids.0 s.made.since.extends key, value))

-- ---- tags, one after the other

module _ (tags : List Pair) (i : ℕ) (tag : Pair) (old mid new : Seen) (lt : i < length tags) (is : tag ≡ get_or tags i tag) (far : AreResolved old (tag_names (take i tags)) mid) where
  pub tags_more : AreResolved mid (tag_names (tag ∷ [])) new → AreResolved old (tag_names (take (i + 1) tags)) new
  tags_more r = subst (λ (l : List NameOf). AreResolved old l new) (sym (names_joined (take i tags) (tag ∷ [])) ∙ ap tag_names (sym (taken tags i tag lt is))) (resolved_joined old mid new (tag_names (take i tags)) (tag_names (tag ∷ [])) far r)

  all_names : (tag_names (take i tags) ++ tag_names (tag ∷ [])) ++ tag_names (drop (suc i) tags) ≡ tag_names tags
  all_names = append_assoc (tag_names (take i tags)) (tag_names (tag ∷ [])) (tag_names (drop (suc i) tags)) ∙ ap (λ (l : List NameOf). tag_names (take i tags) ++ l) (sym (names_joined (tag ∷ []) (drop (suc i) tags)))
      ∙ sym (names_joined (take i tags) (tag ∷ drop (suc i) tags)) ∙ ap tag_names (sym (about tags i tag lt is))

  pub tags_fail : (fault : AskFault) → IsUnresolved mid (tag_names (tag ∷ [])) fault new → IsUnresolved old (tag_names tags) fault new
  tags_fail fault u = subst (λ (l : List NameOf). IsUnresolved old l fault new) all_names
      (unresolved_wider old new (tag_names (take i tags) ++ tag_names (tag ∷ [])) (tag_names (drop (suc i) tags)) fault (unresolved_behind old mid new (tag_names (take i tags)) (tag_names (tag ∷ [])) fault far u))

-- ---- a series: its metric, and then its tags

module _ (metric : List ℕ) (tags : List Pair) (old mid new : Seen) where
  abbrev metric_name : List NameOf
  metric_name = (Metric, metric) ∷ []

  pub metric_unresolved : (fault : AskFault) → IsUnresolved old metric_name fault mid → IsUnresolved old (series_names metric tags) fault mid
  metric_unresolved fault u = unresolved_wider old mid metric_name (tag_names tags) fault u

  pub tags_unresolved : (fault : AskFault) (given : List Pair) → given ≡ tags → AreResolved old metric_name mid → IsUnresolved mid (tag_names given) fault new → IsUnresolved old (series_names metric tags) fault new
  tags_unresolved fault given same r u = unresolved_behind old mid new metric_name (tag_names tags) fault r (subst (λ (ts : List Pair). IsUnresolved mid (tag_names ts) fault new) same u)

  -- the key of its row in the hour of a moment
  pub series_resolved : (now : ℕ) (given : List Pair) (key : RowKey) → now ≤ 4294967295999 → given ≡ tags → IsTags tags → key.base ≡ base_time now → AreResolved old metric_name mid → HasShown mid Metric metric key.metric
      → AreResolved mid (tag_names given) new → PairsShown new given key.pairs.items → AreResolved old (series_names metric tags) new × IsShownKey new metric tags now key
  series_resolved now given key most same are base r shown s pairs =
      let its = subst (λ (ts : List Pair). PairsShown new ts key.pairs.items) same pairs in
      let id = shown_kept mid new Metric metric key.metric s.made.since.extends shown in (
        resolved_joined old mid new metric_name (tag_names tags) r (subst (λ (ts : List Pair). AreResolved mid (tag_names ts) new) same s),
        record {
          is_key = record {
            metric = id.is_id;
            base = omega (arith, base, most);
            hour = omega (arith, base);
            some = let n = its.count in let m = are.some in omega (arith, n, m);
            most = let n = its.count in let m = are.most in omega (arith, n, m);
            ids = λ k d lt. let w = its.each_pair _ (All-contains_itself key.pairs.items k d lt) in (w.2.0.is_id, w.2.1.is_id);
            rising = its.rising;
          };
          are_tags = are;
          metric_shown = id;
          pairs = its;
          hour = base;
        },
      )
