-- Asking for the names of ids, one after the other.
use Rattle.std.proofs.Common.{◌≡◌, ◌≢◌, ◌⊎◌, inl, inr, ℕ, suc, ◌+◌, ◌<◌, ◌≤◌, Bool, true, false, cond, List, [], ◌∷◌, ◌++◌, length, take, drop, get_or, refl, sym, ap, subst, ◌∙◌, arith, append_assoc, length-append, take-append-drop, drop-cons}
use Rattle.std.proofs.lemmas.Grind.{flat_map-append}
use Rattle.std.proofs.lemmas.Result.{err_from_is_err_and}
use Rattle.std.proofs.lemmas.List.{take_more, take_all, get_or_default}
use Rattle.std.proofs.lemmas.List.Elements.{Contains-append_left, Contains-append_right, Contains-append_cases}
use Rattle.std.specs.Prelude.{AllPairs, Contains, Option, None, Some, Result, Ok, Err, IsErrAnd, is_some}
use Rattle.std.specs.BTreeMap.{is_at}
use Rattle.std.specs.Ordering.{nat_cmp}
use Rattle.std.specs.Cmp.{nat_cmp_total, ranked, tied_itself}
use Rattle.std.specs.declared.cmp.Ordering.{Ordering}
use Rattle.std.specs.declared.cmp.Ordering.TheVariants.{Less, Equal, Greater}
use Rattle.std.specs.Ordering.{is_eq}
use Rattle.tsd_base.specs.declared.kinds.Kind.{Kind}
use Rattle.tsd_base.specs.declared.kinds.Kind.TheVariants.{Metric, TagKey, TagValue}
use Rattle.qual_codec.specs.declared.cells.Cell.{Cell}
use Rattle.cell_model.specs.declared.row.Row.{Row}
use Rattle.cell_model.specs.declared.events.Placed.{Placed}
use Rattle.cell_model.specs.declared.events.Step.TheVariants.{Read}
use Rattle.cell_model.specs.declared.events.Reply.TheVariants.{Shown}
use Rattle.cell_model.specs.declared.answers.RowsFault.{RowsFault}
use Rattle.cell_model.specs.declared.answers.RowsFault.TheVariants as rows
use Rattle.cell_model.specs.KindWidths.{Widths}
use Rattle.cell_model.specs.IdRows.{id_row}
use Rattle.cell_model.specs.Machine.{kind_qual}
use Rattle.cell_model.specs.Store.{Store}
use Rattle.cell_model.specs.Seen.{Seen, KnowsCell}
use Rattle.cell_model.specs.Deeds.{Extends}
use Rattle.uid_table.specs.Shown.{HasShownName}
use Rattle.uid_table.specs.IdSteps.{MadeSo, DidRead, NameMade}
use Rattle.metric_scan.specs.RowNames.{IdOf, Names, listed, ids_of, KnowsPair, AllNamed, HasName, AreReads, in_lists, IdReads, NamesRead, NamesCut, IdNamed, IdCut}
use Rattle.metric_scan.specs.RowNames.IdNamed.{there, asked}
use Rattle.metric_scan.proofs.Lower as lower

-- an error that is passed on
pub passed_on : {T E : Type 0} (P : Result T E → Type 0) (e : E) (r : Result T E) → IsErrAnd r (λ y. y ≡ e) → P (Err e) → P r
passed_on P e r is p = let y = err_from_is_err_and r is in subst P (sym (y.1 ∙ ap (λ x. Err x) y.2)) p

-- ---- lists of entries

pub no_reads : AreReads []
no_reads p c = absurd (lower.not_in p c)

pub one_read : (d : Placed) (row : Row) (cells : List Cell) → d.entry.step ≡ Read row → d.entry.reply ≡ Shown cells → AreReads (d ∷ [])
one_read d row cells s r p c = elim (lower.split d p [] c) [
  | inl same ↦ (row, cells, sym (ap (λ (x : Placed). x.entry.step) same) ∙ s, sym (ap (λ (x : Placed). x.entry.reply) same) ∙ r)
  | inr none ↦ absurd (lower.not_in p none)
]

pub did_read : {d : Placed} {row : Row} {kind : Kind} {o : Option (List ℕ)} → DidRead d row kind o → AreReads (d ∷ [])
did_read {d} {row} x = one_read d row x.cells x.did.0 x.did.1

pub reads_joined : (xs ys : List Placed) → AreReads xs → AreReads ys → AreReads (xs ++ ys)
reads_joined xs ys a b p c = elim (Contains-append_cases xs ys p c) [ inl l ↦ a p l | inr r ↦ b p r ]

-- ---- pairs of elements of lists

pub once_nil : {X : Type 0} (R : X → X → Type 0) → AllPairs R []
once_nil R i j d lt within = absurd (omega (arith, within))

-- ---- one id

-- the reads that the name of an id took
pub name_asked : (old new : Seen) (kind : Kind) (id : ℕ) (before : List (ℕ × List ℕ)) (e : RowsFault) → listed before id ≡ None → MadeSo old (NameMade old.base.widths kind id (Err e)) new → IdCut old id before new
name_asked old new kind id before rows.OutOfMemory none (list, made, inl is) = record { list = list; made = made; reads = subst AreReads (sym is) no_reads; few = let l = ap length is in omega (arith, l); fresh = none }
name_asked old new kind id before rows.OutOfMemory none (list, made, inr (name, (d, is, did))) = record { list = list; made = made; reads = subst AreReads (sym is) (did_read did); few = let l = ap length is in omega (arith, l); fresh = none }
name_asked old new kind id before rows.Stopped none (list, made, is) = record { list = list; made = made; reads = subst AreReads (sym is) no_reads; few = let l = ap length is in omega (arith, l); fresh = none }

-- at most one read, or none
abbrev pub AreFew : List Placed → Type 0
AreFew list = AreReads list × (length list ≤ 1)

pub none_few : (list : List Placed) → list ≡ [] → AreFew list
none_few list is = (subst AreReads (sym is) no_reads, let l = ap length is in omega (arith, l))

pub one_few : {row : Row} {kind : Kind} {o : Option (List ℕ)} (list : List Placed) (d : Placed) → list ≡ d ∷ [] → DidRead d row kind o → AreFew list
one_few list d is did = (subst AreReads (sym is) (did_read did), let l = ap length is in omega (arith, l))

-- the reads that learnt a name, or none where it was kept
name_few : (widths : Widths) (kind : Kind) (id : ℕ) (name : List ℕ) (list : List Placed) → NameMade widths kind id (Ok name) list → AreFew list
name_few widths kind id name list (inl is) = none_few list is
name_few widths kind id name list (inr (d, is, did)) = one_few list d is did

pub name_lost : (old new : Seen) (kind : Kind) (id : ℕ) (before : List (ℕ × List ℕ)) (name : List ℕ) → listed before id ≡ None → MadeSo old (NameMade old.base.widths kind id (Ok name)) new → IdCut old id before new
name_lost old new kind id before name none (list, made, how) = let f = name_few old.base.widths kind id name list how in record { list = list; made = made; reads = f.0; few = f.1; fresh = none }

pub name_found : (old new : Seen) (kind : Kind) (id : ℕ) (before after : List (ℕ × List ℕ)) (name : List ℕ) → listed before id ≡ None → MadeSo old (NameMade old.base.widths kind id (Ok name)) new → HasShownName new kind id name
    → ((q : ℕ) → listed after q ≡ cond (is_at (nat_cmp id) q) (Some name) (listed before q)) → IdNamed old kind id before after new
name_found old new kind id before after name none (list, made, how) shown now = let f = name_few old.base.widths kind id name list how in asked none made f.0 f.1 shown now

none_of : {X : Type 0} (o : Option X) → is_some o ≡ false → o ≡ None
none_of None e = refl
none_of (Some x) e = cc

some_of : {X : Type 0} (o : Option X) → is_some o ≡ true → (x : X) × (o ≡ Some x)
some_of None e = cc
some_of (Some x) e = (x, refl)

pub not_listed : (before : List (ℕ × List ℕ)) (id : ℕ) → is_some (listed before id) ≡ false → listed before id ≡ None
not_listed before id e = none_of (listed before id) e

pub is_listed : (s : Seen) (kind : Kind) (before : List (ℕ × List ℕ)) (id : ℕ) → is_some (listed before id) ≡ true → IdNamed s kind id before before s
is_listed s kind before id e = there (some_of (listed before id) e).1 (lower.nothing_made s) refl

-- ---- the names of all ids

same_kind : (k kind : Kind) → (k ≡ kind) ⊎ (k ≡ kind → ⊥)
same_kind Metric Metric = inl refl
same_kind Metric TagKey = inr (λ e. cc)
same_kind Metric TagValue = inr (λ e. cc)
same_kind TagKey Metric = inr (λ e. cc)
same_kind TagKey TagKey = inl refl
same_kind TagKey TagValue = inr (λ e. cc)
same_kind TagValue Metric = inr (λ e. cc)
same_kind TagValue TagKey = inr (λ e. cc)
same_kind TagValue TagValue = inl refl

none_some : {X : Type 0} (x : X) → ◌≡◌ {A = Option X} None (Some x) → ⊥
none_some x e = cc

same_Some : {X : Type 0} (x y : X) → ◌≡◌ {A = Option X} (Some x) (Some y) → x ≡ y
same_Some x y e = cc

-- the id itself is listed, and each that was
module _ (id : ℕ) (name : List ℕ) (before after : List (ℕ × List ℕ)) (now : (q : ℕ) → listed after q ≡ cond (is_at (nat_cmp id) q) (Some name) (listed before q)) where
  listed_itself : listed after id ≡ Some name
  listed_itself = now id ∙ ap (λ r. cond (is_eq r) (Some name) (listed before id)) (tied_itself nat_cmp_total id)

  equal_is : (q : ℕ) (r : Ordering) → r ≡ nat_cmp id q → is_eq r ≡ true → id ≡ q
  equal_is q Less e t = cc
  equal_is q Equal e t = ranked id q Equal e
  equal_is q Greater e t = cc

  listed_cases : (q : ℕ) (n : List ℕ) → listed after q ≡ Some n → ((id ≡ q) × (name ≡ n)) ⊎ (listed before q ≡ Some n)
  listed_cases q n is = at (is_at (nat_cmp id) q) refl
    where
      at : (b : Bool) → is_at (nat_cmp id) q ≡ b → ((id ≡ q) × (name ≡ n)) ⊎ (listed before q ≡ Some n)
      at true e = inl (equal_is q (nat_cmp id q) refl e, same_Some name n (sym (ap (λ b. cond b (Some name) (listed before q)) e) ∙ sym (now q) ∙ is))
      at false e = inr (sym (ap (λ b. cond b (Some name) (listed before q)) e) ∙ sym (now q) ∙ is)

  listed_kept : listed before id ≡ None → (q : ℕ) (n : List ℕ) → listed before q ≡ Some n → listed after q ≡ Some n
  listed_kept none q n is = at (is_at (nat_cmp id) q) refl
    where
      at : (b : Bool) → is_at (nat_cmp id) q ≡ b → listed after q ≡ Some n
      at true e = absurd (none_some n (sym none ∙ ap (listed before) (equal_is q (nat_cmp id q) refl e) ∙ is))
      at false e = now q ∙ ap (λ b. cond b (Some name) (listed before q)) e ∙ is

only_one : (P : IdOf → Type 0) (kind : Kind) (id : ℕ) → P (kind, id) → (i : IdOf) → Contains ((kind, id) ∷ []) i → P i
only_one P kind id p i c = at (lower.split {X = IdOf} (kind, id) i [] c)
  where
    at : (◌≡◌ {A = IdOf} (kind, id) i) ⊎ Contains {X = IdOf} [] i → P i
    at (inl same) = subst P same p
    at (inr none) = absurd (lower.not_in {X = IdOf} i none)

shown_kept : (s t : Seen) (kind : Kind) (id : ℕ) (name : List ℕ) → Extends s t → HasShownName s kind id name → HasShownName t kind id name
shown_kept s t kind id name e h = record {
  is_name = h.is_name;
  known =
      let k = h.known in
      let still : KnowsCell t (id_row s.base.widths kind id) (kind_qual kind) name = (k.0, k.1, e.kept k.0 k.1 k.2, k.3) in
      subst (λ (b : Store). KnowsCell t (id_row b.widths kind id) (kind_qual kind) name) (sym e.base) still;
  stands = λ later more. h.stands later (lower.extends_joined s t later e more);
}

pub named_kept : (s t : Seen) (names : Names) → Extends s t → AllNamed s names → AllNamed t names
named_kept s t names e all kind id name is = shown_kept s t kind id name e (all kind id name is)

pub pair_kept : (s t : Seen) (p : ℕ × ℕ) → Extends s t → KnowsPair s p → KnowsPair t p
pair_kept s t p e k = (λ h l f. k.0 h l (e.fits h f), λ h l f. k.1 h l (e.fits h f))

-- the list of one kind changes the names of that kind alone
pub record Changes (names after : Names) (kind : Kind) (entries entries_after : List (ℕ × List ℕ)) : Type 0 where
  pub mine : (q : ℕ) → names kind q ≡ listed entries q
  pub mine_after : (q : ℕ) → after kind q ≡ listed entries_after q
  pub others : (k : Kind) (q : ℕ) → (k ≡ kind → ⊥) → after k q ≡ names k q

names_same : (names after : Names) (kind : Kind) (entries more : List (ℕ × List ℕ)) → Changes names after kind entries more → more ≡ entries → (k : Kind) (q : ℕ) → after k q ≡ names k q
names_same names after kind entries more ch is k q = elim (same_kind k kind) [
  | inl same ↦ ap (λ x. after x q) same ∙ ch.mine_after q ∙ ap (λ es. listed es q) is ∙ sym (ch.mine q) ∙ ap (λ x. names x q) (sym same)
  | inr other ↦ ch.others k q other
]

pub id_read : (old new : Seen) (names after : Names) (kind : Kind) (id : ℕ) (entries more : List (ℕ × List ℕ)) → Changes names after kind entries more → IdNamed old kind id entries more new
    → NamesRead old names ((kind, id) ∷ []) new after
id_read old new names after kind id entries more ch (there {name} is made same) = record {
  list = [];
  ids = [];
  made = made;
  reads = record { reads = no_reads; count = omega arith; once = once_nil (λ (i j : IdOf). i ≢ j); fresh = λ i c. absurd (lower.not_in i c); among = λ i c. absurd (lower.not_in i c) };
  all = only_one (HasName after) kind id (name, names_same names after kind entries more ch same kind id ∙ ch.mine id ∙ is);
  kept = λ k q n e. names_same names after kind entries more ch same k q ∙ e;
  shown = λ all k q n e. shown_kept old new k q n made.since.extends (all k q n (sym (names_same names after kind entries more ch same k q) ∙ e));
}
id_read old new names after kind id entries more ch (asked {list} {name} none made reads few shown now) = record {
  list = list;
  ids = (kind, id) ∷ [];
  made = made;
  reads = record { reads = reads; count = omega (arith, few); once = λ i j d lt within. absurd (omega (arith, lt, within)); fresh = only_one (λ i. names i.0 i.1 ≡ None) kind id (ch.mine id ∙ none); among = λ i c. c };
  all = only_one (HasName after) kind id (name, ch.mine_after id ∙ listed_itself id name entries more now);
  kept = λ k q n e. elim (same_kind k kind) [
    | inl same ↦ ap (λ x. after x q) same ∙ ch.mine_after q ∙ listed_kept id name entries more now none q n (sym (ch.mine q) ∙ ap (λ x. names x q) (sym same) ∙ e)
    | inr other ↦ ch.others k q other ∙ e
  ];
  shown = λ all k q n e. elim (same_kind k kind) [
    | inl same ↦
        elim (listed_cases id name entries more now q n (sym (ch.mine_after q) ∙ ap (λ x. after x q) (sym same) ∙ e)) [
          | inl w ↦ subst (λ (x : Kind). HasShownName new x q n) (sym same) (subst (λ (x : ℕ × List ℕ). HasShownName new kind x.0 x.1) (λ i. (w.0 i, w.1 i)) shown)
          | inr was ↦ shown_kept old new k q n made.since.extends (all k q n (ap (λ x. names x q) same ∙ ch.mine q ∙ was))
        ]
    | inr other ↦ shown_kept old new k q n made.since.extends (all k q n (sym (ch.others k q other) ∙ e))
  ];
}

pub id_cut : (old new : Seen) (names : Names) (kind : Kind) (id : ℕ) (entries : List (ℕ × List ℕ)) → IdCut old id entries new → NamesCut old names ((kind, id) ∷ []) new
id_cut old new names kind id entries cut = record {
  list = cut.list;
  ids = [];
  made = cut.made;
  reads = record { reads = cut.reads; count = let f = cut.few in omega (arith, f); once = once_nil (λ (i j : IdOf). i ≢ j); fresh = λ i c. absurd (lower.not_in i c); among = λ i c. absurd (lower.not_in i c) };
}

-- ---- one after the other

pub pairs_joined : {X : Type 0} (R : X → X → Type 0) (xs ys : List X) → AllPairs R xs → AllPairs R ys → ((x y : X) → Contains xs x → Contains ys y → R x y) → AllPairs R (xs ++ ys)
pairs_joined R [] ys a b c = b
pairs_joined R (x ∷ xs) ys a b c =
    lower.pairs_cons R x (xs ++ ys)
    (λ z i. elim (Contains-append_cases xs ys z i) [ inl l ↦ lower.pairs_in R x z xs a l | inr r ↦ c x z (lower.here x xs) r ])
    (pairs_joined R xs ys (lower.pairs_tail R x xs a) b (λ y z i j. c y z (lower.there x y xs i) j))

-- ids of which some were read before and the others after
ids_joined : (spare : ℕ) (before mid : Names) (wanted more ids others : List IdOf) (list rest : List Placed) → ((i : IdOf) → Contains ids i → HasName mid i)
    → ((k : Kind) (q : ℕ) (n : List ℕ) → before k q ≡ Some n → mid k q ≡ Some n) → IdReads 0 before wanted ids list → IdReads spare mid more others rest
    → IdReads spare before (wanted ++ more) (ids ++ others) (list ++ rest)
ids_joined spare before mid wanted more ids others list rest has kept a b = record {
  reads = reads_joined list rest a.reads b.reads;
  count = let x = a.count in let y = b.count in let l = length-append list rest in let m = length-append ids others in omega (arith, x, y, l, m);
  once = pairs_joined (λ (i j : IdOf). i ≢ j) ids others a.once b.once (λ i j x y same. let h = has i x in none_some h.0 (sym (ap (λ (z : IdOf). mid z.0 z.1) same ∙ b.fresh j y) ∙ h.1));
  fresh = λ i c. elim (Contains-append_cases ids others i c) [ inl l ↦ a.fresh i l | inr r ↦ was_none i (b.fresh i r) ];
  among = λ i c. elim (Contains-append_cases ids others i c) [ inl l ↦ Contains-append_left wanted more i (a.among i l) | inr r ↦ Contains-append_right wanted more i (b.among i r) ];
}
  where
    was_none : (i : IdOf) → mid i.0 i.1 ≡ None → before i.0 i.1 ≡ None
    was_none i none = at (before i.0 i.1) refl
      where
        at : (o : Option (List ℕ)) → before i.0 i.1 ≡ o → before i.0 i.1 ≡ None
        at None e = e
        at (Some n) e = absurd (none_some n (sym none ∙ kept i.0 i.1 n e))

pub read_nothing : (s : Seen) (names : Names) → NamesRead s names [] s names
read_nothing s names = record {
  list = [];
  ids = [];
  made = lower.nothing_made s;
  reads = record { reads = no_reads; count = omega arith; once = once_nil (λ (i j : IdOf). i ≢ j); fresh = λ i c. absurd (lower.not_in i c); among = λ i c. c };
  all = λ i c. absurd (lower.not_in i c);
  kept = λ k q n e. e;
  shown = λ all. all;
}

pub read_more : (a b c : Seen) (names mid after : Names) (xs ys : List IdOf) → NamesRead a names xs b mid → NamesRead b mid ys c after → NamesRead a names (xs ++ ys) c after
read_more a b c names mid after xs ys p q = record {
  list = p.list ++ q.list;
  ids = p.ids ++ q.ids;
  made = lower.made_joined a b c p.list q.list p.made q.made;
  reads = ids_joined 0 names mid xs ys p.ids q.ids p.list q.list (λ i x. p.all i (p.reads.among i x)) p.kept p.reads q.reads;
  all = λ i x. elim (Contains-append_cases xs ys i x) [ inl l ↦ (let w = p.all i l in (w.0, q.kept i.0 i.1 w.0 w.1)) | inr r ↦ q.all i r ];
  kept = λ k z n e. q.kept k z n (p.kept k z n e);
  shown = λ all. q.shown (p.shown all);
}

pub read_cut : (a b c : Seen) (names mid : Names) (xs ys : List IdOf) → NamesRead a names xs b mid → NamesCut b mid ys c → NamesCut a names (xs ++ ys) c
read_cut a b c names mid xs ys p q = record {
  list = p.list ++ q.list;
  ids = p.ids ++ q.ids;
  made = lower.made_joined a b c p.list q.list p.made q.made;
  reads = ids_joined 1 names mid xs ys p.ids q.ids p.list q.list (λ i x. p.all i (p.reads.among i x)) p.kept p.reads q.reads;
}

pub cut_among : (a b : Seen) (names : Names) (xs ys : List IdOf) → ((i : IdOf) → Contains xs i → Contains ys i) → NamesCut a names xs b → NamesCut a names ys b
cut_among a b names xs ys within p =
    let r = p.reads in record { list = p.list; ids = p.ids; made = p.made; reads = record { reads = r.reads; count = r.count; once = r.once; fresh = r.fresh; among = λ i c. within i (r.among i c) } }

pub read_then_cut : (a b : Seen) (names after : Names) (xs : List IdOf) → NamesRead a names xs b after → NamesCut a names xs b
read_then_cut a b names after xs p =
    let r = p.reads in record { list = p.list; ids = p.ids; made = p.made; reads = record { reads = r.reads; count = let c = r.count in omega (arith, c); once = r.once; fresh = r.fresh; among = r.among } }

-- ---- along a list of pairs

pub about : {X : Type 0} (xs : List X) (i : ℕ) (x : X) → i < length xs → x ≡ get_or xs i x → xs ≡ take i xs ++ x ∷ drop (suc i) xs
about xs i x lt is = sym (take-append-drop i xs) ∙ ap (λ ys. take i xs ++ ys) (drop-cons xs i x lt ∙ ap (λ y. y ∷ drop (suc i) xs) (sym is))

pub taken : {X : Type 0} (xs : List X) (i : ℕ) (x : X) → i < length xs → x ≡ get_or xs i x → take (i + 1) xs ≡ take i xs ++ x ∷ []
taken xs i x lt is = take_more xs i x lt ∙ ap (λ y. take i xs ++ y ∷ []) (sym is)

pub ids_joined_of : (xs ys : List (ℕ × ℕ)) → ids_of (xs ++ ys) ≡ ids_of xs ++ ids_of ys
ids_joined_of xs ys = flat_map-append (λ p. (TagKey, p.0) ∷ (TagValue, p.1) ∷ []) xs ys

pub ids_among : (xs : List (ℕ × ℕ)) (i : ℕ) (x : ℕ × ℕ) → i < length xs → x ≡ get_or xs i x → (z : IdOf) → Contains (ids_of (take i xs) ++ ids_of (x ∷ [])) z → Contains (ids_of xs) z
ids_among xs i x lt is z c =
    let all : ids_of xs ≡ (ids_of (take i xs) ++ ids_of (x ∷ [])) ++ ids_of (drop (suc i) xs) =
    ap ids_of (about xs i x lt is) ∙ ids_joined_of (take i xs) (x ∷ drop (suc i) xs) ∙ ap (λ l. ids_of (take i xs) ++ l) (ids_joined_of (x ∷ []) (drop (suc i) xs)) ∙ sym (append_assoc (ids_of (take i xs)) (ids_of (x ∷ [])) (ids_of (drop (suc i) xs))) in
    subst (λ l. Contains l z) (sym all) (Contains-append_left (ids_of (take i xs) ++ ids_of (x ∷ [])) (ids_of (drop (suc i) xs)) z c)

-- ---- a pair

abbrev Listed : Type 0
Listed = List (ℕ × List ℕ)

key_changes : (keys more values : Listed) → Changes (in_lists keys values) (in_lists more values) TagKey keys more
key_changes keys more values = record { mine = λ q. refl; mine_after = λ q. refl; others = at }
  where
    at : (k : Kind) (q : ℕ) → (k ≡ TagKey → ⊥) → in_lists more values k q ≡ in_lists keys values k q
    at Metric q n = refl
    at TagKey q n = absurd (n refl)
    at TagValue q n = refl

value_changes : (keys values more : Listed) → Changes (in_lists keys values) (in_lists keys more) TagValue values more
value_changes keys values more = record { mine = λ q. refl; mine_after = λ q. refl; others = at }
  where
    at : (k : Kind) (q : ℕ) → (k ≡ TagValue → ⊥) → in_lists keys more k q ≡ in_lists keys values k q
    at Metric q n = refl
    at TagKey q n = refl
    at TagValue q n = absurd (n refl)

pub key_cut : (a b : Seen) (keys values : Listed) (p : ℕ × ℕ) → IdCut a p.0 keys b → NamesCut a (in_lists keys values) (ids_of (p ∷ [])) b
key_cut a b keys values p cut =
    cut_among a b (in_lists keys values) ((TagKey, p.0) ∷ []) (ids_of (p ∷ [])) (λ i c. Contains-append_left ((TagKey, p.0) ∷ []) ((TagValue, p.1) ∷ []) i c) (id_cut a b (in_lists keys values) TagKey p.0 keys cut)

pub value_cut : (a b c : Seen) (keys more values : Listed) (p : ℕ × ℕ) → IdNamed a TagKey p.0 keys more b → IdCut b p.1 values c → NamesCut a (in_lists keys values) (ids_of (p ∷ [])) c
value_cut a b c keys more values p named cut =
    read_cut a b c (in_lists keys values) (in_lists more values) ((TagKey, p.0) ∷ []) ((TagValue, p.1) ∷ []) (id_read a b _ _ TagKey p.0 keys more (key_changes keys more values) named) (id_cut b c (in_lists more values) TagValue p.1 values cut)

pub pair_read : (a b c : Seen) (keys more values others : Listed) (p : ℕ × ℕ) → IdNamed a TagKey p.0 keys more b → IdNamed b TagValue p.1 values others c
    → NamesRead a (in_lists keys values) (ids_of (p ∷ [])) c (in_lists more others)
pair_read a b c keys more values others p named value =
    read_more a b c (in_lists keys values) (in_lists more values) (in_lists more others) ((TagKey, p.0) ∷ []) ((TagValue, p.1) ∷ []) (id_read a b _ _ TagKey p.0 keys more (key_changes keys more values) named)
    (id_read b c _ _ TagValue p.1 values others (value_changes more values others) value)

-- what is known of a pair in a list
pub pair_known : (s t : Seen) (pairs : List (ℕ × ℕ)) (i : ℕ) (x : ℕ × ℕ) → Extends s t → i < length pairs → x ≡ get_or pairs i x → ((p : ℕ × ℕ) → Contains pairs p → KnowsPair s p) → KnowsPair t x
pair_known s t pairs i x e lt is all = pair_kept s t x e (all x (i, lt, sym is))

-- ---- the loop over pairs

pub element : (pairs : List (ℕ × ℕ)) (i : ℕ) → i < length pairs → get_or pairs i (0, 0) ≡ get_or pairs i (get_or pairs i (0, 0))
element pairs i lt = get_or_default pairs i (0, 0) (get_or pairs i (0, 0)) lt

pub pairs_known : (s t : Seen) (names after : Names) (done : List IdOf) (pairs : List (ℕ × ℕ)) (i : ℕ) → NamesRead s names done t after → i < length pairs → ((p : ℕ × ℕ) → Contains pairs p → KnowsPair s p)
    → KnowsPair t (get_or pairs i (0, 0))
pairs_known s t names after done pairs i read lt all = pair_known s t pairs i (get_or pairs i (0, 0)) read.made.since.extends lt (element pairs i lt) all

pub pairs_cut : (a b c : Seen) (names mid : Names) (pairs : List (ℕ × ℕ)) (i : ℕ) → i < length pairs → NamesRead a names (ids_of (take i pairs)) b mid → NamesCut b mid (ids_of (get_or pairs i (0, 0) ∷ [])) c
    → NamesCut a names (ids_of pairs) c
pairs_cut a b c names mid pairs i lt p q =
    let x = get_or pairs i (0, 0) in
    cut_among a c names (ids_of (take i pairs) ++ ids_of (x ∷ [])) (ids_of pairs) (ids_among pairs i x lt (element pairs i lt)) (read_cut a b c names mid (ids_of (take i pairs)) (ids_of (x ∷ [])) p q)

pub pairs_more : (a b c : Seen) (names mid after : Names) (pairs : List (ℕ × ℕ)) (i : ℕ) → i < length pairs → NamesRead a names (ids_of (take i pairs)) b mid → NamesRead b mid (ids_of (get_or pairs i (0, 0) ∷ [])) c after
    → NamesRead a names (ids_of (take (i + 1) pairs)) c after
pairs_more a b c names mid after pairs i lt p q =
    let x = get_or pairs i (0, 0) in
    let same : ids_of (take (i + 1) pairs) ≡ ids_of (take i pairs) ++ ids_of (x ∷ []) = ap ids_of (taken pairs i x lt (element pairs i lt)) ∙ ids_joined_of (take i pairs) (x ∷ []) in
    subst (λ (l : List IdOf). NamesRead a names l c after) (sym same) (read_more a b c names mid after (ids_of (take i pairs)) (ids_of (x ∷ [])) p q)

pub pairs_all : (a b : Seen) (names after : Names) (pairs : List (ℕ × ℕ)) (i : ℕ) → length pairs ≤ i → NamesRead a names (ids_of (take i pairs)) b after → NamesRead a names (ids_of pairs) b after
pairs_all a b names after pairs i le p = subst (λ (l : List (ℕ × ℕ)). NamesRead a names (ids_of l) b after) (take_all i pairs le) p
