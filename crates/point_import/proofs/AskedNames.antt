-- Names that are asked one after the other.
use Rattle.std.proofs.Common.{◌≡◌, inl, ℕ, ◌+◌, ◌<◌, ◌≤◌, Bool, true, false, List, [], ◌∷◌, ◌++◌, refl, sym, ap, subst, ◌∙◌, append_assoc, append-nil, drop, length, suc, zero, get_or, add-one, arith}
use Rattle.std.specs.Prelude.{Option, None, Some, Result, Ok, Err}
use Rattle.std.proofs.Math.Seq.{drop-cons}
use Rattle.std.proofs.lemmas.Bool.{true≢false}
use Rattle.tsd_base.specs.TagList.{Pair}
use Rattle.tsd_base.specs.declared.kinds.Kind.{Kind}
use Rattle.tsd_base.specs.declared.kinds.Kind.TheVariants.{TagKey, TagValue}
use Rattle.tsd_hooks.specs.declared.name_patterns.Patterns.{Patterns}
use Rattle.cell_model.specs.declared.answers.RowsFault.{RowsFault}
use Rattle.cell_model.specs.Deeds.{deeds}
use Rattle.cell_model.specs.History.{History, base_of, first}
use Rattle.cell_model.specs.KindWidths.{Widths}
use Rattle.cell_model.specs.Layout.{tag_names}
use Rattle.cell_model.specs.Lawful.{IsLawful}
use Rattle.cell_model.specs.Seen.{Seen, Fits}
use Rattle.cell_model.specs.Stops.{RoseIf}
use Rattle.cell_model.specs.Store.{Store}
use Rattle.uid_table.specs.IdAnswers.{answered_id, assign_fault}
use Rattle.uid_table.specs.IdSteps.{AssignMade, MadeSo}
use Rattle.uid_table.specs.Shown.{HasShown}
use Rattle.uid_table.specs.ShownKeys.{AllShown}
use Rattle.uid_table.specs.declared.id_answers.Assigned.{Assigned}
use Rattle.uid_table.specs.declared.id_answers.Assigned.TheVariants.{Existing}
use Rattle.uid_table.specs.declared.id_answers.AssignFault.{AssignFault}
use Rattle.uid_table.specs.declared.id_answers.AssignFault.TheVariants as assign
use Rattle.cell_laws.proofs.CallerLemmas.{first_fits, first_lawful, itself, nothing_made, since_joined}
use Rattle.list_lemmas.proofs.ListMembers.{here, there}
use Rattle.point_lines.specs.OpenRules.{AllowsAll}
use Rattle.point_import.specs.PutPoints.{Names, NamesMade, StopsAt, WasNamed, WereNamed}
use Rattle.point_import.specs.PutPoints.WereNamed.{start, then_named}

abbrev NameList : Type 0
NameList = List (Kind × List ℕ)

-- the widths of the base, in a history that fits
pub widths_fit : (s : Seen) (h : History) → Fits s h → s.base.widths ≡ (base_of h).widths
widths_fit s h fits = ap (λ (x : Store). x.widths) (sym fits.base)

-- ---- one name
module _ (patterns : Patterns) (old new : Seen) (kind : Kind) (name : List ℕ) where
  made_between : (answer : Result Assigned AssignFault) (m : MadeSo old (AssignMade old.base.widths patterns kind name answer) new) (h : History) → Fits new h → AssignMade (base_of h).widths patterns kind name answer (deeds h old.caller old.length new.length)
  made_between answer m h fits =
      subst (λ (w : Widths). AssignMade w patterns kind name answer (deeds h old.caller old.length new.length)) (widths_fit old h (m.1.since.extends.fits h fits))
      (subst (AssignMade old.base.widths patterns kind name answer) (sym (m.1.made h fits)) m.2)

  pub named_one : (a : Assigned) → MadeSo old (AssignMade old.base.widths patterns kind name (Ok a)) new → HasShown new kind name (answered_id a) → Names patterns old ((kind, name) ∷ []) (Ok None) new
  named_one a m shown = record {
    since = m.1.since;
    made = λ h lawful fits. then_named kind name start m.1.since.extends.length (record {
      answer = a;
      made = made_between (Ok a) m h fits;
      has = shown.stands new (itself new) (first new.length h) (first_lawful h new.length lawful) (first_fits new h fits);
    });
  }

  stops_one : (fault : AssignFault) → MadeSo old (AssignMade old.base.widths patterns kind name (Err fault)) new → (h : History) → Fits new h → StopsAt patterns h old.caller old.length new.length ((kind, name) ∷ []) fault
  stops_one fault m h fits = record { before = []; kind = kind; name = name; behind = []; names_are = refl; last = old.length; named = start; in_range = m.1.since.extends.length; made = made_between (Err fault) m h fits }

  pub named_full : (k : Kind) → MadeSo old (AssignMade old.base.widths patterns kind name (Err (assign.Exhausted k))) new → Names patterns old ((kind, name) ∷ []) (Ok (Some k)) new
  named_full k m = record { since = m.1.since; made = λ h lawful fits. stops_one (assign.Exhausted k) m h fits }

  pub named_fault : (fault : RowsFault) → MadeSo old (AssignMade old.base.widths patterns kind name (Err (assign_fault fault))) new → Names patterns old ((kind, name) ∷ []) (Err fault) new
  named_fault fault m = record { since = m.1.since; made = λ h lawful fits. stops_one (assign_fault fault) m h fits }

  -- where each name is allowed none is filtered
  pub never_filtered : AllowsAll patterns → (k : Kind) → MadeSo old (AssignMade old.base.widths patterns kind name (Err (assign.Filtered k))) new → ⊥
  never_filtered all k (list, made, (d, rest, list_is, look, (same, off, none))) = true≢false (sym (all.allows kind name) ∙ off)

-- ---- names behind names
pub named_on : (patterns : Patterns) (h : History) (caller n m : ℕ) (ns : NameList) {ms : NameList} {n2 : ℕ} → WereNamed patterns h caller n ns m → WereNamed patterns h caller m ms n2 → WereNamed patterns h caller n (ns ++ ms) n2
named_on patterns h caller n m ns a start = subst (λ (xs : NameList). WereNamed patterns h caller n xs m) (sym (append-nil ns)) a
named_on patterns h caller n m ns a (then_named {names} {e} {e2} kind name rest le was) =
    subst (λ (xs : NameList). WereNamed patterns h caller n xs e2) (append_assoc ns names ((kind, name) ∷ [])) (then_named kind name (named_on patterns h caller n m ns a rest) le was)

module _ (patterns : Patterns) (h : History) (caller n e n2 : ℕ) (ns ms : NameList) where
  pub stop_behind : (fault : AssignFault) → WereNamed patterns h caller n ns e → StopsAt patterns h caller e n2 ms fault → StopsAt patterns h caller n n2 (ns ++ ms) fault
  stop_behind fault a s = record {
    before = ns ++ s.before;
    kind = s.kind;
    name = s.name;
    behind = s.behind;
    names_are = ap (λ xs. ns ++ xs) s.names_are ∙ sym (append_assoc ns s.before ((s.kind, s.name) ∷ s.behind));
    last = s.last;
    named = named_on patterns h caller n e ns a s.named;
    in_range = s.in_range;
    made = s.made;
  }

  pub stop_before : (fault : AssignFault) → StopsAt patterns h caller n n2 ns fault → StopsAt patterns h caller n n2 (ns ++ ms) fault
  stop_before fault s = record {
    before = s.before;
    kind = s.kind;
    name = s.name;
    behind = s.behind ++ ms;
    names_are = ap (λ xs. xs ++ ms) s.names_are ∙ append_assoc s.before ((s.kind, s.name) ∷ s.behind) ms;
    last = s.last;
    named = s.named;
    in_range = s.in_range;
    made = s.made;
  }

  pub names_joined : (r : Result (Option Kind) RowsFault) → WereNamed patterns h caller n ns e → NamesMade patterns h caller e n2 ms r → NamesMade patterns h caller n n2 (ns ++ ms) r
  names_joined (Ok None) a s = named_on patterns h caller n e ns a s
  names_joined (Ok (Some kind)) a s = stop_behind (assign.Exhausted kind) a s
  names_joined (Err fault) a s = stop_behind (assign_fault fault) a s

pub names_then : (patterns : Patterns) (a b c : Seen) (ns ms : NameList) (r : Result (Option Kind) RowsFault) → Names patterns a ns (Ok None) b → Names patterns b ms r c → Names patterns a (ns ++ ms) r c
names_then patterns a b c ns ms r x y = record {
  since = since_joined a b c x.since y.since;
  made = λ h lawful fits.
      let one = x.made h lawful (y.since.extends.fits h fits) in
      let two = subst (λ (who : ℕ). NamesMade patterns h who b.length c.length ms r) x.since.caller (y.made h lawful fits) in
      names_joined patterns h a.caller a.length b.length c.length ns ms r one two;
}

pub names_full : (patterns : Patterns) (a b : Seen) (ns ms : NameList) (kind : Kind) → Names patterns a ns (Ok (Some kind)) b → Names patterns a (ns ++ ms) (Ok (Some kind)) b
names_full patterns a b ns ms kind x = record { since = x.since; made = λ h lawful fits. stop_before patterns h a.caller a.length a.length b.length ns ms (assign.Exhausted kind) (x.made h lawful fits) }

pub names_fault : (patterns : Patterns) (a b : Seen) (ns ms : NameList) (fault : RowsFault) → Names patterns a ns (Err fault) b → Names patterns a (ns ++ ms) (Err fault) b
names_fault patterns a b ns ms fault x = record { since = x.since; made = λ h lawful fits. stop_before patterns h a.caller a.length a.length b.length ns ms (assign_fault fault) (x.made h lawful fits) }

pub names_none : (patterns : Patterns) (s : Seen) → Names patterns s [] (Ok None) s
names_none patterns s = record { since = (nothing_made s).since; made = λ h lawful fits. start }

-- ---- the names of tags from a place on
left_is : (tags : List Pair) (i : ℕ) (t : Pair) → i < length tags → get_or tags i t ≡ t → drop i tags ≡ t ∷ drop (i + 1) tags
left_is tags i t within is = drop-cons tags i t within ∙ ap (λ x. x ∷ drop (suc i) tags) is ∙ ap (λ n. t ∷ drop n tags) (sym (add-one i))

-- what is left of the tags decides
abbrev pub LeftDecides : Patterns → Seen → List Pair → ℕ → Seen → Type 0
LeftDecides patterns old tags i now = (r : Result (Option Kind) RowsFault) (later : Seen) → Names patterns now (tag_names (drop i tags)) r later → Names patterns old (tag_names tags) r later

module _ (patterns : Patterns) (old now new : Seen) (tags : List Pair) (i : ℕ) (t : Pair) (within : i < length tags) (is : get_or tags i t ≡ t) (left : LeftDecides patterns old tags i now) where
  abbrev pair : NameList
  pair = (TagKey, t.0) ∷ (TagValue, t.1) ∷ []

  on : (r : Result (Option Kind) RowsFault) (later : Seen) → Names patterns now (pair ++ tag_names (drop (i + 1) tags)) r later → Names patterns old (tag_names tags) r later
  on r later names = left r later (subst (λ (ts : List Pair). Names patterns now (tag_names ts) r later) (sym (left_is tags i t within is)) names)

  pub left_full : (kind : Kind) → Names patterns now pair (Ok (Some kind)) new → Names patterns old (tag_names tags) (Ok (Some kind)) new
  left_full kind one = on (Ok (Some kind)) new (names_full patterns now new pair (tag_names (drop (i + 1) tags)) kind one)

  pub left_fault : (fault : RowsFault) → Names patterns now pair (Err fault) new → Names patterns old (tag_names tags) (Err fault) new
  left_fault fault one = on (Err fault) new (names_fault patterns now new pair (tag_names (drop (i + 1) tags)) fault one)

  pub left_named : Names patterns now pair (Ok None) new → LeftDecides patterns old tags (i + 1) new
  left_named one = λ r later rest. on r later (names_then patterns now new later pair (tag_names (drop (i + 1) tags)) r one rest)

drop_all : (xs : List Pair) (n : ℕ) → length xs ≤ n → drop n xs ≡ []
drop_all [] zero le = refl
drop_all [] (suc n) le = refl
drop_all (x ∷ xs) zero le = absurd (omega (arith, le))
drop_all (x ∷ xs) (suc n) le = drop_all xs n (omega (arith, le))

pub none_left : (patterns : Patterns) (old now : Seen) (tags : List Pair) (i : ℕ) → length tags ≤ i → LeftDecides patterns old tags i now → Names patterns old (tag_names tags) (Ok None) now
none_left patterns old now tags i le left = left (Ok None) now (subst (λ (ts : List Pair). Names patterns now (tag_names ts) (Ok None) now) (sym (drop_all tags i le)) (names_none patterns now))

-- ---- names whose ids were seen need not be asked
pub shown_named : (patterns : Patterns) (s : Seen) (h : History) → IsLawful h → Fits s h → (ns : NameList) → AllShown s ns → WereNamed patterns h s.caller s.length ns s.length
shown_named patterns s h lawful fits [] shown = start
shown_named patterns s h lawful fits (n ∷ ns) shown =
    let one = shown n.0 n.1 (here n ns) in
    let was : WasNamed patterns h s.caller s.length s.length n.0 n.1 = record {
      answer = Existing one.0;
      made = inl ((nothing_made s).made h fits);
      has = one.1.stands s (itself s) (first s.length h) (first_lawful h s.length lawful) (first_fits s h fits);
    } in
    named_on patterns h s.caller s.length s.length (n ∷ []) (then_named n.0 n.1 start (omega arith) was) (shown_named patterns s h lawful fits ns (λ kind name has. shown kind name (there n (kind, name) ns has)))

-- ---- counts of stops
pub rose_if_longer : (b : Bool) (before mid now : ℕ) → before ≤ mid → RoseIf b mid now → RoseIf b before now
rose_if_longer true before mid now le rose = omega (arith, le, rose)
rose_if_longer false before mid now le rose = tt
