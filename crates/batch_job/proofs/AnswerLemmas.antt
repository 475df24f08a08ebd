-- The answer of a query over stored points.
use Rattle.row_key.specs.Made.{three}
use Rattle.std.proofs.Common.{◌≡◌, ◌⊎◌, inl, inr, ⊎_elim, ℕ, ℤ, zero, suc, ◌-◌, Bool, true, false, List, [], ◌∷◌, ◌++◌, length, refl, sym, ap, subst, ◌∙◌, arith, append-nil}
use Rattle.std.specs.Prelude.{◌≢◌, ◌&&◌, if◌then◌else◌, Option, None, Some, Result, Ok, Err, IsTrue, Contains, find, is_some, map, nat_le, not, option_and_then, option_map, slice_index_or}
use Rattle.std.specs.List.{flat_map, list_any}
use Rattle.std.proofs.lemmas.Bool.{and_parts}
use Rattle.tsd_base.specs.Alphabet.{IsName}
use Rattle.tsd_base.specs.Points.{DataPoint}
use Rattle.tsd_base.specs.Tags.{is_same}
use Rattle.tsd_base.specs.declared.kinds.Kind.{Kind}
use Rattle.cell_model.specs.declared.events.Placed.{Placed}
use Rattle.cell_model.specs.Deeds.{Made}
use Rattle.cell_model.specs.History.{History, first, store_after}
use Rattle.cell_model.specs.IdRows.{id_number, id_of, name_row}
use Rattle.cell_model.specs.Lawful.{IsLawful}
use Rattle.cell_model.specs.Machine.{kind_qual}
use Rattle.cell_model.specs.Readings.{Meets, Reading}
use Rattle.cell_model.specs.Seen.{Seen, Fits}
use Rattle.cell_model.specs.Store.{value_at}
use Rattle.tag_match.specs.Patterns.{passes}
use Rattle.json_reply.specs.Replies.{Group, plain}
use Rattle.json_reply.specs.declared.reply.Reply.{Reply}
use Rattle.query_text.specs.declared.queries.Query.{Query}
use Rattle.query_text.specs.declared.queries.Sub.{Sub}
use Rattle.metric_scan.specs.declared.fault.AskFault.{AskFault}
use Rattle.metric_scan.specs.declared.fault.AskFault.TheVariants.{TooManyBuckets, BadFilter, Unknown, Duplicate, Overflow, OutOfMemory, Stopped}
use Rattle.series_groups.specs.QueryAnswers.{answer}
use Rattle.query_run.specs.AskedQueries.{as_point}
use Rattle.query_run.specs.Asked.{Answers, Cause}
use Rattle.query_run.specs.Asked.Answers.{none, more}
use Rattle.query_run.specs.Laws.{AnswerIsUnordered}
use Rattle.metric_scan.specs.Parts.{AllResolved, AreQuerySteps, FoundNone, NameOf, Part, PartStands}
use Rattle.query_run.specs.AskedQueries.{IsFew, QuerySays, answer_over, barred, names_in, wanted}
use Rattle.batch_job.specs.Conflicts.{Conflict, conflicts, first_conflict, is_first}
use Rattle.point_lines.specs.NameIds.{id_in}
use Rattle.batch_job.specs.NotedIds.{list_of}
use Rattle.batch_job.specs.JobAnswers.{GivesAnswer, answered, first_unknown, has_name, kept, names_after, unless, unless_overflow}
use Rattle.batch_job.specs.Storing.{IsStored}
use Rattle.batch_job.proofs.Asking.{answer_is, ids_are, last_of_wanted}
use Rattle.batch_job.proofs.Conflicting.{free_conflicts, conflict_is_first}
use Rattle.point_lines.proofs.CallerLemmas.{looked_at}
use Rattle.point_lines.proofs.CallerLemmas.{went}
use Rattle.batch_job.proofs.LastPoints.{same_bytes}
use Rattle.batch_job.proofs.Lower.{deeds_each, each_entry, first_lawful, here, id_kept, not_Some, sound_after, there}
use Rattle.batch_job.proofs.NamedPoints.{known_is}
use Rattle.batch_job.proofs.OneValue.{one_valued}
use Rattle.batch_job.proofs.SeriesLemmas.{name_of_points}

-- ---- the first of a list
none_passes : {X : Type 0} (p : X → Bool) (xs : List X) → ((x : X) → Contains xs x → p x ≡ false) → find p xs ≡ None
none_passes p [] each = refl
none_passes p (x ∷ xs) each = ap (λ b. if b then Some x else find p xs) (each x (here x xs)) ∙ none_passes p xs (λ y has. each y (there x y xs has))

first_passes : {X : Type 0} (p : X → Bool) (before : List X) (x : X) (behind : List X) → ((y : X) → Contains before y → p y ≡ false) → p x ≡ true → find p (before ++ x ∷ behind) ≡ Some x
first_passes p [] x behind each is = ap (λ b. if b then Some x else find p behind) is
first_passes p (y ∷ before) x behind each is =
    ap (λ b. if b then Some y else find p (before ++ x ∷ behind)) (each y (here y before)) ∙ first_passes p before x behind (λ z has. each z (there y z before has)) is

-- ---- what has an id is a name
is_zero : (name : List ℕ) → (name ≡ 0 ∷ []) ⊎ (name ≢ 0 ∷ [])
is_zero [] = inr (λ e. let l = ap length e in omega (arith, l))
is_zero (zero ∷ []) = inl refl
is_zero (suc n ∷ []) = inr (λ e. let first_ : suc n ≡ 0 = ap (λ (xs : List ℕ). slice_index_or xs 0 0) e in omega (arith, first_))
is_zero (a ∷ b ∷ name) = inr (λ e. let l = ap length e in omega (arith, l))

named : (h : History) (kind : Kind) (name : List ℕ) (id : ℕ) → IsLawful h → id_of h kind name ≡ Some id → IsName name
named h kind name id lawful is = at (value_at (store_after h) (name_row name) (kind_qual kind)) refl
  where
    counter : (value : List ℕ) → value_at (store_after h) (name_row name) (kind_qual kind) ≡ Some value → name ≡ 0 ∷ [] → IsName name
    counter value stands zero_row =
        let c = (sound_after h lawful).counters (kind_qual kind) value (ap (λ (n : List ℕ). value_at (store_after h) (name_row n) (kind_qual kind)) (sym zero_row) ∙ stands) in
        absurd (not_Some id (sym is ∙ ap (option_and_then id_number) (stands ∙ ap Some c.value_is)))

    at : (value : Option (List ℕ)) → value_at (store_after h) (name_row name) (kind_qual kind) ≡ value → IsName name
    at None stands = absurd (not_Some id (sym is ∙ ap (option_and_then id_number) stands))
    at (Some value) stands = ⊎_elim (counter value stands) (λ (other : name ≢ 0 ∷ []). ((sound_after h lawful).forward name (kind_qual kind) value other stands).is_name) (is_zero name)

-- ---- what a sub query wants
by_series : (q : Query) (s : Sub) (r t : Reading) → Meets r t → wanted q s r ≡ wanted q s t
by_series q s r t m = λ i. is_same (m.metric i) s.metric && (nat_le q.start (m.time i) && (nat_le (m.time i) q.end && passes s.filters (m.tags i)))

of_metric : (q : Query) (s : Sub) (r : Reading) → IsTrue (wanted q s r) → r.metric ≡ s.metric
of_metric q s r is = same_bytes r.metric s.metric (and_parts (is_same r.metric s.metric) _ is).0

-- ---- the first fault
module _ (q : Query) (s : Sub) (points : List DataPoint) where
  abbrev names_of_sub : List NameOf
  names_of_sub = names_in s

  abbrev is_unknown : NameOf → Bool
  is_unknown n = not (list_any (has_name n) points)

  abbrev found_conflict : Option (ℕ × ℤ × ℤ)
  found_conflict = first_conflict (names_after points) (kept q s points)

  abbrev behind_names : Result (List Group) AskFault
  behind_names = unless (option_map (λ (c : ℕ × ℤ × ℤ). Duplicate c.0 c.1 c.2) found_conflict) (unless_overflow (answer q s (kept q s points)))

  abbrev behind_buckets : Result (List Group) AskFault
  behind_buckets = unless (option_map (λ (n : NameOf). Unknown n.0 n.1) (first_unknown s points)) behind_names

  is_barred : (fault : AskFault) → barred q s ≡ Some fault → answered q s points ≡ Err fault
  is_barred fault is = ap (λ b. unless b behind_buckets) is

  has_unknown : (n : NameOf) → barred q s ≡ None → first_unknown s points ≡ Some n → answered q s points ≡ Err (Unknown n.0 n.1)
  has_unknown n free is = ap (λ b. unless b behind_buckets) free ∙ ap (λ o. unless (option_map (λ (n : NameOf). Unknown n.0 n.1) o) behind_names) is

  names_known : barred q s ≡ None → first_unknown s points ≡ None → answered q s points ≡ behind_names
  names_known free is = ap (λ b. unless b behind_buckets) free ∙ ap (λ o. unless (option_map (λ (n : NameOf). Unknown n.0 n.1) o) behind_names) is

  has_conflict : (time : ℕ) (a b : ℤ) → found_conflict ≡ Some (time, a, b) → behind_names ≡ Err (Duplicate time a b)
  has_conflict time a b is = ap (λ o. unless (option_map (λ (c : ℕ × ℤ × ℤ). Duplicate c.0 c.1 c.2) o) (unless_overflow (answer q s (kept q s points)))) is

  is_conflict_free : conflicts (names_after points) (kept q s points) ≡ [] → behind_names ≡ unless_overflow (answer q s (kept q s points))
  is_conflict_free conflict_free =
      ap (λ (cs : List Conflict). unless (option_map (λ (c : ℕ × ℤ × ℤ). Duplicate c.0 c.1 c.2) (option_map {U = ℕ × ℤ × ℤ} (λ c. (c.time, c.a, c.b)) (find (is_first cs) cs))) (unless_overflow (answer q s (kept q s points)))) conflict_free

module _ (q : Query) (s : Sub) (points : List DataPoint) (old new : Seen) (stored : IsStored points old) where
  abbrev AnswersOf : ℕ → History → List Sub → List Part → List Group → Type 0
  AnswersOf = Answers (wanted q) names_in (barred q) (answer_over q) (IsFew q)

  abbrev CauseOf : Sub → Part → ℕ → History → AskFault → Type 0
  CauseOf = Cause (wanted q) names_in (barred q) (answer_over q) (IsFew q)

  -- ---- one sub query makes one part
  record OnePart (parts : List Part) (groups : List Group) (h : History) : Type 0 where
    pub part : Part
    pub parts_are : parts ≡ part ∷ []
    pub free : barred q s ≡ None
    pub stands : PartStands (wanted q s) (names_in s) part new.length h
    pub answer_is_ : answer q s (map as_point part.shown) ≡ Ok groups

  one_part : (h : History) {parts : List Part} {groups : List Group} → AnswersOf new.length h (s ∷ []) parts groups → OnePart parts groups h
  one_part h (more {groups = groups} b stands is few none) = record { part = _; parts_are = refl; free = b; stands = stands; answer_is_ = is ∙ ap Ok (sym (append-nil groups)) }

  no_part : (h : History) {parts : List Part} {groups : List Group} → AnswersOf new.length h [] parts groups → parts ≡ []
  no_part h none = refl

  own_of_one : (part : Part) → flat_map (λ (p : Part). p.own) (part ∷ []) ≡ part.own
  own_of_one part = append-nil part.own

  module _ (part : Part) (made : Made old part.own new) (steps : AreQuerySteps part.own) (h : History) (lawful : IsLawful h) (fits : Fits new h) where
    -- a resolved name is one of the points
    resolved_known : (n : NameOf) (id : ℕ) → id_of (first new.length h) n.0 n.1 ≡ Some id → is_unknown q s points n ≡ false
    resolved_known n id is =
        let name = named (first new.length h) n.0 n.1 id (first_lawful h new.length lawful) is in
        ap not (sym (known_is points stored.names n stored.noted) ∙ ap is_some (sym (ids_are points old new part.own stored made steps h lawful fits n.0 n.1 name) ∙ is))

    all_known : AllResolved (first new.length h) (names_in s) → first_unknown s points ≡ None
    all_known resolved = none_passes (is_unknown q s points) (names_in s) (λ n has. let r = resolved n has in resolved_known n r.0 r.1)

    -- one that was not found is none
    not_found : (n : NameOf) → FoundNone part.own n → is_unknown q s points n ≡ true
    not_found n f = ap not (sym (known_is points stored.names n stored.noted) ∙ at (id_in (list_of stored.names n.0) n.1) refl)
      where
        at : (o : Option ℕ) → id_in (list_of stored.names n.0) n.1 ≡ o → is_some (id_in (list_of stored.names n.0) n.1) ≡ false
        at None is = ap is_some is
        at (Some id) is =
            let d = f.0 in
            let is_name = name_of_points points stored.are_points n (sym (known_is points stored.names n stored.noted) ∙ ap is_some is) in
            let w = went three old new part.own h made stored.by lawful fits in
            let before : id_of (first old.length h) n.0 n.1 ≡ Some id = stored.ids h lawful w.fitted n.0 n.1 is_name ∙ is in
            let own = deeds_each h old.caller old.length new.length d (subst (λ (xs : List Placed). Contains xs d) (sym (made.made h fits)) f.1) in
            let above = own.above in
            let later = id_kept h old.length (d.place - 1) n.0 n.1 id lawful is_name (omega (arith, above)) before in
            let legal = each_entry h d.place d.entry lawful own.stands in
            absurd (not_Some id (sym later ∙ ap (option_and_then id_number) (looked_at (store_after (first (d.place - 1) h)) d.place d n.0 n.1 None legal.reply f.2)))

    -- what is read to its end shows no conflict
    no_conflicts : PartStands (wanted q s) (names_in s) part new.length h → conflicts (names_after points) (kept q s points) ≡ []
    no_conflicts stands = free_conflicts points old new part.own stored made steps h lawful fits (wanted q s) (by_series q s) s.metric (of_metric q s) (names_in s) part refl stands

    answer_kept : AnswerIsUnordered → PartStands (wanted q s) (names_in s) part new.length h → answer q s (map as_point part.shown) ≡ answer q s (kept q s points)
    answer_kept unordered stands =
        answer_is points old new part.own stored made steps h lawful fits (wanted q s) s.metric (of_metric q s) part refl stands.covers
        (one_valued points (kept q s points) (last_of_wanted (wanted q s) points) (names_after points) (no_conflicts stands)) unordered q s

    -- so it is the answer over the points
    read_whole : AnswerIsUnordered → barred q s ≡ None → PartStands (wanted q s) (names_in s) part new.length h → answered q s points ≡ unless_overflow (answer q s (map as_point part.shown))
    read_whole unordered free stands =
        names_known q s points free (all_known stands.resolved) ∙ is_conflict_free q s points (no_conflicts stands) ∙ ap unless_overflow (sym (answer_kept unordered stands))

  -- ---- an answer
  told_answer : AnswerIsUnordered → q.subs ≡ s ∷ [] → (reply : Reply) → QuerySays q old (Ok reply) new → answered q s points ≡ Ok (map plain reply.groups.items)
  told_answer unordered one reply says =
      let p = says.made.since.lives stored.by.possible in
      let o = one_part p.history (subst (λ (subs : List Sub). AnswersOf new.length p.history subs says.parts (map plain reply.groups.items)) one (says.answers p.history p.lawful p.fits)) in
      let own : flat_map (λ (p : Part). p.own) says.parts ≡ o.part.own = ap (flat_map (λ (p : Part). p.own)) o.parts_are ∙ own_of_one o.part in
      let made = subst (λ xs. Made old xs new) own says.made in
      let steps = subst (λ xs. AreQuerySteps xs) own says.steps in
      read_whole o.part made steps p.history p.lawful p.fits unordered o.free o.stands ∙ ap unless_overflow o.answer_is_

  -- ---- a refusal is of the one sub query
  record OneCause (fault : AskFault) : Type 0 where
    pub part : Part
    pub made : Made old part.own new
    pub steps : AreQuerySteps part.own
    pub history : History
    pub lawful : IsLawful history
    pub fits : Fits new history
    pub cause : CauseOf s part new.length history fault

  one_sub : (done rest : List Sub) (t : Sub) → s ∷ [] ≡ done ++ t ∷ rest → (done ≡ []) × (t ≡ s)
  one_sub [] rest t e = (refl, cc)
  one_sub (d ∷ []) rest t e = absurd cc
  one_sub (d ∷ x ∷ done) rest t e = absurd cc

  one_cause : q.subs ≡ s ∷ [] → (fault : AskFault) → QuerySays q old (Err fault) new → OneCause fault
  one_cause one fault says =
      let p = says.made.since.lives stored.by.possible in
      let cut = one_sub says.done says.rest says.sub (sym one ∙ says.cut) in
      let parts : says.parts ≡ [] = no_part p.history (subst (λ (subs : List Sub). AnswersOf new.length p.history subs says.parts says.groups) cut.0 (says.before p.history p.lawful p.fits)) in
      let own : flat_map (λ (p : Part). p.own) says.parts ++ says.part.own ≡ says.part.own = ap (λ (ps : List Part). flat_map (λ (p : Part). p.own) ps ++ says.part.own) parts in
      record {
        part = says.part;
        made = subst (λ xs. Made old xs new) own says.made;
        steps = subst (λ xs. AreQuerySteps xs) own says.steps;
        history = p.history;
        lawful = p.lawful;
        fits = p.fits;
        cause = subst (λ (t : Sub). CauseOf t says.part new.length p.history fault) cut.1 (says.cause p.history p.lawful p.fits);
      }

  told_unknown : (kind : Kind) (name : List ℕ) → OneCause (Unknown kind name) → answered q s points ≡ Err (Unknown kind name)
  told_unknown kind name c =
      let u = c.cause.1 in
      has_unknown q s points (kind, name) c.cause.0
      (ap (find (is_unknown q s points)) u.cut
      ∙ first_passes (is_unknown q s points) u.before (kind, name) u.after
      (λ n has. let r = u.resolved n has in resolved_known c.part c.made c.steps c.history c.lawful c.fits n r.0 r.1)
      (not_found c.part c.made c.steps c.history c.lawful c.fits (kind, name) u.none))

  told_conflict : (time : ℕ) (a b : ℤ) → OneCause (Duplicate time a b) → answered q s points ≡ Err (Duplicate time a b)
  told_conflict time a b c =
      names_known q s points c.cause.0 (all_known c.part c.made c.steps c.history c.lawful c.fits c.cause.1)
      ∙ has_conflict q s points time a b (conflict_is_first points old new c.part.own stored c.made c.steps c.history c.lawful c.fits (wanted q s) (by_series q s) s.metric (of_metric q s) time a b c.cause.2)

  -- what is told is the answer over the points, or the first fault
  pub gives_answer : AnswerIsUnordered → q.subs ≡ s ∷ [] → (r : Result Reply AskFault) → QuerySays q old r new → GivesAnswer r (answered q s points)
  gives_answer unordered one (Ok reply) says = told_answer unordered one reply says
  gives_answer unordered one (Err (TooManyBuckets count)) says = let c = one_cause one (TooManyBuckets count) says in is_barred q s points (TooManyBuckets count) c.cause.1
  gives_answer unordered one (Err (BadFilter index)) says = let c = one_cause one (BadFilter index) says in is_barred q s points (BadFilter index) c.cause.1
  gives_answer unordered one (Err (Unknown kind name)) says = told_unknown kind name (one_cause one (Unknown kind name) says)
  gives_answer unordered one (Err (Duplicate time a b)) says = told_conflict time a b (one_cause one (Duplicate time a b) says)
  gives_answer unordered one (Err (Overflow time)) says =
      let c = one_cause one (Overflow time) says in
      read_whole c.part c.made c.steps c.history c.lawful c.fits unordered c.cause.0 c.cause.1 ∙ ap unless_overflow c.cause.2
  gives_answer unordered one (Err OutOfMemory) says = tt
  gives_answer unordered one (Err Stopped) says = tt
