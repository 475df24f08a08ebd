-- A batch over lines of which no series has two values at one time prints the plain aggregation of all points that it wants.
use Rattle.std.proofs.Common.{◌≡◌, ◌⊎◌, inl, inr, ℕ, ℤ, Bool, true, false, ◌&&◌, ◌||◌, List, [], ◌∷◌, map, refl, sym, ap, subst, ◌∙◌}
use Rattle.std.specs.Prelude.{Contains, filter, find, nat_le, not, Option, None, Some, option_map, Result, Ok, Err, if◌then◌else◌}
use Rattle.std.specs.Cmp.Lexicographic.{texts_ties}
use Rattle.std.specs.List.{flat_map, list_any}
use Rattle.std.proofs.lemmas.Bool.{and_parts}
use Rattle.std.proofs.lemmas.Bool.Decides.{Decides-int_eq}
use Rattle.std.proofs.lemmas.List.{append-nil}
use Rattle.std.proofs.lemmas.List.Elements.{Contains-append_cases}
use Rattle.std.proofs.lemmas.Map.Lookups.{exact_bytes}
use Rattle.std.proofs.lemmas.Map.Views.{tells_apart}
use Rattle.list_lemmas.proofs.BoolTests.{nat_eq_is, same_Some}
use Rattle.list_lemmas.proofs.ListMembers.{here, there, split, not_in, map_in, in_map}
use Rattle.list_lemmas.proofs.ListParts.{in_filter, to_filter}
use Rattle.tsd_base.specs.LastPoints.{is_same_place, last_points}
use Rattle.tsd_base.specs.Points.{DataPoint}
use Rattle.tsd_base.specs.TagOrder.{tags_same}
use Rattle.tsd_base.specs.Tags.{is_same}
use Rattle.cell_model.specs.Readings.{Reading, Meets, OneValued, reading_of}
use Rattle.cell_laws.proofs.CallerLemmas.{same_reading}
use Rattle.tag_match.specs.Building.{first_bad}
use Rattle.tag_match.specs.Patterns.{passes}
use Rattle.json_reply.specs.Replies.{Group}
use Rattle.query_text.specs.Subs.{sub_of}
use Rattle.query_text.specs.declared.queries.Query.{Query}
use Rattle.query_text.specs.declared.queries.Sub.{Sub}
use Rattle.row_scan.specs.RowReadings.{Chosen}
use Rattle.query_run.specs.AskedQueries.{bar_of, barred, wanted}
use Rattle.series_groups.specs.QueryAnswers.{answer, too_many_down}
use Rattle.metric_scan.specs.declared.fault.AskFault.{AskFault}
use Rattle.metric_scan.specs.declared.fault.AskFault.TheVariants.{TooManyBuckets, BadFilter, Unknown, Duplicate, Overflow, OutOfMemory, Stopped}
use Rattle.metric_scan.specs.Parts.{NameOf}
use Rattle.batch_job.specs.Conflicts.{Conflict, are_conflict, conflict_of, conflicts, first_conflict, is_first}
use Rattle.batch_job.specs.JobAnswers.{answered, first_unknown, kept, names_after, unless, unless_overflow}
use Rattle.point_lines.specs.NameIds.{Names}
use Rattle.batch_job.specs.PointLines.{points_of}
use Rattle.command_words.specs.CommandWords.{Batch}
use Rattle.batch_run.specs.declared.status.Status.{Status}
use Rattle.batch_run.specs.declared.status.Status.TheVariants as status
use Rattle.batch_run.specs.BatchQueries.{query_of}
use Rattle.batch_run.specs.Outcomes.{Outcome, outcome, over_input, over_points, replied}
use Rattle.batch_run.specs.BatchHeadlines.{BatchHeadline, IsPlainOver, reads_in}
use Rattle.batch_run.specs.BatchRuns.{Answers, Decides}

true_false : ◌≡◌ {A = Bool} true false → ⊥
true_false e = cc

none_some : {X : Type 0} (x : X) → ◌≡◌ {A = Option X} None (Some x) → ⊥
none_some x e = cc

-- ---- lists

any_in : {X : Type 0} (passes : X → Bool) (xs : List X) → list_any passes xs ≡ true → (x : X) × Contains xs x × (passes x ≡ true)
any_in passes [] e = absurd (true_false (sym e))
any_in {X} passes (y ∷ xs) e = at (passes y) refl e (any_in passes xs)
  where
    at : (b : Bool) → passes y ≡ b → (b || list_any passes xs) ≡ true → (list_any passes xs ≡ true → (x : X) × Contains xs x × (passes x ≡ true)) → (x : X) × Contains (y ∷ xs) x × (passes x ≡ true)
    at true is h rest = (y, here y xs, is)
    at false is h rest = let w = rest h in (w.0, there y w.0 xs w.1, w.2)

flat_in : {X Y : Type 0} (f : X → List Y) (xs : List X) (y : Y) → Contains (flat_map f xs) y → (x : X) × Contains xs x × Contains (f x) y
flat_in f [] y c = absurd (not_in y c)
flat_in f (x ∷ xs) y c = elim (Contains-append_cases (f x) (flat_map f xs) y c) [
  | inl first ↦ (x, here x xs, first)
  | inr later ↦ let w = flat_in f xs y later in (w.0, there x w.0 xs w.1, w.2)
]

found_in : {X : Type 0} (passes : X → Bool) (xs : List X) (x : X) → find passes xs ≡ Some x → Contains xs x
found_in passes [] x e = absurd (none_some x e)
found_in {X} passes (y ∷ xs) x e = at (passes y) e (found_in passes xs x)
  where
    at : (b : Bool) → (if b then Some y else find passes xs) ≡ Some x → (find passes xs ≡ Some x → Contains xs x) → Contains (y ∷ xs) x
    at true is rest = subst (Contains (y ∷ xs)) (same_Some y x is) (here y xs)
    at false is rest = there y x xs (rest is)

-- ---- points of one series and time

same_bytes : (x y : List ℕ) → is_same x y ≡ true → x ≡ y
same_bytes x y e = tells_apart exact_bytes x y (sym (texts_ties x y) ∙ e)

place_meets : (p q : DataPoint) → is_same_place p q ≡ true → Meets (reading_of p) (reading_of q)
place_meets p q e =
    let m = and_parts _ _ e in
    let t = and_parts _ _ m.1 in
    let n = and_parts _ _ t.1 in
    record { metric = same_bytes p.metric q.metric m.0; tags = tags_same p.tags q.tags t.0; time = nat_eq_is p.time q.time n.0 }

module _ (q : Query) (s : Sub) where
  same_wanted : (a b : Reading) → Meets a b → wanted q s a ≡ wanted q s b
  same_wanted a b m = λ i. is_same (m.metric i) s.metric && (nat_le q.start (m.time i) && (nat_le (m.time i) q.end && passes s.filters (m.tags i)))

  abbrev WantedOf : List DataPoint → Reading → Type 0
  WantedOf points = Chosen (wanted q s) (reads_in points)

  fewer : (p : DataPoint) (ps : List DataPoint) → OneValued (WantedOf (p ∷ ps)) → OneValued (WantedOf ps)
  fewer p ps one a b x y m = one a b (there (reading_of p) a (map reading_of ps) x.0, x.1) (there (reading_of p) b (map reading_of ps) y.0, y.1) m

  -- of a wanted point a last one has the reading
  abbrev HasLast : List DataPoint → DataPoint → Type 0
  HasLast ps p = (l : DataPoint) × Contains (last_points ps) l × (reading_of l ≡ reading_of p)

  last_has : (ps : List DataPoint) (p : DataPoint) → OneValued (WantedOf ps) → Contains ps p → wanted q s (reading_of p) ≡ true → HasLast ps p
  last_has [] p one c w = absurd (not_in p c)
  last_has (x ∷ xs) p one c w = at (list_any (is_same_place x) xs) refl (split x p xs c) (λ y in_rest passes. last_has xs y (fewer x xs one) in_rest passes)
    where
      at : (b : Bool) → list_any (is_same_place x) xs ≡ b → (x ≡ p) ⊎ Contains xs p → ((y : DataPoint) → Contains xs y → wanted q s (reading_of y) ≡ true → HasLast xs y)
          → (l : DataPoint) × Contains (if b then last_points xs else x ∷ last_points xs) l × (reading_of l ≡ reading_of p)
      at true e (inl same) rest =
          let y = any_in (is_same_place x) xs e in
          let meets = place_meets x y.0 y.2 in
          let wx : wanted q s (reading_of x) ≡ true = ap (λ (z : DataPoint). wanted q s (reading_of z)) same ∙ w in
          let wy : wanted q s (reading_of y.0) ≡ true = sym (same_wanted (reading_of x) (reading_of y.0) meets) ∙ wx in
          let value = one (reading_of x) (reading_of y.0) (here (reading_of x) (map reading_of xs), wx) (there (reading_of x) (reading_of y.0) (map reading_of xs) (in_map reading_of xs y.0 y.1), wy) meets in
          let l = rest y.0 y.1 wy in
          (l.0, l.1, l.2 ∙ same_reading (reading_of x) (reading_of y.0) meets value ∙ ap reading_of same)
      at false e (inl same) rest = (x, here x (last_points xs), ap reading_of same)
      at true e (inr later) rest = rest p later w
      at false e (inr later) rest = let l = rest p later w in (l.0, there x l.0 (last_points xs) l.1, l.2)

  last_in : (ps : List DataPoint) (p : DataPoint) → Contains (last_points ps) p → Contains ps p
  last_in [] p c = c
  last_in (x ∷ xs) p c = at (list_any (is_same_place x) xs) c (last_in xs p)
    where
      at : (b : Bool) → Contains (if b then last_points xs else x ∷ last_points xs) p → (Contains (last_points xs) p → Contains xs p) → Contains (x ∷ xs) p
      at true has rest = there x p xs (rest has)
      at false has rest = elim (split x p (last_points xs) has) [ inl same ↦ subst (Contains (x ∷ xs)) same (here x xs) | inr later ↦ there x p xs (rest later) ]

  module _ (lines : List DataPoint) (one : OneValued (WantedOf lines)) where
    -- the points that count have the readings that are wanted
    kept_wanted : (r : Reading) → reads_in (kept q s lines) r → WantedOf lines r
    kept_wanted r c =
        let p = map_in reading_of (kept q s lines) r c in
        let w = in_filter (λ (x : DataPoint). wanted q s (reading_of x)) (last_points lines) p.0 p.1 in
        (subst (reads_in lines) p.2 (in_map reading_of lines p.0 (last_in lines p.0 w.0)), ap (wanted q s) (sym p.2) ∙ w.1)

    wanted_kept : (r : Reading) → WantedOf lines r → reads_in (kept q s lines) r
    wanted_kept r c =
        let p = map_in reading_of lines r c.0 in
        let l = last_has lines p.0 one p.1 (ap (wanted q s) p.2 ∙ c.1) in
        subst (reads_in (kept q s lines)) (l.2 ∙ p.2)
        (in_map reading_of (kept q s lines) l.0 (to_filter (λ (x : DataPoint). wanted q s (reading_of x)) (last_points lines) l.0 l.1 (ap (wanted q s) (l.2 ∙ p.2) ∙ c.1)))

    -- no two of them are a conflict
    no_two : (x y : DataPoint) → Contains (kept q s lines) x → Contains (kept q s lines) y → are_conflict x y ≡ true → ⊥
    no_two x y a b e =
        let coarse = and_parts _ _ e in
        let fine = and_parts _ _ coarse.1 in
        let m = and_parts _ _ fine.1 in
        let t = and_parts _ _ m.1 in
        let n = and_parts _ _ t.1 in
        let meets : Meets (reading_of x) (reading_of y) = record { metric = same_bytes x.metric y.metric m.0; tags = tags_same x.tags y.tags t.0; time = nat_eq_is x.time y.time n.0 } in
        let value = one (reading_of x) (reading_of y) (kept_wanted (reading_of x) (in_map reading_of (kept q s lines) x a)) (kept_wanted (reading_of y) (in_map reading_of (kept q s lines) y b)) meets in
        true_false (sym n.1 ∙ ap not ((Decides-int_eq x.value y.value).1 value))

    no_conflict : (names : Names) (c : ℕ × ℤ × ℤ) → first_conflict names (kept q s lines) ≡ Some c → ⊥
    no_conflict names c e = at (find (is_first all) all) refl e
      where
        all : List Conflict
        all = conflicts names (kept q s lines)

        at : (o : Option Conflict) → find (is_first all) all ≡ o → option_map (λ (d : Conflict). (d.time, d.a, d.b)) o ≡ Some c → ⊥
        at None is none = none_some c none
        at (Some d) is some =
            let x = flat_in (λ (p : DataPoint). map (conflict_of names p) (filter (are_conflict p) (kept q s lines))) (kept q s lines) d (found_in (is_first all) all d is) in
            let y = map_in (conflict_of names x.0) (filter (are_conflict x.0) (kept q s lines)) d x.2 in
            let w = in_filter (are_conflict x.0) (kept q s lines) y.0 y.1 in
            no_two x.0 y.0 x.1 w.0 w.1

    -- ---- the answer

    module _ (time : ℕ) (a b : ℤ) where
      bar_not : (count index : Option ℕ) → bar_of count index ≡ Some (Duplicate time a b) → ⊥
      bar_not (Some count) index e = cc
      bar_not None (Some index) e = cc
      bar_not None None e = none_some (Duplicate time a b) e

      barred_not : barred q s ≡ Some (Duplicate time a b) → ⊥
      barred_not e = bar_not (too_many_down q.start q.end s.down) (first_bad s.filters) e

      -- it isn't refused for two values
      not_two : (barrier : Option AskFault) → barred q s ≡ barrier → (unknown : Option NameOf) (names : Names) (conflict : Option (ℕ × ℤ × ℤ)) → first_conflict names (kept q s lines) ≡ conflict → (x : Result (List Group) ℕ)
          → unless barrier (unless (option_map (λ (n : NameOf). Unknown n.0 n.1) unknown) (unless (option_map (λ (c : ℕ × ℤ × ℤ). Duplicate c.0 c.1 c.2) conflict) (unless_overflow x))) ≡ Err (Duplicate time a b) → ⊥
      not_two (Some fault) is unknown names conflict free x e = let same : fault ≡ Duplicate time a b = cc in barred_not (is ∙ ap Some same)
      not_two None is (Some n) names conflict free x e = cc
      not_two None is None names (Some c) free x e = no_conflict names c free
      not_two None is None names None free (Ok groups) e = cc
      not_two None is None names None free (Err at) e = cc

    -- groups are those of the points that count
    passed : (barrier unknown conflict : Option AskFault) (x : Result (List Group) ℕ) (groups : List Group) → unless barrier (unless unknown (unless conflict (unless_overflow x))) ≡ Ok groups → x ≡ Ok groups
    passed (Some fault) unknown conflict x groups e = absurd cc
    passed None (Some fault) conflict x groups e = absurd cc
    passed None None (Some fault) x groups e = absurd cc
    passed None None None (Ok all) groups e = let same : all ≡ groups = cc in ap Ok same
    passed None None None (Err time) groups e = absurd cc

    plain_over : (result : Result (List Group) AskFault) → answered q s lines ≡ result → IsPlainOver q s lines result
    plain_over (Ok groups) is = (
      kept q s lines,
      λ r. (kept_wanted r, wanted_kept r),
      passed (barred q s) (option_map (λ (n : NameOf). Unknown n.0 n.1) (first_unknown s lines)) (option_map (λ (c : ℕ × ℤ × ℤ). Duplicate c.0 c.1 c.2) (first_conflict (names_after lines) (kept q s lines))) (answer q s (kept q s lines)) groups is,
    )
    plain_over (Err (Duplicate time a b)) is =
        not_two time a b (barred q s) refl (first_unknown s lines) (names_after lines) (first_conflict (names_after lines) (kept q s lines)) refl (answer q s (kept q s lines)) is
    plain_over (Err (TooManyBuckets count)) is = tt
    plain_over (Err (BadFilter index)) is = tt
    plain_over (Err (Unknown kind name)) is = tt
    plain_over (Err (Overflow time)) is = tt
    plain_over (Err OutOfMemory) is = tt
    plain_over (Err Stopped) is = tt

-- ---- a batch

decided : (batch : Batch) (input : List ℕ) (ended : Bool) (o : Outcome) → Decides (Some batch) input ended o → outcome (Some batch) input ≡ o
decided batch input true o d = d
decided batch input false o d = ap (outcome (Some batch)) (sym (append-nil input)) ∙ d []

module _ (batch : Batch) (input output : List ℕ) (s : Sub) (lines : List DataPoint) (is_sub : sub_of batch.ms batch.query ≡ Ok s) (are_lines : points_of input ≡ Ok lines) where
  -- the outcome is that of the answer over the lines
  over_lines : outcome (Some batch) input ≡ replied (answered (query_of batch s) s lines)
  over_lines = ap (λ r. over_input batch r input) is_sub ∙ ap (over_points batch s) are_lines

  prints : (result : Status) → Decides (Some batch) input true (record { status = result; text = output }) → OneValued (Chosen (wanted (query_of batch s) s) (reads_in lines))
      → (r : Result (List Group) AskFault) × IsPlainOver (query_of batch s) s lines r × (replied r ≡ record { status = result; text = output })
  prints result d one = (answered (query_of batch s) s lines, plain_over (query_of batch s) s lines one (answered (query_of batch s) s lines) refl, sym over_lines ∙ d)

pub batch_headline : (batch : Batch) (input : List ℕ) (ended : Bool) (output : List ℕ) (result : Status) (times : List ℕ) → Answers (Some batch) input ended output result → BatchHeadline batch result input output times
batch_headline batch input ended output status.Done times a = λ s lines is_sub are_lines one. prints batch input output s lines is_sub are_lines status.Done (decided batch input ended _ a.0) one
batch_headline batch input ended output status.Refused times a = λ s lines is_sub are_lines one. prints batch input output s lines is_sub are_lines status.Refused (decided batch input ended _ a) one
batch_headline batch input ended output status.Usage times a = λ s lines is_sub are_lines one. tt
batch_headline batch input ended output status.ReadFault times a = λ s lines is_sub are_lines one. tt
batch_headline batch input ended output status.WriteFault times a = λ s lines is_sub are_lines one. tt
batch_headline batch input ended output status.Memory times a = λ s lines is_sub are_lines one. tt
batch_headline batch input ended output status.Stopped times a = λ s lines is_sub are_lines one. tt
batch_headline batch input ended output status.DoorFault times a = λ s lines is_sub are_lines one. tt
batch_headline batch input ended output status.SessionFull times a = λ s lines is_sub are_lines one. tt
batch_headline batch input ended output status.ClockFault times a = λ s lines is_sub are_lines one. tt
