-- What was read of an input whose lines one caller alone imported.
use Rattle.std.proofs.Common.{◌≡◌, ◌≢◌, ⊎_elim, ℕ, ◌+◌, ◌≤◌, Bool, true, false, cond, List, [], ◌∷◌, ◌++◌, length, refl, sym, ap, subst, ◌∙◌, append-nil, arith}
use Rattle.std.specs.Prelude.{Option, None, Some, Result, Ok, Err, Contains, is_some, nat_lt, codes, option_and_then, if◌then◌else◌}
use Rattle.std.specs.Int.{w64, to_be_bytes}
use Rattle.std.specs.List.{flat_map}
use Rattle.std.proofs.lemmas.List.Elements.{Contains-append_cases, Contains-append_right}
use Rattle.list_lemmas.proofs.ListMembers.{here, not_in, split, there}
use Rattle.tsd_base.specs.Alphabet.{IsName}
use Rattle.tsd_base.specs.Faults.{point_fault_text}
use Rattle.tsd_base.specs.Points.{DataPoint, point_of}
use Rattle.tsd_base.specs.declared.kinds.Kind.{Kind}
use Rattle.tsd_hooks.specs.declared.name_patterns.Patterns.{Patterns}
use Rattle.cell_model.specs.declared.row.Row.{Row}
use Rattle.cell_model.specs.declared.events.Placed.{Placed}
use Rattle.cell_model.specs.declared.events.Step.{Step}
use Rattle.cell_model.specs.declared.events.Step.TheVariants.{Bump, Read}
use Rattle.cell_model.specs.declared.events.Reply.TheVariants.{BumpReply}
use Rattle.cell_model.specs.declared.answers.Bumped.TheVariants.{Given, Full}
use Rattle.cell_model.specs.Deeds.{deeds}
use Rattle.cell_model.specs.History.{History, base_of, first, len, store_after}
use Rattle.cell_model.specs.History.History.{Then}
use Rattle.cell_model.specs.IdRows.{id_number, id_of, name_row}
use Rattle.cell_model.specs.KindWidths.{Widths, greatest}
use Rattle.cell_model.specs.Layout.{names_of}
use Rattle.cell_model.specs.Lawful.{IsLawful}
use Rattle.cell_model.specs.Machine.{counter_of, counter_row, kind_qual, reply_of}
use Rattle.cell_model.specs.Store.{Store, value_at}
use Rattle.cell_laws.proofs.CallerLemmas.{base_widths, first_lawful, sound_after}
use Rattle.line_stream.specs.Lines.{Line, is_blank, lines_of, text_of}
use Rattle.uid_table.specs.IdAnswers.{answered_id}
use Rattle.uid_table.specs.IdSteps.{AssignMade, DidLook}
use Rattle.uid_table.specs.declared.id_answers.AssignFault.TheVariants as assign
use Rattle.point_put.specs.PutPoint.{PointAsked}
use Rattle.point_put.specs.declared.fault.PutFault.TheVariants as put
use Rattle.point_put.proofs.CallerLemmas.{names_to_end}
use Rattle.point_lines.specs.LinePoints.{judged, judged_point, points_from, points_of, with_line, with_point, with_points}
use Rattle.point_lines.specs.LinePoints.Judged.{Blank, Refused}
use Rattle.point_lines.specs.LoneHistories.{IsNumbered}
use Rattle.point_lines.specs.NameIds.{Names, and_then_noted, id_in, list_of, no_names, noted, noted_all, with_listed}
use Rattle.point_lines.proofs.CallerLemmas.{base_of_first, follow, follows, looked, names_read, noted_all-append, read_keeps}
use Rattle.point_import.specs.ImportFaults.{line_fault_text}
use Rattle.point_import.specs.declared.import_fault.LineFault.{LineFault}
use Rattle.point_import.specs.declared.import_fault.LineFault.TheVariants.{TooLong, Point, Exhausted}
use Rattle.point_import.specs.ImportedLines.{IsRefused, RefusesLine, WereAccepted}
use Rattle.point_import.specs.ImportedLines.WereAccepted.{start as none_yet, then_blank, then_put}
use Rattle.point_import.specs.LoneImports.{AreNumbered, IsAloneIn}
use Rattle.point_import.specs.PutPoints.{AskedPut, StopsAt, WereNamed, open_to}
use Rattle.point_import.specs.PutPoints.WereNamed.{start, then_named}
use Rattle.point_import.proofs.CallerLemmas.{Noted, all_named, import_numbers, resolved_after}
use Rattle.import_job.proofs.Filled.{named}
use Rattle.import_job.proofs.IdCells.{bytes_or}
use Rattle.import_job.proofs.PlacedNames.{AllHavePlaces, places}

abbrev PointsRead : Type 0
PointsRead = Result (List DataPoint) (ℕ × List ℕ)

-- ---- a name that is resolved is one
not_some : {A : Type 0} {x : A} → ◌≡◌ {A = Option A} None (Some x) → ⊥
not_some e = cc

eight_no_id : (n id : ℕ) → id_number (to_be_bytes w64 n) ≡ Some id → ⊥
eight_no_id n id e = not_some e

zero_resolved : (h : History) (kind : Kind) (id : ℕ) → IsLawful h → option_and_then id_number (value_at (store_after h) counter_row (kind_qual kind)) ≡ Some id → ⊥
zero_resolved h kind id lawful is = at (value_at (store_after h) counter_row (kind_qual kind)) refl
  where
    at : (o : Option (List ℕ)) → value_at (store_after h) counter_row (kind_qual kind) ≡ o → ⊥
    at None e = not_some (sym (ap (option_and_then id_number) e) ∙ is)
    at (Some value) e =
        let c = (sound_after h lawful).counters (kind_qual kind) value e in
        eight_no_id c.number id (sym (ap (option_and_then id_number) (e ∙ ap Some c.value_is)) ∙ is)

other_resolved : (h : History) (kind : Kind) (name : List ℕ) (id : ℕ) → IsLawful h → id_of h kind name ≡ Some id → name ≢ 0 ∷ [] → IsName name
other_resolved h kind name id lawful has other = at (value_at (store_after h) (name_row name) (kind_qual kind)) refl
  where
    at : (o : Option (List ℕ)) → value_at (store_after h) (name_row name) (kind_qual kind) ≡ o → IsName name
    at None e = absurd (not_some (sym (ap (option_and_then id_number) e) ∙ has))
    at (Some value) e = ((sound_after h lawful).forward name (kind_qual kind) value other e).is_name

name_resolved : (h : History) (kind : Kind) (name : List ℕ) (id : ℕ) → IsLawful h → id_of h kind name ≡ Some id → IsName name
name_resolved h kind name id lawful has = ⊎_elim
    (λ (none : name ≡ 0 ∷ []). absurd (zero_resolved h kind id lawful (ap (λ (n : List ℕ). option_and_then id_number (value_at (store_after h) (name_row n) (kind_qual kind))) (sym none) ∙ has)))
    (λ (other : name ≢ 0 ∷ []). other_resolved h kind name id lawful has other)
    (bytes_or name (0 ∷ []))

-- ---- a name for which there is no id left
was_full : (n most : ℕ) → BumpReply Full ≡ BumpReply (if nat_lt n most then Given (n + 1) else Full) → nat_lt n most ≡ false
was_full n most = at (nat_lt n most)
  where
    at : (b : Bool) → BumpReply Full ≡ BumpReply (if b then Given (n + 1) else Full) → b ≡ false
    at true e = cc
    at false e = refl

none_left : (w : Widths) (names : Names) (kind : Kind) (name : List ℕ) → id_in (list_of names kind) name ≡ None → nat_lt (length (list_of names kind)) (greatest w kind) ≡ false → noted w names kind name ≡ Err kind
none_left w names kind name fresh full =
    ap (λ o. with_listed names kind (cond (is_some o) (Some (list_of names kind)) (cond (nat_lt (length (list_of names kind)) (greatest w kind)) (Some (list_of names kind ++ name ∷ [])) None))) fresh
    ∙ ap (λ b. with_listed names kind (cond b (Some (list_of names kind ++ name ∷ [])) None)) full

-- no entry for names that have ids counts
read_no_bump : (step : Step) (row : Row) (kind : Kind) → step ≡ Read row → step ≡ Bump kind → ⊥
read_no_bump step row kind a b = let e : Read row ≡ Bump kind = sym a ∙ b in cc

module _ (w : Widths) (patterns : Patterns) (h : History) (caller from to : ℕ) (b : IsAloneIn w h caller from to) where
  goes : (e e2 : ℕ) → from ≤ e → e ≤ e2 → e2 ≤ to → first e2 h ≡ follow (first e h) (deeds h caller e e2)
  goes e e2 low le up = follows h caller e e2 le (λ place x above most is. b.only place x (omega (arith, low, above)) (omega (arith, most, up)) is)

  widths_at : (e : ℕ) → (store_after (first e h)).widths ≡ w
  widths_at e = sym (base_widths (first e h)) ∙ ap (λ (s : Store). s.widths) (base_of_first h e ∙ b.base)

  -- what was named is a name
  are_names : {n e : ℕ} {ns : List (Kind × List ℕ)} → WereNamed patterns h caller n ns e → (m : Kind × List ℕ) → Contains ns m → IsName m.1
  are_names start m has = absurd (not_in m has)
  are_names (then_named {names = ms} {e = mid} {e2 = e2} kind name rest le was) m has = ⊎_elim
      (λ (early : Contains ms m). are_names rest m early)
      (λ (now : Contains ((kind, name) ∷ []) m). ⊎_elim
      (λ (same : (kind, name) ≡ m). subst (λ (k : Kind × List ℕ). IsName k.1) same (name_resolved (first e2 h) kind name (answered_id was.answer) (first_lawful h e2 b.lawful) was.has))
      (λ (no : Contains [] m). absurd (not_in m no))
      (split (kind, name) m [] now))
      (Contains-append_cases ms ((kind, name) ∷ []) m has)

  named_range : {n e : ℕ} {ns : List (Kind × List ℕ)} → WereNamed patterns h caller n ns e → n ≤ e
  named_range start = omega arith
  named_range (then_named kind name rest le was) = let r = named_range rest in omega (arith, r, le)

  -- the counter was full
  module _ (names : Names) (n n2 : ℕ) (kind : Kind) (name : List ℕ) (low : from ≤ n) (le : n ≤ n2) (up : n2 ≤ to) (have : AllHavePlaces names) (counts : counter_of (store_after (first n h)) kind ≡ length (list_of names kind))
      (ids : IsName name → id_of (first n h) kind name ≡ id_in (list_of names kind) name) where
    full_after : (d e : Placed) → DidLook d kind name None → (e.entry.step ≡ Bump kind) × (e.entry.reply ≡ BumpReply Full) → first n2 h ≡ Then (Then (first n h) d.entry) e.entry → IsLawful (Then (Then (first n h) d.entry) e.entry) → noted w names kind name ≡ Err kind
    full_after d e look full whole lawful =
        let g : History = first n h in
        let g1 : History = Then g d.entry in
        let same = read_keeps g d.entry (name_row name) look.did.0 in
        let unknown : value_at (store_after g) (name_row name) (kind_qual kind) ≡ None = looked g d kind name None lawful.0.2 look in
        let test = was_full (counter_of (store_after g1) kind) (greatest (store_after g1).widths kind) (sym full.1 ∙ lawful.2 ∙ ap (reply_of (store_after g1) (len g1 + 1)) full.0) in
        let counter : counter_of (store_after g1) kind ≡ length (list_of names kind) = ap (λ (s : Store). counter_of s kind) same ∙ counts in
        let wide : (store_after g1).widths ≡ w = ap (λ (s : Store). s.widths) same ∙ widths_at n in
        none_left w names kind name (unlisted (ap (option_and_then id_number) unknown) (id_in (list_of names kind) name) refl)
        ((λ i. nat_lt (sym counter i) (greatest (sym wide i) kind)) ∙ test)
      where
        unlisted : id_of (first n h) kind name ≡ None → (o : Option ℕ) → id_in (list_of names kind) name ≡ o → id_in (list_of names kind) name ≡ None
        unlisted none None is = is
        unlisted none (Some k) is = absurd (not_some (sym none ∙ ids ((have kind).named name k is).0 ∙ is))

  -- names of which one has no id left
  module _ (points : List DataPoint) (names : Names) (n n2 : ℕ) (low : from ≤ n) (up : n2 ≤ to) (noted_before : noted_all w no_names (flat_map names_of points) ≡ Ok names)
      (named_before : (m : Kind × List ℕ) → Contains (flat_map names_of points) m → IsName m.1) (numbered : IsNumbered names (first n h)) where
    refused_name : (ns : List (Kind × List ℕ)) (kind : Kind) → StopsAt patterns h caller n n2 ns (assign.Exhausted kind) → noted_all w names ns ≡ Err kind
    refused_name ns kind s = at s.made
      where
        reach : n ≤ s.last
        reach = named_range s.named

        last_up : s.last ≤ to
        last_up = let within = s.in_range in omega (arith, within, up)

        one : Noted w names s.before (first s.last h)
        one = all_named w patterns h caller from to b names n low last_up (are_names s.named) numbered s.named

        have : AllHavePlaces one.more
        have = places w (flat_map names_of points ++ s.before) one.more
            (noted_all-append w (flat_map names_of points) s.before no_names ∙ ap (λ r. and_then_noted r (λ more. noted_all w more s.before)) noted_before ∙ one.noted)
            (λ m c. ⊎_elim (λ (x : Contains (flat_map names_of points) m). named_before m x) (λ (x : Contains s.before m). are_names s.named m x) (Contains-append_cases (flat_map names_of points) s.before m c))

        at : AssignMade (base_of h).widths patterns s.kind s.name (Err (assign.Exhausted kind)) (deeds h caller s.last n2) → noted_all w names ns ≡ Err kind
        at (d, rest, list_is, look, (allows, (same, (e, rest_is, did)))) =
            let whole : first n2 h ≡ Then (Then (first s.last h) d.entry) e.entry = goes s.last n2 (omega (arith, low, reach)) s.in_range up ∙ ap (follow (first s.last h)) (list_is ∙ ap (λ xs. d ∷ xs) rest_is) in
            let err : noted w one.more s.kind s.name ≡ Err s.kind =
            full_after one.more s.last n2 s.kind s.name (omega (arith, low, reach)) s.in_range up have (one.numbered.counts s.kind) (one.numbered.ids s.kind s.name) d e look did whole (subst IsLawful whole (first_lawful h n2 b.lawful)) in
            ap (noted_all w names) s.names_are ∙ noted_all-append w s.before ((s.kind, s.name) ∷ s.behind) names
            ∙ ap (λ r. and_then_noted r (λ more. noted_all w more ((s.kind, s.name) ∷ s.behind))) one.noted ∙ ap (λ r. and_then_noted r (λ more. noted_all w more s.behind)) err ∙ ap Err (sym same)

  -- where all names were asked none is exhausted later
  never_late : (n n2 : ℕ) (p : DataPoint) (kind : Kind) → from ≤ n → n2 ≤ to → AskedPut patterns h caller n n2 p (Err (put.Exhausted kind)) → ⊥
  never_late n n2 p kind low up q = at q.asked
    where
      reach : n ≤ q.last
      reach = named_range q.named

      at : PointAsked (open_to patterns) p (first n2 h) (deeds h caller q.last n2) (Err (put.Exhausted kind)) → ⊥
      at (name, ends, (admitted, (front, r, d, list_is, look, did))) =
          let within = q.in_range in
          let have = resolved_after w patterns h caller from to b (omega (arith, within, up)) (are_names q.named) q.named in
          let lawful = subst IsLawful (goes q.last n2 (omega (arith, low, reach)) within up) (first_lawful h n2 b.lawful) in
          let has : Contains (deeds h caller q.last n2) d = subst (λ (xs : List Placed). Contains xs d) (sym list_is) (Contains-append_right front (r ∷ d ∷ []) d (there r d (d ∷ []) (here d []))) in
          let read = names_read (open_to patterns) (first q.last h) (names_to_end ends) have lawful d has in
          read_no_bump d.entry.step read.0 kind read.1 did.0

  -- ---- the line that is refused
  refused_text : (line : Line) (text : List ℕ) (number : ℕ) (names : Names) (others : List Line) → judged line ≡ Refused text → points_from w number names (line ∷ others) ≡ Err (number, text)
  refused_text line text number names others is = ap (λ j. with_line w j number names (λ more. points_from w (number + 1) more others)) is

  module _ (points : List DataPoint) (names : Names) (n n2 : ℕ) (low : from ≤ n) (up : n2 ≤ to) (noted_before : noted_all w no_names (flat_map names_of points) ≡ Ok names)
      (named_before : (m : Kind × List ℕ) → Contains (flat_map names_of points) m → IsName m.1) (numbered : IsNumbered names (first n h)) where
    refused_line : (line : Line) (fault : LineFault) (number : ℕ) (others : List Line) → IsRefused patterns h caller n n2 line fault → points_from w number names (line ∷ others) ≡ Err (number, line_fault_text fault)
    refused_line line TooLong number others (long, none) =
        refused_text line (codes "line too long") number names others (ap (λ b. if b then Refused (codes "line too long") else (if is_blank (text_of line) then Blank else judged_point (point_of (text_of line)))) long)
    refused_line line (Point fault) number others (short, some, unread, none) =
        refused_text line (point_fault_text fault) number names others
        (ap (λ b. if b then Refused (codes "line too long") else (if is_blank (text_of line) then Blank else judged_point (point_of (text_of line)))) short
        ∙ ap (λ b. if b then Blank else judged_point (point_of (text_of line))) some ∙ ap judged_point unread)
    refused_line line (Exhausted kind) number others (p, taken, made) =
        ap (λ j. with_line w j number names (λ more. points_from w (number + 1) more others)) taken
        ∙ ap (λ r. with_point p number r (λ more. points_from w (number + 1) more others)) (⊎_elim
        (λ (stops : StopsAt patterns h caller n n2 (names_of p) (assign.Exhausted kind)). refused_name points names n n2 low up noted_before named_before numbered (names_of p) kind stops)
        (λ (late : AskedPut patterns h caller n n2 p (Err (put.Exhausted kind))). absurd (never_late n n2 p kind low up late))
        made)

  -- ---- what was read of the input
  numbers : {lines : List Line} {count n : ℕ} → n ≤ to → from ≤ n → WereAccepted patterns h caller from lines count n → AreNumbered w lines count (first n h)
  numbers {lines = lines} {count = count} {n = n} up low accepted =
      import_numbers w patterns h caller from n lines count (record { lawful = b.lawful; base = b.base; empty = b.empty; only = λ place e above most is. b.only place e above (omega (arith, most, up)) is }) low accepted

  accepted_range : {n e count : ℕ} {lines : List Line} → WereAccepted patterns h caller n lines count e → n ≤ e
  accepted_range none_yet = omega arith
  accepted_range (then_blank line rest is) = accepted_range rest
  accepted_range (then_put line p rest le is was) = let r = accepted_range rest in omega (arith, r, le)

  -- all lines that were accepted have these points
  pub lines_read : (n : ℕ) {lines : List Line} {count : ℕ} (a : AreNumbered w lines count (first n h)) → points_from w 1 no_names lines ≡ Ok a.points
  lines_read n {lines = lines} a = ap (points_from w 1 no_names) (sym (append-nil lines)) ∙ a.first_points 1 [] ∙ ap Ok (append-nil a.points)

  pub read_to : (n : ℕ) {lines : List Line} {count : ℕ} → n ≤ to → WereAccepted patterns h caller from lines count n → (points : List DataPoint) × (points_from w 1 no_names lines ≡ Ok points)
  read_to n up accepted = let a = numbers up (accepted_range accepted) accepted in (a.points, lines_read n a)

  -- the line behind them is refused
  pub refusal : (input : List ℕ) (ended : Bool) (number : ℕ) (fault : LineFault) → RefusesLine patterns h caller from to input ended number fault
      → (more : List ℕ) → (ended ≡ true → more ≡ []) → points_of w (input ++ more) ≡ Err (number, line_fault_text fault)
  refusal input ended number fault r more cond_ = at (r.refused more cond_)
    where
      low : from ≤ r.last
      low = accepted_range r.accepted

      a : AreNumbered w r.before r.count (first r.last h)
      a = numbers r.in_range low r.accepted

      count : 1 + length r.before ≡ number
      count = let is = r.number_is in omega (arith, is)

      at : (line : Line) × (others : List Line) × (lines_of (input ++ more) ≡ r.before ++ line ∷ others) × IsRefused patterns h caller r.last to line fault → points_of w (input ++ more) ≡ Err (number, line_fault_text fault)
      at (line, others, all_is, refused) =
          let one = refused_line a.points a.names r.last to low (omega arith) a.noted (named w patterns h caller from to b r.in_range low r.accepted a.points (lines_read r.last a)) a.numbered line fault (1 + length r.before) others refused in
          ap (points_from w 1 no_names) all_is ∙ a.first_points 1 (line ∷ others) ∙ ap (with_points a.points) one ∙ ap (λ (k : ℕ). Err (k, line_fault_text fault)) count
