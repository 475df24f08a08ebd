-- The ids that an import gives where its caller steps alone over a store that began empty.
use Rattle.std.proofs.Common.{◌≡◌, inl, inr, ⊎_elim, ℕ, ◌+◌, ◌<◌, ◌≤◌, Bool, true, false, cond, List, [], ◌∷◌, ◌++◌, length, refl, sym, ap, subst, ◌∙◌, append_assoc, arith, length-append}
use Rattle.std.specs.Prelude.{None, Some, Result, Ok, Err, Contains, is_some, nat_lt, option_and_then, if◌then◌else◌}
use Rattle.std.specs.Option.{option_map_or}
use Rattle.std.specs.Int.{w64, from_be_bytes}
use Rattle.std.specs.List.{flat_map}
use Rattle.std.proofs.lemmas.List.Elements.{Contains-append_cases, Contains-append_left, Contains-append_right}
use Rattle.tsd_base.specs.Alphabet.{IsName}
use Rattle.tsd_base.specs.Points.{DataPoint}
use Rattle.row_key.specs.declared.tables.Table.TheVariants.{Ids}
use Rattle.tsd_base.specs.declared.kinds.Kind.{Kind}
use Rattle.tsd_base.specs.declared.kinds.Kind.TheVariants.{Metric, TagKey, TagValue}
use Rattle.tsd_hooks.specs.declared.name_patterns.Patterns.{Patterns}
use Rattle.cell_model.specs.declared.answers.Bumped.TheVariants.{Given, Full}
use Rattle.cell_model.specs.declared.answers.Claimed.TheVariants.{Done, Held}
use Rattle.cell_model.specs.declared.answers.Stored.{Stored}
use Rattle.cell_model.specs.declared.row.Row.{Row}
use Rattle.cell_model.specs.declared.events.Placed.{Placed}
use Rattle.cell_model.specs.declared.events.Reply.TheVariants.{BumpReply}
use Rattle.cell_model.specs.Deeds.{deeds}
use Rattle.cell_model.specs.History.{History, base_of, first, len, store_after}
use Rattle.cell_model.specs.History.History.{Then}
use Rattle.cell_model.specs.IdRows.{AllResolved, id_number, id_of, name_row}
use Rattle.cell_model.specs.KindWidths.{Widths, greatest, kind_bytes}
use Rattle.cell_model.specs.Layout.{IsPoint, names_of}
use Rattle.cell_model.specs.Lawful.{IsLawful}
use Rattle.cell_model.specs.Machine.{counter_of, counter_row, kind_qual, reply_of}
use Rattle.cell_model.specs.Store.{Store, no_cells, value_at}
use Rattle.cell_laws.proofs.CallerLemmas.{base_widths, first_lawful, keeps_id, no_cell}
use Rattle.list_lemmas.proofs.ListMembers.{here, not_in, split}
use Rattle.line_stream.specs.Lines.{Line}
use Rattle.uid_table.specs.IdAnswers.{answered_id}
use Rattle.uid_table.specs.IdSteps.{AssignMade, LookedOrKept, DidLook, DidBump, DidReverse, DidForward}
use Rattle.uid_table.specs.declared.id_answers.Assigned.{Assigned}
use Rattle.uid_table.specs.declared.id_answers.Assigned.TheVariants.{Fresh, Existing, Lost}
use Rattle.point_put.specs.PutPoint.{PointAsked}
use Rattle.point_put.proofs.CallerLemmas.{names_in_turn}
use Rattle.point_lines.specs.LinePoints.{points_from, with_line, with_point, with_points}
use Rattle.point_lines.specs.LoneHistories.{IsNumbered}
use Rattle.point_lines.specs.NameIds.{Names, and_then_noted, id_in, list_of, no_names, noted_all, with_listed}
use Rattle.point_lines.proofs.CallerLemmas.{Ids_Points, base_of_first, follow, follow-append, follows, fresh, grown, id_is, names_last, names_read, noted_all-append, noted_all-known, not_held, numbered_grown, numbered_same, point_names, put_keeps, read_keeps, reads_keep, rows_differ, tables_differ}
use Rattle.point_import.specs.ImportedLines.{WereAccepted}
use Rattle.point_import.specs.ImportedLines.WereAccepted.{start as none_yet, then_blank, then_put}
use Rattle.point_import.specs.LoneImports.{AreNumbered, ImportNumbers, IsAloneIn}
use Rattle.point_import.specs.PutPoints.{WasNamed, WereNamed, open_to}
use Rattle.point_import.specs.PutPoints.WereNamed.{start, then_named}

-- ---- one name
module _ (w : Widths) (names : Names) (kind : Kind) (name : List ℕ) where
  one_new : is_some (id_in (list_of names kind) name) ≡ false → nat_lt (length (list_of names kind)) (greatest w kind) ≡ true → noted_all w names ((kind, name) ∷ []) ≡ Ok (grown names kind name)
  one_new unknown room =
      ap (λ b. and_then_noted (with_listed names kind (cond b (Some (list_of names kind)) (cond (nat_lt (length (list_of names kind)) (greatest w kind)) (Some (list_of names kind ++ name ∷ [])) None))) (λ more. Ok more)) unknown
      ∙ ap (λ b. and_then_noted (with_listed names kind (cond b (Some (list_of names kind ++ name ∷ [])) None)) (λ more. Ok more)) room

-- a bump that gave an id found room
was_given : (n most id : ℕ) → BumpReply (Given id) ≡ BumpReply (if nat_lt n most then Given (n + 1) else Full) → nat_lt n most ≡ true
was_given n most id = at (nat_lt n most)
  where
    at : (b : Bool) → BumpReply (Given id) ≡ BumpReply (if b then Given (n + 1) else Full) → b ≡ true
    at true e = refl
    at false e = cc

-- the names behind a step, and their ids
pub record Noted (w : Widths) (names : Names) (ns : List (Kind × List ℕ)) (h : History) : Type 0 where
  pub more : Names
  pub noted : noted_all w names ns ≡ Ok more
  pub numbered : IsNumbered more h

module _ (w wd : Widths) (wide : wd ≡ w) (patterns : Patterns) (g : History) (names : Names) (kind : Kind) (name : List ℕ) (is_name : IsName name) (numbered : IsNumbered names g) (widths : (store_after g).widths ≡ w) where
  known_then : (h : History) → store_after h ≡ store_after g → (id : ℕ) → id_of h kind name ≡ Some id → Noted w names ((kind, name) ∷ []) h
  known_then h same id has =
      let n = numbered_same names g h same numbered in
      record { more = names; noted = noted_all-known w names ((kind, name) ∷ []) (ap is_some (sym (n.ids kind name is_name) ∙ has), tt); numbered = n }

  existing : (list : List Placed) (id : ℕ) → LookedOrKept wd kind name id list → id_of (follow g list) kind name ≡ Some id → Noted w names ((kind, name) ∷ []) (follow g list)
  existing list id (inl none) has = subst (λ (xs : List Placed). Noted w names ((kind, name) ∷ []) (follow g xs)) (sym none) (known_then g refl id (subst (λ (xs : List Placed). id_of (follow g xs) kind name ≡ Some id) none has))
  existing list id (inr (d, is, look)) has =
      subst (λ (xs : List Placed). Noted w names ((kind, name) ∷ []) (follow g xs)) (sym is)
      (known_then (Then g d.entry) (read_keeps g d.entry (name_row name) look.did.0) id (subst (λ (xs : List Placed). id_of (follow g xs) kind name ≡ Some id) is has))

  given_new : (id : ℕ) (r b n f : Placed) → IsLawful (Then (Then (Then (Then g r.entry) b.entry) n.entry) f.entry) → DidLook r kind name None → DidBump b kind id → DidReverse wd n kind name id → DidForward wd f kind name id Done
      → Noted w names ((kind, name) ∷ []) (Then (Then (Then (Then g r.entry) b.entry) n.entry) f.entry)
  given_new id r b n f lawful look bumped reversed forwarded =
      let g1 : History = Then g r.entry in
      let unknown : is_some (id_in (list_of names kind) name) ≡ false = ap is_some (fresh wd g r b n f kind name id Done names is_name lawful look bumped reversed forwarded numbered) in
      let count : id ≡ length (list_of names kind) + 1 = id_is wd g r b n f kind name id Done names is_name lawful look bumped reversed forwarded numbered in
      let counter : counter_of (store_after g1) kind ≡ length (list_of names kind) = ap (λ s. counter_of s kind) (read_keeps g r.entry (name_row name) look.did.0) ∙ numbered.counts kind in
      let w1 : (store_after g1).widths ≡ w = ap (λ (s : Store). s.widths) (read_keeps g r.entry (name_row name) look.did.0) ∙ widths in
      let test = was_given (counter_of (store_after g1) kind) (greatest (store_after g1).widths kind) id (sym bumped.1 ∙ lawful.0.0.2 ∙ ap (reply_of (store_after g1) (len g1 + 1)) bumped.0) in
      let room : nat_lt (length (list_of names kind)) (greatest w kind) ≡ true = sym (ap (λ (k : ℕ). nat_lt k (greatest (store_after g1).widths kind)) counter ∙ ap (λ (x : Widths). nat_lt (length (list_of names kind)) (greatest x kind)) w1) ∙ test in
      let under : length (list_of names kind) < greatest w kind = grind (arith, room) in
      let same : greatest w kind ≡ greatest wd kind = ap (λ (x : Widths). greatest x kind) (sym wide) in
      record {
        more = grown names kind name;
        noted = one_new w names kind name unknown room;
        numbered = numbered_grown wd g r b n f kind name id Done names is_name lawful look bumped reversed forwarded numbered (omega (arith, count), omega (arith, count, under, same)) refl;
      }

  by_answer : (a : Assigned) (list : List Placed) → IsLawful (follow g list) → AssignMade wd patterns kind name (Ok a) list → id_of (follow g list) kind name ≡ Some (answered_id a) → Noted w names ((kind, name) ∷ []) (follow g list)
  by_answer (Existing id) list lawful kept has = existing list id kept has
  by_answer (Fresh id) list lawful (d, rest, list_is, look, (admitted, gave)) has =
      let is : list ≡ d ∷ gave.bump ∷ gave.reverse ∷ gave.forward ∷ [] = list_is ∙ ap (λ xs. d ∷ xs) gave.list_is in
      subst (λ (xs : List Placed). Noted w names ((kind, name) ∷ []) (follow g xs)) (sym is) (given_new id d gave.bump gave.reverse gave.forward (subst (λ (xs : List Placed). IsLawful (follow g xs)) is lawful) look gave.bumped gave.reversed gave.forwarded)
  by_answer (Lost wasted id) list lawful (d, rest, list_is, look, (admitted, gave)) has =
      let is : list ≡ d ∷ gave.bump ∷ gave.reverse ∷ gave.forward ∷ [] = list_is ∙ ap (λ xs. d ∷ xs) gave.list_is in
      absurd (not_held wd g d gave.bump gave.reverse gave.forward kind name wasted (Held (kind_bytes wd kind id)) names is_name (subst (λ (xs : List Placed). IsLawful (follow g xs)) is lawful) look gave.bumped gave.reversed gave.forwarded numbered (kind_bytes wd kind id) refl)

-- ---- a part of a history in which the caller steps alone
module _ (w : Widths) (patterns : Patterns) (h : History) (caller from to : ℕ) (b : IsAloneIn w h caller from to) where
  goes : (e e2 : ℕ) → from ≤ e → e ≤ e2 → e2 ≤ to → first e2 h ≡ follow (first e h) (deeds h caller e e2)
  goes e e2 low le up = follows h caller e e2 le (λ place x above most is. b.only place x (omega (arith, low, above)) (omega (arith, most, up)) is)

  wide : (base_of h).widths ≡ w
  wide = ap (λ (s : Store). s.widths) b.base

  widths_at : (e : ℕ) → (store_after (first e h)).widths ≡ w
  widths_at e = sym (base_widths (first e h)) ∙ ap (λ (s : Store). s.widths) (base_of_first h e) ∙ wide

  follows_lawful : (e e2 : ℕ) → from ≤ e → e ≤ e2 → e2 ≤ to → IsLawful (follow (first e h) (deeds h caller e e2))
  follows_lawful e e2 low le up = subst IsLawful (goes e e2 low le up) (first_lawful h e2 b.lawful)

  named : (names : Names) (e e2 : ℕ) (kind : Kind) (name : List ℕ) → from ≤ e → e ≤ e2 → e2 ≤ to → IsName name → IsNumbered names (first e h) → WasNamed patterns h caller e e2 kind name → Noted w names ((kind, name) ∷ []) (first e2 h)
  named names e e2 kind name low le up is_name numbered was =
      subst (Noted w names ((kind, name) ∷ [])) (sym (goes e e2 low le up))
      (by_answer w (base_of h).widths wide patterns (first e h) names kind name is_name numbered (widths_at e) was.answer (deeds h caller e e2) (follows_lawful e e2 low le up) was.made
      (subst (λ (g : History). id_of g kind name ≡ Some (answered_id was.answer)) (goes e e2 low le up) was.has))

  -- from where to where it goes
  named_range : {n e : ℕ} {ns : List (Kind × List ℕ)} → WereNamed patterns h caller n ns e → n ≤ e
  named_range start = omega arith
  named_range (then_named kind name rest le was) = let r = named_range rest in omega (arith, r, le)

  pub all_named : (names : Names) (n : ℕ) {ns : List (Kind × List ℕ)} {e : ℕ} → from ≤ n → e ≤ to → ((m : Kind × List ℕ) → Contains ns m → IsName m.1) → IsNumbered names (first n h) → WereNamed patterns h caller n ns e → Noted w names ns (first e h)
  all_named names n low up are numbered start = record { more = names; noted = refl; numbered = numbered }
  all_named names n low up are numbered (then_named {names = ms} {e = mid} {e2 = e2} kind name rest le was) =
      let one = all_named names n low (omega (arith, le, up)) (λ m has. are m (Contains-append_left ms ((kind, name) ∷ []) m has)) numbered rest in
      let range = named_range rest in
      let two = named one.more mid e2 kind name (omega (arith, low, range)) le up (are (kind, name) (Contains-append_right ms ((kind, name) ∷ []) (kind, name) (here (kind, name) []))) one.numbered was in
      record {
        more = two.more;
        noted = noted_all-append w ms ((kind, name) ∷ []) names ∙ ap (λ r. and_then_noted r (λ more. noted_all w more ((kind, name) ∷ []))) one.noted ∙ two.noted;
        numbered = two.numbered;
      }

  -- the put behind its names changes no id
  put_numbered : (names : Names) (e e2 : ℕ) (p : DataPoint) (stored : Stored) → from ≤ e → e ≤ e2 → e2 ≤ to → IsNumbered names (first e h) → AllResolved (first e h) (names_of p) → PointAsked (open_to patterns) p (first e2 h) (deeds h caller e e2) (Ok stored) → IsNumbered names (first e2 h)
  put_numbered names e e2 p stored low le up numbered have so =
      let g : History = first e h in
      let cut : follow g (deeds h caller e e2) ≡ Then (follow g so.names) so.put.entry = ap (follow g) so.list_is ∙ follow-append g so.names (so.put ∷ []) in
      let lawful : IsLawful (Then (follow g so.names) so.put.entry) = subst IsLawful cut (follows_lawful e e2 low le up) in
      let reads = names_read (open_to patterns) g (names_in_turn so.entries) have lawful.0 in
      let same = reads_keep g so.names reads in
      let mid = numbered_same names g (follow g so.names) same numbered in
      let other : (row : Row) (qual : List ℕ) → row.table ≡ Ids → value_at (store_after (Then (follow g so.names) so.put.entry)) row qual ≡ value_at (store_after (follow g so.names)) row qual =
      λ row qual ids. put_keeps (follow g so.names) so.put.entry p stored.row so.did.qual so.did.value row qual so.did.did.0 (rows_differ row stored.row _ _ (tables_differ row stored.row (λ t. Ids_Points (sym ids ∙ t ∙ so.did.layout.in_points)))) in
      subst (IsNumbered names) (sym (goes e e2 low le up ∙ cut)) (record {
        counts = λ kind. ap (λ o. option_map_or (from_be_bytes w64) o 0) (other counter_row (kind_qual kind) refl) ∙ mid.counts kind;
        ids = λ kind name is. ap (option_and_then id_number) (other (name_row name) (kind_qual kind) refl) ∙ mid.ids kind name is;
      })

  -- names that were asked are resolved then
  pub resolved_after : {n e : ℕ} {ns : List (Kind × List ℕ)} → e ≤ to → ((m : Kind × List ℕ) → Contains ns m → IsName m.1) → WereNamed patterns h caller n ns e → AllResolved (first e h) ns
  resolved_after up are start m has = absurd (not_in m has)
  resolved_after up are (then_named {names = ms} {e = mid} {e2 = e2} kind name rest le was) m has = ⊎_elim
      (λ (early : Contains ms m).
      let r = resolved_after (omega (arith, le, up)) (λ k c. are k (Contains-append_left ms ((kind, name) ∷ []) k c)) rest m early in
      (r.0, keeps_id h mid e2 m.0 m.1 r.0 b.lawful (are m has) le r.1))
      (λ (now : Contains ((kind, name) ∷ []) m). ⊎_elim
      (λ (same : (kind, name) ≡ m). subst (λ (k : Kind × List ℕ). (id : ℕ) × (id_of (first e2 h) k.0 k.1 ≡ Some id)) same (answered_id was.answer, was.has))
      (λ (no : Contains [] m). absurd (not_in m no))
      (split (kind, name) m [] now))
      (Contains-append_cases ms ((kind, name) ∷ []) m has)

  -- ---- lines
  accepted_range : {n e count : ℕ} {lines : List Line} → WereAccepted patterns h caller n lines count e → n ≤ e
  accepted_range none_yet = omega arith
  accepted_range (then_blank line rest is) = accepted_range rest
  accepted_range (then_put line p rest le is was) = let r = accepted_range rest in omega (arith, r, le)

  number_behind : (number : ℕ) (lines : List Line) (line : Line) → number + length lines + 1 ≡ number + length (lines ++ line ∷ [])
  number_behind number lines line = let grown = length-append lines (line ∷ []) in omega (arith, grown)

  with_points_twice : (xs ys : List DataPoint) (r : Result (List DataPoint) (ℕ × List ℕ)) → with_points xs (with_points ys r) ≡ with_points (xs ++ ys) r
  with_points_twice xs ys (Ok zs) = ap Ok (sym (append_assoc xs ys zs))
  with_points_twice xs ys (Err refusal) = refl

  pub numbers : {lines : List Line} {count e : ℕ} → e ≤ to → IsNumbered no_names (first from h) → WereAccepted patterns h caller from lines count e → AreNumbered w lines count (first e h)
  numbers up none none_yet = record { points = []; count_is = refl; names = no_names; noted = refl; numbered = none; first_points = λ number more. ap (λ (n : ℕ). points_from w n no_names more) (omega arith) ∙ sym (nothing (points_from w (number + 0) no_names more)) }
    where
      nothing : (r : Result (List DataPoint) (ℕ × List ℕ)) → with_points [] r ≡ r
      nothing (Ok points) = refl
      nothing (Err refusal) = refl
  numbers up none (then_blank {lines = ls} {count = k} {e = e} line rest is) =
      let a = numbers up none rest in
      record {
        points = a.points;
        count_is = a.count_is;
        names = a.names;
        noted = a.noted;
        numbered = a.numbered;
        first_points = λ n more.
            ap (points_from w n no_names) (append_assoc ls (line ∷ []) more) ∙ a.first_points n (line ∷ more)
            ∙ ap (λ j. with_points a.points (with_line w j (n + length ls) a.names (λ names. points_from w (n + length ls + 1) names more))) is
            ∙ ap (λ m. with_points a.points (points_from w m a.names more)) (number_behind n ls line);
      }
  numbers up none (then_put {lines = ls} {count = k} {e = e} {e2 = e2} line p rest le is (stored, put)) =
      let a = numbers (omega (arith, le, up)) none rest in
      let low = accepted_range rest in
      let inside = put.in_range in
      let reach = named_range put.named in
      let point : IsPoint p = put.asked.did.layout.is_point in
      let last_up : put.last ≤ to = omega (arith, inside, up) in
      let names = all_named a.names e low last_up (point_names p point) a.numbered put.named in
      let have = resolved_after last_up (point_names p point) put.named in
      let numbered = put_numbered names.more put.last e2 p stored (omega (arith, low, reach)) inside up names.numbered have put.asked in
      record {
        points = a.points ++ p ∷ [];
        count_is = (let was = a.count_is in let grown = length-append a.points (p ∷ []) in omega (arith, was, grown));
        names = names.more;
        noted = ap (noted_all w no_names) (names_last a.points p) ∙ noted_all-append w (flat_map names_of a.points) (names_of p) no_names ∙ ap (λ r. and_then_noted r (λ more. noted_all w more (names_of p))) a.noted ∙ names.noted;
        numbered = numbered;
        first_points = λ n more.
            ap (points_from w n no_names) (append_assoc ls (line ∷ []) more) ∙ a.first_points n (line ∷ more)
            ∙ ap (λ j. with_points a.points (with_line w j (n + length ls) a.names (λ names. points_from w (n + length ls + 1) names more))) is
            ∙ ap (λ o. with_points a.points (with_point p (n + length ls) o (λ names. points_from w (n + length ls + 1) names more))) names.noted
            ∙ with_points_twice a.points (p ∷ []) (points_from w (n + length ls + 1) names.more more)
            ∙ ap (λ m. with_points (a.points ++ p ∷ []) (points_from w m names.more more)) (number_behind n ls line);
      }

-- the store without a cell
none_numbered : (w : Widths) (h : History) → store_after h ≡ no_cells w → IsNumbered no_names h
none_numbered w h empty = record {
  counts = λ kind. ap (λ s. counter_of s kind) empty ∙ ap (λ o. option_map_or (from_be_bytes w64) o 0) (no_cell w counter_row (kind_qual kind)) ∙ ap length (sym (no_list kind));
  ids = λ kind name is. ap (λ (s : Store). option_and_then id_number (value_at s (name_row name) (kind_qual kind))) empty ∙ ap (option_and_then id_number) (no_cell w (name_row name) (kind_qual kind)) ∙ ap (λ list. id_in list name) (sym (no_list kind));
}
  where
    no_list : (kind : Kind) → list_of no_names kind ≡ []
    no_list Metric = refl
    no_list TagKey = refl
    no_list TagValue = refl

pub import_numbers : ImportNumbers
import_numbers w patterns h caller n n2 lines count b le accepted = numbers w patterns h caller n n2 b (omega arith) (none_numbered w (first n h) b.empty) accepted
