-- The cells of the points of lines that were accepted, where the caller steps alone over a store that began empty.
use Rattle.std.proofs.Common.{◌≡◌, ◌≢◌, ⊎_elim, ℕ, ◌+◌, ◌%◌, ◌^◌, ◌≤◌, List, [], ◌∷◌, ◌++◌, refl, sym, ap, subst, ◌∙◌, append_assoc, append-nil, arith}
use Rattle.std.specs.Prelude.{Option, None, Some, Result, Ok, Err, Contains}
use Rattle.std.specs.List.{flat_map}
use Rattle.std.proofs.lemmas.List.Elements.{Contains-append_cases}
use Rattle.list_lemmas.proofs.ListMembers.{not_in, split}
use Rattle.tsd_base.specs.Points.{DataPoint}
use Rattle.tsd_base.specs.declared.kinds.Kind.{Kind}
use Rattle.tsd_base.specs.Alphabet.{IsName}
use Rattle.tsd_hooks.specs.declared.name_patterns.Patterns.{Patterns}
use Rattle.cell_model.specs.declared.row.Row.{Row}
use Rattle.cell_model.specs.declared.events.Entry.{Entry}
use Rattle.cell_model.specs.declared.events.Step.{Step}
use Rattle.cell_model.specs.declared.events.Step.TheVariants.{PutPoint}
use Rattle.cell_model.specs.Machine.{after}
use Rattle.cell_model.specs.declared.answers.Stored.{Stored}
use Rattle.cell_model.specs.Deeds.{deeds}
use Rattle.cell_model.specs.History.{History, base_of, first, len, store_after}
use Rattle.cell_model.specs.History.History.{Then}
use Rattle.cell_model.specs.IdRows.{id_of}
use Rattle.cell_model.specs.KindWidths.{Widths}
use Rattle.cell_model.specs.Layout.{IsLayout, IsPoint, names_of}
use Rattle.cell_model.specs.Readings.{point_row}
use Rattle.cell_model.specs.Store.{Store, place_of, value_at}
use Rattle.cell_laws.proofs.CallerLemmas.{base_widths, keeps_id, no_cell, value-written}
use Rattle.line_stream.specs.Lines.{Line}
use Rattle.point_put.specs.PutPoint.{PointAsked}
use Rattle.point_put.proofs.CallerLemmas.{names_in_turn}
use Rattle.point_lines.specs.LinePoints.{Judged, judged, points_from, with_line, with_point, with_points}
use Rattle.point_lines.specs.LinePoints.Judged.{Blank, Taken, Refused}
use Rattle.point_lines.specs.NameIds.{Names, id_in, list_of, noted_all}
use Rattle.point_lines.proofs.CallerLemmas.{base_of_first, follow, follow-append, follows, point_names, put_keeps}
use Rattle.point_import.specs.ImportedLines.{WereAccepted}
use Rattle.point_import.specs.ImportedLines.WereAccepted.{start as none_yet, then_blank, then_put}
use Rattle.point_import.specs.LoneImports.{IsAloneIn}
use Rattle.point_import.specs.PutPoints.{WereNamed, open_to}
use Rattle.point_import.specs.PutPoints.WereNamed.{start, then_named}
use Rattle.import_job.specs.ImportedCells.{number_or_0, place_id}
use Rattle.import_job.proofs.LastPoints.{HasLasts, no_last, put_last}
use Rattle.import_job.proofs.NameSteps.{assign_steps, names_keep, put_name_steps}
use Rattle.import_job.proofs.OneLayout.{layout_alike}

-- ---- the points of lines, whatever ids there are
abbrev pub point_in : Judged → List DataPoint
point_in Blank = []
point_in (Taken p) = p ∷ []
point_in (Refused text) = []

abbrev pub points_in : List Line → List DataPoint
points_in lines = flat_map (λ line. point_in (judged line)) lines

one_more : (lines : List Line) (line : Line) → points_in (lines ++ line ∷ []) ≡ points_in lines ++ point_in (judged line)
one_more [] line = append-nil (point_in (judged line))
one_more (l ∷ lines) line = ap (λ ps. point_in (judged l) ++ ps) (one_more lines line) ∙ sym (append_assoc (point_in (judged l)) (points_in lines) (point_in (judged line)))

abbrev PointsRead : Type 0
PointsRead = Result (List DataPoint) (ℕ × List ℕ)

ok_points : (xs ys : List DataPoint) → ◌≡◌ {A = PointsRead} (Ok xs) (Ok ys) → xs ≡ ys
ok_points xs ys e = cc

err_points : {e : ℕ × List ℕ} {ys : List DataPoint} → ◌≡◌ {A = PointsRead} (Err e) (Ok ys) → ⊥
err_points e = cc

with_first : (p : DataPoint) (r : PointsRead) (ps qs : List DataPoint) → with_points (p ∷ []) r ≡ Ok ps → ((more : List DataPoint) → r ≡ Ok more → more ≡ qs) → ps ≡ p ∷ qs
with_first p (Ok more) ps qs e rest = sym (ok_points (p ∷ more) ps e) ∙ ap (λ xs. p ∷ xs) (rest more refl)
with_first p (Err refusal) ps qs e rest = absurd (err_points e)

-- they are those that were read
pub points_are : (w : Widths) (number : ℕ) (names : Names) (lines : List Line) (ps : List DataPoint) → points_from w number names lines ≡ Ok ps → ps ≡ points_in lines
points_are w number names [] ps e = sym (ok_points [] ps e)
points_are w number names (line ∷ lines) ps e = at (judged line) e (λ more qs. points_are w (number + 1) more lines qs)
  where
    at : (j : Judged) → with_line w j number names (λ more. points_from w (number + 1) more lines) ≡ Ok ps → ((more : Names) (qs : List DataPoint) → points_from w (number + 1) more lines ≡ Ok qs → qs ≡ points_in lines) → ps ≡ point_in j ++ points_in lines
    at Blank is rest = rest names ps is
    at (Refused text) is rest = absurd (err_points is)
    at (Taken p) is rest = by (noted_all w names (names_of p)) is
      where
        by : (r : Result Names Kind) → with_point p number r (λ more. points_from w (number + 1) more lines) ≡ Ok ps → ps ≡ p ∷ points_in lines
        by (Ok more) is = with_first p (points_from w (number + 1) more lines) ps (points_in lines) is (rest more)
        by (Err kind) is = absurd (err_points is)

-- what a put wrote stands there
put_wrote : (g : History) (e : Entry) (p : DataPoint) (row : Row) (qual value : List ℕ) → e.step ≡ PutPoint p row qual value → value_at (store_after (Then g e)) row qual ≡ Some value
put_wrote g e p row qual value is = ap (λ (x : Step). value_at (after (store_after g) (len g + 1) x) row qual) is ∙ value-written (store_after g) row qual value ((len g + 1) % 2 ^ 64)

-- ---- their cells
module _ (w : Widths) (patterns : Patterns) (h : History) (caller from to : ℕ) (b : IsAloneIn w h caller from to) (names : Names)
    (ids : (kind : Kind) (name : List ℕ) → IsName name → id_of (first to h) kind name ≡ id_in (list_of names kind) name) where
  goes : (e e2 : ℕ) → from ≤ e → e ≤ e2 → e2 ≤ to → first e2 h ≡ follow (first e h) (deeds h caller e e2)
  goes e e2 low le up = follows h caller e e2 le (λ place x above most is. b.only place x (omega (arith, low, above)) (omega (arith, most, up)) is)

  widths_at : (e : ℕ) → (store_after (first e h)).widths ≡ w
  widths_at e = sym (base_widths (first e h)) ∙ ap (λ (s : Store). s.widths) (base_of_first h e ∙ b.base)

  abbrev cell_at : ℕ → List ℕ → List ℕ → Option (List ℕ)
  cell_at e row qual = value_at (store_after (first e h)) (point_row row) qual

  named_range : {n e : ℕ} {ns : List (Kind × List ℕ)} → WereNamed patterns h caller n ns e → n ≤ e
  named_range start = omega arith
  named_range (then_named kind name rest le was) = let r = named_range rest in omega (arith, r, le)

  accepted_range : {n e count : ℕ} {lines : List Line} → WereAccepted patterns h caller n lines count e → n ≤ e
  accepted_range none_yet = omega arith
  accepted_range (then_blank line rest is) = accepted_range rest
  accepted_range (then_put line p rest le is was) = let r = accepted_range rest in omega (arith, r, le)

  -- names change none
  named_keep : (n : ℕ) {ns : List (Kind × List ℕ)} {e : ℕ} → from ≤ n → e ≤ to → WereNamed patterns h caller n ns e → (row qual : List ℕ) → cell_at e row qual ≡ cell_at n row qual
  named_keep n low up start row qual = refl
  named_keep n low up (then_named {names = ms} {e = mid} {e2 = e2} kind name rest le was) row qual =
      let range = named_range rest in
      ap (λ (g : History). value_at (store_after g) (point_row row) qual) (goes mid e2 (omega (arith, low, range)) le up)
      ∙ names_keep (first mid h) (deeds h caller mid e2) row qual (assign_steps (base_of h).widths kind name patterns was.answer (deeds h caller mid e2) was.made)
      ∙ named_keep n low (omega (arith, le, up)) rest row qual

  id_is : (p : DataPoint) (e2 : ℕ) (was : Kind → List ℕ → ℕ) → e2 ≤ to → IsPoint p → ((kind : Kind) (name : List ℕ) → Contains (names_of p) (kind, name) → id_of (first e2 h) kind name ≡ Some (was kind name))
      → (kind : Kind) (name : List ℕ) → Contains (names_of p) (kind, name) → was kind name ≡ place_id names kind name
  id_is p e2 was up point resolved kind name c =
      let is_name = point_names p point (kind, name) c in
      ap number_or_0 (sym (keeps_id h e2 to kind name (was kind name) b.lawful is_name up (resolved kind name c)) ∙ ids kind name is_name)

  -- the put changes the one at its place
  put_cells : (points : List DataPoint) (e e2 : ℕ) (p : DataPoint) (stored : Stored) → from ≤ e → e ≤ e2 → e2 ≤ to → PointAsked (open_to patterns) p (first e2 h) (deeds h caller e e2) (Ok stored)
      → HasLasts w names points (store_after (first e h)) → HasLasts w names (points ++ p ∷ []) (store_after (first e2 h))
  put_cells points e e2 p stored low le up so has =
      let g : History = first e h in
      let g2 : History = follow g so.names in
      let cut : follow g (deeds h caller e e2) ≡ Then g2 so.put.entry = ap (follow g) so.list_is ∙ follow-append g so.names (so.put ∷ []) in
      let whole : first e2 h ≡ Then g2 so.put.entry = goes e e2 low le up ∙ cut in
      let layout = subst (λ (x : Widths). IsLayout x so.did.layout.ids p stored.row.bytes so.did.qual so.did.value) (widths_at e2) so.did.layout.layout in
      let lay = layout_alike w so.did.layout.ids (place_id names) p (id_is p e2 so.did.layout.ids up so.did.layout.is_point so.did.layout.resolved) stored.row.bytes so.did.qual so.did.value layout in
      let row_is : stored.row ≡ point_row stored.row.bytes = λ i. record { table = so.did.layout.in_points i; bytes = stored.row.bytes } in
      let now : value_at (store_after (Then g2 so.put.entry)) (point_row stored.row.bytes) so.did.qual ≡ Some so.did.value =
      ap (λ (r : Row). value_at (store_after (Then g2 so.put.entry)) r so.did.qual) (sym row_is) ∙ put_wrote g2 so.put.entry p stored.row so.did.qual so.did.value so.did.did.0 in
      let other : (r q : List ℕ) → place_of (point_row r) q ≢ place_of (point_row stored.row.bytes) so.did.qual → value_at (store_after (Then g2 so.put.entry)) (point_row r) q ≡ value_at (store_after g) (point_row r) q =
      λ r q apart. put_keeps g2 so.put.entry p stored.row so.did.qual so.did.value (point_row r) q so.did.did.0 (λ x. apart (x ∙ ap (λ (y : Row). place_of y so.did.qual) row_is))
      ∙ names_keep g so.names r q (put_name_steps (store_after (first e2 h)).widths (open_to patterns) (names_in_turn so.entries)) in
      subst (λ (x : History). HasLasts w names (points ++ p ∷ []) (store_after x)) (sym whole) (put_last w names points p stored.row.bytes so.did.qual so.did.value lay (store_after g) (store_after (Then g2 so.put.entry)) now other has)

  pub record AreStored (points : List DataPoint) (e : ℕ) : Type 0 where
    pub cells : HasLasts w names points (store_after (first e h))
    pub are_points : (p : DataPoint) → Contains points p → IsPoint p

  no_value : {v : List ℕ} → ◌≡◌ {A = Option (List ℕ)} None (Some v) → ⊥
  no_value e = cc

  pub stored_cells : {lines : List Line} {count e : ℕ} → e ≤ to → WereAccepted patterns h caller from lines count e → AreStored (points_in lines) e
  stored_cells up none_yet = record {
    cells = λ row qual value. (
      λ is. absurd (no_value (sym (ap (λ (s : Store). value_at s (point_row row) qual) b.empty ∙ no_cell w (point_row row) qual) ∙ is)),
      λ l. absurd (no_last w names row qual value l),
    );
    are_points = λ p c. absurd (not_in p c);
  }
  stored_cells up (then_blank {lines = ls} {count = k} {e = e} line rest is) =
      subst (λ (ps : List DataPoint). AreStored ps e) (sym (one_more ls line ∙ ap (λ j. points_in ls ++ point_in j) is ∙ append-nil (points_in ls))) (stored_cells up rest)
  stored_cells up (then_put {lines = ls} {count = k} {e = e} {e2 = e2} line p rest le is (stored, put)) =
      let a = stored_cells (omega (arith, le, up)) rest in
      let low = accepted_range rest in
      let inside = put.in_range in
      let reach = named_range put.named in
      let last_up : put.last ≤ to = omega (arith, inside, up) in
      let mid : HasLasts w names (points_in ls) (store_after (first put.last h)) = λ row qual value. (
        λ has. (a.cells row qual value).0 (sym (named_keep e low last_up put.named row qual) ∙ has),
        λ l. named_keep e low last_up put.named row qual ∙ (a.cells row qual value).1 l,
      ) in
      subst (λ (ps : List DataPoint). AreStored ps e2) (sym (one_more ls line ∙ ap (λ j. points_in ls ++ point_in j) is)) (record {
        cells = put_cells (points_in ls) put.last e2 p stored (omega (arith, low, reach)) inside up put.asked mid;
        are_points = λ q c. ⊎_elim
            (λ (early : Contains (points_in ls) q). a.are_points q early)
            (λ (new : Contains (p ∷ []) q). ⊎_elim (λ (same : p ≡ q). subst IsPoint same put.asked.did.layout.is_point) (λ (no : Contains [] q). absurd (not_in q no)) (split p q [] new))
            (Contains-append_cases (points_in ls) (p ∷ []) q c);
      })
