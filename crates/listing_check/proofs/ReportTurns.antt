-- The lines of a report, one after the other.
use Rattle.std.proofs.Common.{◌≡◌, ℕ, ◌+◌, ◌<◌, ◌≤◌, true, false, cond, List, [], ◌∷◌, ◌++◌, length, drop, get_or, refl, sym, ap, ◌∙◌, arith}
use Rattle.std.specs.Prelude.{nat_lt}
use Rattle.std.specs.List.{flat_map}
use Rattle.std.proofs.lemmas.List.{drop_all, drop_more}
use Rattle.list_lemmas.proofs.ListCuts.{joined, nothing_behind}
use Rattle.listing_check.specs.ReportText.{AddsNotes, fault_line, note_line, notes_before, notes_from, report_lines}
use Rattle.listing_check.specs.declared.report.Flaw.{Flaw}
use Rattle.listing_check.specs.declared.report.Hint.{Hint}

-- five texts, one behind the other
pub five : (t t1 t2 t3 t4 t5 a b c d e : List ℕ) → t1 ≡ t ++ a → t2 ≡ t1 ++ b → t3 ≡ t2 ++ c → t4 ≡ t3 ++ d → t5 ≡ t4 ++ e → t5 ≡ t ++ ((((a ++ b) ++ c) ++ d) ++ e)
five t t1 t2 t3 t4 t5 a b c d e p q r s u =
    let two : t2 ≡ t ++ (a ++ b) = q ∙ ap (λ (x : List ℕ). x ++ b) p ∙ joined t a b in
    let three : t3 ≡ t ++ ((a ++ b) ++ c) = r ∙ ap (λ (x : List ℕ). x ++ c) two ∙ joined t (a ++ b) c in
    let four : t4 ≡ t ++ (((a ++ b) ++ c) ++ d) = s ∙ ap (λ (x : List ℕ). x ++ d) three ∙ joined t ((a ++ b) ++ c) d in
    u ∙ ap (λ (x : List ℕ). x ++ e) four ∙ joined t (((a ++ b) ++ c) ++ d) e

pub three : (t t1 t2 t3 a b c : List ℕ) → t1 ≡ t ++ a → t2 ≡ t1 ++ b → t3 ≡ t2 ++ c → t3 ≡ t ++ ((a ++ b) ++ c)
three t t1 t2 t3 a b c p q r =
    let two : t2 ≡ t ++ (a ++ b) = q ∙ ap (λ (x : List ℕ). x ++ b) p ∙ joined t a b in
    r ∙ ap (λ (x : List ℕ). x ++ c) two ∙ joined t (a ++ b) c

pub two : (t t1 t2 a b : List ℕ) → t1 ≡ t ++ a → t2 ≡ t1 ++ b → t2 ≡ t ++ (a ++ b)
two t t1 t2 a b p q = q ∙ ap (λ (x : List ℕ). x ++ b) p ∙ joined t a b

-- ---- notes of the lines before one

pub record AreAdded (n : ℕ) (notes : List (ℕ × Hint)) (from at : ℕ) (old text : List ℕ) : Type 0 where
  pub within : at ≤ length notes
  pub added : text ++ flat_map note_line (notes_before n (drop at notes)) ≡ old ++ flat_map note_line (notes_before n (drop from notes))
  pub left : notes_from n (drop at notes) ≡ notes_from n (drop from notes)

pub none_added : (n : ℕ) (notes : List (ℕ × Hint)) (from : ℕ) (old : List ℕ) → from ≤ length notes → AreAdded n notes from from old old
none_added n notes from old le = record { within = le; added = refl; left = refl }

module _ (n : ℕ) (notes : List (ℕ × Hint)) (from at : ℕ) (old text : List ℕ) (a : AreAdded n notes from at old text) where
  pub note_on : (x : ℕ × Hint) (new : List ℕ) → at < length notes → x ≡ get_or notes at x → nat_lt x.0 n ≡ true → new ≡ text ++ note_line x → AreAdded n notes from (at + 1) old new
  note_on x new lt is low e =
      let rest : drop at notes ≡ x ∷ drop (at + 1) notes = drop_more notes at x lt ∙ (λ i. sym is i ∷ drop (at + 1) notes) in
      let more : notes_before n (drop at notes) ≡ x ∷ notes_before n (drop (at + 1) notes) = ap (notes_before n) rest ∙ ap (λ b. cond b (x ∷ notes_before n (drop (at + 1) notes)) []) low in
      let behind : notes_from n (drop at notes) ≡ notes_from n (drop (at + 1) notes) = ap (notes_from n) rest ∙ ap (λ b. cond b (notes_from n (drop (at + 1) notes)) (x ∷ drop (at + 1) notes)) low in
      record {
        within = omega (arith, lt);
        added = ap (λ (t : List ℕ). t ++ flat_map note_line (notes_before n (drop (at + 1) notes))) e ∙ joined text (note_line x) (flat_map note_line (notes_before n (drop (at + 1) notes)))
            ∙ ap (λ (ns : List (ℕ × Hint)). text ++ flat_map note_line ns) (sym more) ∙ a.added;
        left = sym behind ∙ a.left;
      }

  -- a note of a later line, or none
  pub note_late : (x : ℕ × Hint) → at < length notes → x ≡ get_or notes at x → nat_lt x.0 n ≡ false → AddsNotes n notes from at old text
  note_late x lt is high =
      let rest : drop at notes ≡ x ∷ drop (at + 1) notes = drop_more notes at x lt ∙ (λ i. sym is i ∷ drop (at + 1) notes) in
      let no : notes_before n (drop at notes) ≡ [] = ap (notes_before n) rest ∙ ap (λ b. cond b (x ∷ notes_before n (drop (at + 1) notes)) []) high in
      let all : notes_from n (drop at notes) ≡ drop at notes = ap (notes_from n) rest ∙ ap (λ b. cond b (notes_from n (drop (at + 1) notes)) (x ∷ drop (at + 1) notes)) high ∙ sym rest in
      record {
        within = a.within;
        added = sym (nothing_behind text) ∙ ap (λ (ns : List (ℕ × Hint)). text ++ flat_map note_line ns) (sym no) ∙ a.added;
        left = sym all ∙ a.left;
      }

  pub notes_end : length notes ≤ at → AddsNotes n notes from (length notes) old text
  notes_end end =
      let none : drop at notes ≡ [] = drop_all at notes end in
      record {
        within = omega arith;
        added = sym (nothing_behind text) ∙ ap (λ (ns : List (ℕ × Hint)). text ++ flat_map note_line (notes_before n ns)) (sym none) ∙ a.added;
        left = drop_all (length notes) notes (omega arith) ∙ sym (ap (notes_from n) none) ∙ a.left;
      }

-- ---- all notes from one on

abbrev pub RestAdded : List (ℕ × Hint) → ℕ → ℕ → List ℕ → List ℕ → Type 0
RestAdded notes from at old text = text ++ flat_map note_line (drop at notes) ≡ old ++ flat_map note_line (drop from notes)

pub rest_on : (notes : List (ℕ × Hint)) (from at : ℕ) (old text new : List ℕ) (x : ℕ × Hint) → at < length notes → x ≡ get_or notes at x → RestAdded notes from at old text → new ≡ text ++ note_line x → RestAdded notes from (at + 1) old new
rest_on notes from at old text new x lt is a e =
    let rest : drop at notes ≡ x ∷ drop (at + 1) notes = drop_more notes at x lt ∙ (λ i. sym is i ∷ drop (at + 1) notes) in
    ap (λ (t : List ℕ). t ++ flat_map note_line (drop (at + 1) notes)) e ∙ joined text (note_line x) (flat_map note_line (drop (at + 1) notes)) ∙ ap (λ (ns : List (ℕ × Hint)). text ++ flat_map note_line ns) (sym rest) ∙ a

pub rest_end : (notes : List (ℕ × Hint)) (from at : ℕ) (old text : List ℕ) → length notes ≤ at → RestAdded notes from at old text → text ≡ old ++ flat_map note_line (drop from notes)
rest_end notes from at old text end a = sym (nothing_behind text) ∙ ap (λ (ns : List (ℕ × Hint)). text ++ flat_map note_line ns) (sym (drop_all at notes end)) ∙ a

-- ---- faults and notes

pub record LinesAdded (faults : List (ℕ × Flaw)) (notes : List (ℕ × Hint)) (at next : ℕ) (old text : List ℕ) : Type 0 where
  pub within : next ≤ length notes
  pub added : text ++ report_lines (drop at faults) (drop next notes) ≡ old ++ report_lines faults notes

pub fault_on : (faults : List (ℕ × Flaw)) (notes : List (ℕ × Hint)) (at next next' : ℕ) (old text mid new : List ℕ) (f : ℕ × Flaw) → at < length faults → f ≡ get_or faults at f
    → LinesAdded faults notes at next old text → AddsNotes f.0 notes next next' text mid → new ≡ mid ++ fault_line f → LinesAdded faults notes (at + 1) next' old new
fault_on faults notes at next next' old text mid new f lt is a n e =
    let rest : drop at faults ≡ f ∷ drop (at + 1) faults = drop_more faults at f lt ∙ (λ i. sym is i ∷ drop (at + 1) faults) in
    let before = flat_map note_line (notes_before f.0 (drop next notes)) in
    let behind = report_lines (drop (at + 1) faults) (notes_from f.0 (drop next notes)) in
    record {
      within = n.within;
      added =
          ap (λ (ns : List (ℕ × Hint)). new ++ report_lines (drop (at + 1) faults) ns) n.left ∙ ap (λ (t : List ℕ). t ++ behind) (e ∙ ap (λ (t : List ℕ). t ++ fault_line f) n.added)
          ∙ joined (text ++ before) (fault_line f) behind ∙ joined text before (fault_line f ++ behind)
          ∙ ap (λ (fs : List (ℕ × Flaw)). text ++ report_lines fs (drop next notes)) (sym rest) ∙ a.added;
    }

pub lines_end : (faults : List (ℕ × Flaw)) (notes : List (ℕ × Hint)) (at next : ℕ) (old text new : List ℕ) → length faults ≤ at → LinesAdded faults notes at next old text → new ≡ text ++ flat_map note_line (drop next notes) → new ≡ old ++ report_lines faults notes
lines_end faults notes at next old text new end a e = e ∙ ap (λ (fs : List (ℕ × Flaw)). text ++ report_lines fs (drop next notes)) (sym (drop_all at faults end)) ∙ a.added
