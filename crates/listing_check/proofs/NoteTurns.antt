-- The notes of lines, one after the other, as their faults.
use Rattle.std.proofs.Common.{◌≡◌, ℕ, ◌+◌, ◌-◌, ◌<◌, ◌≤◌, Bool, true, false, List, [], ◌∷◌, ◌++◌, length, drop, take, get_or, refl, sym, ap, subst, ◌∙◌, arith}
use Rattle.std.specs.Prelude.{Option, None, Some}
use Rattle.std.specs.List.{slice_get}
use Rattle.std.proofs.lemmas.List.{drop_all, drop_more}
use Rattle.list_lemmas.proofs.ListCuts.{joined, nothing_behind, take_next}
use Rattle.cell_model.specs.KindWidths.{Widths}
use Rattle.cell_model.specs.declared.row.ListLine.{ListLine}
use Rattle.cell_model.specs.declared.events.Place.{Place}
use Rattle.cell_model.specs.Rising.{place_of_line}
use Rattle.cell_listing.specs.ListedLines.{counted_in, counts, others_in, place_behind}
use Rattle.cell_listing.specs.declared.listed.OtherLine.{OtherLine}
use Rattle.cell_listing.specs.declared.listing_line.LineRead.{LineRead}
use Rattle.cell_listing.specs.declared.listing_line.LineRead.TheVariants.{Cell, Other}
use Rattle.listing_check.specs.Faults.{LineNote, NoteOf, NotesFrom, earlier_after, is_next, told}
use Rattle.listing_check.specs.RowNotes.{IsAt, IsRowKept}
use Rattle.listing_check.specs.declared.report.Hint.{Hint}
use Rattle.listing_check.specs.declared.row_values.RowValues.{RowValues}
use Rattle.listing_check.proofs.LineTurns.{Position, cell_here, cell_is, cell_on, other_counts, other_on}

-- ---- one line

-- the cells that counted, behind a line
abbrev earlier_behind : Bool → List ListLine → LineRead → List ListLine
earlier_behind b earlier (Other bytes) = earlier
earlier_behind b earlier (Cell c) = earlier_after b earlier c

-- the note of a line, if it has one
abbrev NoteFor : Widths → List ListLine → List ListLine → Bool → LineRead → Option Hint → Type 0
NoteFor w cells earlier b (Other bytes) note = note ≡ None
NoteFor w cells earlier b (Cell c) note = LineNote w cells earlier c b note

notes_on : (w : Widths) (cells : List ListLine) (n : ℕ) (earlier : List ListLine) (last : Option Place) (l : LineRead) (rest : List LineRead) (hint : Option Hint) (more : List (ℕ × Hint))
    → NoteFor w cells earlier (counts last l) l hint → NotesFrom w cells (n + 1) (earlier_behind (counts last l) earlier l) (place_behind (counts last l) last l) rest more → NotesFrom w cells n earlier last (l ∷ rest) (told n hint more)
notes_on w cells n earlier last (Other bytes) rest hint more is x = subst (λ (o : Option Hint). NotesFrom w cells n earlier last (Other bytes ∷ rest) (told n o more)) (sym is) x
notes_on w cells n earlier last (Cell c) rest hint more is x = (hint, is, (more, refl, x))

no_note : (w : Widths) (cells earlier : List ListLine) (l : LineRead) → NoteFor w cells earlier false l None
no_note w cells earlier (Other bytes) = refl
no_note w cells earlier (Cell c) = refl

same_earlier : (earlier : List ListLine) (l : LineRead) → earlier_behind false earlier l ≡ earlier
same_earlier earlier (Other bytes) = refl
same_earlier earlier (Cell c) = refl

same_place : (last : Option Place) (l : LineRead) → place_behind false last l ≡ last
same_place last (Other bytes) = refl
same_place last (Cell c) = refl

note_behind : (n : ℕ) (note : Option Hint) (more : List (ℕ × Hint)) → told n note more ≡ told n note [] ++ more
note_behind n None more = refl
note_behind n (Some hint) more = refl

-- ---- all lines

-- the notes so far come first, whatever comes behind them
pub record AreNoted (w : Widths) (lines : List LineRead) (cells : List ListLine) (others : List OtherLine) (done next : ℕ) (notes : List (ℕ × Hint)) : Type 0 where
  pub last : Option Place
  pub position : Position lines cells others done next last
  pub tells : (more : List (ℕ × Hint)) → NotesFrom w cells (done + 1) (take (done - next) cells) last (drop done lines) more → NotesFrom w cells 1 [] None lines (notes ++ more)

pub none_noted : (w : Widths) (lines : List LineRead) (cells : List ListLine) (others : List OtherLine) (notes : List (ℕ × Hint)) → cells ≡ counted_in lines → others ≡ others_in lines → notes ≡ [] → AreNoted w lines cells others 0 0 notes
none_noted w lines cells others notes c o none = record {
  last = None;
  position = record { le = omega arith; cells_left = sym c; others_left = sym o };
  tells = λ more x. subst (λ (ns : List (ℕ × Hint)). NotesFrom w cells 1 [] None lines (ns ++ more)) (sym none) x;
}

module _ (w : Widths) (lines : List LineRead) (cells : List ListLine) (others : List OtherLine) (done next : ℕ) (old new : List (ℕ × Hint)) (t : AreNoted w lines cells others done next old) (lt : done < length lines) where
  abbrev line : LineRead
  line = get_or lines done (Other None)

  one_on : (note : Option Hint) (more : List (ℕ × Hint)) → new ≡ old ++ told (done + 1) note [] → NoteFor w cells (take (done - next) cells) (counts t.last line) line note
      → NotesFrom w cells (done + 1 + 1) (earlier_behind (counts t.last line) (take (done - next) cells) line) (place_behind (counts t.last line) t.last line) (drop (done + 1) lines) more → NotesFrom w cells 1 [] None lines (new ++ more)
  one_on note more is said x =
      let one = notes_on w cells (done + 1) (take (done - next) cells) t.last line (drop (done + 1) lines) note more said x in
      let all = t.tells (told (done + 1) note more) (subst (λ (ls : List LineRead). NotesFrom w cells (done + 1) (take (done - next) cells) t.last ls (told (done + 1) note more)) (sym (drop_more lines done (Other None) lt)) one) in
      let same : new ++ more ≡ old ++ told (done + 1) note more = ap (λ (ns : List (ℕ × Hint)). ns ++ more) is ∙ joined old (told (done + 1) note []) more ∙ ap (λ (ns : List (ℕ × Hint)). old ++ ns) (sym (note_behind (done + 1) note more)) in
      subst (NotesFrom w cells 1 [] None lines) (sym same) all

  pub other_noted : is_next (done + 1) (slice_get others next) ≡ true → new ≡ old → AreNoted w lines cells others (done + 1) (next + 1) new
  other_noted e is =
      let b = other_counts lines cells others done next t.last t.position lt e in
      let le = t.position.le in
      let cells_so : earlier_behind (counts t.last line) (take (done - next) cells) line ≡ take (done + 1 - (next + 1)) cells =
      ap (λ b. earlier_behind b (take (done - next) cells) line) b ∙ same_earlier (take (done - next) cells) line ∙ ap (λ k. take k cells) (omega (arith, le)) in
      let place_so : place_behind (counts t.last line) t.last line ≡ t.last = ap (λ b. place_behind b t.last line) b ∙ same_place t.last line in
      record {
        last = t.last;
        position = other_on lines cells others done next t.last t.position lt e;
        tells = λ more x. one_on None more (is ∙ sym (nothing_behind old))
            (subst (λ (b : Bool). NoteFor w cells (take (done - next) cells) b line None) (sym b) (no_note w cells (take (done - next) cells) line))
            (subst (λ (p : List ListLine × Option Place). NotesFrom w cells (done + 1 + 1) p.0 p.1 (drop (done + 1) lines) more) (λ i. (sym cells_so i, sym place_so i)) x);
      }

  pub cell_noted : is_next (done + 1) (slice_get others next) ≡ false → (c : ListLine) (note : Option Hint) → IsAt cells (done - next) c → NoteOf w cells (take (done - next) cells) c note → new ≡ old ++ told (done + 1) note [] → AreNoted w lines cells others (done + 1) next new
  cell_noted e c note at noted is =
      let k = cell_here lines cells others done next t.last t.position lt e in
      let same = cell_is lines cells others done next t.last t.position lt k c at.is in
      let le = t.position.le in
      let cells_so : take (done - next) cells ++ k.cell ∷ [] ≡ take (done + 1 - next) cells =
      sym (ap (λ n. take n cells) (omega (arith, le)) ∙ take_next cells (done - next) c at.within ∙ ap (λ (x : ListLine). take (done - next) cells ++ x ∷ []) (sym at.is ∙ same)) in
      record {
        last = Some (place_of_line k.cell);
        position = cell_on lines cells others done next t.last t.position lt k;
        tells = λ more x. one_on note more is
            (subst (λ (l : LineRead). NoteFor w cells (take (done - next) cells) (counts t.last l) l note) (sym k.line_is) (subst (λ b. NoteFor w cells (take (done - next) cells) b (Cell k.cell) note) (sym k.above) (subst (λ (d : ListLine). NoteOf w cells (take (done - next) cells) d note) same noted)))
            (subst (λ (l : LineRead). NotesFrom w cells (done + 1 + 1) (earlier_behind (counts t.last l) (take (done - next) cells) l) (place_behind (counts t.last l) t.last l) (drop (done + 1) lines) more) (sym k.line_is)
            (subst (λ b. NotesFrom w cells (done + 1 + 1) (earlier_behind b (take (done - next) cells) (Cell k.cell)) (place_behind b t.last (Cell k.cell)) (drop (done + 1) lines) more) (sym k.above)
            (subst (λ (cs : List ListLine). NotesFrom w cells (done + 1 + 1) cs (Some (place_of_line k.cell)) (drop (done + 1) lines) more) (sym cells_so) x)));
      }

pub all_noted : (w : Widths) (lines : List LineRead) (cells : List ListLine) (others : List OtherLine) (done next : ℕ) (notes : List (ℕ × Hint)) → length lines ≤ done → AreNoted w lines cells others done next notes → NotesFrom w cells 1 [] None lines notes
all_noted w lines cells others done next notes end t =
    subst (NotesFrom w cells 1 [] None lines) (nothing_behind notes) (t.tells [] (subst (λ (ls : List LineRead). NotesFrom w cells (done + 1) (take (done - next) cells) t.last ls []) (sym (drop_all done lines end)) refl))

-- ---- the row that is kept

pub none_kept : (w : Widths) (cells : List ListLine) (at : ℕ) (values : RowValues) → at ≡ 0 → IsRowKept w cells at values
none_kept w cells at values e before last next is = absurd (omega (arith, e, next))

pub kept_at : (w : Widths) (cells : List ListLine) (at at' : ℕ) (values : RowValues) → at ≡ at' → IsRowKept w cells at values → IsRowKept w cells at' values
kept_at w cells at at' values e k = subst (λ n. IsRowKept w cells n values) e k
