-- The faults of lines, one after the other: cells that count and other lines in the order of their numbers.
use Rattle.std.proofs.Common.{◌≡◌, ℕ, zero, suc, ◌+◌, ◌-◌, ◌<◌, ◌≤◌, Bool, true, false, List, [], ◌∷◌, ◌++◌, length, drop, get_or, refl, sym, ap, subst, ◌∙◌, arith, length-drop}
use Rattle.std.specs.Prelude.{Option, None, Some, not}
use Rattle.std.specs.List.{slice_get}
use Rattle.std.proofs.lemmas.Bool.Decides.{nat_tests}
use Rattle.std.proofs.lemmas.List.{drop-drop, drop_all, drop_more}
use Rattle.list_lemmas.proofs.BoolTests.{nat_eq-refl}
use Rattle.list_lemmas.proofs.ListCuts.{joined, nothing_behind}
use Rattle.cell_model.specs.KindWidths.{Widths}
use Rattle.cell_model.specs.declared.row.ListLine.{ListLine}
use Rattle.cell_model.specs.declared.events.Place.{Place}
use Rattle.cell_model.specs.Rising.{place_of_line}
use Rattle.cell_listing.specs.ListedLines.{counted, counted_in, counts, is_above, others_from, others_in, place_behind}
use Rattle.cell_listing.specs.declared.listed.OtherLine.{OtherLine}
use Rattle.cell_listing.specs.declared.listing_line.LineRead.{LineRead}
use Rattle.cell_listing.specs.declared.listing_line.LineRead.TheVariants.{Cell, Other}
use Rattle.cell_listing.proofs.CallerLemmas.{cell_if, counted_on, counts_all, first_number, other_if, others_on}
use Rattle.listing_check.specs.Flaws.{FlawOf}
use Rattle.listing_check.specs.Faults.{FaultOf, FaultsFrom, is_next, told}
use Rattle.listing_check.specs.declared.report.Flaw.{Flaw}
use Rattle.listing_check.specs.declared.report.Flaw.TheVariants.{BadLine}

-- ---- lists

first_of : {X : Type 0} → List X → Option X
first_of [] = None
first_of (x ∷ xs) = Some x

at_front : {X : Type 0} (xs : List X) (n : ℕ) → slice_get xs n ≡ first_of (drop n xs)
unfolding first_of
at_front [] zero = refl
at_front [] (suc n) = refl
at_front (x ∷ xs) zero = refl
at_front (x ∷ xs) (suc n) = at_front xs n

drop_one : {X : Type 0} (xs : List X) (n : ℕ) (x : X) (ys : List X) → drop n xs ≡ x ∷ ys → drop (n + 1) xs ≡ ys
drop_one xs n x ys e = sym (drop-drop 1 n xs ∙ ap (λ k. drop k xs) (omega arith)) ∙ ap (drop 1) e

same_first : {X : Type 0} (x y : X) (xs ys : List X) → x ∷ xs ≡ y ∷ ys → x ≡ y
unfolding first_of
same_first x y xs ys e = some_same (ap first_of e)
  where
    some_same : {X : Type 0} {a b : X} → ◌≡◌ {A = Option X} (Some a) (Some b) → a ≡ b
    some_same e = cc

told_behind : (n : ℕ) (flaw : Option Flaw) (more : List (ℕ × Flaw)) → told n flaw more ≡ told n flaw [] ++ more
told_behind n None more = refl
told_behind n (Some flaw) more = refl

-- ---- where the lines are

-- so many lines were gone through, so many of them other ones, up to this place
pub record Position (lines : List LineRead) (cells : List ListLine) (others : List OtherLine) (done next : ℕ) (last : Option Place) : Type 0 where
  pub le : next ≤ done
  pub cells_left : counted last (drop done lines) ≡ drop (done - next) cells
  pub others_left : others_from (done + 1) last (drop done lines) ≡ drop next others

not_next : (n : ℕ) (os : List OtherLine) → ((o : OtherLine) (more : List OtherLine) → os ≡ o ∷ more → n + 1 ≤ o.number) → is_next n (first_of os) ≡ false
unfolding first_of
not_next n [] late = refl
not_next n (o ∷ os) late = let x = late o os refl in grind (arith, nat_tests, x)

same_place : (last : Option Place) (l : LineRead) → place_behind false last l ≡ last
same_place last (Other bytes) = refl
same_place last (Cell c) = refl

no_cell : (l : LineRead) → cell_if false l ≡ []
no_cell (Other bytes) = refl
no_cell (Cell c) = refl

not_true : (b : Bool) → not b ≡ true → b ≡ false
not_true true e = cc
not_true false e = refl

not_false : (b : Bool) → not b ≡ false → b ≡ true
not_false true e = refl
not_false false e = cc

module _ (lines : List LineRead) (cells : List ListLine) (others : List OtherLine) (done next : ℕ) (last : Option Place) (p : Position lines cells others done next last) (lt : done < length lines) where
  abbrev line : LineRead
  line = get_or lines done (Other None)

  rest_is : drop done lines ≡ line ∷ drop (done + 1) lines
  rest_is = drop_more lines done (Other None) lt

  cells_now : drop (done - next) cells ≡ cell_if (counts last line) line ++ counted (place_behind (counts last line) last line) (drop (done + 1) lines)
  cells_now = sym p.cells_left ∙ ap (counted last) rest_is ∙ counted_on last line (drop (done + 1) lines)

  others_now : drop next others ≡ other_if (counts last line) (done + 1) line ++ others_from (done + 1 + 1) (place_behind (counts last line) last line) (drop (done + 1) lines)
  others_now = sym p.others_left ∙ ap (others_from (done + 1) last) rest_is ∙ others_on (done + 1) last line (drop (done + 1) lines)

  which : is_next (done + 1) (slice_get others next) ≡ not (counts last line)
  unfolding first_of
  which = ap (is_next (done + 1)) (at_front others next) ∙ at (counts last line) others_now
    where
      at : (b : Bool) → drop next others ≡ other_if b (done + 1) line ++ others_from (done + 1 + 1) (place_behind b last line) (drop (done + 1) lines) → is_next (done + 1) (first_of (drop next others)) ≡ not b
      at true e = ap (λ (os : List OtherLine). is_next (done + 1) (first_of os)) e ∙ not_next (done + 1) (others_from (done + 1 + 1) (place_behind true last line) (drop (done + 1) lines)) (first_number (done + 1 + 1) (place_behind true last line) (drop (done + 1) lines))
      at false e = ap (λ (os : List OtherLine). is_next (done + 1) (first_of os)) e ∙ nat_eq-refl (done + 1)

  -- the line is an other one
  pub other_counts : is_next (done + 1) (slice_get others next) ≡ true → counts last line ≡ false
  other_counts e = not_true (counts last line) (sym which ∙ e)

  pub other_on : is_next (done + 1) (slice_get others next) ≡ true → Position lines cells others (done + 1) (next + 1) last
  other_on e =
      let b = other_counts e in
      let c : drop (done - next) cells ≡ counted last (drop (done + 1) lines) = cells_now ∙ (λ i. cell_if (b i) line ++ counted (place_behind (b i) last line) (drop (done + 1) lines)) ∙ (λ i. no_cell line i ++ counted (same_place last line i) (drop (done + 1) lines)) in
      let o : drop next others ≡ other_if false (done + 1) line ++ others_from (done + 1 + 1) last (drop (done + 1) lines) = others_now ∙ (λ i. other_if (b i) (done + 1) line ++ others_from (done + 1 + 1) (place_behind (b i) last line) (drop (done + 1) lines)) ∙ (λ i. other_if false (done + 1) line ++ others_from (done + 1 + 1) (same_place last line i) (drop (done + 1) lines)) in
      let le = p.le in
      record {
        le = omega (arith, le);
        cells_left = sym c ∙ ap (λ k. drop k cells) (omega (arith, le));
        others_left = sym (drop_one others next _ _ o);
      }

  -- the line is a cell that counts
  pub record IsCell : Type 0 where
    pub cell : ListLine
    pub line_is : line ≡ Cell cell
    pub above : is_above last (place_of_line cell) ≡ true

  pub cell_here : is_next (done + 1) (slice_get others next) ≡ false → IsCell
  cell_here e = at line refl (not_false (counts last line) (sym which ∙ e))
    where
      at : (l : LineRead) → line ≡ l → counts last line ≡ true → IsCell
      at (Other bytes) is c = let none : counts last line ≡ false = ap (counts last) is in let no : true ≡ false = sym c ∙ none in cc
      at (Cell d) is c = record { cell = d; line_is = is; above = sym (ap (counts last) is) ∙ c }

  module _ (k : IsCell) where
    cells_so : drop (done - next) cells ≡ k.cell ∷ counted (Some (place_of_line k.cell)) (drop (done + 1) lines)
    cells_so =
        cells_now ∙ ap (λ (l : LineRead). cell_if (counts last l) l ++ counted (place_behind (counts last l) last l) (drop (done + 1) lines)) k.line_is
        ∙ ap (λ b. cell_if b (Cell k.cell) ++ counted (place_behind b last (Cell k.cell)) (drop (done + 1) lines)) k.above

    others_so : drop next others ≡ others_from (done + 1 + 1) (Some (place_of_line k.cell)) (drop (done + 1) lines)
    others_so =
        others_now ∙ ap (λ (l : LineRead). other_if (counts last l) (done + 1) l ++ others_from (done + 1 + 1) (place_behind (counts last l) last l) (drop (done + 1) lines)) k.line_is
        ∙ ap (λ b. other_if b (done + 1) (Cell k.cell) ++ others_from (done + 1 + 1) (place_behind b last (Cell k.cell)) (drop (done + 1) lines)) k.above

    pub cell_within : done - next < length cells
    cell_within = let n = length-drop (done - next) cells in let m = ap length cells_so in omega (arith, n, m)

    pub cell_is : (c : ListLine) → c ≡ get_or cells (done - next) c → c ≡ k.cell
    cell_is c is = is ∙ same_first (get_or cells (done - next) c) k.cell _ _ (sym (drop_more cells (done - next) c cell_within) ∙ cells_so)

    pub cell_on : Position lines cells others (done + 1) next (Some (place_of_line k.cell))
    cell_on =
        let le = p.le in
        record {
          le = omega (arith, le);
          cells_left = sym (drop_one cells (done - next) _ _ cells_so) ∙ ap (λ n. drop n cells) (omega (arith, le));
          others_left = sym others_so;
        }

-- ---- their faults

faults_on : (w : Widths) (cells : List ListLine) (n : ℕ) (last : Option Place) (l : LineRead) (rest : List LineRead) (flaw : Option Flaw) (more : List (ℕ × Flaw))
    → FaultOf w cells (counts last l) l flaw → FaultsFrom w cells (n + 1) (place_behind (counts last l) last l) rest more → FaultsFrom w cells n last (l ∷ rest) (told n flaw more)
faults_on w cells n last (Other bytes) rest flaw more is x = (more, ap (λ (f : Option Flaw). told n f more) is, x)
faults_on w cells n last (Cell c) rest flaw more is x = (flaw, is, (more, refl, x))

bad_line : (w : Widths) (cells : List ListLine) (l : LineRead) → FaultOf w cells false l (Some BadLine)
bad_line w cells (Other bytes) = refl
bad_line w cells (Cell c) = refl

-- the faults so far come first, whatever comes behind them
pub record AreTold (w : Widths) (lines : List LineRead) (cells : List ListLine) (others : List OtherLine) (done next : ℕ) (faults : List (ℕ × Flaw)) : Type 0 where
  pub last : Option Place
  pub position : Position lines cells others done next last
  pub tells : (more : List (ℕ × Flaw)) → FaultsFrom w cells (done + 1) last (drop done lines) more → FaultsFrom w cells 1 None lines (faults ++ more)

pub none_told : (w : Widths) (lines : List LineRead) (cells : List ListLine) (others : List OtherLine) (faults : List (ℕ × Flaw)) → cells ≡ counted_in lines → others ≡ others_in lines → faults ≡ [] → AreTold w lines cells others 0 0 faults
none_told w lines cells others faults c o none = record {
  last = None;
  position = record { le = omega arith; cells_left = sym c; others_left = sym o };
  tells = λ more x. subst (λ (fs : List (ℕ × Flaw)). FaultsFrom w cells 1 None lines (fs ++ more)) (sym none) x;
}

module _ (w : Widths) (lines : List LineRead) (cells : List ListLine) (others : List OtherLine) (done next : ℕ) (old new : List (ℕ × Flaw)) (t : AreTold w lines cells others done next old) (lt : done < length lines) where
  one_on : (flaw : Option Flaw) (more : List (ℕ × Flaw)) → new ≡ old ++ told (done + 1) flaw [] → FaultOf w cells (counts t.last (get_or lines done (Other None))) (get_or lines done (Other None)) flaw
      → FaultsFrom w cells (done + 1 + 1) (place_behind (counts t.last (get_or lines done (Other None))) t.last (get_or lines done (Other None))) (drop (done + 1) lines) more → FaultsFrom w cells 1 None lines (new ++ more)
  one_on flaw more is fault x =
      let one = faults_on w cells (done + 1) t.last (get_or lines done (Other None)) (drop (done + 1) lines) flaw more fault x in
      let all = t.tells (told (done + 1) flaw more) (subst (λ (ls : List LineRead). FaultsFrom w cells (done + 1) t.last ls (told (done + 1) flaw more)) (sym (drop_more lines done (Other None) lt)) one) in
      let same : new ++ more ≡ old ++ told (done + 1) flaw more = ap (λ (fs : List (ℕ × Flaw)). fs ++ more) is ∙ joined old (told (done + 1) flaw []) more ∙ ap (λ (fs : List (ℕ × Flaw)). old ++ fs) (sym (told_behind (done + 1) flaw more)) in
      subst (FaultsFrom w cells 1 None lines) (sym same) all

  pub other_told : is_next (done + 1) (slice_get others next) ≡ true → new ≡ old ++ (done + 1, BadLine) ∷ [] → AreTold w lines cells others (done + 1) (next + 1) new
  other_told e is =
      let b = other_counts lines cells others done next t.last t.position lt e in
      record {
        last = t.last;
        position = other_on lines cells others done next t.last t.position lt e;
        tells = λ more x. one_on (Some BadLine) more is
            (subst (λ (b : Bool). FaultOf w cells b (get_or lines done (Other None)) (Some BadLine)) (sym b) (bad_line w cells (get_or lines done (Other None))))
            (subst (λ (o : Option Place). FaultsFrom w cells (done + 1 + 1) o (drop (done + 1) lines) more) (sym ((λ i. place_behind (b i) t.last (get_or lines done (Other None))) ∙ same_place t.last (get_or lines done (Other None)))) x);
      }

  pub within : is_next (done + 1) (slice_get others next) ≡ false → done - next < length cells
  within e = cell_within lines cells others done next t.last t.position lt (cell_here lines cells others done next t.last t.position lt e)

  pub cell_told : is_next (done + 1) (slice_get others next) ≡ false → (c : ListLine) (flaw : Option Flaw) → c ≡ get_or cells (done - next) c → FlawOf w cells c flaw → new ≡ old ++ told (done + 1) flaw [] → AreTold w lines cells others (done + 1) next new
  cell_told e c flaw at flawed is =
      let k = cell_here lines cells others done next t.last t.position lt e in
      let same = cell_is lines cells others done next t.last t.position lt k c at in
      record {
        last = Some (place_of_line k.cell);
        position = cell_on lines cells others done next t.last t.position lt k;
        tells = λ more x. one_on flaw more is
            (subst (λ (l : LineRead). FaultOf w cells (counts t.last l) l flaw) (sym k.line_is) (subst (λ b. FaultOf w cells b (Cell k.cell) flaw) (sym k.above) (subst (λ (d : ListLine). FlawOf w cells d flaw) same flawed)))
            (subst (λ (l : LineRead). FaultsFrom w cells (done + 1 + 1) (place_behind (counts t.last l) t.last l) (drop (done + 1) lines) more) (sym k.line_is) (subst (λ b. FaultsFrom w cells (done + 1 + 1) (place_behind b t.last (Cell k.cell)) (drop (done + 1) lines) more) (sym k.above) x));
      }

pub all_told : (w : Widths) (lines : List LineRead) (cells : List ListLine) (others : List OtherLine) (done next : ℕ) (faults : List (ℕ × Flaw)) → length lines ≤ done → AreTold w lines cells others done next faults → FaultsFrom w cells 1 None lines faults
all_told w lines cells others done next faults end t =
    subst (FaultsFrom w cells 1 None lines) (nothing_behind faults) (t.tells [] (subst (λ (ls : List LineRead). FaultsFrom w cells (done + 1) t.last ls []) (sym (drop_all done lines end)) refl))

-- how many lines there are
pub lines_count : (lines : List LineRead) (cells : List ListLine) (others : List OtherLine) → cells ≡ counted_in lines → others ≡ others_in lines → length cells + length others ≡ length lines
lines_count lines cells others c o = let n = counts_all 1 None lines in let a = ap length c in let b = ap length o in omega (arith, n, a, b)
