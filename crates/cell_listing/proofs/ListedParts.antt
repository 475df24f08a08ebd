-- The cells of lines that count, and the other lines: one more line, and all lines again.
use Rattle.std.proofs.Common.{◌≡◌, inl, inr, ℕ, suc, ◌+◌, ◌-◌, ◌≤◌, Bool, true, false, cond, List, [], ◌∷◌, ◌++◌, length, take, drop, refl, sym, ap, subst, ◌∙◌, add-zero, arith}
use Rattle.std.specs.Prelude.{Option, None, Some, Contains, option_map}
use Rattle.std.specs.List.{slice_get}
use Rattle.std.specs.Ordering.{is_lt}
use Rattle.std.specs.declared.cmp.Ordering.TheVariants.{Less}
use Rattle.list_lemmas.proofs.BoolTests.{less_if}
use Rattle.list_lemmas.proofs.ListCuts.{joined, nothing_behind}
use Rattle.list_lemmas.proofs.ListMembers.{split, not_in}
use Rattle.list_lemmas.proofs.ListParts.{pairs_cons}
use Rattle.cell_model.specs.declared.row.ListLine.{ListLine}
use Rattle.cell_model.specs.declared.events.Place.{Place}
use Rattle.cell_model.specs.PlaceOrder.{place_cmp}
use Rattle.cell_model.specs.Rising.{LinesRise, place_of_line}
use Rattle.cell_model.proofs.CallerLemmas.{places_total}
use Rattle.cell_listing.specs.ListedLines.{AreParts, counted, counted_in, counts, is_above, last_after, last_place, lines_of_cells, numbered, others_from, others_in, place_after, place_behind, woven}
use Rattle.cell_listing.specs.declared.listing_line.LineRead.{LineRead}
use Rattle.cell_listing.specs.declared.listing_line.LineRead.TheVariants.{Cell, Other}
use Rattle.cell_listing.specs.declared.listed.OtherLine.{OtherLine}

-- ---- one line at the front

-- the cell of a line that counts
abbrev pub cell_if : Bool → LineRead → List ListLine
cell_if b (Other bytes) = []
cell_if true (Cell c) = c ∷ []
cell_if false (Cell c) = []

abbrev pub other_if : Bool → ℕ → LineRead → List OtherLine
other_if true n l = []
other_if false n l = numbered n l ∷ []

pub counted_on : (last : Option Place) (l : LineRead) (rest : List LineRead) → counted last (l ∷ rest) ≡ cell_if (counts last l) l ++ counted (place_behind (counts last l) last l) rest
counted_on last (Other bytes) rest = refl
counted_on last (Cell c) rest = at (is_above last (place_of_line c))
  where
    at : (b : Bool) → cond b (c ∷ counted (Some (place_of_line c)) rest) (counted last rest) ≡ cell_if b (Cell c) ++ counted (last_after b last (place_of_line c)) rest
    at true = refl
    at false = refl

pub others_on : (n : ℕ) (last : Option Place) (l : LineRead) (rest : List LineRead) → others_from n last (l ∷ rest) ≡ other_if (counts last l) n l ++ others_from (n + 1) (place_behind (counts last l) last l) rest
others_on n last (Other bytes) rest = refl
others_on n last (Cell c) rest = at (is_above last (place_of_line c))
  where
    at : (b : Bool) → cond b (others_from (n + 1) (Some (place_of_line c)) rest) (numbered n (Cell c) ∷ others_from (n + 1) last rest) ≡ other_if b n (Cell c) ++ others_from (n + 1) (last_after b last (place_of_line c)) rest
    at true = refl
    at false = refl

-- ---- the cells rise

abbrev Before : ListLine → ListLine → Type 0
Before a b = place_cmp (place_of_line a) (place_of_line b) ≡ Less

no_pairs : LinesRise []
no_pairs = λ i j d lt within. absurd (omega (arith, within))

pub above_trans : (last : Option Place) (p q : Place) → is_above last p ≡ true → place_cmp p q ≡ Less → is_above last q ≡ true
above_trans None p q e lt = refl
above_trans (Some m) p q e lt = ap is_lt (places_total.trans m p q (less_if (place_cmp m p) e) lt)

pub counted_above : (last : Option Place) (lines : List LineRead) (l : ListLine) → Contains (counted last lines) l → is_above last (place_of_line l) ≡ true
counted_above last [] l c = absurd (not_in l c)
counted_above last (Other bytes ∷ lines) l c = counted_above last lines l c
counted_above last (Cell d ∷ lines) l c = at (is_above last (place_of_line d)) refl c (counted_above (Some (place_of_line d)) lines l) (counted_above last lines l)
  where
    at : (b : Bool) → is_above last (place_of_line d) ≡ b → Contains (cond b (d ∷ counted (Some (place_of_line d)) lines) (counted last lines)) l
        → (Contains (counted (Some (place_of_line d)) lines) l → is_above (Some (place_of_line d)) (place_of_line l) ≡ true)
        → (Contains (counted last lines) l → is_above last (place_of_line l) ≡ true) → is_above last (place_of_line l) ≡ true
    at true e c own other = elim (split d l (counted (Some (place_of_line d)) lines) c) [
      | inl same ↦ ap (λ (x : ListLine). is_above last (place_of_line x)) (sym same) ∙ e
      | inr later ↦ above_trans last (place_of_line d) (place_of_line l) e (less_if _ (own later))
    ]
    at false e c own other = other c

pub counted_rise : (last : Option Place) (lines : List LineRead) → LinesRise (counted last lines)
counted_rise last [] = no_pairs
counted_rise last (Other bytes ∷ lines) = counted_rise last lines
counted_rise last (Cell d ∷ lines) = at (is_above last (place_of_line d)) (counted_rise (Some (place_of_line d)) lines) (counted_rise last lines)
  where
    at : (b : Bool) → LinesRise (counted (Some (place_of_line d)) lines) → LinesRise (counted last lines) → LinesRise (cond b (d ∷ counted (Some (place_of_line d)) lines) (counted last lines))
    at true own other = pairs_cons Before d (counted (Some (place_of_line d)) lines) (λ l i. less_if _ (counted_above (Some (place_of_line d)) lines l i)) own
    at false own other = other

-- ---- one line at the end

pub counted_end : (last : Option Place) (lines : List LineRead) (l : LineRead) → counted last (lines ++ l ∷ []) ≡ counted last lines ++ cell_if (counts (place_after last lines) l) l
counted_end last [] l = counted_on last l [] ∙ nothing_behind (cell_if (counts last l) l)
counted_end last (m ∷ lines) l =
    counted_on last m (lines ++ l ∷ []) ∙ ap (λ (cs : List ListLine). cell_if (counts last m) m ++ cs) (counted_end (place_behind (counts last m) last m) lines l)
    ∙ sym (joined (cell_if (counts last m) m) (counted (place_behind (counts last m) last m) lines) (cell_if (counts (place_after last (m ∷ lines)) l) l))
    ∙ ap (λ (cs : List ListLine). cs ++ cell_if (counts (place_after last (m ∷ lines)) l) l) (sym (counted_on last m lines))

pub others_end : (n : ℕ) (last : Option Place) (lines : List LineRead) (l : LineRead) → others_from n last (lines ++ l ∷ []) ≡ others_from n last lines ++ other_if (counts (place_after last lines) l) (n + length lines) l
others_end n last [] l = others_on n last l [] ∙ nothing_behind (other_if (counts last l) n l) ∙ ap (λ k. other_if (counts last l) k l) (sym (add-zero n))
others_end n last (m ∷ lines) l =
    others_on n last m (lines ++ l ∷ []) ∙ ap (λ (os : List OtherLine). other_if (counts last m) n m ++ os) (others_end (n + 1) (place_behind (counts last m) last m) lines l)
    ∙ sym (joined (other_if (counts last m) n m) (others_from (n + 1) (place_behind (counts last m) last m) lines) (other_if (counts (place_after last (m ∷ lines)) l) (n + 1 + length lines) l))
    ∙ ap (λ k. (other_if (counts last m) n m ++ others_from (n + 1) (place_behind (counts last m) last m) lines) ++ other_if (counts (place_after last (m ∷ lines)) l) k l) (omega arith)
    ∙ ap (λ (os : List OtherLine). os ++ other_if (counts (place_after last (m ∷ lines)) l) (n + length (m ∷ lines)) l) (sym (others_on n last m lines))

-- each line is a cell that counts or an other one
pub counts_all : (n : ℕ) (last : Option Place) (lines : List LineRead) → length lines ≡ length (counted last lines) + length (others_from n last lines)
counts_all n last [] = refl
counts_all n last (Other bytes ∷ lines) = let rest = counts_all (n + 1) last lines in omega (arith, rest)
counts_all n last (Cell c ∷ lines) = at (is_above last (place_of_line c)) (counts_all (n + 1) (Some (place_of_line c)) lines) (counts_all (n + 1) last lines)
  where
    at : (b : Bool) → length lines ≡ length (counted (Some (place_of_line c)) lines) + length (others_from (n + 1) (Some (place_of_line c)) lines)
        → length lines ≡ length (counted last lines) + length (others_from (n + 1) last lines)
        → length (Cell c ∷ lines) ≡ length (cond b (c ∷ counted (Some (place_of_line c)) lines) (counted last lines)) + length (cond b (others_from (n + 1) (Some (place_of_line c)) lines) (numbered n (Cell c) ∷ others_from (n + 1) last lines))
    at true own other = omega (arith, own)
    at false own other = omega (arith, other)

-- ---- the last place

place_or : Option Place → List ListLine → Option Place
place_or last [] = last
place_or last (c ∷ cells) = place_or (Some (place_of_line c)) cells

after_counted : (last : Option Place) (lines : List LineRead) → place_after last lines ≡ place_or last (counted last lines)
unfolding place_or
after_counted last [] = refl
after_counted last (Other bytes ∷ lines) = after_counted last lines
after_counted last (Cell c ∷ lines) = at (is_above last (place_of_line c)) (after_counted (Some (place_of_line c)) lines) (after_counted last lines)
  where
    at : (b : Bool) → place_after (Some (place_of_line c)) lines ≡ place_or (Some (place_of_line c)) (counted (Some (place_of_line c)) lines) → place_after last lines ≡ place_or last (counted last lines)
        → place_after (last_after b last (place_of_line c)) lines ≡ place_or last (cond b (c ∷ counted (Some (place_of_line c)) lines) (counted last lines))
    at true own other = own
    at false own other = other

last_or : (c : ListLine) (cells : List ListLine) → place_or (Some (place_of_line c)) cells ≡ last_place (c ∷ cells)
unfolding place_or
last_or c [] = refl
last_or c (d ∷ cells) = last_or d cells ∙ one_more
  where
    one_more : last_place (d ∷ cells) ≡ last_place (c ∷ d ∷ cells)
    one_more = let one : length (c ∷ d ∷ cells) - 1 ≡ suc (length (d ∷ cells) - 1) = omega arith in ap (λ k. option_map place_of_line (slice_get (c ∷ d ∷ cells) k)) (sym one)

last_of_cells : (cells : List ListLine) → place_or None cells ≡ last_place cells
unfolding place_or
last_of_cells [] = refl
last_of_cells (c ∷ cells) = last_or c cells

-- ---- all lines again

number_or : List OtherLine → ℕ
number_or [] = 0
number_or (o ∷ os) = o.number

same_number : (n : ℕ) (l : LineRead) (rest : List OtherLine) (o : OtherLine) (others : List OtherLine) → numbered n l ∷ rest ≡ o ∷ others → n ≤ o.number
unfolding number_or
same_number n l rest o others e = let f : n ≡ o.number = ap number_or e in omega (arith, f)

pub first_number : (n : ℕ) (last : Option Place) (lines : List LineRead) (o : OtherLine) (others : List OtherLine) → others_from n last lines ≡ o ∷ others → n ≤ o.number
first_number n last [] o others e = absurd (no_cons e)
  where
    no_cons : ◌≡◌ {A = List OtherLine} [] (o ∷ others) → ⊥
    no_cons e = let l = ap length e in absurd (omega (arith, l))
first_number n last (Other bytes ∷ lines) o others e = same_number n (Other bytes) (others_from (n + 1) last lines) o others e
first_number n last (Cell c ∷ lines) o others e = at (is_above last (place_of_line c)) (first_number (n + 1) (Some (place_of_line c)) lines o others) e
  where
    at : (b : Bool) → (others_from (n + 1) (Some (place_of_line c)) lines ≡ o ∷ others → n + 1 ≤ o.number)
        → cond b (others_from (n + 1) (Some (place_of_line c)) lines) (numbered n (Cell c) ∷ others_from (n + 1) last lines) ≡ o ∷ others → n ≤ o.number
    at true later e = let l = later e in omega (arith, l)
    at false later e = same_number n (Cell c) (others_from (n + 1) last lines) o others e

-- a cell before all other lines
cell_first : (n : ℕ) (c : ListLine) (cells : List ListLine) (others : List OtherLine) → ((o : OtherLine) (more : List OtherLine) → others ≡ o ∷ more → n + 1 ≤ o.number) → woven n (c ∷ cells) others ≡ Cell c ∷ woven (n + 1) cells others
cell_first n c cells [] late = refl
cell_first n c cells (o ∷ others) late =
    let number = late o others refl in
    let one : o.number - n ≡ suc (o.number - (n + 1)) = omega (arith, number) in
    ap (λ k. lines_of_cells (take k (c ∷ cells)) ++ o.line ∷ woven (o.number + 1) (drop k (c ∷ cells)) others) one

-- an other line before all cells
other_first : (n : ℕ) (l : LineRead) (cells : List ListLine) (others : List OtherLine) → woven n cells (numbered n l ∷ others) ≡ l ∷ woven (n + 1) cells others
other_first n l cells others = let none : n - n ≡ 0 = omega arith in ap (λ k. lines_of_cells (take k cells) ++ l ∷ woven (n + 1) (drop k cells) others) none

pub woven_back : (n : ℕ) (last : Option Place) (lines : List LineRead) → woven n (counted last lines) (others_from n last lines) ≡ lines
woven_back n last [] = refl
woven_back n last (Other bytes ∷ lines) = other_first n (Other bytes) (counted last lines) (others_from (n + 1) last lines) ∙ ap (λ (ls : List LineRead). Other bytes ∷ ls) (woven_back (n + 1) last lines)
woven_back n last (Cell c ∷ lines) = at (is_above last (place_of_line c)) (woven_back (n + 1) (Some (place_of_line c)) lines) (woven_back (n + 1) last lines)
  where
    at : (b : Bool) → woven (n + 1) (counted (Some (place_of_line c)) lines) (others_from (n + 1) (Some (place_of_line c)) lines) ≡ lines → woven (n + 1) (counted last lines) (others_from (n + 1) last lines) ≡ lines
        → woven n (cond b (c ∷ counted (Some (place_of_line c)) lines) (counted last lines)) (cond b (others_from (n + 1) (Some (place_of_line c)) lines) (numbered n (Cell c) ∷ others_from (n + 1) last lines)) ≡ Cell c ∷ lines
    at true own other = cell_first n c (counted (Some (place_of_line c)) lines) (others_from (n + 1) (Some (place_of_line c)) lines) (first_number (n + 1) (Some (place_of_line c)) lines) ∙ ap (λ (ls : List LineRead). Cell c ∷ ls) own
    at false own other = other_first n (Cell c) (counted last lines) (others_from (n + 1) last lines) ∙ ap (λ (ls : List LineRead). Cell c ∷ ls) other

-- ---- the parts of a listing

pub no_parts : AreParts [] []
no_parts = record { lines = []; cells_are = refl; others_are = refl }

module _ (cells : List ListLine) (others : List OtherLine) (p : AreParts cells others) where
  pub lines_are : woven 1 cells others ≡ p.lines
  lines_are = (λ i. woven 1 (p.cells_are i) (p.others_are i)) ∙ woven_back 1 None p.lines

  pub cells_counted : cells ≡ counted_in (woven 1 cells others)
  cells_counted = p.cells_are ∙ ap counted_in (sym lines_are)

  pub others_found : others ≡ others_in (woven 1 cells others)
  others_found = p.others_are ∙ ap others_in (sym lines_are)

  pub parts_rise : LinesRise cells
  parts_rise = subst LinesRise (sym p.cells_are) (counted_rise None p.lines)

  pub place_is : place_after None (woven 1 cells others) ≡ last_place cells
  place_is = after_counted None (woven 1 cells others) ∙ ap (place_or None) (sym cells_counted) ∙ last_of_cells cells

  number_is : 1 + length p.lines ≡ length cells + length others + 1
  number_is = let n = counts_all 1 None p.lines in let a = ap length p.cells_are in let b = ap length p.others_are in omega (arith, n, a, b)

  place_of_lines : place_after None p.lines ≡ place_after None (woven 1 cells others)
  place_of_lines = ap (place_after None) (sym lines_are)

  pub cell_added : (c : ListLine) → counts (place_after None (woven 1 cells others)) (Cell c) ≡ true → AreParts (cells ++ c ∷ []) others
  cell_added c e =
      let t : counts (place_after None p.lines) (Cell c) ≡ true = ap (λ (o : Option Place). counts o (Cell c)) place_of_lines ∙ e in
      record {
        lines = p.lines ++ Cell c ∷ [];
        cells_are = ap (λ (cs : List ListLine). cs ++ c ∷ []) p.cells_are ∙ sym (counted_end None p.lines (Cell c) ∙ ap (λ (b : Bool). counted None p.lines ++ cell_if b (Cell c)) t);
        others_are = p.others_are ∙ sym (others_end 1 None p.lines (Cell c) ∙ ap (λ (b : Bool). others_from 1 None p.lines ++ other_if b (1 + length p.lines) (Cell c)) t ∙ nothing_behind (others_from 1 None p.lines));
      }

  no_cell : (l : LineRead) → cell_if false l ≡ []
  no_cell (Other bytes) = refl
  no_cell (Cell c) = refl

  pub other_added : (l : LineRead) (number : ℕ) → counts (place_after None (woven 1 cells others)) l ≡ false → number ≡ length cells + length others + 1 → AreParts cells (others ++ numbered number l ∷ [])
  other_added l number e is =
      let t : counts (place_after None p.lines) l ≡ false = ap (λ (o : Option Place). counts o l) place_of_lines ∙ e in
      record {
        lines = p.lines ++ l ∷ [];
        cells_are = p.cells_are ∙ sym (counted_end None p.lines l ∙ ap (λ (b : Bool). counted None p.lines ++ cell_if b l) t ∙ ap (λ (cs : List ListLine). counted None p.lines ++ cs) (no_cell l) ∙ nothing_behind (counted None p.lines));
        others_are =
            ap (λ (os : List OtherLine). os ++ numbered number l ∷ []) p.others_are ∙ ap (λ k. others_in p.lines ++ numbered k l ∷ []) (is ∙ sym number_is)
            ∙ sym (others_end 1 None p.lines l ∙ ap (λ (b : Bool). others_from 1 None p.lines ++ other_if b (1 + length p.lines) l) t);
      }

-- so the lines with one more
module _ (cells : List ListLine) (others : List OtherLine) (p : AreParts cells others) where
  pub cell_woven : (c : ListLine) → counts (place_after None (woven 1 cells others)) (Cell c) ≡ true → woven 1 (cells ++ c ∷ []) others ≡ woven 1 cells others ++ Cell c ∷ []
  unfolding cell_added
  cell_woven c e = lines_are (cells ++ c ∷ []) others (cell_added cells others p c e) ∙ ap (λ (ls : List LineRead). ls ++ Cell c ∷ []) (sym (lines_are cells others p))

  pub other_woven : (l : LineRead) (number : ℕ) → counts (place_after None (woven 1 cells others)) l ≡ false → number ≡ length cells + length others + 1 → woven 1 cells (others ++ numbered number l ∷ []) ≡ woven 1 cells others ++ l ∷ []
  unfolding other_added
  other_woven l number e is = lines_are cells (others ++ numbered number l ∷ []) (other_added cells others p l number e is) ∙ ap (λ (ls : List LineRead). ls ++ l ∷ []) (sym (lines_are cells others p))
