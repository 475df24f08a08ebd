-- The numbers of faults and of notes rise.
use Rattle.std.proofs.Common.{◌≡◌, ◌⊎◌, inl, inr, ℕ, ◌+◌, ◌<◌, ◌≤◌, List, [], ◌∷◌, sym, ap, subst, arith}
use Rattle.std.specs.Prelude.{AllPairs, Contains, Option, None, Some}
use Rattle.list_lemmas.proofs.ListMembers.{not_in, split}
use Rattle.list_lemmas.proofs.ListParts.{pairs_cons}
use Rattle.cell_model.specs.declared.events.Place.{Place}
use Rattle.cell_model.specs.declared.row.ListLine.{ListLine}
use Rattle.cell_model.specs.KindWidths.{Widths}
use Rattle.cell_model.specs.Rising.{place_of_line}
use Rattle.cell_listing.specs.ListedLines.{counted_in, is_above, last_after}
use Rattle.cell_listing.specs.declared.listing_line.LineRead.{LineRead}
use Rattle.cell_listing.specs.declared.listing_line.LineRead.TheVariants.{Cell, Other}
use Rattle.listing_check.specs.Faults.{FaultsFrom, NotesFrom, earlier_after, told}
use Rattle.listing_check.specs.Laws.{NumbersRise}
use Rattle.listing_check.specs.declared.report.Flaw.{Flaw}
use Rattle.listing_check.specs.declared.report.Flaw.TheVariants.{BadLine}
use Rattle.listing_check.specs.declared.report.Hint.{Hint}

-- the numbers rise, from this one on
record RiseFrom {A : Type 0} (n : ℕ) (xs : List (ℕ × A)) : Type 0 where
  rising : AllPairs (λ (a b : ℕ × A). a.0 < b.0) xs
  least : (x : ℕ × A) → Contains xs x → n ≤ x.0

module _ {A : Type 0} where
  nothing : (n : ℕ) → RiseFrom {A = A} n []
  nothing n = record { rising = λ i j d lt within. absurd (omega (arith, within)); least = λ x c. absurd (not_in x c) }

  later : (n : ℕ) (xs : List (ℕ × A)) → RiseFrom (n + 1) xs → RiseFrom n xs
  later n xs r = record { rising = r.rising; least = λ x c. (let le = r.least x c in omega (arith, le)) }

  first : (n : ℕ) (a : A) (xs : List (ℕ × A)) → RiseFrom (n + 1) xs → RiseFrom n ((n, a) ∷ xs)
  first n a xs r = record {
    rising = pairs_cons (λ (a b : ℕ × A). a.0 < b.0) (n, a) xs (λ y c. (let le = r.least y c in omega (arith, le))) r.rising;
    least = λ x c. at x (split (n, a) x xs c);
  }
    where
      at : (x : ℕ × A) → ((n, a) ≡ x) ⊎ Contains xs x → n ≤ x.0
      at x (inl same) = let e = ap (λ (y : ℕ × A). y.0) same in omega (arith, e)
      at x (inr c) = let le = r.least x c in omega (arith, le)

  told_on : (n : ℕ) (o : Option A) (xs : List (ℕ × A)) → RiseFrom (n + 1) xs → RiseFrom n (told n o xs)
  told_on n None xs r = later n xs r
  told_on n (Some a) xs r = first n a xs r

faults_rise : (w : Widths) (cells : List ListLine) (n : ℕ) (last : Option Place) (lines : List LineRead) (faults : List (ℕ × Flaw)) → FaultsFrom w cells n last lines faults → RiseFrom n faults
faults_rise w cells n last [] faults e = subst (RiseFrom n) (sym e) (nothing n)
faults_rise w cells n last (Other bytes ∷ lines) faults x = subst (RiseFrom n) (sym x.1) (first n BadLine x.0 (faults_rise w cells (n + 1) last lines x.0 x.2))
faults_rise w cells n last (Cell c ∷ lines) faults x =
    subst (RiseFrom n) (sym x.2.1) (told_on n x.0 x.2.0 (faults_rise w cells (n + 1) (last_after (is_above last (place_of_line c)) last (place_of_line c)) lines x.2.0 x.2.2))

notes_rise : (w : Widths) (cells : List ListLine) (n : ℕ) (earlier : List ListLine) (last : Option Place) (lines : List LineRead) (notes : List (ℕ × Hint)) → NotesFrom w cells n earlier last lines notes → RiseFrom n notes
notes_rise w cells n earlier last [] notes e = subst (RiseFrom n) (sym e) (nothing n)
notes_rise w cells n earlier last (Other bytes ∷ lines) notes x = later n notes (notes_rise w cells (n + 1) earlier last lines notes x)
notes_rise w cells n earlier last (Cell c ∷ lines) notes x =
    subst (RiseFrom n) (sym x.2.1)
    (told_on n x.0 x.2.0
    (notes_rise w cells (n + 1) (earlier_after (is_above last (place_of_line c)) earlier c) (last_after (is_above last (place_of_line c)) last (place_of_line c)) lines x.2.0 x.2.2))

pub numbers_rise : NumbersRise
numbers_rise r faults notes fs ns = ((faults_rise r.widths (counted_in r.lines) 1 None r.lines faults fs).rising, (notes_rise r.widths (counted_in r.lines) 1 [] None r.lines notes ns).rising)
