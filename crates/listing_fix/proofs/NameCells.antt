-- Going over names, one cell after the other.
use Rattle.std.proofs.Common.{◌≡◌, ℕ, ◌+◌, ◌<◌, ◌≤◌, Bool, cond, List, [], ◌∷◌, ◌++◌, length, drop, get_or, refl, sym, ap, ◌∙◌}
use Rattle.std.specs.Prelude.{Option, None, Some, is_some, map}
use Rattle.std.proofs.lemmas.List.{drop_all, drop_more}
use Rattle.list_lemmas.proofs.ListCuts.{joined, nothing_behind}
use Rattle.cell_model.specs.declared.row.ListLine.{ListLine}
use Rattle.cell_model.specs.KindWidths.{Widths}
use Rattle.cell_model.specs.Machine.{kind_qual}
use Rattle.cell_model.specs.IdRows.{id_row}
use Rattle.listing_check.specs.Flaws.{has_name, value_in}
use Rattle.listing_check.specs.UidCells.{UidCell, uid_cell}
use Rattle.listing_check.specs.UidCells.UidCell.{Counter, Forward, Reverse}
use Rattle.listing_fix.specs.Steps.{forward_of, is_kept_name, keeps_name, kept_by, reverse_by, reverse_cell, reverse_cells, reverse_if, without_name}
use Rattle.listing_fix.proofs.NameFolds.{forward_at}

-- a name is the row of its cell
by_row : (w : Widths) (cells : List ListLine) (l : ListLine) → reverse_by w cells l.row (forward_of (without_name (uid_cell w l))) ≡ reverse_if w cells (uid_cell w l)
by_row w cells l = at (uid_cell w l) refl
  where
    at : (u : Option UidCell) → uid_cell w l ≡ u → reverse_by w cells l.row (forward_of (without_name u)) ≡ reverse_if w cells u
    at None is = refl
    at (Some (Counter k n)) is = refl
    at (Some (Reverse k i m)) is = refl
    at (Some (Forward k m i)) is = ap (λ (r : List ℕ). cond (is_some (value_in cells (id_row w k i) (kind_qual k))) [] (reverse_cell w k i r ∷ [])) (forward_at w l.table l.row l.qual l.value k m i is).row_is

pub stays_by_row : (w : Widths) (cells : List ListLine) (l : ListLine) → kept_by w cells l.row (forward_of (without_name (uid_cell w l))) ≡ keeps_name w cells l
stays_by_row w cells l = at (uid_cell w l) refl
  where
    at : (u : Option UidCell) → uid_cell w l ≡ u → kept_by w cells l.row (forward_of (without_name u)) ≡ is_kept_name w cells u
    at None is = refl
    at (Some (Counter k n)) is = refl
    at (Some (Reverse k i m)) is = refl
    at (Some (Forward k m i)) is = ap (has_name w cells k i) (forward_at w l.table l.row l.qual l.value k m i is).row_is

-- these were given so far
abbrev pub AreGiven : Widths → List ListLine → ℕ → List ListLine → Type 0
AreGiven w cells at more = reverse_cells w cells cells ≡ more ++ reverse_cells w cells (drop at cells)

pub one_given_more : (w : Widths) (cells : List ListLine) (at : ℕ) (c : ListLine) (old new : List ListLine) → at < length cells → c ≡ get_or cells at c → AreGiven w cells at old
    → new ≡ old ++ reverse_by w cells c.row (forward_of (without_name (uid_cell w c))) → AreGiven w cells (at + 1) new
one_given_more w cells at c old new within is before push =
    before ∙ ap (λ (ls : List ListLine). old ++ reverse_cells w cells ls) (drop_more cells at c within ∙ (λ t. sym is t ∷ drop (at + 1) cells))
    ∙ sym (joined old (reverse_if w cells (uid_cell w c)) (reverse_cells w cells (drop (at + 1) cells)))
    ∙ ap (λ (ls : List ListLine). ls ++ reverse_cells w cells (drop (at + 1) cells)) (sym (push ∙ ap (λ (ls : List ListLine). old ++ ls) (by_row w cells c)))

pub all_are_given : (w : Widths) (cells : List ListLine) (at : ℕ) (more : List ListLine) → length cells ≤ at → AreGiven w cells at more → more ≡ reverse_cells w cells cells
all_are_given w cells at more end before = sym (before ∙ ap (λ (ls : List ListLine). more ++ reverse_cells w cells ls) (drop_all at cells end) ∙ nothing_behind more)

-- so far a test was made of these
abbrev pub AreTested : (ListLine → Bool) → List ListLine → ℕ → List Bool → Type 0
AreTested f cells at flags = map f cells ≡ flags ++ map f (drop at cells)

pub one_tested : (f : ListLine → Bool) (cells : List ListLine) (at : ℕ) (c : ListLine) (b : Bool) (old new : List Bool) → at < length cells → c ≡ get_or cells at c → AreTested f cells at old → b ≡ f c → new ≡ old ++ b ∷ [] → AreTested f cells (at + 1) new
one_tested f cells at c b old new within is before test push =
    before ∙ ap (λ (ls : List ListLine). old ++ map f ls) (drop_more cells at c within ∙ (λ t. sym is t ∷ drop (at + 1) cells))
    ∙ sym (joined old (f c ∷ []) (map f (drop (at + 1) cells)))
    ∙ ap (λ (bs : List Bool). bs ++ map f (drop (at + 1) cells)) (sym (push ∙ ap (λ (x : Bool). old ++ x ∷ []) test))

pub all_tested : (f : ListLine → Bool) (cells : List ListLine) (at : ℕ) (flags : List Bool) → length cells ≤ at → AreTested f cells at flags → flags ≡ map f cells
all_tested f cells at flags end before = sym (before ∙ ap (λ (ls : List ListLine). flags ++ map f ls) (drop_all at cells end) ∙ nothing_behind flags)
