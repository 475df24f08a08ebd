-- A cell above each of cells that rise is added behind them.
use Rattle.std.proofs.Common.{◌≡◌, inl, inr, true, List, [], ◌∷◌, ◌++◌, subst}
use Rattle.std.specs.Prelude.{Contains}
use Rattle.std.specs.Ordering.{is_lt}
use Rattle.std.specs.declared.cmp.Ordering.TheVariants.{Less}
use Rattle.list_lemmas.proofs.BoolTests.{both_true, less_if}
use Rattle.list_lemmas.proofs.ListMembers.{not_in, split}
use Rattle.list_lemmas.proofs.ListParts.{pairs_push}
use Rattle.cell_model.specs.declared.row.ListLine.{ListLine}
use Rattle.cell_model.specs.PlaceOrder.{place_cmp}
use Rattle.cell_model.specs.Rising.{LinesRise, is_above, place_of_line}

abbrev pub IsBelow : ListLine → ListLine → Type 0
IsBelow l m = place_cmp (place_of_line l) (place_of_line m) ≡ Less

each_below : (front : List ListLine) (c : ListLine) → is_above front (place_of_line c) ≡ true → (m : ListLine) → Contains front m → IsBelow m c
each_below [] c t m is = absurd (not_in m is)
each_below (l ∷ front) c t m is =
    let h = both_true (is_lt (place_cmp (place_of_line l) (place_of_line c))) (is_above front (place_of_line c)) t in
    elim (split l m front is) [
      | inl same ↦ subst (λ (k : ListLine). IsBelow k c) same (less_if (place_cmp (place_of_line l) (place_of_line c)) h.0)
      | inr later ↦ each_below front c h.1 m later
    ]

pub still_rise : (front : List ListLine) (c : ListLine) → LinesRise front → is_above front (place_of_line c) ≡ true → LinesRise (front ++ c ∷ [])
still_rise front c rise t = pairs_push IsBelow front c rise (each_below front c t)
