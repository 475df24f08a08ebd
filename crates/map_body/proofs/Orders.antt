-- The orders of rows and of places.
use Rattle.std.proofs.Common.{◌≡◌, ◌≢◌, ◌⊎◌, inl, inr, Bool, true, false, refl, sym, ap, ◌∙◌}
use Rattle.std.specs.declared.cmp.Ordering.{Ordering}
use Rattle.std.specs.declared.cmp.Ordering.TheVariants.{Equal}
use Rattle.std.specs.Ordering.{eq_by_cmp, is_eq}
use Rattle.std.specs.Cmp.{IsTotalOrder, tied_itself}
use Rattle.std.specs.FinMap.{IsAntisymmetric}
use Rattle.cell_model.specs.declared.row.Row.{Row}
use Rattle.cell_model.specs.PlaceOrder.{row_cmp}
use Rattle.cell_model.proofs.CallerLemmas.{rows_total}
use Rattle.list_lemmas.proofs.BoolTests.{is_equal}

pub same_row : (r : Row) → row_cmp r r ≡ Equal
same_row r = tied_itself rows_total r

module _ {K : Type 0} {R : K → K → Ordering} (o : IsTotalOrder R) (exact : IsAntisymmetric R) where
  pub ties : (p : K) → eq_by_cmp R p p ≡ true
  ties p = ap is_eq (tied_itself o p)

  pub parts : (p q : K) → p ≢ q → eq_by_cmp R p q ≡ false
  parts p q ne = at (eq_by_cmp R p q) refl
    where
      at : (b : Bool) → eq_by_cmp R p q ≡ b → b ≡ false
      at true e = absurd (ne (exact p q (is_equal _ e)))
      at false e = refl

  pub one_or_other : (p q : K) → (p ≡ q) ⊎ (p ≢ q)
  one_or_other p q = at (eq_by_cmp R p q) refl
    where
      at : (b : Bool) → eq_by_cmp R p q ≡ b → (p ≡ q) ⊎ (p ≢ q)
      at true e = inl (exact p q (is_equal _ e))
      at false e = inr (λ same. let t : true ≡ false = sym (ties q) ∙ ap (λ x. eq_by_cmp R x q) (sym same) ∙ e in cc)
