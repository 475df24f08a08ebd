-- Two places are one or two.
use Rattle.std.proofs.Common.{◌≡◌, ◌≢◌, Bool, true, false, refl, ap}
use Rattle.std.specs.Ordering.{eq_by_cmp, is_eq}
use Rattle.std.specs.Cmp.{tied_itself}
use Rattle.list_lemmas.proofs.BoolTests.{is_equal}
use Rattle.cell_model.specs.declared.events.Place.{Place}
use Rattle.cell_model.specs.Store.{place_cmp}
use Rattle.cell_model.proofs.CallerLemmas.{places_total, exact_places}

pub tied : (p : Place) → eq_by_cmp place_cmp p p ≡ true
tied p = ap is_eq (tied_itself places_total p)

pub untied : (p q : Place) → p ≢ q → eq_by_cmp place_cmp p q ≡ false
untied p q ne = at (eq_by_cmp place_cmp p q) refl
  where
    at : (b : Bool) → eq_by_cmp place_cmp p q ≡ b → b ≡ false
    at true e = absurd (ne (exact_places p q (is_equal _ e)))
    at false e = refl
