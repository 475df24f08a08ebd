-- Nothing done is nothing later.
use Rattle.std.proofs.Common.{◌≡◌, ℕ, sym, ap, subst, ◌∙◌}
use Rattle.cell_model.specs.History.{History}
use Rattle.cell_solo.specs.Turns.{history_of}
use Rattle.weave_rows.specs.WovenHistories.{IsLater}
use Rattle.weave_rows.specs.WovenHistories.IsLater.{same}
use Rattle.weave_rows.specs.Looms.{Loomed}

-- a store to which nothing was done
pub later_same : (n : ℕ) (h : History) (a b : Loomed) → history_of a.play ≡ h → b ≡ a → IsLater n h (history_of b.play)
later_same n h a b began is = subst (IsLater n h) (sym (ap (λ (l : Loomed). history_of l.play) is ∙ began)) same
