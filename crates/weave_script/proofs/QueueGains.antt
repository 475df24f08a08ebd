-- Queues that gain a row, or none.
use Rattle.std.proofs.Common.{◌≡◌, inl, List, [], ◌∷◌, ⊎_elim, lit≤, subst, sym}
use Rattle.list_lemmas.proofs.ListMembers.{not_in}
use Rattle.cell_model.specs.declared.answers.Stored.{Stored}
use Rattle.compactor.specs.Queues.{HasRows}
use Rattle.weave_script.specs.OperationQueues.{GainsOne}

pub gains_row : (before after : List Stored) (stored : Stored) → HasRows before (stored ∷ []) after → GainsOne before after
gains_row before after stored has = record { rows = stored ∷ []; has = has; few = lit≤ tt }

pub gains_none : (before after : List Stored) → after ≡ before → GainsOne before after
gains_none before after same =
    subst (GainsOne before) (sym same)
    (record { rows = []; has = λ s. (λ c. inl c, λ e. ⊎_elim (λ c. c) (λ c. absurd (not_in s c)) e); few = lit≤ tt })
