-- Which seat has a number, after one view has changed.
use Rattle.std.proofs.Common.{◌≡◌, ◌≢◌, ◌⊎◌, inl, inr, ℕ, zero, suc, ◌<◌, List, [], ◌∷◌, ◌++◌, length, set, sym, ap, ◌∙◌, subst, ⊎_elim, arith}
use Rattle.std.specs.Prelude.{Contains}
use mathlib.Core.Option.{some, some-injective, some-ne-none}
use mathlib.Core.Logic.{dite}
use native.Mathlib.Decide.{ℕ_discrete}
use lib.ListN.{get_elem?}
use Rattle.atomic_table.specs.Table.{State}
use Rattle.atomic_table.proofs.Lists.{at_set, at_longer, set_here, set_else}
use Rattle.cell_model.specs.declared.events.Placed.{Placed}
use Rattle.step_count.specs.declared.view.View.{View}
use Rattle.step_count.specs.CounterRule.{Log, Holder, IsHeld, NoTwoHold}

abbrev pub CounterState : Type 0
CounterState = State (Unit {0}) View

-- who has a number after one view has changed
pub held_set : (f : View → List Log) (views : List View) (id : ℕ) (w : View) (c i : ℕ) → Holder f (set views id w) c i → ((i ≡ id) × ((log : List Placed) × Contains (f w) (c, log))) ⊎ ((i ≢ id) × Holder f views c i)
held_set f views id w c i h =
    ⊎_elim (λ t. inl (t.0, (h.log, subst (λ (u : View). Contains (f u) (c, h.log)) (sym t.1) h.has))) (λ t. inr (t.0, record { view = h.view; log = h.log; at = t.1; has = h.has })) (at_set views id i w h.view h.at)

pub one_set : (f : View → List Log) (views : List View) (id : ℕ) (v w : View) → get_elem? views id ≡ some v → ((c : ℕ) (log : List Placed) → Contains (f w) (c, log) → (log0 : List Placed) × Contains (f v) (c, log0)) → NoTwoHold f views → NoTwoHold f (set views id w)
one_set f views id v w at less one c i j hi hj = one c i j (back i hi) (back j hj)
  where
    back : (i : ℕ) → Holder f (set views id w) c i → Holder f views c i
    back i h = ⊎_elim (λ t. let l = less c t.1.0 t.1.1 in record { view = v; log = l.0; at = subst (λ k. get_elem? views k ≡ some v) (sym t.0) at; has = l.1 }) (λ t. t.1) (held_set f views id w c i h)

pub within_list : (xs : List View) (i : ℕ) (a : View) → get_elem? xs i ≡ some a → i < length xs
within_list [] i a e = absurd (some-ne-none a (sym e))
within_list (x ∷ xs) zero a e = omega arith
within_list (x ∷ xs) (suc i) a e = let t = within_list xs i a e in omega arith

-- a number that was held is held still, where the seat's new view has each that it had
pub still_held : (f : View → List Log) (views : List View) (id : ℕ) (v w : View) → get_elem? views id ≡ some v → (c : ℕ) → ((log : List Placed) → Contains (f v) (c, log) → (log' : List Placed) × Contains (f w) (c, log'))
    → IsHeld f views c → IsHeld f (set views id w) c
still_held f views id v w at c more t = dite (ℕ_discrete t.0 id)
    (λ same.
    let l = more t.1.log (subst (λ (u : View). Contains (f u) (c, t.1.log)) (some-injective t.1.view v (sym t.1.at ∙ ap (get_elem? views) same ∙ at)) t.1.has) in
    (id, record { view = w; log = l.0; at = set_here views id w (within_list views id v at); has = l.1 }))
    (λ apart. (t.0, record { view = t.1.view; log = t.1.log; at = set_else views id t.0 w apart ∙ t.1.at; has = t.1.has }))

-- and where one seat more has come
pub longer_held : (f : View → List Log) (views : List View) (w : View) (c : ℕ) → IsHeld f views c → IsHeld f (views ++ w ∷ []) c
longer_held f views w c t = (t.0, record { view = t.1.view; log = t.1.log; at = at_longer views (w ∷ []) t.0 t.1.view t.1.at; has = t.1.has })
