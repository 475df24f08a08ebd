-- Moments that the clock gives one after the other.
use Rattle.std.proofs.Common.{◌≡◌, ℕ, Bool, true, false, List, [], ◌∷◌, ◌++◌, refl, sym, subst}
use Rattle.std.specs.Prelude.{Option, None, Some, option_to_list, Result, Ok, Err, IfOk, if◌then◌else◌}
use Rattle.tsd_io.specs.Ticks.{IsCalled, Ticks}
use Rattle.tsd_daemon.specs.ConnClocks.{CalledForEach, ClockTells, Gave, Ticked}
use Rattle.tsd_daemon.specs.Exchanges.{moment_by}

-- some, and then more
moments_joined : (moments between after : Option (List ℕ)) (xs ys : List ℕ) → Gave moments xs between → Gave between ys after → Gave moments (xs ++ ys) after
moments_joined moments between after [] ys same more = subst (λ (m : Option (List ℕ)). Gave m ys after) same more
moments_joined moments between after (x ∷ xs) ys (next, tick, given) more = (next, tick, moments_joined next between after xs ys given more)

calls_joined : (calls between after : Option ℕ) (xs ys : List ℕ) → CalledForEach calls xs between → CalledForEach between ys after → CalledForEach calls (xs ++ ys) after
calls_joined calls between after [] ys same more = subst (λ (n : Option ℕ). CalledForEach n ys after) same more
calls_joined calls between after (x ∷ xs) ys (next, called, each) more = (next, called, calls_joined next between after xs ys each more)

pub ticks_joined : (clock between after : ClockTells) (xs ys : List ℕ) → Ticked clock xs between → Ticked between ys after → Ticked clock (xs ++ ys) after
ticks_joined clock between after xs ys a b = record {
  gave = moments_joined clock.moments between.moments after.moments xs ys a.gave b.gave;
  called = calls_joined clock.calls between.calls after.calls xs ys a.called b.called;
}

-- the clock wasn't called
pub no_ticks : (clock : ClockTells) → Ticked clock [] clock
no_ticks clock = record { gave = refl; called = refl }

-- the one moment of a call that asks the clock
pub moment_asked : {E : Type 0} (asked : Bool) (moments after : Option (List ℕ)) (calls calls' : Option ℕ) (r : Result ℕ E) → asked ≡ true → IfOk r (λ moment. Ticks moments moment after) → IsCalled calls calls'
    → IfOk r (λ now. Ticked (record { moments = moments; calls = calls }) (option_to_list (moment_by asked now)) (record { moments = after; calls = calls' }))
moment_asked asked moments after calls calls' (Err e) asks tick called = tt
moment_asked asked moments after calls calls' (Ok moment) asks tick called =
    subst (λ (b : Bool). Ticked (record { moments = moments; calls = calls }) (option_to_list (if b then Some moment else None)) (record { moments = after; calls = calls' })) (sym asks)
    (record { gave = (after, tick, refl); called = (calls', called, refl) })

-- none of a call that doesn't
pub moment_unasked : (asked : Bool) (clock : ClockTells) (now : ℕ) → asked ≡ false → Ticked clock (option_to_list (moment_by asked now)) clock
moment_unasked asked clock now asks = subst (λ (b : Bool). Ticked clock (option_to_list (if b then Some now else None)) clock) (sym asks) (no_ticks clock)
