-- What was served, and what is given back to the doors.
use Rattle.std.specs.Prelude.{ℕ, ◌+◌, ◌-◌, ◌≤◌, ◌≡◌, ⊤, List, ◌++◌, map, Option, Some, None}
use Rattle.link_acceptor.specs.declared.accept_loop.AcceptEnd.{AcceptEnd}
use Rattle.link_acceptor.specs.Accepting.{lost_by}
use Rattle.tsd_doors.specs.Links.{Counts, Shut}

-- what is promised holds of the connections that were served, in order, each with its own end
abbrev pub AllServed : {W K E : Type 0} → (W → List (Shut × E) → Type 0) → (K → Shut) → W → List (K × E) → Type 0
AllServed served shown work ends = served work (map (λ one. (shown one.0, one.1)) ends)

-- each connection accepted has one of these ends, unless memory ran out; no more have one
pub record AccountsFor (end : AcceptEnd) (before now : Counts) (ends : ℕ) : Type 0 where
  pub returned : now.returned ≡ before.returned
  pub port : now.port ≡ before.port
  pub few : before.out + ends ≤ now.out
  pub each : lost_by end ≡ 0 → now.out ≡ before.out + ends

-- so many more were given back
abbrev pub many_returned : ℕ → Counts → Counts
many_returned count counts = record { returned = counts.returned + count; out = counts.out - count; port = counts.port }

-- a list that is told has these more at its end
abbrev pub AllEnd : Option (List Shut) → Option (List Shut) → List Shut → Type 0
AllEnd None now last = ⊤
AllEnd (Some all) now last = now ≡ Some (all ++ last)
