-- A daemon stays at work, whatever those behind it and it itself step.
use Rattle.std.proofs.Common.{◌≡◌, ◌≢◌, ℕ, ◌+◌, ◌≤◌, Bool, false, refl, sym, ap, subst, ◌∙◌, arith}
use Rattle.std.proofs.lemmas.Bool.{false≢true}
use Rattle.std.specs.Prelude.{Option, Some, Result, Ok, Err, IsOk, IfOk, OnOk, OnErr, nat_eq}
use Rattle.cell_model.specs.declared.events.Step.{Step}
use Rattle.cell_model.specs.declared.events.Reply.{Reply}
use Rattle.cell_model.specs.History.{History}
use Rattle.cell_model.specs.Seen.{Waited}
use Rattle.cell_solo.specs.Turns.{Play, history_of, sight, whole_seen, Steps, Stays}
use Rattle.weave_rows.specs.WovenHistories.{IsLater}
use Rattle.weave_rows.specs.WovenHistories.IsLater.{same, more}
use Rattle.weave_rows.specs.Looms.{Loomed}
use Rattle.weave_rows.specs.DaemonPlays.{DaemonPlay, IsAtWork, loom_in}
use Rattle.weave_rows.proofs.Histories.{later_from, later_joined, later_waits}

-- what those behind a caller do is done by others
pub waits_play : (p q : Play) → p.callers ≡ 3 → q.callers ≡ 3 → q.caller ≡ p.caller → IsLater (p.caller + 1) (history_of p) (history_of q) → Waited (sight p) (sight q)
waits_play p q three three' turn later =
    subst (λ (x : Bool × Bool × ℕ). Waited (whole_seen (history_of p) p.caller x.0) (whole_seen (history_of q) x.2 x.1))
    (λ i. (sym (ap (λ (n : ℕ). nat_eq n 1) three) i, sym (ap (λ (n : ℕ). nat_eq n 1) three') i, sym turn i))
    (later_waits p.caller later)

-- nothing was done
pub later_stays : (n : ℕ) (p q : Play) → q ≡ p → IsLater n (history_of p) (history_of q)
later_stays n p q is = subst (λ (x : Play). IsLater n (history_of p) (history_of x)) (sym is) same

pub working_draws : {N : Type 0} (began : History) (caller depth : ℕ) (l l' : Loomed) (next next' : N) → IsAtWork began caller depth (Some (l, next)) → l'.play.caller ≡ l.play.caller
    → IsLater (l.play.caller + 1) (history_of l.play) (history_of l'.play) → IsAtWork began caller depth (Some (l', next'))
working_draws began caller depth l l' next next' was turn later = record {
  there = refl;
  turn = turn ∙ was.turn;
  least = was.least;
  most = was.most;
  later = let at = was.turn in later_joined caller was.later (later_from caller (l.play.caller + 1) (omega (arith, at)) later);
}

pub working_steps : {N : Type 0} (began : History) (caller depth : ℕ) (l l' : Loomed) (next next' : N) (step : Step) (reply : Reply) → IsAtWork began caller depth (Some (l, next)) → Steps l.play step reply l'.play → IsAtWork began caller depth (Some (l', next'))
working_steps began caller depth l l' next next' step reply was s = record {
  there = refl;
  turn = s.caller ∙ was.turn;
  least = was.least;
  most = was.most;
  later = let at = was.turn in let most = was.most in subst (IsLater caller began) (sym s.history) (more was.later (omega (arith, at)) (omega (arith, at, most)));
}

pub working_stays : {N : Type 0} (began : History) (caller depth : ℕ) (l l' : Loomed) (next next' : N) → IsAtWork began caller depth (Some (l, next)) → Stays l.play l'.play → IsAtWork began caller depth (Some (l', next'))
working_stays began caller depth l l' next next' was stays = record {
  there = refl;
  turn = ap (λ (p : Play). p.caller) stays ∙ was.turn;
  least = was.least;
  most = was.most;
  later = subst (λ (p : Play). IsLater caller began (history_of p)) (sym stays) was.later;
}

-- a step was made or refused
pub working : {N T E : Type 0} (began : History) (caller depth : ℕ) (l l' : Loomed) (next next' : N) (step : Step) (reply : T → Reply) (r : Result T E) → IsAtWork began caller depth (Some (l, next))
    → IfOk r (λ v. Steps l.play step (reply v) l'.play) → OnErr r (Stays l.play l'.play) → IsAtWork began caller depth (Some (l', next'))
working began caller depth l l' next next' step reply (Ok v) was steps stays = working_steps began caller depth l l' next next' step (reply v) was steps
working began caller depth l l' next next' step reply (Err e) was steps stays = working_stays began caller depth l l' next next' was stays

pub working_put : {N T E : Type 0} (began : History) (caller depth : ℕ) (l l' : Loomed) (next next' : N) (step : Step) (reply : Reply) (r : Result T E) → IsAtWork began caller depth (Some (l, next))
    → OnOk r (Steps l.play step reply l'.play) → OnErr r (Stays l.play l'.play) → IsAtWork began caller depth (Some (l', next'))
working_put began caller depth l l' next next' step reply (Ok v) was steps stays = working_steps began caller depth l l' next next' step reply was steps
working_put began caller depth l l' next next' step reply (Err e) was steps stays = working_stays began caller depth l l' next next' was stays

-- and one that is never refused
pub working_sure : {N T E : Type 0} (began : History) (caller depth : ℕ) (l l' : Loomed) (next next' : N) (step : Step) (reply : T → Reply) (r : Result T E) → IsAtWork began caller depth (Some (l, next))
    → IfOk r (λ v. Steps l.play step (reply v) l'.play) → IsOk r → IsAtWork began caller depth (Some (l', next'))
working_sure began caller depth l l' next next' step reply (Ok v) was steps never = working_steps began caller depth l l' next next' step (reply v) was steps
working_sure began caller depth l l' next next' step reply (Err e) was steps never = absurd (false≢true never)

pub if_ok : {T E : Type 0} {P Q : T → Type 0} (r : Result T E) → ((x : T) → P x → Q x) → IfOk r P → IfOk r Q
if_ok (Ok x) f p = f x p
if_ok (Err e) f p = p

-- what the rows saw before a step of those behind, and what they see then
pub may_waits : {N : Type 0} (old : DaemonPlay) (inner : Option (Loomed × N)) (stops : ℕ) (l l' : Loomed) (next : N) → ◌≡◌ {A = DaemonPlay} (record { loom = loom_in inner; stops = stops }) old → inner ≡ Some (l, next)
    → l.play.callers ≡ 3 → l'.play.callers ≡ 3 → l'.play.caller ≡ l.play.caller → IsLater (l.play.caller + 1) (history_of l.play) (history_of l'.play) → Waited (sight old.loom.play) (sight l'.play)
may_waits old inner stops l l' next view is three three' turn later =
    subst (λ (x : Loomed). Waited (sight x.play) (sight l'.play)) (sym (ap loom_in is) ∙ ap (λ (d : DaemonPlay). d.loom) view) (waits_play l.play l'.play three three' turn later)

pub mid_waits : {N : Type 0} (old : Play) (v : DaemonPlay) (inner : Option (Loomed × N)) (stops : ℕ) (l : Loomed) (next : N) → Waited (sight old) (sight v.loom.play) → ◌≡◌ {A = DaemonPlay} (record { loom = loom_in inner; stops = stops }) v
    → inner ≡ Some (l, next) → Waited (sight old) (sight l.play)
mid_waits old v inner stops l next w view is = subst (λ (x : Loomed). Waited (sight old) (sight x.play)) (sym (ap (λ (d : DaemonPlay). d.loom) view) ∙ ap loom_in is) w

-- an operation begins
pub working_begins : {N : Type 0} (began : History) (caller depth : ℕ) (l : Loomed) (next : N) → history_of l.play ≡ began → l.play.caller ≡ caller → 1 ≤ l.play.caller → l.play.caller + depth ≤ 3 → IsAtWork began caller depth (Some (l, next))
working_begins began caller depth l next is turn least most = record {
  there = refl;
  turn = turn;
  least = omega (arith, turn, least);
  most = omega (arith, turn, most);
  later = subst (IsLater caller began) (sym is) same;
}
