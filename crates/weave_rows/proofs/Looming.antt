-- A store of three callers stays one, by each step and turn.
use Rattle.std.proofs.Common.{◌≡◌, ℕ, ◌+◌, ◌≤◌, false, sym, ap, subst, ◌∙◌, arith}
use Rattle.std.specs.Prelude.{if◌then◌else◌}
use Rattle.row_key.specs.Made.{three}
use Rattle.cell_model.specs.declared.events.Step.{Step}
use Rattle.cell_model.specs.declared.events.Reply.{Reply}
use Rattle.cell_model.specs.Store.{Store, no_cells}
use Rattle.cell_model.specs.History.{store_after}
use Rattle.cell_model.specs.Lawful.{IsLawful}
use Rattle.cell_model.specs.Seen.{Seen, IsPossible}
use Rattle.cell_solo.specs.Turns.{Play, history_of, opened, sight, whole_seen, Steps, Stays}
use Rattle.weave_rows.specs.WovenHistories.{IsLater, IsWoven, begun, is_put, puts_in}
use Rattle.weave_rows.specs.WovenHistories.IsLater.{same, more}
use Rattle.weave_rows.specs.Looms.{IsLoom}

-- the caller whose turn it is has made one more step
pub loom_steps : (old new : Play) (step : Step) (reply : Reply) (accepted room accepted' room' : ℕ) → IsLoom (record { play = old; accepted = accepted; room = room }) → Steps old step reply new
    → accepted' ≡ (if is_put step then accepted + 1 else accepted) → room' ≤ new.room → IsLoom (record { play = new; accepted = accepted'; room = room' })
loom_steps old new step reply accepted room accepted' room' was s put enough = record {
  callers = s.callers ∙ was.callers;
  least = subst (λ (n : ℕ). 1 ≤ n) (sym s.caller) was.least;
  most = subst (λ (n : ℕ). n ≤ 3) (sym s.caller) was.most;
  later = subst (IsLater 1 begun) (sym s.history) (more was.later was.least was.most);
  counted = put ∙ ap (λ (n : ℕ). if is_put step then n + 1 else n) was.counted ∙ sym (ap puts_in s.history);
  room = enough;
  possible = s.possible;
}

-- or nothing was done
pub loom_stays : (old new : Play) (accepted room : ℕ) → IsLoom (record { play = old; accepted = accepted; room = room }) → Stays old new → IsLoom (record { play = new; accepted = accepted; room = 0 })
loom_stays old new accepted room was stays = subst (λ (p : Play). IsLoom (record { play = p; accepted = accepted; room = 0 })) (sym stays) (record {
  callers = was.callers;
  least = was.least;
  most = was.most;
  later = was.later;
  counted = was.counted;
  room = omega arith;
  possible = was.possible;
})

-- or it is another one's turn
pub loom_turns : (old new : Play) (accepted room caller : ℕ) → IsLoom (record { play = old; accepted = accepted; room = room }) → 1 ≤ caller → caller ≤ 3 → new ≡ record old { caller = caller } → IsPossible (sight new)
    → IsLoom (record { play = new; accepted = accepted; room = room })
loom_turns old new accepted room caller was least most turned possible =
    subst (λ (p : Play). IsPossible (sight p) → IsLoom (record { play = p; accepted = accepted; room = room })) (sym turned)
    (λ may. record {
      callers = was.callers;
      least = least;
      most = most;
      later = was.later;
      counted = was.counted;
      room = was.room;
      possible = may;
    }) possible

-- what three callers of an empty store begin with
pub loom_begins : (p : Play) (base : Store) → base ≡ no_cells three → history_of p ≡ opened base 3 → sight p ≡ whole_seen (opened base 3) 1 false → p.callers ≡ 3 → IsPossible (sight p) → 8 ≤ p.room
    → IsLoom (record { play = p; accepted = 0; room = 8 })
loom_begins p base is history seen callers possible room =
    let begins : history_of p ≡ begun = history ∙ ap (λ (s : Store). opened s 3) is in
    let first : p.caller ≡ 1 = ap (λ (s : Seen). s.caller) seen in
    record {
      callers = callers;
      least = omega (arith, first);
      most = omega (arith, first);
      later = subst (IsLater 1 begun) (sym begins) same;
      counted = sym (ap puts_in begins);
      room = room;
      possible = possible;
    }

-- what it leaves
pub loom_ends : (p : Play) (accepted room : ℕ) (content : Store) → IsLoom (record { play = p; accepted = accepted; room = room }) → content ≡ store_after (history_of p) → IsLawful (history_of p) → IsWoven accepted content
loom_ends p accepted room content was is lawful = record { history = history_of p; of_three = record { lawful = lawful; later = was.later }; accepted_is = was.counted; content_is = is }
