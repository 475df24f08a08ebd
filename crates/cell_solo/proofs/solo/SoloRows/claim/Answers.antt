use Rattle.std.proofs.Common.{ap, ◌∙◌, ◌+◌, length, List}
use Rattle.cell_model.specs.declared.events.Step.TheVariants.{Claim}
use Rattle.cell_model.specs.declared.events.Reply.TheVariants.{ClaimReply}
use Rattle.cell_solo.specs.Turns.{Turn}
use Rattle.cell_solo.proofs.Plays.{solo_step}
use Rattle.cell_solo.proofs.solo.SoloRows.claim.Goals as goal
use Rattle.cell_solo.proofs.Plays.{claims_no_counter}

pub claim_at-requires-clause-no_counter : goal.claim_at-requires-clause-no_counter
claim_at-requires-clause-no_counter g c = claims_no_counter _ _ _ _ c.args.row.now c.args.qual.now c.args.value.now c.self.invariant c.self.view_is c.requires.knows

pub invariant_of-self-2 : goal.invariant_of-self-2
invariant_of-self-2 g c =
    let s = solo_step _ _ _ _ _ _ _ _ (Claim c.args.row.now c.args.qual.now c.args.value.now) (ClaimReply c.in_ok-claimed.claimed) _ c.self.invariant c.self.view_is c.add_claim.ensures.list c.in_ok-reserve.ensures.list c.in_ok-claimed.ensures.covers c.requires.knows (ap ClaimReply c.in_ok-claimed.ensures.reply) c.in_ok-claimed.ensures.ok (ap (λ n. n + 1) (c.len-place.ensures.len ∙ ap (λ (ts : List Turn). length ts) c.in_ok-reserve.ensures.list)) in
    s.played _

pub returns-clause-steps : goal.returns-clause-steps
returns-clause-steps g c =
    let s = solo_step _ _ _ _ _ _ _ _ (Claim c.args.row.now c.args.qual.now c.args.value.now) (ClaimReply c.in_ok-claimed.claimed) _ c.self.invariant c.self.view_is c.add_claim.ensures.list c.in_ok-reserve.ensures.list c.in_ok-claimed.ensures.covers c.requires.knows (ap ClaimReply c.in_ok-claimed.ensures.reply) c.in_ok-claimed.ensures.ok (ap (λ n. n + 1) (c.len-place.ensures.len ∙ ap (λ (ts : List Turn). length ts) c.in_ok-reserve.ensures.list)) in
    s.steps _
