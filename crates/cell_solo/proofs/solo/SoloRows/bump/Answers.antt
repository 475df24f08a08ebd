use Rattle.std.proofs.Common.{ap, refl, ◌+◌}
use Rattle.cell_model.specs.declared.events.Step.TheVariants.{Bump}
use Rattle.cell_model.specs.declared.events.Reply.TheVariants.{BumpReply}
use Rattle.cell_solo.proofs.Plays.{solo_step}
use Rattle.cell_solo.proofs.solo.SoloRows.bump.Goals as goal

pub invariant_of-self : goal.invariant_of-self
invariant_of-self g c =
    let s = solo_step _ _ _ _ _ _ _ _ (Bump c.args.kind) (BumpReply c.bump_at-bumped.result) _ c.self.invariant c.self.view_is c.add_bump.ensures.list refl c.bump_at-bumped.ensures.covers tt (ap BumpReply c.bump_at-bumped.ensures.reply) c.bump_at-bumped.ensures.content (ap (λ n. n + 1) c.len-place.ensures.len) in
    s.played _

pub returns-clause-steps : goal.returns-clause-steps
returns-clause-steps g c =
    let s = solo_step _ _ _ _ _ _ _ _ (Bump c.args.kind) (BumpReply c.bump_at-bumped.result) _ c.self.invariant c.self.view_is c.add_bump.ensures.list refl c.bump_at-bumped.ensures.covers tt (ap BumpReply c.bump_at-bumped.ensures.reply) c.bump_at-bumped.ensures.content (ap (λ n. n + 1) c.len-place.ensures.len) in
    s.steps _
