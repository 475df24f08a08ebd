use Rattle.std.proofs.Common.{◌∙◌, ap, sym, subst, Bool, IsTrue}
use Rattle.row_key.specs.declared.widths.Widths.{Widths}
use Rattle.cell_model.specs.declared.row.Row.{Row}
use Rattle.cell_model.specs.Store.{Store}
use Rattle.step_count.specs.Tokens.{view_of_pass}
use Rattle.cell_region.specs.RegionLists.{cells_in, rows_of}
use Rattle.region_locks.specs.StepOrders.{step_of, Covered}
use Rattle.region_locks.specs.CallerViews.{seen_of}
use Rattle.region_locks.proofs.RegionEntries.{covered}
use Rattle.region_locks.proofs.RegionRuns.{may_enter, may_give, held_again, has_run}
use Rattle.region_locks.proofs.SeenViews.{possible}
use Rattle.region_locks.proofs.UnopenedRegions.{held_has, held_rows, held_widths}
use Rattle.region_locks.proofs.region_lock.Held.run.Goals as goal

pub apply-requires : goal.apply-requires
apply-requires g c =
    let name = g.J.StepNames.name in let m = c.requires.may in
    let widths = held_widths g.J.StepNames.counter name g.row.N (cells_in c.self.inside.region) (rows_of c.self.inside.region) c.self.inside.licence m.among c.self.invariant in
    record {
      covered =
          subst (λ (w : Widths). Covered w (rows_of c.self.inside.region) (step_of c.args.order.now)) (sym widths)
          (covered name.widths name.data_regions g.row.N _ (seen_of (view_of_pass c.args.pass.now)) (step_of c.args.order.now) (held_rows g.J.StepNames.counter name g.row.N _ _ c.self.inside.licence m.among c.self.invariant) m.mine m.range (possible name _ m.caller) m.knows);
    }

pub entered-place-requires-clause-may : goal.entered-place-requires-clause-may
entered-place-requires-clause-may g c =
    let m = c.requires.may in
    may_enter g.J.StepNames.counter g.J.StepNames.name g.row.N _ _ c.args.pass.now c.take-2.new.self c.args.pass.now c.args.pass.now c.in-Some.licence c.in-Some.licence _ _ 0 m (held_has g.J.StepNames.counter g.J.StepNames.name g.row.N (cells_in c.self.inside.region) (rows_of c.self.inside.region) c.self.inside.licence c.in-Some.licence m.among c.self.invariant (sym c.take.ensures.value ∙ c.in-Some.is)) c.in_ok-reply.ensures.reply c.take-2.ensures.view

pub stamp-requires-clause-covered : goal.stamp-requires-clause-covered
stamp-requires-clause-covered g c =
    let name = g.J.StepNames.name in let m = c.requires.may in
    let widths =
    ap (λ (s : Store). s.widths) c.in_ok-reply.ensures.ok ∙ held_widths g.J.StepNames.counter name g.row.N (cells_in c.self.inside.region) (rows_of c.self.inside.region) c.self.inside.licence m.among c.self.invariant in
    subst (λ (w : Widths). Covered w (rows_of c.apply.new.body) (step_of c.args.order.now)) (sym widths)
    (covered name.widths name.data_regions g.row.N (rows_of c.apply.new.body) (seen_of (view_of_pass c.args.pass.now)) (step_of c.args.order.now)
    (λ row i. subst (λ (f : Row → Bool). IsTrue (f row)) (sym c.apply.ensures.covers) (held_rows g.J.StepNames.counter name g.row.N _ _ c.self.inside.licence m.among c.self.invariant row i))
    m.mine m.range (possible name _ m.caller) m.knows)

pub stamp-requires-clause-applied : goal.stamp-requires-clause-applied
stamp-requires-clause-applied g c = (cells_in c.self.inside.region, record { content_is = c.in_ok-reply.ensures.ok; reply_is = c.in_ok-reply.ensures.reply 0 })

pub give-requires : goal.give-requires
give-requires g c =
    let m = c.requires.may in let e = c.entered-place.ensures in
    may_give g.J.StepNames.counter g.J.StepNames.name g.row.N _ _ c.args.pass.now c.take-2.new.self c.entered-place.new.pass c.args.pass.now c.in-Some.licence c.in-Some.licence _ _ _ m (held_has g.J.StepNames.counter g.J.StepNames.name g.row.N (cells_in c.self.inside.region) (rows_of c.self.inside.region) c.self.inside.licence c.in-Some.licence m.among c.self.invariant (sym c.take.ensures.value ∙ c.in-Some.is)) c.in_ok-reply.ensures.reply c.take-2.ensures.view e.view

pub invariant_of-self-2 : goal.invariant_of-self-2
invariant_of-self-2 g c =
    let m = c.requires.may in let e = c.entered-place.ensures in let b = c.give.ensures in let s = c.stamp.ensures in
    held_again g.J.StepNames.counter g.J.StepNames.name g.row.N _ _ c.args.pass.now c.take-2.new.self c.entered-place.new.pass c.give.new.self c.in-Some.licence c.give.result _ _ _ m (held_has g.J.StepNames.counter g.J.StepNames.name g.row.N (cells_in c.self.inside.region) (rows_of c.self.inside.region) c.self.inside.licence c.in-Some.licence m.among c.self.invariant (sym c.take.ensures.value ∙ c.in-Some.is)) c.in_ok-reply.ensures.reply c.take-2.ensures.view e.view e.up e.live b.view b.licence_view _ _
    (s.content (cells_in c.self.inside.region) (record { content_is = c.in_ok-reply.ensures.ok; reply_is = c.in_ok-reply.ensures.reply 0 })) (s.covers ∙ c.apply.ensures.covers)
    (b.licence_counter ∙ e.counter ∙ c.take-2.ensures.counter ∙ m.counter_is) (b.counter ∙ e.counter ∙ c.take-2.ensures.counter ∙ m.counter_is)

pub returns-clause-run : goal.returns-clause-run
returns-clause-run g c =
    let m = c.requires.may in let e = c.entered-place.ensures in let b = c.give.ensures in let s = c.stamp.ensures in
    has_run g.J.StepNames.counter g.J.StepNames.name g.row.N _ _ c.args.pass.now c.take-2.new.self c.entered-place.new.pass c.give.new.self c.in-Some.licence c.give.result _ _ _ m (held_has g.J.StepNames.counter g.J.StepNames.name g.row.N (cells_in c.self.inside.region) (rows_of c.self.inside.region) c.self.inside.licence c.in-Some.licence m.among c.self.invariant (sym c.take.ensures.value ∙ c.in-Some.is)) c.in_ok-reply.ensures.reply c.take-2.ensures.view e.view e.up e.live b.view b.licence_view _ _
    (s.content (cells_in c.self.inside.region) (record { content_is = c.in_ok-reply.ensures.ok; reply_is = c.in_ok-reply.ensures.reply 0 })) (s.covers ∙ c.apply.ensures.covers)
    (b.licence_counter ∙ e.counter ∙ c.take-2.ensures.counter ∙ m.counter_is) (b.counter ∙ e.counter ∙ c.take-2.ensures.counter ∙ m.counter_is)
