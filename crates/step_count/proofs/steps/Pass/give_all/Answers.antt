use Rattle.std.proofs.Common.{◌≡◌, ◌+◌, ◌++◌, ◌∷◌, [], List, map, ap, ◌∙◌, subst, sym}
use Rattle.std.specs.Prelude.{◌-◌, All}
use Rattle.std.proofs.lemmas.List.Elements.{All-push}
use Rattle.list_lemmas.proofs.ListCuts.{map_join}
use Rattle.step_count.specs.declared.steps.Licence.{Licence}
use Rattle.step_count.specs.declared.view.View.{View}
use Rattle.step_count.specs.FirstViews.{unused_licences}
use Rattle.step_count.specs.Tokens.{counter_of_pass, counter_of_licence, view_of_pass, view_of_licence}
use Rattle.step_count.proofs.FirstLicences.{next_leaves, next_licence}
use Rattle.step_count.proofs.steps.Pass.give_all.Goals as goal

pub give-requires : goal.give-requires
give-requires c = (next_leaves _ c.loop-number.number c.args.regions _ c.requires.most c.loop-number-test.true c.loop-number.invariant.left).0

pub loop-number-preserved : goal.loop-number-preserved
loop-number-preserved c =
    let i = c.loop-number.invariant in
    let name = (view_of_pass c.args.self.now).named in
    let left = next_leaves name c.loop-number.number c.args.regions (view_of_pass c.loop-number.self) c.requires.most c.loop-number-test.true i.left in
    let longer = c.in_ok-push.ensures.items in
    record {
      counter = c.give.ensures.counter ∙ i.counter;
      counters = subst (λ (ls : List Licence). All (λ licence. counter_of_licence licence ≡ counter_of_pass c.args.self.now) ls) (sym longer)
          (All-push (λ licence. counter_of_licence licence ≡ counter_of_pass c.args.self.now) c.loop-number.licences.items c.give.result i.counters (c.give.ensures.licence_counter ∙ i.counter));
      left = c.give.ensures.view ∙ left.1;
      views =
          ap (λ (vs : List View). vs ++ unused_licences name (c.loop-number.number + 1) (c.args.regions - (c.loop-number.number + 1))) (ap (map view_of_licence) longer ∙ map_join view_of_licence c.loop-number.licences.items (c.give.result ∷ []))
          ∙ next_licence name c.loop-number.number c.args.regions (map view_of_licence c.loop-number.licences.items) (view_of_licence c.give.result) (unused_licences name 0 c.args.regions) c.loop-number-test.true (c.give.ensures.licence_view ∙ left.2) i.views;
    }
