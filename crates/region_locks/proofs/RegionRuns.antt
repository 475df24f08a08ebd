-- One step under a region's lock, at the tokens that the calls name.
use Rattle.std.proofs.Common.{◌≡◌, ℕ, ◌+◌, ◌≤◌, Bool, sym, subst}
use Rattle.std.specs.Prelude.{Some, Ok}
use Rattle.atomic_table.specs.Seated.{TableId}
use Rattle.cell_model.specs.declared.row.Row.{Row}
use Rattle.cell_model.specs.declared.events.Step.{Step}
use Rattle.cell_model.specs.declared.events.Reply.{Reply}
use Rattle.cell_model.specs.Store.{Store}
use Rattle.cell_model.specs.Machine.{after, reply_of}
use Rattle.step_count.specs.declared.view.Named.{Named}
use Rattle.step_count.specs.declared.view.View.{View}
use Rattle.step_count.specs.declared.steps.Pass.{Pass}
use Rattle.step_count.specs.declared.steps.Licence.{Licence}
use Rattle.step_count.specs.Tokens.{counter_of_pass, counter_of_licence, view_of_pass, view_of_licence}
use Rattle.step_count.specs.ViewSteps.{Lives, HasLicence, MayAdd, added, met, licence_alone, without_licence}
use Rattle.region_locks.specs.CallerViews.{Replays}
use Rattle.region_locks.specs.StepEntries.{HasRun, MayRun, entry_of}
use Rattle.region_locks.specs.SiteStarts.{IsHeld}
use Rattle.region_locks.proofs.RegionEntries.{did_as, may_add, has_licence}

module _ (counter : TableId) (name : Named) (number : ℕ) (content : Store) (covers : Row → Bool) (old taken entered given : Pass) (licence back : Licence) (step : Step) (reply : Reply) (place : ℕ)
    (may : MayRun counter name number old step) (held : (counter_of_licence licence ≡ counter) × Replays name number content covers (view_of_licence licence))
    (replied : (place : ℕ) → reply ≡ reply_of content place step) (taken_is : view_of_pass taken ≡ met (view_of_pass old) (view_of_licence licence)) where
  -- the entry may be added, once the licence is taken
  pub may_enter : MayAdd (view_of_pass taken) (entry_of (view_of_pass taken) step reply)
  may_enter = subst (λ (u : View). MayAdd u (entry_of u step reply)) (sym taken_is)
      (may_add name number content covers (view_of_pass old) (view_of_licence licence) step reply may.caller held.1 may.mine may.range may.knows replied)

  module _ (entered_is : view_of_pass entered ≡ added (view_of_pass taken) place (entry_of (view_of_pass taken) step reply)) where
    -- and the pass still has the licence
    pub may_give : HasLicence number (view_of_pass entered)
    may_give = has_licence name number content covers (view_of_pass old) (view_of_licence licence) (view_of_pass taken) (view_of_pass entered) place (entry_of (view_of_pass taken) step reply) held.1 taken_is entered_is

    module _ (up : (view_of_pass taken).length + 1 ≤ place) (live : Lives (view_of_pass entered)) (given_is : view_of_pass given ≡ without_licence number (view_of_pass entered)) (back_is : view_of_licence back ≡ licence_alone number (view_of_pass entered))
        (now : Store) (rows : Row → Bool) (made : now ≡ after content place step) (same : rows ≡ covers) (same_counter : counter_of_licence back ≡ counter) (same_pass : counter_of_pass given ≡ counter) where
      -- the region is as before, with the entry
      pub held_again : IsHeld counter name number now rows (Some back)
      held_again = (
        may.among,
        same_counter,
        (did_as name number content now covers rows (view_of_pass old) (view_of_licence licence) (view_of_pass taken) (view_of_pass entered) (view_of_pass given) (view_of_licence back) step reply place
            may.caller held.1 may.mine taken_is entered_is up live given_is back_is made same).1,
      )

      -- and the pass made the step
      pub has_run : {E : Type 0} → HasRun {E = E} counter name (view_of_pass old) step (Ok reply) given
      has_run =
          let d = did_as name number content now covers rows (view_of_pass old) (view_of_licence licence) (view_of_pass taken) (view_of_pass entered) (view_of_pass given) (view_of_licence back) step reply place
          may.caller held.1 may.mine taken_is entered_is up live given_is back_is made same in
          record {
            counter_is = same_pass;
            caller = d.0;
            made = record { stepped = d.2; answers = record { store = content; place = 0; is = replied 0 }; possible = d.3 };
            failed = tt;
          }
