use Rattle.std.proofs.Common.{◌≡◌, ◌++◌, map}
use Rattle.std.specs.Prelude.{◌-◌, All}
use Rattle.step_count.specs.FirstViews.{opener, unused_licences}
use Rattle.step_count.specs.Tokens.{counter_of_pass, counter_of_licence, view_of_pass, view_of_licence}
use Rattle.step_count.proofs.steps.Pass.give_all.Given as goal

abbrev pub invariant-loop-number : goal.invariant-loop-number
invariant-loop-number l = record {
  counter : counter_of_pass l.self ≡ counter_of_pass l.fn.self;
  counters : All (λ licence. counter_of_licence licence ≡ counter_of_pass l.fn.self) l.licences.items;
  left : view_of_pass l.self ≡ opener (view_of_pass l.fn.self).named l.number (l.regions - l.number);
  views : map view_of_licence l.licences.items ++ unused_licences (view_of_pass l.fn.self).named l.number (l.regions - l.number) ≡ unused_licences (view_of_pass l.fn.self).named 0 l.regions;
}
