use Rattle.std.proofs.Common.{rules, ◌≡◌, ◌∙◌, ◌++◌, ◌∷◌, [], sym, ap, subst, append_assoc, arith}
use Rattle.std.specs.Vec.Iter.{into_iter_items}
use Rattle.list_lemmas.proofs.ListParts.{length_push}
use Rattle.row_compactors.specs.Upkeep.{TakesPlaces}
use Rattle.row_compactors.proofs.TakenPlaces.{more_places, no_places}
use Rattle.row_compactors.proofs.compactor_seats.take_compactors_back.Goals as goal

pub loop-worker-init : goal.loop-worker-init
loop-worker-init g c =
    let items : into_iter_items c.into_iter-worker-iterator.result ≡ c.args.workers.items = search rules in
    record { whole = sym items; len = search rules; places = no_places _; clock_later = omega arith }

pub loop-worker-preserved : goal.loop-worker-preserved
loop-worker-preserved g c =
    let i = c.loop-worker.invariant in let e = c.take_compactor_back.ensures in
    record {
      whole = i.whole ∙ ap (λ l. c.loop-worker.yielded ++ l) c.in-Some.ensures.steps.0 ∙ sym (append_assoc c.loop-worker.yielded (c.in-Some.worker ∷ []) _);
      len = search rules;
      places = subst (λ n. TakesPlaces c.args.own.now n c.take_compactor_back.new.own) (sym (length_push c.loop-worker.yielded c.in-Some.worker)) (more_places _ _ _ _ 1 e.different i.places e.place);
      clock_later = omega (arith, i.clock_later, e.clock_later);
    }
