use Rattle.std.proofs.Common.{List, [], ◌∷◌, ◌++◌, length, ap, sym, ◌∙◌, arith, append_assoc}
use Rattle.std.specs.Vec.Iter.{into_iter_items}
use Rattle.tsd_base.specs.TagList.{Pair}
use Rattle.series_groups.specs.KeptSeries.{tags_kept}
use Rattle.series_groups.proofs.Finishing.{apart_more, first_kept}
use Rattle.series_groups.proofs.series_groups.apart.Goals as goal

pub finish-dots-requires-clause-kept : goal.finish-dots-requires-clause-kept
finish-dots-requires-clause-kept c =
    let of = c.requires.kept.0 in
    let q = c.args.query.now in (
      of c.in-Some.one.tags,
      first_kept c.args.how q.start q.end of c.args.series.items (into_iter_items c.loop-one.one-iterator) (into_iter_items c.next.new.self) c.in-Some.one c.loop-one.lists.items c.loop-one.least c.in-Some.ensures.steps.0 (c.loop-one.invariant.apart of c.requires.kept.1),
    )

pub loop-one-preserved : goal.loop-one-preserved
loop-one-preserved c =
    let q = c.args.query.now in
    let step = c.in-Some.ensures.steps in
    let rest = ap length step.0 in
    let later = into_iter_items c.next.new.self in
    record {
      tags = ap (λ (l : List (List Pair)). l ++ tags_kept later) c.in_ok-push.ensures ∙ append_assoc c.loop-one.tags.items (c.in-Some.one.tags ∷ []) (tags_kept later)
          ∙ ap (λ l. c.loop-one.tags.items ++ tags_kept l) (sym step.0) ∙ c.loop-one.invariant.tags;
      apart = λ of keeps.
          apart_more c.args.how q.start q.end of c.args.series.items (into_iter_items c.loop-one.one-iterator) later c.in-Some.one c.loop-one.lists.items c.keep.new.lists.items c.loop-one.least c.keep.new.least c.finish-dots.result
          step.0 c.finish-dots.ensures c.in_ok-keep.ensures (c.loop-one.invariant.apart of keeps);
      count = omega (arith, step.1, rest, c.loop-one.invariant.count);
    }
