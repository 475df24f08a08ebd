use Rattle.std.proofs.Common.{map, ap, sym, ◌∙◌, length, subst, ◌<◌, ◌-◌, List}
use Rattle.span_merge.specs.Spans.{KeptSpan, kept_span}
use Rattle.span_merge.specs.Places.{LastHas, LastHasNot, HasPut}
use Rattle.span_merge.proofs.PlaceLemmas.{kept_at_last, grown_at_last, new_behind_last, same_at_last}
use Rattle.span_merge.proofs.KeptLemmas.{on_ok, on_err}
use Rattle.span_merge.proofs.places.add_last.Goals as goal

pub append-requires : goal.append-requires
append-requires c =
    let list = c.args.list.now.items
    in let has : (0 < length list) × LastHas c.args.pairs.now list = subst (λ l. (0 < length l) × LastHas c.args.pairs.now l) c.as_slice.ensures.value c.if-has_last.ensures
    in c.requires.later c.index_mut.result.now.kept
    (kept_at_last list c.len-last.result c.index_mut.result.now c.args.pairs.now c.requires.ordered has.1 has.0 (c.len-last.ensures ∙ sym c.as_slice.ensures.len ∙ ap length c.as_slice.ensures.value) c.index_mut.ensures.value)

pub returns-then-has_last-clause-ok : goal.returns-then-has_last-clause-ok
returns-then-has_last-clause-ok c =
    let list = c.args.list.now.items
    in let has : (0 < length list) × LastHas c.args.pairs.now list = subst (λ l. (0 < length l) × LastHas c.args.pairs.now l) c.as_slice.ensures.value c.if-has_last.ensures
    in on_ok c.append.result
    (grown_at_last c.args.how list c.len-last.result c.index_mut.result.now c.append.new.series c.args.pairs.now c.args.dots c.requires.ordered has.1 has.0 (c.len-last.ensures ∙ sym c.as_slice.ensures.len ∙ ap length c.as_slice.ensures.value) c.index_mut.ensures.value c.append.ensures.pairs)
    c.append.ensures.ok

pub returns-then-has_last-clause-err : goal.returns-then-has_last-clause-err
returns-then-has_last-clause-err c =
    on_err c.append.result (same_at_last c.args.list.now.items (c.len-last.result - 1) c.index_mut.result.now c.append.new.series c.index_mut.ensures.value c.append.ensures.pairs) c.append.ensures.err

pub returns-clause-ok : goal.returns-clause-ok
returns-clause-ok c =
    subst (λ (l : List KeptSpan). HasPut c.args.how (map kept_span c.args.list.now.items) c.args.pairs.now c.args.dots l) (ap (map kept_span) (sym c.in_ok-push.ensures.items))
    (new_behind_last c.args.how c.args.list.now.items c.in_ok-series_of.field-0 c.args.pairs.now c.args.dots c.requires.ordered c.requires.at_most
    (subst (LastHasNot c.args.pairs.now) c.as_slice.ensures.value c.if-has_last.ensures) c.in_ok-series_of.ensures.pairs c.in_ok-series_of.ensures.kept)
