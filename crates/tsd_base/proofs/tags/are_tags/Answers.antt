use Rattle.std.proofs.Common.{get_or, subst}
use Rattle.std.proofs.lemmas.List.{get_or_default}
use Rattle.tsd_base.specs.Alphabet.{IsName}
use Rattle.tsd_base.specs.TagList.{Pair}
use Rattle.tsd_base.proofs.TagLemmas.{sorting_starts, sorting_rises, in_order_next, in_order_all}
use Rattle.tsd_base.proofs.tags.are_tags.Goals as goal

pub loop-i-init : goal.loop-i-init
loop-i-init c = sorting_starts _

pub place_of-requires : goal.place_of-requires
place_of-requires c = sorting_rises _ _ _ _ c.loop-i.invariant

pub loop-i-preserved : goal.loop-i-preserved
loop-i-preserved c =
    let pairs = c.args.pairs.now in
    let i = c.loop-i.i in
    let first = c.index-pairs-i.result in
    let p : Pair = get_or pairs i c.index-pairs-i-in-loop-i.result in
    let same = get_or_default pairs i first c.index-pairs-i-in-loop-i.result c.loop-i-test.true in
    in_order_next pairs i c.in-Err.at p c.loop-i-test.true (get_or_default pairs i c.index-pairs-i-in-loop-i.result p c.loop-i-test.true)
    (c.bytes-in-loop-i.ensures.named, subst (λ (q : Pair). IsName q.1) same c.bytes.ensures.named) (rw c.bytes-in-loop-i.ensures.bytes at c.in-Err.ensures) c.if-at-i.false c.loop-i.invariant

pub returns : goal.returns
returns c = λ told some few. in_order_all c.args.pairs.now c.loop-i.i c.loop-i-test.false c.loop-i.invariant some few
