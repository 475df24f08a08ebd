use Rattle.std.proofs.Common.{ℤ, [], ◌∷◌, ◌++◌, inr, ap, ◌∙◌, rules}
use Rattle.std.proofs.lemmas.Int.{to_z-of_z}
use Rattle.std.specs.Prelude.{FitsSigned}
use Rattle.std.specs.Int.{w64}
use Rattle.std.proofs.lemmas.Result.{err_from_is_err_and}
use Rattle.qual_codec.proofs.Progress.{some_left, two_left, shorter, next_is_first, add_on}
use Rattle.qual_codec.proofs.cell_reader.read_points.Goals as goal

pub next_item-requires : goal.next_item-requires
next_item-requires c = two_left c.args.qual.now c.items.rest.now _ _ c.items.invariant.come.begins (some_left _ _ c.is_empty.ensures c.items-test.true)

pub returns-in_err-item-clause-fault : goal.returns-in_err-item-clause-fault
returns-in_err-item-clause-fault c =
    let l = c.items in
    let p = err_from_is_err_and c.from_residual.result c.from_residual.ensures.1 in
    rw (p.1, p.2) (inr (next_is_first c.args.qual.now c.args.value.now l.rest.now l.left.now l.invariant.points l.least l.len l.fine l.coarse _ l.invariant.come (c.in_err-item.ensures.fault)))

pub items-smaller : goal.items-smaller
items-smaller c = shorter c.items.least c.items.rest.now c.in_ok-item.after.now c.in_ok-item.item (c.in_ok-item.ensures.item)

pub items-preserved : goal.items-preserved
items-preserved c =
    let l = c.items in
    let w = c.next_value-value in
    let f = c.from.ensures in
    let p = c.in_ok-push.ensures.items in
    let fits : FitsSigned w64 w.result.0 = search rules in
    add_on c.args.qual.now c.args.value.now l.rest.now l.left.now c.in_ok-item.after.now w.result.1.now c.args.dots.now.items l.dots.items c.push.new.self.items l.least l.len c.from.result l.fine l.coarse c.in_ok-item.item w.result.0 l.invariant (c.in_ok-item.ensures.item)
    (record { bytes_are = w.ensures.bytes; fits = w.ensures.fits; less = w.ensures.less }) f
    (p ∙ ap (λ (v : ℤ). l.dots.items ++ record { item = c.in_ok-item.item; value = v } ∷ []) (to_z-of_z w64 w.result.0 fits))
