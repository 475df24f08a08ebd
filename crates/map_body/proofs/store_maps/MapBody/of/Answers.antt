use Rattle.std.proofs.Common.{List, sym, ap, subst, ◌∙◌}
use Rattle.map_body.proofs.store_maps.MapBody.of.Goals as goal
use Rattle.list_lemmas.proofs.ListCuts.{take_none, take_whole}
use Rattle.map_body.proofs.Listings.{store_next}
use Rattle.cell_model.specs.Store.{written}
use Rattle.cell_model.specs.Rising.{LinesRise}
use Rattle.cell_model.specs.Listed.{store_of}
use Rattle.cell_model.specs.declared.row.ListLine.{ListLine}

pub loop-line-init : goal.loop-line-init
loop-line-init c = c.make-body.ensures ∙ sym (ap (λ (l : List ListLine). store_of (record { widths = c.args.listing.widths; lines = l })) (take_none c.lines-line-items.result.now))

pub loop-line-preserved : goal.loop-line-preserved
loop-line-preserved c =
    c.in_ok-load.ensures.ok
    ∙ (λ i. written (c.loop-line.invariant i) (record { table = (c.line-item.is i).table; bytes = (c.line-item.is i).row }) (c.line-item.is i).qual (c.line-item.is i).value 0)
    ∙ sym (store_next c.args.listing.widths c.lines-line-items.result.now c.loop-line.line-index c.line-item.result (subst LinesRise (sym c.lines-line-items.ensures.lines) c.lines-line-items.ensures.rising) c.loop-line-test.true)

pub returns : goal.returns
returns c = c.loop-line.invariant ∙ ap (λ (l : List ListLine). store_of (record { widths = c.args.listing.widths; lines = l })) (take_whole c.lines-line-items.result.now c.loop-line.line-index c.loop-line-test.false ∙ c.lines-line-items.ensures.lines)
