use Rattle.std.proofs.Common.{sym, subst, ◌∙◌}
use Rattle.cell_model.specs.Store.{written}
use Rattle.cell_model.specs.Rising.{LinesRise}
use Rattle.map_body.proofs.CallerLemmas.{store_next}
use Rattle.cell_region.proofs.store_regions.Regions.of.Goals as goal

pub loop-line-preserved : goal.loop-line-preserved
loop-line-preserved c = record {
  content =
      c.in_ok-load.ensures.ok
      ∙ (λ i. written (c.loop-line.invariant.content i) (record { table = (c.line-item.is i).table; bytes = (c.line-item.is i).row }) (c.line-item.is i).qual (c.line-item.is i).value 0)
      ∙ sym (store_next c.args.listing.widths c.lines-line-items.result.now c.loop-line.line-index c.line-item.result (subst LinesRise (sym c.lines-line-items.ensures.lines) c.lines-line-items.ensures.rising) c.loop-line-test.true);
  data_regions = c.in_ok-load.ensures.data_regions ∙ c.loop-line.invariant.data_regions;
}
