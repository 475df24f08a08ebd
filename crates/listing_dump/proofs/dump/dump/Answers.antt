use Rattle.std.proofs.Common.{List, subst, sym}
use Rattle.tsd_base.specs.declared.kinds.Kind.TheVariants.{Metric, TagKey, TagValue}
use Rattle.cell_model.specs.declared.row.ListLine.{ListLine}
use Rattle.cell_model.specs.KindWidths.{Widths}
use Rattle.listing_dump.specs.NameRanks.{HaveWidth}
use Rattle.listing_dump.specs.RowPlaces.{AreAllRanks, HaveRankedKeys}
use Rattle.listing_dump.proofs.SoundLines.{have_keys, have_width}
use Rattle.listing_dump.proofs.dump.dump.Goals as goal

pub of-requires-clause-metrics : goal.of-requires-clause-metrics
of-requires-clause-metrics g c =
    subst (λ (p : Widths × List ListLine). HaveWidth p.0 p.1 Metric) (λ i. ((sym c.widths-widths.ensures) i, (sym c.lines-cells.ensures.lines) i)) (have_width c.args.listing.now c.lines-cells.ensures.rising c.requires.sound Metric)

pub of-requires-clause-tag_keys : goal.of-requires-clause-tag_keys
of-requires-clause-tag_keys g c =
    subst (λ (p : Widths × List ListLine). HaveWidth p.0 p.1 TagKey) (λ i. ((sym c.widths-widths.ensures) i, (sym c.lines-cells.ensures.lines) i)) (have_width c.args.listing.now c.lines-cells.ensures.rising c.requires.sound TagKey)

pub of-requires-clause-tag_values : goal.of-requires-clause-tag_values
of-requires-clause-tag_values g c =
    subst (λ (p : Widths × List ListLine). HaveWidth p.0 p.1 TagValue) (λ i. ((sym c.widths-widths.ensures) i, (sym c.lines-cells.ensures.lines) i)) (have_width c.args.listing.now c.lines-cells.ensures.rising c.requires.sound TagValue)

pub row_places-requires-clause-keys : goal.row_places-requires-clause-keys
row_places-requires-clause-keys g c =
    subst (λ (p : Widths × List ListLine). AreAllRanks p.0 p.1 c.in_ok-ranks.ranks → HaveRankedKeys p.0 p.1 c.in_ok-ranks.ranks) (λ i. ((sym c.widths-widths.ensures) i, (sym c.lines-cells.ensures.lines) i))
    (have_keys c.args.listing.now c.lines-cells.ensures.rising c.requires.sound c.in_ok-ranks.ranks)
    (record { metrics = c.in_ok-ranks.ensures.metrics; tag_keys = c.in_ok-ranks.ensures.tag_keys; tag_values = c.in_ok-ranks.ensures.tag_values })
