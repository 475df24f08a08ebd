use Rattle.std.proofs.Common.{◌≡◌, false, sym, ap, rules, ◌∙◌}
use Rattle.cell_model.specs.declared.row.ListLine.{ListLine}
use Rattle.listing_dump.specs.NameRanks.{is_ids}
use Rattle.listing_dump.proofs.RankTurns.{none_yet, one_more, ranks_of_all}
use Rattle.listing_dump.proofs.Turns.{line_at, no_ids, none_past}
use Rattle.listing_dump.proofs.name_ranks.ranks_of.Goals as goal
use Rattle.listing_dump.proofs.name_ranks.ranks_of.Goals.{then-names-test+else-is_ids, else-names-test}

pub names-init : goal.names-init
names-init c = record { within = search rules; ranks = none_yet c.args.widths c.args.cells.now c.args.kind c.new-ranks.result c.new-ranks.ensures.empty }

pub names-preserved : goal.names-preserved
names-preserved c = record {
  within = search rules;
  ranks = one_more c.args.widths c.args.cells.now c.args.kind c.names.ranks c.add_rank.new.ranks c.names.at c.index-cells-at-in-names.result (line_at c.args.cells.now c.names.at c.index-cells-at-in-names.result c.names-test.true c.index-cells-at-in-names.is)
      c.in_ok-add_rank.ensures c.names.invariant.ranks;
}

pub returns : goal.returns
returns c =
    ranks_of_all c.args.widths c.args.cells.now c.args.kind c.names.ranks c.names.at c.requires.rising
    (elim c.names-test.branch [
      | then-names-test+else-is_ids w ↦ no_ids c.args.cells.now c.names.at w.index-cells-at.result w.names-test.true w.index-cells-at.is (ap (λ (l : ListLine). is_ids l.table) w.index-cells-at.is ∙ sym w.is_ids.ensures ∙ w.if-is_ids.false)
      | else-names-test w ↦ none_past (λ (l : ListLine). is_ids l.table ≡ false) c.args.cells.now c.names.at w.names-test.false
    ])
    c.names.invariant.ranks
