use Rattle.std.proofs.Common.{List, ap, ◌∙◌}
use Rattle.cell_model.specs.declared.row.ListLine.{ListLine}
use Rattle.listing_fix.specs.Steps.{keeps_name, reverse_cells}
use Rattle.listing_fix.proofs.More.{filter_ok, named_ok}
use Rattle.listing_fix.proofs.given_names.give_names.Goals as goal

pub returns-clause-rising : goal.returns-clause-rising
returns-clause-rising c = filter_ok c.drop_names.result (keeps_name c.args.widths c.in_ok-cells.cells.items) c.in_ok-cells.cells.items c.in_ok-cells.ensures.rising c.drop_names.ensures

pub returns-clause-told : goal.returns-clause-told
returns-clause-told c =
    named_ok c.drop_names.result c.args.widths c.args.cells.items c.in_ok-more.more.items c.in_ok-cells.cells.items
    (c.in_ok-more.ensures ∙ ap (λ (ls : List ListLine). reverse_cells c.args.widths ls ls) c.deref.ensures.value) c.in_ok-cells.ensures.lines c.drop_names.ensures
