use Rattle.std.proofs.Common.{Bool, List, ap, map, ◌∙◌}
use Rattle.cell_model.specs.declared.row.ListLine.{ListLine}
use Rattle.listing_fix.specs.Steps.{chosen, keeps_name}
use Rattle.listing_fix.proofs.Chosen.{chosen_map}
use Rattle.listing_fix.proofs.given_names.drop_names.Goals as goal

pub returns : goal.returns
returns c =
    let flags = c.deref-2.ensures.value ∙ c.in_ok-flags.ensures ∙ ap (λ (ls : List ListLine). map (keeps_name c.args.widths ls) ls) c.deref.ensures.value in
    c.keep_flagged.ensures ∙ ap (λ (fs : List Bool). chosen fs c.args.cells.items) flags ∙ chosen_map (keeps_name c.args.widths c.args.cells.items) c.args.cells.items
