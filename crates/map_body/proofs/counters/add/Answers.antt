use Rattle.std.proofs.Common.{List, [], ◌∷◌, ◌++◌, map, ap, ◌∙◌}
use Rattle.map_body.proofs.counters.add.Goals as goal
use Rattle.map_body.proofs.CellLines.{line_at, same_lines}
use Rattle.map_body.proofs.Counted.{one_shown}
use Rattle.map_body.specs.Counting.{shown}
use Rattle.cell_model.specs.declared.row.ListLine.{ListLine}
use Rattle.row_key.specs.declared.tables.Table.TheVariants.{Ids}
use Rattle.map_body.proofs.Rise.{shown_above}

pub add_line-requires : goal.add_line-requires
add_line-requires c = shown_above c.args.kind c.args.counter c.name.result.now c.to_be_bytes-value.result c.args.listing.now c.if-counter-eq0.false c.name.ensures c.to_be_bytes-value.ensures c.requires

pub returns : goal.returns
returns c = c.in_ok-add_line.ensures ∙ ap (λ (l : List ListLine). c.args.listing.now ++ l)
    (ap (map (line_at Ids (0 ∷ []))) (one_shown c.args.kind c.args.counter c.name.result.now c.to_be_bytes-value.result c.if-counter-eq0.false c.name.ensures c.to_be_bytes-value.ensures) ∙ same_lines Ids (0 ∷ []) (shown c.args.kind c.args.counter))
