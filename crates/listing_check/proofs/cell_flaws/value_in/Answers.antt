use Rattle.std.proofs.Common.{◌∙◌, ap, rules, sym}
use Rattle.std.proofs.lemmas.Fn.{always_returns_same}
use Rattle.cell_model.specs.declared.row.ListLine.{ListLine}
use Rattle.cell_model.specs.declared.row.Row.{Row}
use Rattle.cell_model.specs.PlaceOrder.{place_cmp}
use Rattle.cell_model.specs.Store.{place_of}
use Rattle.cell_model.specs.Rising.{place_of_line}
use Rattle.listing_check.proofs.Searches.{cells_searchable, value_absent, value_found}
use Rattle.listing_check.proofs.cell_flaws.value_in.Goals as goal

pub returns-in-Ok : goal.returns-in-Ok
returns-in-Ok c =
    let row : Row = record { table = c.args.table; bytes = c.args.row.now } in
    let is = c.in-Ok.ensures.position (λ l. place_cmp (place_of_line l) (place_of row c.args.qual.now)) (always_returns_same _ _ _ (λ a r f k. search rules)) in
    value_found c.args.cells.now row c.args.qual.now c.in-Ok.at c.index-cells-at.result c.list.result.now c.requires c.in-Ok.ensures.bound is c.index-cells-at.is (c.list.ensures ∙ ap (λ (l : ListLine). l.value) (sym c.index-cells-at.is))

pub returns-in-Err : goal.returns-in-Err
returns-in-Err c =
    let row : Row = record { table = c.args.table; bytes = c.args.row.now } in
    let is = c.in-Err.ensures.position (λ l. place_cmp (place_of_line l) (place_of row c.args.qual.now)) (always_returns_same _ _ _ (λ a r f k. search rules)) in
    let point = is (cells_searchable (place_of row c.args.qual.now) c.args.cells.now c.requires) in
    value_absent c.args.cells.now row c.args.qual.now c.in-Err.field-0 point.0 point.1
