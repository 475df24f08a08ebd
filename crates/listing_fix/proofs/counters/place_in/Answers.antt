use Rattle.std.proofs.Common.{rules}
use Rattle.std.proofs.lemmas.Fn.{always_returns_same}
use Rattle.cell_model.specs.PlaceOrder.{place_cmp}
use Rattle.cell_model.specs.Rising.{place_of_line}
use Rattle.listing_check.proofs.CallerLemmas.{cells_searchable}
use Rattle.listing_fix.proofs.counters.place_in.Goals as goal

pub returns-in-Ok : goal.returns-in-Ok
returns-in-Ok c =
    (c.in-Ok.ensures.bound, c.in-Ok.ensures.position (λ l. place_cmp (place_of_line l) (place_of_line c.args.line.now)) (always_returns_same _ _ _ (λ a r f k. search rules)))

pub returns-in-Err : goal.returns-in-Err
returns-in-Err c =
    let is = c.in-Err.ensures.position (λ l. place_cmp (place_of_line l) (place_of_line c.args.line.now)) (always_returns_same _ _ _ (λ a r f k. search rules)) in
    let point = is (cells_searchable (place_of_line c.args.line.now) c.args.cells.now c.requires) in
    (c.in-Err.ensures.bound, point.0, point.1)
