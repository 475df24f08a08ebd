use Rattle.std.proofs.Common.{rules}
use Rattle.std.proofs.lemmas.Fn.{always_returns_same}
use Rattle.list_lemmas.specs.BytesOrder.{bytes_cmp}
use Rattle.row_pages.proofs.PageSearches.{pages_searchable, page_found, page_before}
use Rattle.row_pages.proofs.page_places.page_of.Goals as goal

pub returns-in-Ok : goal.returns-in-Ok
returns-in-Ok c =
    let is = c.in-Ok.ensures.position (λ p. bytes_cmp p.least c.args.row.now) (always_returns_same _ _ _ (λ a r f k. search rules)) in
    page_found c.args.row.now c.args.pages.now c.in-Ok.page c.requires c.in-Ok.ensures.bound is

pub returns-in-Err : goal.returns-in-Err
returns-in-Err c =
    let is = c.in-Err.ensures.position (λ p. bytes_cmp p.least c.args.row.now) (always_returns_same _ _ _ (λ a r f k. search rules)) in
    let point = is (pages_searchable c.args.row.now c.args.pages.now c.requires) in
    rw c.saturating_sub.ensures (page_before c.args.row.now c.args.pages.now c.in-Err.behind c.requires c.in-Err.ensures.bound point.0 point.1)
