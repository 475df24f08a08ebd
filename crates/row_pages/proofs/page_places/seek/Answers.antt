use Rattle.std.proofs.Common.{rules}
use Rattle.std.proofs.lemmas.Fn.{always_returns_same}
use Rattle.list_lemmas.specs.BytesOrder.{bytes_cmp}
use Rattle.row_pages.proofs.PageSearches.{search_found, search_gap}
use Rattle.row_pages.proofs.page_places.seek.Goals as goal

pub returns-clause-found : goal.returns-clause-found
returns-clause-found c =
    search_found c.args.row.now c.args.rows.now c.binary_search_by.result c.binary_search_by.ensures.bound (c.binary_search_by.ensures.position (λ e. bytes_cmp e.0 c.args.row.now) (always_returns_same _ _ _ (λ a r f k. search rules)))

pub returns-clause-absent : goal.returns-clause-absent
returns-clause-absent c =
    search_gap c.args.row.now c.args.rows.now c.binary_search_by.result c.requires c.binary_search_by.ensures.bound (c.binary_search_by.ensures.position (λ e. bytes_cmp e.0 c.args.row.now) (always_returns_same _ _ _ (λ a r f k. search rules)))
