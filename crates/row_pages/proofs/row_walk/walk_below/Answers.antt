use Rattle.std.proofs.Common.{◌++◌, ℕ, List, T, take, sym, ap, subst, ◌∙◌}
use Rattle.std.specs.FinMap.{is_sorted}
use Rattle.list_lemmas.specs.BytesOrder.{bytes_cmp}
use Rattle.packed_cells.specs.Keyed.{CellMap}
use Rattle.row_pages.specs.Pages.{rows_in}
use Rattle.row_pages.specs.PagePlaces.{IsRowStart}
use Rattle.row_pages.specs.declared.page.Page.{Page}
use Rattle.row_pages.proofs.PageSearches.{page_sorted, below_cut}
use Rattle.row_pages.proofs.row_walk.walk_below.Goals as goal

pub start_of-requires : goal.start_of-requires
start_of-requires c =
    rw c.deref-in-Some.ensures.value
    (subst (λ (p : Page). T (is_sorted bytes_cmp p.rows.items)) (sym c.in-Some.ensures.lookup.1) (page_sorted c.args.pages.now c.page_of-page.result c.in-Some.found.now c.requires c.in-Some.ensures.lookup.3.0))

pub returns-in-Some : goal.returns-in-Some
returns-in-Some c =
    ap (λ (es : List (List ℕ × CellMap)). rows_in (take c.page_of-page.result c.args.pages.now) ++ take c.start_of.result es) c.deref.ensures.value
    ∙ below_cut c.args.to.now c.args.pages.now c.page_of-page.result c.start_of.result c.in-Some.found.now c.requires c.page_of-page.ensures c.in-Some.ensures.lookup.3.0 c.in-Some.ensures.lookup.1
    (subst (λ (es : List (List ℕ × CellMap)). IsRowStart c.args.to.now es c.start_of.result) c.deref-in-Some.ensures.value c.start_of.ensures.start)
