use Rattle.std.proofs.Common.{T, sym, subst}
use Rattle.std.specs.FinMap.{is_sorted}
use Rattle.list_lemmas.specs.BytesOrder.{bytes_cmp}
use Rattle.row_pages.specs.PagePlaces.{IsRowGap}
use Rattle.row_pages.specs.declared.page.Page.{Page}
use Rattle.row_pages.proofs.PageSearches.{page_sorted, nowhere}
use Rattle.row_pages.proofs.page_places.place_of.Goals as goal

pub seek-requires : goal.seek-requires
seek-requires c =
    rw c.deref.ensures.value
    (subst (λ (p : Page). T (is_sorted bytes_cmp p.rows.items)) (sym c.in-Some.ensures.lookup.1) (page_sorted c.args.pages.now c.page_of-page.result c.in-Some.found.now c.requires c.in-Some.ensures.lookup.3.0))

pub returns-in-Err-clause-absent : goal.returns-in-Err-clause-absent
returns-in-Err-clause-absent c =
    nowhere c.args.row.now c.args.pages.now c.page_of-page.result c.in-Err.field-0 c.in-Some.found.now c.requires c.page_of-page.ensures c.in-Some.ensures.lookup.3.0
    (subst (λ (p : Page). IsRowGap c.args.row.now p.rows.items c.in-Err.field-0) c.in-Some.ensures.lookup.1 (rw (← c.deref.ensures.value) c.in-Err.ensures.absent))
