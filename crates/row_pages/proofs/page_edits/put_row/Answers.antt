use Rattle.std.proofs.Common.{◌≡◌, ◌<◌, T, List, None, length, sym, subst, arith}
use Rattle.std.specs.FinMap.{is_sorted, find}
use Rattle.list_lemmas.specs.BytesOrder.{bytes_cmp}
use Rattle.row_pages.specs.PagePlaces.{IsPageOf}
use Rattle.row_pages.specs.declared.page.Page.{Page}
use Rattle.row_pages.proofs.PageSearches.{page_sorted, not_in_page, gap_in}
use Rattle.row_pages.proofs.page_edits.put_row.Goals as goal

pub start_of-requires : goal.start_of-requires
start_of-requires c =
    rw c.deref-2.ensures.value
    (subst (λ (p : Page). T (is_sorted bytes_cmp p.rows.items)) (sym c.index.ensures) (page_sorted c.args.pages.now.items c.page_of-page.result c.index.result.now c.requires.pages (omega (arith, c.if-page-len.false))))

pub put_between-requires-clause-gap : goal.put_between-requires-clause-gap
put_between-requires-clause-gap c =
    let lt : c.page_of-page.result < length c.args.pages.now.items = omega (arith, c.if-page-len.false) in
    gap_in c.args.row c.args.pages.now.items c.page_of-page.result c.start_of.result c.index.result.now lt c.index.ensures (subst (λ (ps : List Page). IsPageOf c.args.row ps c.page_of-page.result) c.deref.ensures.value c.page_of-page.ensures)
    (rw (← c.deref-2.ensures.value) (c.start_of.ensures.gap (rw c.deref-2.ensures.value (subst (λ (p : Page). find bytes_cmp c.args.row p.rows.items ≡ None) (sym c.index.ensures) (not_in_page c.args.row c.args.pages.now.items c.page_of-page.result c.index.result.now lt c.requires.absent)))))
