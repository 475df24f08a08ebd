use Rattle.std.proofs.Common.{List, sym, ap, subst, ◌∙◌}
use Rattle.std.specs.FinMap.{find, get-from_sorted}
use Rattle.list_lemmas.specs.BytesOrder.{bytes_cmp}
use Rattle.row_pages.specs.Pages.{rows_in}
use Rattle.row_pages.specs.PagePlaces.{IsAt}
use Rattle.row_pages.specs.declared.page.Page.{Page}
use Rattle.row_pages.proofs.PageSets.{read_at}
use Rattle.row_pages.proofs.row_map.RowPages.get.Goals as goal

pub returns-in-Some : goal.returns-in-Some
returns-in-Some c =
    rw (← c.self.view_is)
    (sym (get-from_sorted bytes_cmp (rows_in c.self.inside.pages.items) c.args.row.now c.self.invariant.0.rising
    ∙ read_at c.args.row.now c.self.inside.pages.items c.in-Some.place.page c.in-Some.place.row c.index.result.now c.index-in-Some.result.now c.self.invariant.0 (subst (λ (ps : List Page). IsAt c.args.row.now ps c.in-Some.place.page c.in-Some.place.row) c.deref.ensures.value c.in-Some.ensures.found) c.index.ensures c.index-in-Some.ensures))

pub returns-in-None : goal.returns-in-None
returns-in-None c =
    rw (← c.self.view_is)
    (sym (get-from_sorted bytes_cmp (rows_in c.self.inside.pages.items) c.args.row.now c.self.invariant.0.rising ∙ ap (λ (ps : List Page). find bytes_cmp c.args.row.now (rows_in ps)) (sym c.deref.ensures.value) ∙ c.in-None.ensures.absent))
