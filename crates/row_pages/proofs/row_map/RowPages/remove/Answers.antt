use Rattle.std.proofs.Common.{List, sym, ap, subst, ◌∙◌}
use Rattle.std.specs.FinMap.{remove, find}
use Rattle.list_lemmas.specs.BytesOrder.{bytes_cmp}
use Rattle.row_pages.specs.RowMaps.{Rows}
use Rattle.row_pages.specs.Pages.{rows_in}
use Rattle.row_pages.specs.PagePlaces.{IsAt}
use Rattle.row_pages.specs.declared.page.Page.{Page}
use Rattle.row_pages.proofs.RowLists.{without_map, absent_map}
use Rattle.row_pages.proofs.row_map.RowPages.remove.Goals as goal

pub returns-in-Some : goal.returns-in-Some
returns-in-Some c =
    without_map c.args.row.now (rows_in c.self.inside.pages.items) (rows_in c.take_out.new.pages.items) c.self.invariant.0.rising
    (c.take_out.ensures.rows c.args.row.now (subst (λ (ps : List Page). IsAt c.args.row.now ps c.in-Some.place.page c.in-Some.place.row) c.deref.ensures.value c.in-Some.ensures.found))
    ∙ ap (λ (m : Rows). remove m c.args.row.now) c.self.view_is

pub returns-in_default : goal.returns-in_default
returns-in_default c =
    sym c.self.view_is
    ∙ absent_map c.args.row.now (rows_in c.self.inside.pages.items) c.self.invariant.0.rising (ap (λ (ps : List Page). find bytes_cmp c.args.row.now (rows_in ps)) (sym c.deref.ensures.value) ∙ c.in_default.ensures.absent)
    ∙ ap (λ (m : Rows). remove m c.args.row.now) c.self.view_is
