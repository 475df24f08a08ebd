use Rattle.std.proofs.Common.{List, sym, ap, ◌∙◌}
use Rattle.std.specs.FinMap.{entries, entries-from_sorted}
use Rattle.list_lemmas.specs.BytesOrder.{bytes_cmp}
use Rattle.row_pages.specs.RowMaps.{Rows, rows_from}
use Rattle.row_pages.specs.Pages.{rows_in}
use Rattle.row_pages.specs.declared.page.Page.{Page}
use Rattle.row_pages.proofs.row_map.RowPages.walk_from.Goals as goal

pub returns : goal.returns
returns c =
    c.walk_from.ensures ∙ ap (λ (ps : List Page). rows_from c.args.from.now (rows_in ps)) c.deref.ensures.value
    ∙ ap (rows_from c.args.from.now) (sym (entries-from_sorted bytes_cmp (rows_in c.self.inside.pages.items) c.self.invariant.0.rising)) ∙ ap (λ (m : Rows). rows_from c.args.from.now (entries m)) c.self.view_is
