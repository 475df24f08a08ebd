use Rattle.std.proofs.Common.{length, sym, ap, ◌∙◌}
use Rattle.std.specs.FinMap.{entries-from_sorted}
use Rattle.list_lemmas.specs.BytesOrder.{bytes_cmp}
use Rattle.row_pages.specs.Pages.{rows_in}
use Rattle.row_pages.proofs.row_map.RowPages.len.Goals as goal

pub returns : goal.returns
returns c = rw (← c.self.view_is) (c.self.invariant.1 ∙ ap length (sym (entries-from_sorted bytes_cmp (rows_in c.self.inside.pages.items) c.self.invariant.0.rising)))
