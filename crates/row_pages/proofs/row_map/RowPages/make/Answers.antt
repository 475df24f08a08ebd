use Rattle.std.proofs.Common.{ap, ◌∙◌}
use Rattle.std.specs.FinMap.{from_sorted}
use Rattle.row_pages.specs.Pages.{rows_in}
use Rattle.row_pages.proofs.RowLists.{no_rows}
use Rattle.row_pages.proofs.row_map.RowPages.make.Goals as goal

pub returns : goal.returns
returns c = ap (λ ps. from_sorted (rows_in ps)) c.new.ensures.items ∙ no_rows
