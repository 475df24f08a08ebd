use Rattle.std.proofs.Common.{refl}
use Rattle.row_pages.proofs.PageSets.{set_same, set_put, room_at, on_err}
use Rattle.row_pages.proofs.page_edits.put_at.Goals as goal

pub returns-in_err-place_row-clause-pages : goal.returns-in_err-place_row-clause-pages
returns-in_err-place_row-clause-pages c =
    (set_same c.args.pages.now.items c.args.gap.page c.index_mut-page.result.now (record { least = c.index_mut-page.result.now.least; rows = c.place_row.new.rows }) c.requires.pages c.requires.gap.in_range c.index_mut-page.ensures.value
    refl c.in_err-place_row.ensures.items).0

pub returns-in_err-place_row-clause-err : goal.returns-in_err-place_row-clause-err
returns-in_err-place_row-clause-err c =
    on_err c.from_residual.result
    (set_same c.args.pages.now.items c.args.gap.page c.index_mut-page.result.now (record { least = c.index_mut-page.result.now.least; rows = c.place_row.new.rows }) c.requires.pages c.requires.gap.in_range c.index_mut-page.ensures.value
    refl c.in_err-place_row.ensures.items).1

pub returns-clause-pages : goal.returns-clause-pages
returns-clause-pages c =
    (set_put c.args.pages.now.items c.args.gap.page c.index_mut-page.result.now (record { least = c.index_mut-page.result.now.least; rows = c.place_row.new.rows }) c.requires.pages c.requires.gap.in_range c.index_mut-page.ensures.value
    c.args.row c.args.cells c.args.gap.row c.requires.gap refl c.in_ok-place_row.ensures.items (room_at c.args.pages.now.items c.args.gap.page c.index_mut-page.result.now c.index_mut-page.ensures.value c.requires.room)).0

pub returns-clause-ok : goal.returns-clause-ok
returns-clause-ok c =
    (set_put c.args.pages.now.items c.args.gap.page c.index_mut-page.result.now (record { least = c.index_mut-page.result.now.least; rows = c.place_row.new.rows }) c.requires.pages c.requires.gap.in_range c.index_mut-page.ensures.value
    c.args.row c.args.cells c.args.gap.row c.requires.gap refl c.in_ok-place_row.ensures.items (room_at c.args.pages.now.items c.args.gap.page c.index_mut-page.result.now c.index_mut-page.ensures.value c.requires.room)).1
