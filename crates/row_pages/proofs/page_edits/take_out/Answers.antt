use Rattle.std.proofs.Common.{length, refl, ap, ◌∙◌}
use Rattle.std.specs.Prelude.{slice_set}
use Rattle.row_pages.specs.Pages.{rows_in}
use Rattle.row_pages.specs.declared.page.Page.{Page}
use Rattle.row_pages.proofs.PageSets.{set_less, row_gone, counted, row_at, same_page, row_stays, one_row}
use Rattle.row_pages.proofs.page_edits.take_out.Goals as goal

pub returns-then-len-eq1-clause-rows : goal.returns-then-len-eq1-clause-rows
returns-then-len-eq1-clause-rows c k at =
    c.drop_page.ensures.rows
    ∙ row_gone c.args.pages.now.items c.args.place.page c.index.result.now c.index.result.now c.requires.pages at.in_range c.index.ensures k c.args.place.row
    (row_at k c.args.pages.now.items c.args.place.page c.args.place.row c.index.result.now c.index.ensures at) (one_row c.index.result.now.rows.items c.index.result.now.rows.len c.len.result c.index.result.now.rows.ok.0 c.len.ensures c.if-len-eq1.true)

pub returns-then-len-eq1-clause-count : goal.returns-then-len-eq1-clause-count
returns-then-len-eq1-clause-count c =
    counted c.requires.row.0 c.args.pages.now.items c.args.place.page c.args.place.row c.index.result.now (rows_in c.drop_page.new.pages.items) c.requires.pages c.requires.row.1
    (c.drop_page.ensures.rows
    ∙ row_gone c.args.pages.now.items c.args.place.page c.index.result.now c.index.result.now c.requires.pages c.requires.row.1.in_range c.index.ensures c.requires.row.0 c.args.place.row
    (row_at c.requires.row.0 c.args.pages.now.items c.args.place.page c.args.place.row c.index.result.now c.index.ensures c.requires.row.1) (one_row c.index.result.now.rows.items c.index.result.now.rows.len c.len.result c.index.result.now.rows.ok.0 c.len.ensures c.if-len-eq1.true))

pub returns-clause-pages : goal.returns-clause-pages
returns-clause-pages c =
    (set_less c.args.pages.now.items c.args.place.page c.index_mut-page.result.now (record { least = c.index_mut-page.result.now.least; rows = c.remove.new.self }) c.requires.pages c.requires.row.1.in_range c.index_mut-page.ensures.value
    c.requires.row.0 c.args.place.row c.remove.result (row_at c.requires.row.0 c.args.pages.now.items c.args.place.page c.args.place.row c.index_mut-page.result.now c.index_mut-page.ensures.value c.requires.row.1) refl c.remove.ensures.items
    (row_stays c.requires.row.0 c.index_mut-page.result.now.rows.items c.args.place.row (row_at c.requires.row.0 c.args.pages.now.items c.args.place.page c.args.place.row c.index_mut-page.result.now c.index_mut-page.ensures.value c.requires.row.1)
    (λ one. c.if-len-eq1.false (c.len.ensures ∙ c.index.result.now.rows.ok.0 ∙ ap (λ (p : Page). length p.rows.items) (same_page c.args.pages.now.items c.args.place.page c.index.result.now c.index_mut-page.result.now c.requires.row.1.in_range c.index.ensures c.index_mut-page.ensures.value) ∙ one)))).0

pub returns-clause-rows : goal.returns-clause-rows
returns-clause-rows c k at =
    (set_less c.args.pages.now.items c.args.place.page c.index_mut-page.result.now (record { least = c.index_mut-page.result.now.least; rows = c.remove.new.self }) c.requires.pages at.in_range c.index_mut-page.ensures.value
    k c.args.place.row c.remove.result (row_at k c.args.pages.now.items c.args.place.page c.args.place.row c.index_mut-page.result.now c.index_mut-page.ensures.value at) refl c.remove.ensures.items
    (row_stays k c.index_mut-page.result.now.rows.items c.args.place.row (row_at k c.args.pages.now.items c.args.place.page c.args.place.row c.index_mut-page.result.now c.index_mut-page.ensures.value at)
    (λ one. c.if-len-eq1.false (c.len.ensures ∙ c.index.result.now.rows.ok.0 ∙ ap (λ (p : Page). length p.rows.items) (same_page c.args.pages.now.items c.args.place.page c.index.result.now c.index_mut-page.result.now at.in_range c.index.ensures c.index_mut-page.ensures.value) ∙ one)))).1

pub returns-clause-count : goal.returns-clause-count
returns-clause-count c =
    counted c.requires.row.0 c.args.pages.now.items c.args.place.page c.args.place.row c.index.result.now (rows_in (slice_set c.args.pages.now.items c.args.place.page (record { least = c.index_mut-page.result.now.least; rows = c.remove.new.self }))) c.requires.pages c.requires.row.1
    ((set_less c.args.pages.now.items c.args.place.page c.index_mut-page.result.now (record { least = c.index_mut-page.result.now.least; rows = c.remove.new.self }) c.requires.pages c.requires.row.1.in_range c.index_mut-page.ensures.value
    c.requires.row.0 c.args.place.row c.remove.result (row_at c.requires.row.0 c.args.pages.now.items c.args.place.page c.args.place.row c.index_mut-page.result.now c.index_mut-page.ensures.value c.requires.row.1) refl c.remove.ensures.items
    (row_stays c.requires.row.0 c.index_mut-page.result.now.rows.items c.args.place.row (row_at c.requires.row.0 c.args.pages.now.items c.args.place.page c.args.place.row c.index_mut-page.result.now c.index_mut-page.ensures.value c.requires.row.1)
    (λ one. c.if-len-eq1.false (c.len.ensures ∙ c.index.result.now.rows.ok.0 ∙ ap (λ (p : Page). length p.rows.items) (same_page c.args.pages.now.items c.args.place.page c.index.result.now c.index_mut-page.result.now c.requires.row.1.in_range c.index.ensures c.index_mut-page.ensures.value) ∙ one)))).1)
