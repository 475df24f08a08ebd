use Rattle.std.proofs.Common.{◌<◌, List, length, refl, sym, ap, subst, ◌∙◌}
use Rattle.row_pages.specs.Pages.{rows_in, ArePages}
use Rattle.row_pages.specs.PagePlaces.{IsGap}
use Rattle.row_pages.specs.declared.page.Page.{Page}
use Rattle.row_pages.proofs.PageSplits.{full_at, within_full, split_rows, split_pages, split_first, split_second}
use Rattle.row_pages.proofs.page_edits.split.Goals as goal

pub returns-then-gap-le-HALF-clause-pages : goal.returns-then-gap-le-HALF-clause-pages
returns-then-gap-le-HALF-clause-pages c =
    rw c.in_ok-insert.ensures.items
    (split_pages c.reserve.new.self.items c.args.gap.page c.index_mut-page.result.now (record { least = c.index_mut-page.result.now.least; rows = c.cut.new.rows }) (record { least = c.in_ok-least.least; rows = c.in_ok-rows.rows }) c.index.result.now
    (subst ArePages (sym c.in_ok-reserve.ensures.items) c.requires.pages) (subst (λ (ps : List Page). c.args.gap.page < length ps) (sym c.in_ok-reserve.ensures.items) c.requires.page) c.index_mut-page.ensures.value
    (full_at c.args.pages.now.items c.reserve.new.self.items c.args.gap.page c.index_mut-page.result.now c.in_ok-reserve.ensures.items c.index_mut-page.ensures.value c.requires.full)
    c.index.ensures refl c.in_ok-rows.ensures.items c.in_ok-least.ensures.made c.in_ok-rows.ensures.tail)

pub returns-then-gap-le-HALF-clause-rows : goal.returns-then-gap-le-HALF-clause-rows
returns-then-gap-le-HALF-clause-rows c =
    rw c.in_ok-insert.ensures.items
    (split_rows c.reserve.new.self.items c.args.gap.page c.index_mut-page.result.now (record { least = c.index_mut-page.result.now.least; rows = c.cut.new.rows }) (record { least = c.in_ok-least.least; rows = c.in_ok-rows.rows }) c.index.result.now
    (subst ArePages (sym c.in_ok-reserve.ensures.items) c.requires.pages) (subst (λ (ps : List Page). c.args.gap.page < length ps) (sym c.in_ok-reserve.ensures.items) c.requires.page) c.index_mut-page.ensures.value
    (full_at c.args.pages.now.items c.reserve.new.self.items c.args.gap.page c.index_mut-page.result.now c.in_ok-reserve.ensures.items c.index_mut-page.ensures.value c.requires.full)
    c.index.ensures refl c.in_ok-rows.ensures.items c.in_ok-least.ensures.made c.in_ok-rows.ensures.tail
    ∙ ap rows_in c.in_ok-reserve.ensures.items)

pub returns-then-gap-le-HALF-clause-gap : goal.returns-then-gap-le-HALF-clause-gap
returns-then-gap-le-HALF-clause-gap c k gap =
    rw c.in_ok-insert.ensures.items
    (split_first c.reserve.new.self.items c.args.gap.page c.index_mut-page.result.now (record { least = c.index_mut-page.result.now.least; rows = c.cut.new.rows }) (record { least = c.in_ok-least.least; rows = c.in_ok-rows.rows }) c.index.result.now
    (subst ArePages (sym c.in_ok-reserve.ensures.items) c.requires.pages) (subst (λ (ps : List Page). c.args.gap.page < length ps) (sym c.in_ok-reserve.ensures.items) c.requires.page) c.index_mut-page.ensures.value
    (full_at c.args.pages.now.items c.reserve.new.self.items c.args.gap.page c.index_mut-page.result.now c.in_ok-reserve.ensures.items c.index_mut-page.ensures.value c.requires.full)
    c.index.ensures refl c.in_ok-rows.ensures.items c.in_ok-least.ensures.made c.in_ok-rows.ensures.tail
    k c.args.gap.row c.if-gap-le-HALF.true (subst (λ (ps : List Page). IsGap k ps c.args.gap.page c.args.gap.row) (sym c.in_ok-reserve.ensures.items) gap))

pub returns-clause-pages : goal.returns-clause-pages
returns-clause-pages c =
    rw c.in_ok-insert.ensures.items
    (split_pages c.reserve.new.self.items c.args.gap.page c.index_mut-page.result.now (record { least = c.index_mut-page.result.now.least; rows = c.cut.new.rows }) (record { least = c.in_ok-least.least; rows = c.in_ok-rows.rows }) c.index.result.now
    (subst ArePages (sym c.in_ok-reserve.ensures.items) c.requires.pages) (subst (λ (ps : List Page). c.args.gap.page < length ps) (sym c.in_ok-reserve.ensures.items) c.requires.page) c.index_mut-page.ensures.value
    (full_at c.args.pages.now.items c.reserve.new.self.items c.args.gap.page c.index_mut-page.result.now c.in_ok-reserve.ensures.items c.index_mut-page.ensures.value c.requires.full)
    c.index.ensures refl c.in_ok-rows.ensures.items c.in_ok-least.ensures.made c.in_ok-rows.ensures.tail)

pub returns-clause-rows : goal.returns-clause-rows
returns-clause-rows c =
    rw c.in_ok-insert.ensures.items
    (split_rows c.reserve.new.self.items c.args.gap.page c.index_mut-page.result.now (record { least = c.index_mut-page.result.now.least; rows = c.cut.new.rows }) (record { least = c.in_ok-least.least; rows = c.in_ok-rows.rows }) c.index.result.now
    (subst ArePages (sym c.in_ok-reserve.ensures.items) c.requires.pages) (subst (λ (ps : List Page). c.args.gap.page < length ps) (sym c.in_ok-reserve.ensures.items) c.requires.page) c.index_mut-page.ensures.value
    (full_at c.args.pages.now.items c.reserve.new.self.items c.args.gap.page c.index_mut-page.result.now c.in_ok-reserve.ensures.items c.index_mut-page.ensures.value c.requires.full)
    c.index.ensures refl c.in_ok-rows.ensures.items c.in_ok-least.ensures.made c.in_ok-rows.ensures.tail
    ∙ ap rows_in c.in_ok-reserve.ensures.items)

pub returns-clause-gap : goal.returns-clause-gap
returns-clause-gap c k gap =
    rw c.in_ok-insert.ensures.items
    (split_second c.reserve.new.self.items c.args.gap.page c.index_mut-page.result.now (record { least = c.index_mut-page.result.now.least; rows = c.cut.new.rows }) (record { least = c.in_ok-least.least; rows = c.in_ok-rows.rows }) c.index.result.now
    (subst ArePages (sym c.in_ok-reserve.ensures.items) c.requires.pages) (subst (λ (ps : List Page). c.args.gap.page < length ps) (sym c.in_ok-reserve.ensures.items) c.requires.page) c.index_mut-page.ensures.value
    (full_at c.args.pages.now.items c.reserve.new.self.items c.args.gap.page c.index_mut-page.result.now c.in_ok-reserve.ensures.items c.index_mut-page.ensures.value c.requires.full)
    c.index.ensures refl c.in_ok-rows.ensures.items c.in_ok-least.ensures.made c.in_ok-rows.ensures.tail
    k c.args.gap.row c.if-gap-le-HALF.false (within_full k c.args.pages.now.items c.args.gap.page c.args.gap.row c.index_mut-page.result.now gap c.requires.full)
    (subst (λ (ps : List Page). IsGap k ps c.args.gap.page c.args.gap.row) (sym c.in_ok-reserve.ensures.items) gap))
