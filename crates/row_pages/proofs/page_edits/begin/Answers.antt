use Rattle.std.proofs.Common.{refl, ap, ◌∷◌, ◌++◌, [], List, ◌∙◌, ℕ}
use Rattle.packed_cells.specs.Keyed.{CellMap}
use Rattle.row_pages.proofs.PageChanges.{pages_begun, rows_begun}
use Rattle.row_pages.proofs.page_edits.begin.Goals as goal

pub returns-clause-pages : goal.returns-clause-pages
returns-clause-pages c =
    rw c.in_ok-push-2.ensures.items
    (pages_begun c.args.row c.args.cells c.args.pages.now.items c.requires.pages c.requires.behind c.args.least c.requires.least (record { least = c.args.least; rows = c.push.new.self }) refl
    (c.in_ok-push.ensures.items ∙ ap (λ (es : List (List ℕ × CellMap)). es ++ (c.args.row, c.args.cells) ∷ []) c.in_ok-rows.ensures.items))

pub returns-clause-ok : goal.returns-clause-ok
returns-clause-ok c =
    rw c.in_ok-push-2.ensures.items
    (rows_begun c.args.row c.args.cells c.args.pages.now.items c.requires.pages c.requires.behind c.args.least c.requires.least (record { least = c.args.least; rows = c.push.new.self }) refl
    (c.in_ok-push.ensures.items ∙ ap (λ (es : List (List ℕ × CellMap)). es ++ (c.args.row, c.args.cells) ∷ []) c.in_ok-rows.ensures.items))
