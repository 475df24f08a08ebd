use Rattle.std.proofs.Common.{◌≡◌, ◌++◌, ◌+◌, ◌-◌, ℕ, suc, [], List, T, length, take, drop, sym, ap, subst, ◌∙◌, arith}
use Rattle.std.specs.FinMap.{is_sorted}
use Rattle.std.proofs.lemmas.List.{take_rest}
use Rattle.list_lemmas.specs.BytesOrder.{bytes_cmp}
use Rattle.packed_cells.specs.Keyed.{CellMap}
use Rattle.row_pages.specs.Pages.{rows_in}
use Rattle.row_pages.specs.PagePlaces.{IsRowStart}
use Rattle.row_pages.specs.declared.page.Page.{Page}
use Rattle.row_pages.proofs.PageSearches.{page_sorted, from_cut}
use Rattle.row_pages.proofs.row_walk.walk_from.Goals as goal

pub start_of-requires : goal.start_of-requires
start_of-requires c =
    rw c.deref-in-Some.ensures.value
    (subst (λ (p : Page). T (is_sorted bytes_cmp p.rows.items)) (sym c.in-Some.ensures.lookup.1) (page_sorted c.args.pages.now c.page_of-page.result c.in-Some.found.now c.requires c.in-Some.ensures.lookup.3.0))

pub returns-in-Some : goal.returns-in-Some
returns-in-Some c =
    let rest : take (length c.args.pages.now - (c.page_of-page.result + 1)) (drop (c.page_of-page.result + 1) c.args.pages.now) ≡ drop (suc c.page_of-page.result) c.args.pages.now = take_rest c.args.pages.now (c.page_of-page.result + 1) ∙ ap (λ (n : ℕ). drop n c.args.pages.now) (next c.page_of-page.result) in
    (λ i. take_rest c.deref.result.now c.start_of.result i ++ (rows_in (rest i) ++ []))
    ∙ ap (λ (es : List (List ℕ × CellMap)). drop c.start_of.result es ++ (rows_in (drop (suc c.page_of-page.result) c.args.pages.now) ++ [])) c.deref.ensures.value
    ∙ from_cut c.args.from.now c.args.pages.now c.page_of-page.result c.start_of.result c.in-Some.found.now c.requires c.page_of-page.ensures c.in-Some.ensures.lookup.3.0 c.in-Some.ensures.lookup.1
    (subst (λ (es : List (List ℕ × CellMap)). IsRowStart c.args.from.now es c.start_of.result) c.deref-in-Some.ensures.value c.start_of.ensures.start)
  where
    next : (n : ℕ) → n + 1 ≡ suc n
    next n = omega arith
