use Rattle.std.proofs.Common.{List, inl, inr, sym, ap, subst, ◌∙◌}
use Rattle.std.specs.FinMap.{get, insert, find, get-from_sorted}
use Rattle.list_lemmas.specs.BytesOrder.{bytes_cmp}
use Rattle.row_pages.specs.RowMaps.{Rows}
use Rattle.row_pages.specs.Pages.{rows_in}
use Rattle.row_pages.specs.PagePlaces.{IsAt}
use Rattle.row_pages.specs.declared.page.Page.{Page}
use Rattle.row_pages.proofs.PageSets.{read_at, lent_whole, lent_map}
use Rattle.row_pages.proofs.row_map.RowPages.get_mut_again.Goals as goal

pub invariant_of-self-lent : goal.invariant_of-self-lent
invariant_of-self-lent c w =
    lent_whole c.args.row.now c.self.inside.pages.items c.in-Some.place.page c.in-Some.place.row c.index_mut-page.result.now c.index_mut-found.result.now c.self.invariant.0
    (subst (λ (ps : List Page). IsAt c.args.row.now ps c.in-Some.place.page c.in-Some.place.row) c.deref.ensures.value c.in-Some.ensures.found) c.index_mut-page.ensures.value c.index_mut-found.ensures.value w c.self.inside.count c.self.invariant.1

pub returns-in-Some : goal.returns-in-Some
returns-in-Some c =
    let at = subst (λ (ps : List Page). IsAt c.args.row.now ps c.in-Some.place.page c.in-Some.place.row) c.deref.ensures.value c.in-Some.ensures.found in (
      (λ i. inl (
        c.found-1.given,
        λ w. (lent_map c.args.row.now c.self.inside.pages.items c.in-Some.place.page c.in-Some.place.row c.index_mut-page.result.now c.index_mut-found.result.now c.self.invariant.0 at c.index_mut-page.ensures.value c.index_mut-found.ensures.value w
            ∙ ap (λ (m : Rows). insert m c.args.row.now w) c.self.view_is) i,
      )),
      record {
        writes_back = tt;
        value = sym (ap (λ (m : Rows). get m c.args.row.now) (sym c.self.view_is) ∙ get-from_sorted bytes_cmp (rows_in c.self.inside.pages.items) c.args.row.now c.self.invariant.0.rising
            ∙ read_at c.args.row.now c.self.inside.pages.items c.in-Some.place.page c.in-Some.place.row c.index_mut-page.result.now c.index_mut-found.result.now c.self.invariant.0 at c.index_mut-page.ensures.value c.index_mut-found.ensures.value);
      },
    )

pub returns-in-None : goal.returns-in-None
returns-in-None c = (
  ap inr c.self.view_is,
  record {
    writes_back = tt;
    value = sym (ap (λ (m : Rows). get m c.args.row.now) (sym c.self.view_is)
        ∙ get-from_sorted bytes_cmp (rows_in c.self.inside.pages.items) c.args.row.now c.self.invariant.0.rising ∙ ap (λ (ps : List Page). find bytes_cmp c.args.row.now (rows_in ps)) (sym c.deref.ensures.value) ∙ c.in-None.ensures.absent);
  },
)
