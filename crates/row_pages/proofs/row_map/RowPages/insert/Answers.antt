use Rattle.std.proofs.Common.{◌≡◌, ℕ, ◌+◌, None, length, sym, ap, ◌∙◌}
use Rattle.std.specs.FinMap.{get, insert, find, get-from_sorted}
use Rattle.list_lemmas.specs.BytesOrder.{bytes_cmp}
use Rattle.row_pages.specs.RowMaps.{Rows}
use Rattle.row_pages.specs.Pages.{rows_in}
use Rattle.row_pages.proofs.RowLists.{put_map, put_count}
use Rattle.row_pages.proofs.row_map.RowPages.insert.Goals as goal

pub put_row-requires-clause-absent : goal.put_row-requires-clause-absent
put_row-requires-clause-absent c =
    sym (get-from_sorted bytes_cmp (rows_in c.self.inside.pages.items) c.args.row c.self.invariant.0.rising) ∙ ap (λ (m : Rows). get m c.args.row) c.self.view_is ∙ c.requires

pub invariant_of-self-2 : goal.invariant_of-self-2
invariant_of-self-2 c =
    let absent : find bytes_cmp c.args.row (rows_in c.self.inside.pages.items) ≡ None = sym (get-from_sorted bytes_cmp (rows_in c.self.inside.pages.items) c.args.row c.self.invariant.0.rising) ∙ ap (λ (m : Rows). get m c.args.row) c.self.view_is ∙ c.requires in (
      c.in_ok-place.ensures.pages,
      ap (λ (n : ℕ). n + 1) c.self.invariant.1 ∙ sym (ap length c.in_ok-place.ensures.ok ∙ put_count c.args.row c.args.cells (rows_in c.self.inside.pages.items) c.self.invariant.0.rising absent),
    )

pub returns-clause-ok : goal.returns-clause-ok
returns-clause-ok c =
    put_map c.args.row c.args.cells (rows_in c.self.inside.pages.items) (rows_in c.put_row.new.pages.items) c.self.invariant.0.rising c.in_ok-place.ensures.ok ∙ ap (λ (m : Rows). insert m c.args.row c.args.cells) c.self.view_is
