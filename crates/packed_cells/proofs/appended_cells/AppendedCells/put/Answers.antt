use Rattle.std.proofs.Common.{◌≡◌, ◌≢◌, true, false, List, ℕ, sym, ap, ◌∙◌}
use Rattle.std.specs.FinMap.{get, insert}
use Rattle.qual_codec.specs.CellDots.{column_qual}
use Rattle.packed_cells.proofs.Columns.{get_other, none_beside, turned, when_ok, when_err, either_way}
use Rattle.packed_cells.proofs.appended_cells.AppendedCells.put.Goals as goal

pub invariant_of-self : goal.invariant_of-self
invariant_of-self c =
    let ne : c.args.qual.now ≢ column_qual = λ e. let conflict : true ≡ false = sym (c.is_column.ensures.1 e) ∙ c.if-is_column.false in cc in
    either_way c.put_among.result
    (when_ok c.put_among.result (λ e. ap (λ m. get m column_qual) e ∙ none_beside c.self.inside.cells c.args.qual.now (c.args.value.now, c.args.version) ne c.self.invariant) c.put_among.ensures.ok)
    (when_err c.put_among.result (λ e. ap (λ m. get m column_qual) e ∙ c.self.invariant) c.put_among.ensures.err)

pub returns-clause-ok : goal.returns-clause-ok
returns-clause-ok c =
    let ne : c.args.qual.now ≢ column_qual = λ e. let conflict : true ≡ false = sym (c.is_column.ensures.1 e) ∙ c.if-is_column.false in cc in
    when_ok c.put_among.result
    (λ e. rw (← c.self.view_is)
    (ap (λ m. insert m column_qual (c.self.inside.value.items, c.self.inside.version)) e
    ∙ turned c.self.inside.cells column_qual c.args.qual.now (c.self.inside.value.items, c.self.inside.version) (c.args.value.now, c.args.version) ne))
    c.put_among.ensures.ok

pub returns-clause-in_place : goal.returns-clause-in_place
returns-clause-in_place c v n is same =
    let ne : c.args.qual.now ≢ column_qual = λ e. let conflict : true ≡ false = sym (c.is_column.ensures.1 e) ∙ c.if-is_column.false in cc in
    c.put_among.ensures.in_place v n
    (sym (get_other c.self.inside.cells column_qual c.args.qual.now (c.self.inside.value.items, c.self.inside.version) ne) ∙ ap (λ m. get m c.args.qual.now) c.self.view_is ∙ is) same
