use Rattle.std.proofs.Common.{refl, sym, ap, subst, ◌∙◌, arith}
use Rattle.std.specs.FinMap.{empty, insert}
use Rattle.packed_cells.specs.Keyed.{CellMap}
use Rattle.map_body.specs.TableRows.{count_of, row_in, ChangesRow, left, gone}
use Rattle.map_body.proofs.Maps.{inserted, removed, none_empty_set, set_count, row_found, row_absent, unchanged_row, removed_count, changes_twice, none_empty_emptied, put_there, none_len}
use Rattle.map_body.proofs.CellLemmas.{left_none, gone_none}
use Rattle.map_body.proofs.table_rows.drop_in.Goals as goal

pub returns-in_default-clause-count : goal.returns-in_default-clause-count
returns-in_default-clause-count c = sym (ap (λ (x : CellMap). gone x c.args.which.now) (row_absent c.args.rows.now c.args.row.now c.in_default.ensures.value) ∙ gone_none c.args.which.now)

pub returns-in_default-clause-rest : goal.returns-in_default-clause-rest
returns-in_default-clause-rest c =
    let none = row_absent c.args.rows.now c.args.row.now c.in_default.ensures.value in
    unchanged_row c.args.rows.now c.args.row.now (left (row_in c.args.rows.now c.args.row.now) c.args.which.now) (none ∙ sym (ap (λ (x : CellMap). left x c.args.which.now) none ∙ left_none c.args.which.now))

pub returns-then-is_empty-clause-count : goal.returns-then-is_empty-clause-count
returns-then-is_empty-clause-count c = c.drop_from-count.ensures.count ∙ ap (λ (x : CellMap). gone x c.args.which.now) (sym (row_found c.args.rows.now c.args.row.now c.in-Some.cells.now c.in-Some.ensures.value))

pub returns-then-is_empty-clause-rest : goal.returns-then-is_empty-clause-rest
returns-then-is_empty-clause-rest c =
    subst (λ (x : CellMap). ChangesRow c.args.rows.now c.remove.new.self c.args.row.now x)
    (sym (c.if-is_empty.ensures.0 refl) ∙ c.drop_from-count.ensures.rest ∙ ap (λ (x : CellMap). left x c.args.which.now) (sym (row_found c.args.rows.now c.args.row.now c.in-Some.cells.now c.in-Some.ensures.value)))
    (changes_twice c.args.rows.now (insert c.args.rows.now c.args.row.now c.drop_from-count.new.cells) c.remove.new.self c.args.row.now c.drop_from-count.new.cells empty (inserted c.args.rows.now (insert c.args.rows.now c.args.row.now c.drop_from-count.new.cells) c.args.row.now c.drop_from-count.new.cells refl) (removed (insert c.args.rows.now c.args.row.now c.drop_from-count.new.cells) c.remove.new.self c.args.row.now c.remove.ensures))

pub returns-then-is_empty-clause-none_empty : goal.returns-then-is_empty-clause-none_empty
returns-then-is_empty-clause-none_empty c none = none_empty_emptied c.args.rows.now (insert c.args.rows.now c.args.row.now c.drop_from-count.new.cells) c.remove.new.self c.args.row.now c.drop_from-count.new.cells none refl c.remove.ensures

pub returns-then-is_empty-clause-fewer : goal.returns-then-is_empty-clause-fewer
returns-then-is_empty-clause-fewer c =
    let count = set_count c.args.rows.now c.args.row.now c.in-Some.cells.now c.drop_from-count.new.cells c.in-Some.ensures.value in
    let out = removed_count (insert c.args.rows.now c.args.row.now c.drop_from-count.new.cells) c.args.row.now c.drop_from-count.new.cells (put_there c.args.rows.now c.args.row.now c.drop_from-count.new.cells) in
    let same = ap count_of c.remove.ensures in
    let none = none_len c.drop_from-count.new.cells (c.if-is_empty.ensures.0 refl) in
    omega (arith, count, out, same, none, c.drop_from-count.ensures.fewer)

pub returns-else-is_empty-clause-count : goal.returns-else-is_empty-clause-count
returns-else-is_empty-clause-count c = c.drop_from-count.ensures.count ∙ ap (λ (x : CellMap). gone x c.args.which.now) (sym (row_found c.args.rows.now c.args.row.now c.in-Some.cells.now c.in-Some.ensures.value))

pub returns-else-is_empty-clause-rest : goal.returns-else-is_empty-clause-rest
returns-else-is_empty-clause-rest c =
    subst (λ (x : CellMap). ChangesRow c.args.rows.now (insert c.args.rows.now c.args.row.now c.drop_from-count.new.cells) c.args.row.now x)
    (c.drop_from-count.ensures.rest ∙ ap (λ (x : CellMap). left x c.args.which.now) (sym (row_found c.args.rows.now c.args.row.now c.in-Some.cells.now c.in-Some.ensures.value))) (inserted c.args.rows.now (insert c.args.rows.now c.args.row.now c.drop_from-count.new.cells) c.args.row.now c.drop_from-count.new.cells refl)

pub returns-else-is_empty-clause-none_empty : goal.returns-else-is_empty-clause-none_empty
returns-else-is_empty-clause-none_empty c none =
    none_empty_set c.args.rows.now (insert c.args.rows.now c.args.row.now c.drop_from-count.new.cells) c.args.row.now c.drop_from-count.new.cells none (λ e. let t = c.if-is_empty.ensures.1 e in cc) refl

pub returns-else-is_empty-clause-fewer : goal.returns-else-is_empty-clause-fewer
returns-else-is_empty-clause-fewer c =
    let count = set_count c.args.rows.now c.args.row.now c.in-Some.cells.now c.drop_from-count.new.cells c.in-Some.ensures.value in
    omega (arith, count, c.drop_from-count.ensures.fewer)
