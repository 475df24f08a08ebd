use Rattle.std.proofs.Common.{◌≢◌, refl, sym, ap, subst, ◌∙◌, arith}
use Rattle.std.specs.FinMap.{empty, insert, len}
use Rattle.packed_cells.specs.Keyed.{CellMap, stamped}
use Rattle.map_body.specs.TableRows.{row_in, ChangesRow}
use Rattle.map_body.proofs.Maps.{inserted, none_empty_set, set_count, row_found, row_absent, unchanged_row}
use Rattle.map_body.proofs.CellLemmas.{len_stamped, stamped_some, stamped_none}
use Rattle.map_body.proofs.table_rows.stamp_in.Goals as goal

pub returns-in-Some-clause-rest : goal.returns-in-Some-clause-rest
returns-in-Some-clause-rest c =
    subst (λ (x : CellMap). ChangesRow c.args.rows.now (insert c.args.rows.now c.args.row.now c.stamp.new.self) c.args.row.now x)
    (c.stamp.ensures ∙ ap (λ (x : CellMap). stamped x c.args.qual.now c.args.version) (sym (row_found c.args.rows.now c.args.row.now c.in-Some.cells.now c.in-Some.ensures.value)))
    (inserted c.args.rows.now (insert c.args.rows.now c.args.row.now c.stamp.new.self) c.args.row.now c.stamp.new.self refl)

pub returns-in-Some-clause-none_empty : goal.returns-in-Some-clause-none_empty
returns-in-Some-clause-none_empty c none =
    let some : c.in-Some.cells.now ≢ empty = none c.args.row.now c.in-Some.cells.now (sym c.in-Some.ensures.value) in
    none_empty_set c.args.rows.now (insert c.args.rows.now c.args.row.now c.stamp.new.self) c.args.row.now c.stamp.new.self none
    (subst (λ (x : CellMap). x ≢ empty) (sym c.stamp.ensures) (stamped_some c.in-Some.cells.now c.args.qual.now c.args.version some)) refl

pub returns-in-Some-clause-same : goal.returns-in-Some-clause-same
returns-in-Some-clause-same c =
    let count = set_count c.args.rows.now c.args.row.now c.in-Some.cells.now c.stamp.new.self c.in-Some.ensures.value in
    let same = ap len c.stamp.ensures ∙ len_stamped c.in-Some.cells.now c.args.qual.now c.args.version in
    omega (arith, count, same)

pub returns-in-None-clause-rest : goal.returns-in-None-clause-rest
returns-in-None-clause-rest c =
    let none = row_absent c.args.rows.now c.args.row.now c.in-None.ensures.value in
    unchanged_row c.args.rows.now c.args.row.now (stamped (row_in c.args.rows.now c.args.row.now) c.args.qual.now c.args.version)
    (none ∙ sym (ap (λ (x : CellMap). stamped x c.args.qual.now c.args.version) none ∙ stamped_none c.args.qual.now c.args.version))
