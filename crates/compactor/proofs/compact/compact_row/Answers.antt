use Rattle.std.proofs.Common.{◌≡◌, List, Ok, arith, subst, sym, ◌∙◌}
use Rattle.std.specs.Prelude.{All}
use Rattle.std.proofs.lemmas.Result.{err_from_is_err_and}
use Rattle.qual_codec.specs.declared.cells.Cell.{Cell}
use Rattle.qual_codec.specs.CellDots.{ReadsByItems}
use Rattle.qual_codec.specs.Merge.{IsMerged}
use Rattle.cell_model.specs.declared.row.Row.{Row}
use Rattle.cell_model.specs.Rising.{RiseByQual}
use Rattle.cell_model.specs.Deeds.{MadeSo}
use Rattle.compactor.specs.declared.compaction.Compacted.TheVariants.{Nothing}
use Rattle.compactor.specs.declared.compaction.CompactFault.TheVariants.{OutOfMemory}
use Rattle.compactor.specs.Plans.{CannotPlan, KnowsEach, WriteMade}
use Rattle.compactor.proofs.Rows.{items_known, items_read, shown_known, shown_read, not_read, had_few, no_plan, wrote, few_entries}
use Rattle.compactor.proofs.compact.compact_row.Goals as goal

pub returns-in_err-cells-clause-made : goal.returns-in_err-cells-clause-made
returns-in_err-cells-clause-made g c =
    let p = err_from_is_err_and c.from_residual.result c.from_residual.ensures.1 in
    rw (p.1, p.2) (not_read (g.R.Rows.seen c.args.rows.now) (g.R.Rows.seen c.read.new.self) c.args.row.now c.in_err-cells.field-0.0 c.in_err-cells.ensures.err c.in_err-cells.ensures.lives)

pub returns-in_err-cells-clause-few : goal.returns-in_err-cells-clause-few
returns-in_err-cells-clause-few g c = few_entries _ _ c.args.row.now c.from_residual.result (returns-in_err-cells-clause-made g c)

pub returns-then-count_by_items-lt2-clause-made : goal.returns-then-count_by_items-lt2-clause-made
returns-then-count_by_items-lt2-clause-made g c =
    had_few (g.R.Rows.seen c.args.rows.now) (g.R.Rows.seen c.read.new.self) c.args.row.now c.in_ok-cells.cells c.in_ok-cells.ensures.ok c.in_ok-cells.ensures.possible (let n = c.count_by_items.ensures in omega (arith, n))

pub returns-then-count_by_items-lt2-clause-few : goal.returns-then-count_by_items-lt2-clause-few
returns-then-count_by_items-lt2-clause-few g c = few_entries _ _ c.args.row.now (Ok Nothing) (returns-then-count_by_items-lt2-clause-made g c)

pub returns-in_err-refs-clause-made : goal.returns-in_err-refs-clause-made
returns-in_err-refs-clause-made g c =
    let p = err_from_is_err_and c.from_residual-in_err-refs.result c.from_residual-in_err-refs.ensures.1 in
    rw (p.1, p.2)
    (no_plan (g.R.Rows.seen c.args.rows.now) (g.R.Rows.seen c.read.new.self) c.args.row.now c.in_ok-cells.cells OutOfMemory c.in_ok-cells.ensures.ok c.in_ok-cells.ensures.possible (let n = c.count_by_items.ensures in omega (arith, n)) tt)

pub returns-in_err-refs-clause-few : goal.returns-in_err-refs-clause-few
returns-in_err-refs-clause-few g c = few_entries _ _ c.args.row.now c.from_residual-in_err-refs.result (returns-in_err-refs-clause-made g c)

pub make_plan-requires-clause-some : goal.make_plan-requires-clause-some
make_plan-requires-clause-some g c = let n = c.count_by_items.ensures in let same = c.as_slice-others.ensures.value ∙ c.in_ok-refs.ensures in rw same (omega (arith, n))

pub make_plan-requires-clause-read : goal.make_plan-requires-clause-read
make_plan-requires-clause-read g c =
    subst (All (λ (x : Cell). ReadsByItems x.qual x.value)) (sym (c.as_slice-others.ensures.value ∙ c.in_ok-refs.ensures))
    (items_read c.in_ok-cells.cells (shown_read (g.R.Rows.seen c.args.rows.now) (g.R.Rows.seen c.read.new.self) c.args.row.now c.in_ok-cells.cells c.requires (subst RiseByQual c.cells.view_is c.cells.invariant) c.in_ok-cells.ensures.ok c.in_ok-cells.ensures.possible))

pub returns-in_err-plan-clause-made : goal.returns-in_err-plan-clause-made
returns-in_err-plan-clause-made g c =
    let p = err_from_is_err_and c.from_residual-in_err-plan.result c.from_residual-in_err-plan.ensures.1 in
    rw (p.1, p.2)
    (no_plan (g.R.Rows.seen c.args.rows.now) (g.R.Rows.seen c.read.new.self) c.args.row.now c.in_ok-cells.cells c.in_err-plan.field-0.0 c.in_ok-cells.ensures.ok c.in_ok-cells.ensures.possible (let n = c.count_by_items.ensures in omega (arith, n))
    (subst (λ (l : List Cell). CannotPlan l c.in_err-plan.field-0.0) (c.as_slice-others.ensures.value ∙ c.in_ok-refs.ensures) c.in_err-plan.ensures.fault))

pub returns-in_err-plan-clause-few : goal.returns-in_err-plan-clause-few
returns-in_err-plan-clause-few g c = few_entries _ _ c.args.row.now c.from_residual-in_err-plan.result (returns-in_err-plan-clause-made g c)

pub write-requires-clause-read : goal.write-requires-clause-read
write-requires-clause-read g c =
    subst (All (λ (x : Cell). ReadsByItems x.qual x.value)) (sym (c.as_slice-others.ensures.value ∙ c.in_ok-refs.ensures))
    (items_read c.in_ok-cells.cells (shown_read (g.R.Rows.seen c.args.rows.now) (g.R.Rows.seen c.read.new.self) c.args.row.now c.in_ok-cells.cells c.requires (subst RiseByQual c.cells.view_is c.cells.invariant) c.in_ok-cells.ensures.ok c.in_ok-cells.ensures.possible))

pub write-requires-clause-known : goal.write-requires-clause-known
write-requires-clause-known g c =
    subst (λ (r : Row). KnowsEach (g.R.Rows.seen c.read.new.self) r c.as_slice-others.result.now) (sym c.in_ok-plan.ensures.plan.row_is)
    (subst (KnowsEach (g.R.Rows.seen c.read.new.self) c.args.row.now) (sym (c.as_slice-others.ensures.value ∙ c.in_ok-refs.ensures))
    (items_known (g.R.Rows.seen c.read.new.self) c.args.row.now c.in_ok-cells.cells (shown_known (g.R.Rows.seen c.args.rows.now) (g.R.Rows.seen c.read.new.self) c.args.row.now c.in_ok-cells.cells (subst RiseByQual c.cells.view_is c.cells.invariant) c.in_ok-cells.ensures.ok)))

pub returns-clause-made : goal.returns-clause-made
returns-clause-made g c =
    let plan = c.in_ok-plan.plan in
    let same = c.as_slice-others.ensures.value ∙ c.in_ok-refs.ensures in
    wrote (g.R.Rows.seen c.args.rows.now) (g.R.Rows.seen c.read.new.self) (g.R.Rows.seen c.write.new.rows) c.args.row.now c.in_ok-cells.cells plan.merged.qual plan.merged.value c.write.result c.in_ok-cells.ensures.ok c.in_ok-cells.ensures.possible
    (let n = c.count_by_items.ensures in omega (arith, n)) (subst (λ (l : List Cell). IsMerged l plan.merged.qual plan.merged.value) same c.in_ok-plan.ensures.plan.merged)
    (subst (λ (l : List Cell). MadeSo (g.R.Rows.seen c.read.new.self) (WriteMade c.args.row.now l plan.merged.qual plan.merged.value c.write.result) (g.R.Rows.seen c.write.new.rows)) same
    (subst (λ (r : Row). MadeSo (g.R.Rows.seen c.read.new.self) (WriteMade r c.as_slice-others.result.now plan.merged.qual plan.merged.value c.write.result) (g.R.Rows.seen c.write.new.rows)) c.in_ok-plan.ensures.plan.row_is c.write.ensures.made))

pub returns-clause-few : goal.returns-clause-few
returns-clause-few g c = few_entries _ _ c.args.row.now c.write.result (returns-clause-made g c)
