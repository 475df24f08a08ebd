use Rattle.std.proofs.Common.{◌≡◌, List, rules, map, sym, ap, subst, ◌∙◌}
use Rattle.std.specs.Prelude.{ℤ, Option, None, Some}
use Rattle.row_hours.specs.declared.hours.TheConstants.{LAST_OFFSET}
use Rattle.qual_codec.specs.declared.cells.Dot.{Dot}
use Rattle.qual_codec.specs.declared.cells.MergeFault.{MergeFault}
use Rattle.qual_codec.specs.Merge.{ConflictsAt, Keeps, first_conflict, values_at}
use Rattle.series_meta.specs.RowCounts.{without_value}
use Rattle.series_meta.proofs.RowCounting.{counts_kept, never_conflict}
use Rattle.series_meta.proofs.row_count.offset_count.Goals as goal

none_some : (p : ℤ × ℤ) → ◌≡◌ {A = Option (ℤ × ℤ)} None (Some p) → ⊥
none_some p e = cc

pub returns-in-Ok : goal.returns-in-Ok
returns-in-Ok c =
    let dots = c.in_ok-dots.dots.items in
    let kept = subst (λ (l : List Dot). Keeps l 0 LAST_OFFSET c.in-Ok.kept.items) (c.in_ok-without_values.ensures ∙ ap (map without_value) c.as_slice.ensures.value) c.in-Ok.ensures.kept in
    counts_kept c.args.cells.now dots c.in-Ok.kept.items c.len.result c.in_ok-dots.ensures kept (search rules)

pub unreachable-requires : goal.unreachable-requires
unreachable-requires c =
    let dots = c.in_ok-dots.dots.items in
    let is = c.in_ok-without_values.ensures ∙ ap (map without_value) c.as_slice.ensures.value in
    let k = subst (λ (f : MergeFault). ConflictsAt c.in_ok-without_values.field-0.items 0 LAST_OFFSET f) c.in-Conflict.is c.in-Err.ensures.conflict in
    none_some (c.in-Conflict.a, c.in-Conflict.b) (sym (never_conflict dots c.in-Conflict.offset) ∙ ap (λ (l : List Dot). first_conflict (values_at c.in-Conflict.offset l)) (sym is) ∙ k.values)
