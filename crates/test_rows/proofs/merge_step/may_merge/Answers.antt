use Rattle.std.proofs.Common.{List, subst, sym, refl}
use Rattle.std.specs.Prelude.{Contains}
use Rattle.qual_codec.specs.declared.cells.Dot.{Dot}
use Rattle.test_rows.proofs.Allowing.{merge_known}
use Rattle.test_rows.proofs.merge_step.may_merge.Goals as goal

pub returns-in-Some : goal.returns-in-Some
returns-in-Some c = λ yes s all.
    merge_known s c.args.facts.now c.args.row.now c.args.qual.now c.args.value.now c.in-Some.dots.items all (c.if-not-is_points.ensures refl) c.in-Some.ensures (λ d has. c.all_stand.ensures yes d (subst (λ (ds : List Dot). Contains ds d) (sym c.as_slice.ensures.value) has))
