use Rattle.std.proofs.Common.{◌∙◌, sym, ap, Some, FitsSigned, w64, rules}
use Rattle.std.proofs.lemmas.Int.{to_z-of_z}
use Rattle.tsd_base.specs.declared.kinds.Function.{Function}
use Rattle.downsample.specs.Buckets.{value_of}
use Rattle.downsample.proofs.Tallying.{values_of, last_value}
use Rattle.downsample.proofs.bucket_values.value_of.Goals as goal

pub returns-in-Last : goal.returns-in-Last
returns-in-Last c =
    let fit : FitsSigned w64 c.in-Some-Some.last.now.1 = search rules in
    ap Some (to_z-of_z w64 c.in-Some-Some.last.now.1 fit) ∙ sym (last_value c.args.points.now c.in-Some-Some.last.now (c.in-Some-Some.ensures' {u = tt}).value) ∙ ap (λ (f : Function). value_of f (values_of c.args.points.now)) (sym c.in-Last.is)
