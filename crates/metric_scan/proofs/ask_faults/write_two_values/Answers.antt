use Rattle.std.proofs.Common.{◌++◌, ◌∙◌, FitsSigned, w64, rules}
use Rattle.std.specs.Fmt.{signed_decimal}
use Rattle.std.specs.Prelude.{codes, decimal}
use Rattle.std.proofs.lemmas.Int.{to_z-of_z}
use Rattle.std.proofs.lemmas.Result.{on_ok_weaker}
use Rattle.metric_scan.proofs.TextLemmas.{joined, joined_more}
use Rattle.metric_scan.proofs.ask_faults.write_two_values.Goals as goal

pub returns : goal.returns
returns c =
    let old = c.args.out.now.items in
    let a = signed_decimal c.args.a in
    let b = signed_decimal c.args.b in
    let time = decimal c.args.time in
    let fits_a : FitsSigned w64 c.args.a = search rules in
    let fits_b : FitsSigned w64 c.args.b = search rules in
    let timed = joined old c.extend_from_slice.new.self.items c.write_number.new.out.items (codes "two values at ") time c.in_ok-extend_from_slice.ensures.items c.in_ok-write_number.ensures.ok in
    let front = codes "two values at " ++ time in
    let begun = joined old c.write_number.new.out.items c.extend_from_slice-2.new.self.items front (codes ": ") timed c.in_ok-extend_from_slice-2.ensures.items in
    let is_a = to_z-of_z w64 c.args.a fits_a in
    let is_b = to_z-of_z w64 c.args.b fits_b in
    let mid = c.extend_from_slice-2.new.self.items in
    on_ok_weaker c.write_both.result
    (λ written. joined_more old mid c.write_both.new.out.items (front ++ codes ": ") a (codes " and ") b begun (written ∙ (λ i. mid ++ signed_decimal (is_a i) ++ codes " and " ++ signed_decimal (is_b i))))
    c.write_both.ensures
