use Rattle.std.proofs.Common.{length, FitsSigned, w64, rules, arith, [], refl, sym, append-nil, ap}
use Rattle.std.proofs.lemmas.Int.{to_z-of_z}
use Rattle.json_reply.proofs.Listing.{entry_written, entries_written}
use Rattle.json_reply.proofs.json_text.write_entries.Goals as goal

pub loop-index-init : goal.loop-index-init
loop-index-init c =
    let left = c.iter-time-items.ensures.rest in
    let few = c.iter-time-items.ensures.fits in
    let count = ap length left in
    (omega (arith, count, few), ([], sym left, refl, sym (append-nil _)))

pub loop-index-preserved : goal.loop-index-preserved
loop-index-preserved c =
    let fits : FitsSigned w64 c.in-Some.value.now = search rules in
    let left = c.in-Some.ensures.steps in
    let count = ap length left in
    let few = c.loop-index.invariant.0 in (
      omega (arith, count, few),
      entry_written _ _ _ _ _ _ _ _ _ _ _ _ left refl (to_z-of_z w64 c.in-Some.value.now fits) c.in_ok-write_comma.ensures c.in_ok-write_dot.ensures c.loop-index.invariant.1,
    )

pub returns : goal.returns
returns c = entries_written _ _ _ _ _ c.loop-index.invariant.1 c.in-None.ensures.steps.0
