use Rattle.std.proofs.Common.{[], ◌∷◌, ◌∙◌, append-nil, FitsSigned, w64, rules}
use Rattle.std.proofs.lemmas.Int.{to_z-of_z}
use Rattle.json_reply.proofs.Listing.{one_back}
use Rattle.json_reply.proofs.Rising.{keyed_more, keyed_none}
use Rattle.json_reply.proofs.time_text.keyed.Goals as goal

pub loop-time-init : goal.loop-time-init
loop-time-init c = ([], rw append-nil (cc), c.new-keyed.ensures.empty ∙ keyed_none c.args.ms)

pub loop-time-preserved : goal.loop-time-preserved
loop-time-preserved c =
    let dot = c.in-Some.field-0.now in
    let behind = c.loop-time.invariant in
    let fits : FitsSigned w64 dot.1 = search rules in (
      dot ∷ behind.0,
      one_back _ _ _ _ _ behind.1 c.in-Some.ensures.steps,
      keyed_more c.args.ms _ _ _ _ dot behind.0 c.in_ok-insert.ensures.entries behind.2 c.in_ok-time_text.ensures (to_z-of_z w64 dot.1 fits),
    )
