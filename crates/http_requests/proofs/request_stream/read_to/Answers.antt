use Rattle.std.proofs.Common.{◌∙◌, sym}
use Rattle.http_requests.proofs.RequestLemmas.{too_late, plan_here, refused_here}
use Rattle.http_requests.proofs.request_stream.read_to.Goals as goal

pub returns-then-end-gt-LONGEST_HEAD : goal.returns-then-end-gt-LONGEST_HEAD
returns-then-end-gt-LONGEST_HEAD c = too_late c.args.bytes.now c.args.end c.if-end-gt-LONGEST_HEAD.true c.requires.end

pub returns-in-Ok : goal.returns-in-Ok
returns-in-Ok c = plan_here c.args.bytes.now c.args.end c.in-Ok.plan c.requires.within c.if-end-gt-LONGEST_HEAD.false c.requires.end (sym c.in-Ok.is ∙ c.in_ok-plan.ensures)

pub returns-in-Err : goal.returns-in-Err
returns-in-Err c = refused_here c.args.bytes.now c.args.end c.in-Err.refusal c.requires.within c.if-end-gt-LONGEST_HEAD.false c.requires.end (sym c.in-Err.is ∙ c.in_ok-plan.ensures)
