use Rattle.std.proofs.Common.{◌∙◌, ◌<◌, ◌≤◌, ap, subst, List, ℕ, length, take}
use Rattle.std.proofs.lemmas.List.{take_rest}
use Rattle.http_requests.proofs.RequestLemmas.{body_missing, body_taken}
use Rattle.http_requests.proofs.request_stream.take_body.Goals as goal

pub returns-then-body-waiting : goal.returns-then-body-waiting
returns-then-body-waiting c =
    body_missing c.args.bytes.now c.args.waiting.now c.requires (subst (λ (xs : List ℕ). length xs < c.args.waiting.now.plan.len) (take_rest c.args.bytes.now c.args.waiting.now.from) c.if-body-waiting.true)

pub returns : goal.returns
returns c =
    let rest = take_rest c.args.bytes.now c.args.waiting.now.from in
    body_taken c.args.bytes.now c.in_ok-of.field-0 c.args.waiting.now c.requires (subst (λ (xs : List ℕ). c.args.waiting.now.plan.len ≤ length xs) rest c.if-body-waiting.false)
    (c.in_ok-of.ensures.made ∙ ap (λ (xs : List ℕ). take c.args.waiting.now.plan.len xs) rest)
