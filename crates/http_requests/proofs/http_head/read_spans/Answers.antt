use Rattle.std.proofs.Common.{◌∙◌, sym, ap}
use Rattle.http_requests.specs.HttpHeads.{verb_of, path_of, form_of}
use Rattle.http_requests.proofs.HeadLemmas.{refused_as, planned_as}
use Rattle.http_requests.proofs.http_head.read_spans.Goals as goal

pub returns-in-Some : goal.returns-in-Some
returns-in-Some c = λ h s.
    refused_as c.args.bytes.now c.args.headers.now c.args.spans.now h c.verb_of-verb.result _ c.in-Some.refusal s (c.verb_of-verb.ensures ∙ ap verb_of c.of.ensures) c.value_of-text.ensures (sym c.in-Some.is ∙ c.refusal.ensures)

pub returns : goal.returns
returns c = λ h s.
    planned_as c.args.bytes.now c.args.headers.now c.args.spans.now h c.verb_of-verb.result _ c.in_ok-of.field-0 c.in_ok-of-2.field-0 c.closes.result c.length_in.result s (c.verb_of-verb.ensures ∙ ap verb_of c.of.ensures) c.value_of-text.ensures
    (sym c.in_default.is ∙ c.refusal.ensures) (c.in_ok-of.ensures.made ∙ c.parts.ensures.path ∙ ap path_of c.of-2.ensures) (c.in_ok-of-2.ensures.made ∙ c.parts.ensures.form ∙ ap form_of c.of-2.ensures) c.closes.ensures c.length_in.ensures
