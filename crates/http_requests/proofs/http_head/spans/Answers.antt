use Rattle.std.proofs.Common.{◌∙◌, ap, subst, arith, ℕ, length, drop, length-drop}
use Rattle.httparse.specs.Spans.{RequestOverflows}
use Rattle.http_requests.proofs.HeadLemmas.{spanned, no_whole, no_part, over_part}
use Rattle.http_requests.proofs.http_head.spans.Goals as goal

pub returns-then-spans-bytes : goal.returns-then-spans-bytes
returns-then-spans-bytes c =
    let within = rw c.in-Ok-Complete.field-0-is at c.in-Ok-Complete.ensures.within in
    let complete = rw c.in-Ok-Complete.field-0-is at c.in-Ok-Complete.ensures.complete in
    spanned c.args.bytes.now c.parse_request.new.headers c.in-Ok-Complete.spans (c.parse_request.auto.headers ∙ c.requires) within complete.0 complete.1 c.if-spans-bytes.true

pub returns-else-spans-bytes : goal.returns-else-spans-bytes
returns-else-spans-bytes c =
    let within = rw c.in-Ok-Complete.field-0-is at c.in-Ok-Complete.ensures.within in
    let complete = rw c.in-Ok-Complete.field-0-is at c.in-Ok-Complete.ensures.complete in
    let n = c.in-Ok-Complete.spans.len in
    let fits = within.section.len_fits in
    let other = c.if-spans-bytes.false in
    no_whole c.args.bytes.now (drop n c.args.bytes.now) complete.0 complete.1.reads (λ e. let l = length-drop n c.args.bytes.now in let z = ap length e in omega (arith, l, z, fits, other))

pub returns-in-Ok-Partial : goal.returns-in-Ok-Partial
returns-in-Ok-Partial c = no_part c.args.bytes.now (rw c.in-Ok-Partial.field-0-is at c.in-Ok-Partial.ensures.partial)

pub returns-in-Err : goal.returns-in-Err
returns-in-Err c = over_part c.args.bytes.now (subst (λ (n : ℕ). RequestOverflows n c.args.bytes.now) c.requires c.in-Err.ensures.no_room)
