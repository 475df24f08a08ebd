use Rattle.std.proofs.Common.{◌∙◌, ◌++◌, ap, codes, List, ℕ}
use Rattle.std.specs.Prelude.{decimal}
use Rattle.http_reply.specs.PutReplies.{failed, stored, texts_of}
use Rattle.http_reply.proofs.Outcomes.{others}
use Rattle.http_reply.proofs.Writes.{onward, onward_if}
use Rattle.http_reply.proofs.put_reply.write_counts.Goals as goal

pub returns : goal.returns
returns c =
    let old = c.args.body.now.items in
    let outs = c.args.outcomes.now in
    let first = c.extend_from_slice.new.self.items in
    let second = c.extend_from_slice-2.new.self.items in
    let third = c.extend_from_slice-3.new.self.items in
    let fourth = c.extend_from_slice-4.new.self.items in
    let fails = codes "\"failed\":" in
    let success = codes ",\"success\":" in
    let count = decimal (failed (texts_of outs)) in
    let rest = decimal (stored (texts_of outs)) in
    let count_is = c.in_ok-extend_from_slice-2.ensures.items ∙ ap (λ (text : List ℕ). first ++ text) (c.as_bytes.ensures.value ∙ c.format.ensures.text ∙ ap decimal c.failed-failed.ensures.value) in
    let rest_is = c.in_ok-extend_from_slice-4.ensures.items ∙ ap (λ (text : List ℕ). third ++ text) (c.as_bytes-2.ensures.value ∙ c.format-2.ensures.text ∙ ap decimal (others outs c.failed-failed.result c.failed-failed.ensures.value)) in
    let two = onward old first second fails count c.in_ok-extend_from_slice.ensures.items count_is in
    let three = onward old second third (fails ++ count) success two c.in_ok-extend_from_slice-3.ensures.items in
    let four = onward old third fourth ((fails ++ count) ++ success) rest three rest_is in
    onward_if c.extend_from_slice-5.result old fourth c.extend_from_slice-5.new.self.items (((fails ++ count) ++ success) ++ rest) (codes "}") four c.extend_from_slice-5.ensures.items
