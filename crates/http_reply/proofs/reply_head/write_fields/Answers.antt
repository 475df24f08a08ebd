use Rattle.std.proofs.Common.{◌++◌, ◌∙◌, ap, codes, List, ℕ}
use Rattle.std.specs.Prelude.{decimal}
use Rattle.http_reply.proofs.Writes.{onward, onward_if}
use Rattle.http_reply.proofs.reply_head.write_fields.Goals as goal

pub returns-clause-ok : goal.returns-clause-ok
returns-clause-ok c =
    let old = c.args.out.now.items in
    let one = c.extend_from_slice.new.self.items in
    let two = c.extend_from_slice-2.new.self.items in
    let kind = codes "Content-Type: application/json; charset=UTF-8\r\nContent-Length: " in
    let digits = c.in_ok-extend_from_slice-2.ensures.items ∙ ap (λ (text : List ℕ). one ++ text) (c.as_bytes.ensures.value ∙ c.format.ensures.text) in
    onward_if c.extend_from_slice-3.result old two c.extend_from_slice-3.new.self.items (kind ++ decimal c.args.count) (codes "\r\n") (onward old one two kind (decimal c.args.count) c.in_ok-extend_from_slice.ensures.items digits) c.extend_from_slice-3.ensures.items
