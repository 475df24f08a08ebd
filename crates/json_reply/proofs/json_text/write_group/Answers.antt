use Rattle.std.proofs.Common.{◌≡◌, ◌++◌, map, subst}
use Rattle.json_reply.specs.Texts.{listed, quoted, tag_text}
use Rattle.json_reply.proofs.Listing.{onward, onward_if}
use Rattle.json_reply.proofs.json_text.write_group.Goals as goal

pub returns : goal.returns
returns c =
    let old = c.args.out.now.items in
    let keys_written = subst (λ keys. c.write_keys.new.out.items ≡ c.extend_from_slice.new.self.items ++ listed (map quoted keys)) c.as_slice.ensures.value c.in_ok-write_keys.ensures in
    let tags_written = subst (λ tags. c.write_tags.new.out.items ≡ c.extend_from_slice-4.new.self.items ++ listed (map tag_text tags)) c.as_slice-2.ensures.value c.in_ok-write_tags.ensures in
    let keys = onward old c.extend_from_slice.new.self.items _ _ _ c.in_ok-extend_from_slice.ensures.items keys_written in
    let before_dots = onward old c.write_keys.new.out.items _ _ _ keys c.in_ok-extend_from_slice-2.ensures.items in
    let dots = onward old c.extend_from_slice-2.new.self.items _ _ _ before_dots c.in_ok-write_dots.ensures in
    let before_metric = onward old c.write_dots.new.out.items _ _ _ dots c.in_ok-extend_from_slice-3.ensures.items in
    let metric = onward old c.extend_from_slice-3.new.self.items _ _ _ before_metric c.in_ok-write_name.ensures in
    let before_tags = onward old c.write_name.new.out.items _ _ _ metric c.in_ok-extend_from_slice-4.ensures.items in
    let tags = onward old c.extend_from_slice-4.new.self.items _ _ _ before_tags tags_written in
    onward_if c.extend_from_slice-5.result old c.write_tags.new.out.items _ _ _ tags c.extend_from_slice-5.ensures.items
