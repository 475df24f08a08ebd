use Rattle.std.proofs.Common.{◌-◌, ◌++◌, length, ◌∙◌}
use Rattle.std.proofs.lemmas.List.{take_rest}
use Rattle.short_bytes.proofs.Ends.{written_by_ends}
use Rattle.short_bytes.proofs.fills.fill_ends.Goals as goal
use borrow.Rule.Slice.PartMut.{put_mid, post_of}

pub returns : goal.returns
returns c =
    let bytes = c.args.bytes.now in
    let part = c.args.part in
    let start = length bytes - part in
    let last = c.copy_from_slice-2.ensures.after ∙ take_rest bytes start in
    (λ i. put_mid start (length bytes - start) (c.copy_from_slice.ensures.after i ++ post_of 0 part (c.requires.zeros i)) (last i)) ∙ written_by_ends part bytes c.requires.parts.0 c.requires.parts.1
