use Rattle.std.proofs.Common.{◌≤◌, length, rules}
use Rattle.row_key.proofs.Once.{some_pair, tag_more}
use Rattle.row_key.proofs.keys.pairs_of.Goals as goal

pub first_pair-requires : goal.first_pair-requires
first_pair-requires c = let some : 1 ≤ length c.tags.rest.now = search rules in some_pair c.args.widths c.args.bytes.now c.tags.rest.now c.tags.pairs.items c.tags.invariant some

pub behind_pair-rest-requires : goal.behind_pair-rest-requires
behind_pair-rest-requires c = let some : 1 ≤ length c.tags.rest.now = search rules in some_pair c.args.widths c.args.bytes.now c.tags.rest.now c.tags.pairs.items c.tags.invariant some

pub tags-preserved : goal.tags-preserved
tags-preserved c =
    let some : 1 ≤ length c.tags.rest.now = search rules in
    tag_more c.args.widths c.args.bytes.now c.tags.rest.now _ c.tags.pairs.items _ c.first_pair.result c.tags.invariant some c.behind_pair-rest.ensures c.push.ensures.items c.first_pair.ensures.bytes c.first_pair.ensures.small
