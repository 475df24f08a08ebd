use Rattle.metric_scan.specs.RowNames.{known}
use Rattle.metric_scan.proofs.TagNames.{tags_named, no_tags_fault}
use Rattle.metric_scan.proofs.row_tags.tags_of.Goals as goal

pub unreachable-requires : goal.unreachable-requires
unreachable-requires c = no_tags_fault (known c.args.names.now) c.args.pairs.now c.in_ok-list.list.items c.in-Err.fault c.requires.one c.requires.pairs c.in_ok-list.ensures c.in-Err.ensures.gives c.in_default.not-OutOfMemory

pub returns-in-Ok : goal.returns-in-Ok
returns-in-Ok c = tags_named (known c.args.names.now) c.args.pairs.now c.in_ok-list.list.items c.in-Ok.tags c.requires.one c.requires.pairs c.in_ok-list.ensures c.in-Ok.ensures.gives c.in-Ok.ensures.tagged
