use Rattle.qual_codec.proofs.Gathered.{no_fault}
use Rattle.qual_codec.proofs.merge.add_dots.Goals as goal

pub unreachable-requires : goal.unreachable-requires
unreachable-requires c = no_fault _ _ _ c.requires c.in-Err.ensures.fault c.in_default-fault.not-OutOfMemory
