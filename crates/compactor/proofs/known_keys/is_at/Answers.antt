use Rattle.std.proofs.lemmas.Bool.Decides.{Decides-eqb}
use Rattle.std.proofs.lemmas.Slice.Eq.{slice_eq-Decides}
use Rattle.compactor.proofs.QueueRows.{key_at}
use Rattle.compactor.proofs.known_keys.is_at.Goals as goal

pub returns : goal.returns
returns c same =
    key_at c.args.list.now c.args.at c.in-Some.key.now c.args.base c.args.bytes.now c.in-Some.ensures.lookup.3.0 c.in-Some.ensures.lookup.1 c.if-key-base.false
    ((slice_eq-Decides Decides-eqb _ _ _ c.eq.ensures).0 same)
