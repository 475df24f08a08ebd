use Rattle.std.proofs.Common.{drop, length}
use Rattle.std.proofs.lemmas.Bool.Decides.{Decides-eqb}
use Rattle.std.proofs.lemmas.Slice.Eq.{starts_is}
use Rattle.uid_table.proofs.suggest.has_prefix.Goals as goal

pub returns-clause-has : goal.returns-clause-has
returns-clause-has c e = (drop (length c.args.prefix.now) c.args.bytes.now, (starts_is Decides-eqb c.args.bytes.now c.args.prefix.now c.starts_with.result c.starts_with.ensures.value).0 e)

pub returns-clause-all : goal.returns-clause-all
returns-clause-all c h = (starts_is Decides-eqb c.args.bytes.now c.args.prefix.now c.starts_with.result c.starts_with.ensures.value).1 h.0 h.1
