use Rattle.std.proofs.lemmas.Bool.Decides.{Decides-eqb}
use Rattle.std.proofs.lemmas.Slice.Eq.{strip_prefix_is}
use Rattle.telnet_put.proofs.PutLemmas.{put_begins}
use Rattle.telnet_put.proofs.telnet_text.behind_put.Goals as goal

pub returns : goal.returns
returns c =
    let begins = strip_prefix_is Decides-eqb c.args.text.now c.as_slice.result.now c.strip_prefix.result c.strip_prefix.ensures.cases in
    put_begins c.args.text.now c.as_slice.result.now c.strip_prefix.result c.as_slice.ensures begins
