use Rattle.short_bytes.proofs.Spelled.{eight_spelled}
use Rattle.short_bytes.proofs.loads.word_of.Goals as goal

pub returns-in-8 : goal.returns-in-8
returns-in-8 c = eight_spelled c.args.bytes.now c.eight.result c.in-8.is c.eight.ensures.bytes c.eight.ensures.value
