use Rattle.std.proofs.Common.{ap, map}
use Rattle.std.specs.Prelude.{string_bytes}
use Rattle.command_words.specs.CommandWords.{asked_of}
use Rattle.tsd_run.proofs.FleetLemmas.{alone_unread}
use Rattle.tsd_run.proofs.RunHeadlineLemmas.{lone_headline, ran_headline}
use Rattle.tsd_run.proofs.run_alone.run_alone.Goals as goal

pub returns-in-Ok-clause-headline : goal.returns-in-Ok-clause-headline
returns-in-Ok-clause-headline g c = ran_headline _ _ _ _ _ c.in-Ok.ensures.asked c.act.ensures.ran

pub returns-in-Err-clause-ran : goal.returns-in-Err-clause-ran
returns-in-Err-clause-ran g c = alone_unread (asked_of (map string_bytes c.args.words.now)) _ _ _ _ _ c.no_memory.result.status c.no_memory.ensures.status (ap g.H.Halt.stops c.no_memory.ensures.halt)

pub returns-in-Err-clause-headline : goal.returns-in-Err-clause-headline
returns-in-Err-clause-headline g c = lone_headline _ _ c.no_memory.result.status (asked_of (map string_bytes c.args.words.now)) (returns-in-Err-clause-ran g c).runs
