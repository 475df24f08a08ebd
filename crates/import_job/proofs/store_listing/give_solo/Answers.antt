use Rattle.std.proofs.Common.{sym, subst}
use Rattle.cell_model.specs.Sound.{IsSound}
use Rattle.cell_solo.specs.Turns.{history_of}
use Rattle.cell_laws.proofs.CallerLemmas.{sound_after}
use Rattle.import_job.proofs.store_listing.give_solo.Goals as goal

pub give_body-requires-clause-sound : goal.give_body-requires-clause-sound
give_body-requires-clause-sound g c = subst IsSound (sym c.part-body.ensures.content) (sound_after (history_of c.args.solo) c.part-body.ensures.lawful)
