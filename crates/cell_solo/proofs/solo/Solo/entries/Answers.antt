use Rattle.std.proofs.Common.{◌∙◌, sym, ap}
use Rattle.cell_model.specs.Listed.{store_of}
use Rattle.cell_solo.specs.Turns.{Play, entries_of, history_of}
use Rattle.cell_solo.proofs.Plays.{entries-begun}
use Rattle.cell_solo.proofs.solo.Solo.entries.Goals as goal

pub returns : goal.returns
returns g c = c.count.ensures ∙ sym (entries-begun (store_of c.self.inside.base) c.self.inside.turns.list c.args.caller) ∙ ap (λ (p : Play). entries_of (history_of p) c.args.caller) c.self.view_is
