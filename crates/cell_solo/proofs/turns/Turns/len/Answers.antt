use Rattle.std.proofs.Common.{◌∙◌, sym, ap, length}
use Rattle.cell_solo.specs.PackedTurns.{TurnList}
use Rattle.cell_solo.proofs.Packing.{length-unpacked}
use Rattle.cell_solo.proofs.turns.Turns.len.Goals as goal

pub returns-clause-len : goal.returns-clause-len
returns-clause-len c =
    c.len.ensures ∙ c.self.inside.heads.ok.0 ∙ sym (length-unpacked c.self.inside.heads.items c.self.inside.bytes.items c.self.inside.drops.items c.self.inside.places.list)
    ∙ ap (λ (t : TurnList). length t.list) c.self.view_is
