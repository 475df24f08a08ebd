use Rattle.std.proofs.Common.{◌∙◌, sym, ap, List}
use Rattle.std.specs.Prelude.{count_by, nat_eq}
use Rattle.cell_solo.specs.declared.turns.Head.{Head}
use Rattle.cell_solo.specs.Turns.{Turn}
use Rattle.cell_solo.specs.PackedTurns.{TurnList, caller_of}
use Rattle.cell_solo.proofs.Packing.{count-unpacked}
use Rattle.cell_solo.proofs.turns.Turns.count.Goals as goal

pub returns : goal.returns
returns c =
    c.count_heads.ensures ∙ ap (λ (heads : List Head). count_by (λ (h : Head). nat_eq (caller_of h) c.args.caller) heads) c.deref.ensures.value
    ∙ sym (count-unpacked c.args.caller c.self.inside.heads.items c.self.inside.bytes.items c.self.inside.drops.items c.self.inside.places.list)
    ∙ ap (λ (t : TurnList). count_by (λ (u : Turn). nat_eq u.caller c.args.caller) t.list) c.self.view_is
