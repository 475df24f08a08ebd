use Rattle.std.proofs.Common.{◌≡◌, ℕ, true, length, sym, ap, subst, ◌∙◌}
use Rattle.cell_blocks.proofs.Strips.{replaced}
use Rattle.cell_blocks.proofs.strip.Strip.set.Goals as goal

pub returns-in-Some-clause-cells : goal.returns-in-Some-clause-cells
returns-in-Some-clause-cells g c = replaced g.V.SmallValue.bytes c.self.inside.slots.items c.args.self.now c.self.view_is c.args.i c.in-Some.slot _ c.in-Some.ensures.cell

-- what has the lengths of a cell that suits suits too
pub returns-in-None-clause-in_place : goal.returns-in-None-clause-in_place
returns-in-None-clause-in_place g c d a b =
    let two : length c.args.qual.now ≡ 2 = sym a ∙ ap length (sym (c.qual.ensures.qual d)) ∙ c.qual.ensures.two in
    let suits : g.V.SmallValue.suits (length c.args.value.now) ≡ true = subst (λ (n : ℕ). g.V.SmallValue.suits n ≡ true) (ap length (c.value.ensures.value d) ∙ b) c.value.ensures.suits in
    c.in-None.ensures.suits two suits
