use Rattle.std.proofs.Common.{ℕ, List, sym, subst}
use Rattle.std.specs.Prelude.{slice_set}
use Rattle.cell_blocks.specs.Packed.{IsKept}
use Rattle.cell_blocks.proofs.Spans.{failed_kept, reset_kept}
use Rattle.cell_blocks.proofs.mixed_cells.MixedCells.set_behind.Goals as goal

pub invariant_of-self : goal.invariant_of-self
invariant_of-self c = subst (λ (b : List ℕ). IsKept b c.append.new.longs.items c.self.inside.heads.items) (sym c.in_err-head.ensures.err) (failed_kept c.self.inside.bytes.items c.self.inside.longs.items c.append.new.longs.items c.self.inside.heads.items c.self.invariant c.append.ensures.longs)

pub invariant_of-self-2 : goal.invariant_of-self-2
invariant_of-self-2 c = subst (λ (b : List ℕ). IsKept b c.append.new.longs.items (slice_set c.self.inside.heads.items c.args.i c.in_ok-head.head)) (sym c.in_ok-head.ensures.bytes) (reset_kept c.self.inside.bytes.items c.self.inside.longs.items c.append.new.longs.items c.self.inside.heads.items c.self.invariant c.append.ensures.longs c.args.qual.now c.args.value.now c.args.version c.args.i c.in_ok-head.head c.in_ok-head.ensures.head)
