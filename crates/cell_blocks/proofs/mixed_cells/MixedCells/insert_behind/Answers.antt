use Rattle.std.proofs.Common.{◌∙◌, ℕ, List, ap, sym, subst}
use Rattle.std.specs.Prelude.{insert}
use Rattle.cell_blocks.specs.Packed.{cells_at, spans, IsKept}
use Rattle.cell_blocks.proofs.Spans.{failed_kept, headless_kept, headless_cells, put_kept}
use Rattle.cell_blocks.proofs.mixed_cells.MixedCells.insert_behind.Goals as goal

pub invariant_of-self : goal.invariant_of-self
invariant_of-self c = subst (λ (b : List ℕ). IsKept b c.append.new.longs.items c.self.inside.heads.items) (sym c.in_err-head.ensures.err) (failed_kept c.self.inside.bytes.items c.self.inside.longs.items c.append.new.longs.items c.self.inside.heads.items c.self.invariant c.append.ensures.longs)

pub invariant_of-self-in-Err : goal.invariant_of-self-in-Err
invariant_of-self-in-Err c = rw (c.in-Err.ensures.err) (subst (λ (b : List ℕ). IsKept b c.append.new.longs.items c.self.inside.heads.items) (sym c.in_ok-head.ensures.bytes) (headless_kept c.self.inside.bytes.items c.self.inside.longs.items c.append.new.longs.items c.self.inside.heads.items c.self.invariant c.append.ensures.longs c.args.qual.now c.args.value.now c.args.version c.args.i c.in_ok-head.head c.in_ok-head.ensures.head))

pub returns-in-Err-clause-err : goal.returns-in-Err-clause-err
returns-in-Err-clause-err c =
    rw (c.in-Err.ensures.err) (ap (λ (b : List ℕ). cells_at b (spans c.append.new.longs.items c.self.inside.heads.items)) c.in_ok-head.ensures.bytes ∙ headless_cells c.self.inside.bytes.items c.self.inside.longs.items c.append.new.longs.items c.self.inside.heads.items c.self.invariant c.append.ensures.longs c.args.qual.now c.args.value.now c.args.version c.args.i c.in_ok-head.head c.in_ok-head.ensures.head ∙ c.self.view_is)

pub invariant_of-self-in_default : goal.invariant_of-self-in_default
invariant_of-self-in_default c = rw (c.in_default.ensures.ok) (subst (λ (b : List ℕ). IsKept b c.append.new.longs.items (insert c.self.inside.heads.items c.args.i c.in_ok-head.head)) (sym c.in_ok-head.ensures.bytes) (put_kept c.self.inside.bytes.items c.self.inside.longs.items c.append.new.longs.items c.self.inside.heads.items c.self.invariant c.append.ensures.longs c.args.qual.now c.args.value.now c.args.version c.args.i c.in_ok-head.head c.in_ok-head.ensures.head))
