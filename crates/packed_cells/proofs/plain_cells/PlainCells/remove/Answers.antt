use Rattle.std.proofs.Common.{sym, ap, ◌∙◌, arith}
use Rattle.packed_cells.specs.Keyed.{map_of}
use Rattle.packed_cells.proofs.Keyed.{goes_at, stays_at, stays_gap, kept_without, remove_is_without}
use Rattle.cell_blocks.proofs.Order.{none}
use Rattle.packed_cells.proofs.plain_cells.PlainCells.remove.Goals as goal

pub returns-in_default-clause-gone : goal.returns-in_default-clause-gone
returns-in_default-clause-gone c =
    rw (← c.self.view_is) (sym (stays_gap c.args.qual.now c.args.version c.self.inside.cells c.in_default.field-0 c.in_default.ensures.absent))

pub returns-in_default-clause-rest : goal.returns-in_default-clause-rest
returns-in_default-clause-rest c =
    rw (← c.self.view_is) (kept_without c.args.qual.now c.args.version (map_of c.self.inside.cells) (stays_gap c.args.qual.now c.args.version c.self.inside.cells c.in_default.field-0 c.in_default.ensures.absent))

pub returns-then-version-clause-gone : goal.returns-then-version-clause-gone
returns-then-version-clause-gone c =
    rw (← c.self.view_is) (sym (stays_at c.args.qual.now c.args.version c.self.inside.cells c.in-Ok.i none c.self.invariant c.in-Ok.ensures.found (omega (arith, c.if-version.true, c.version.ensures none))))

pub returns-then-version-clause-rest : goal.returns-then-version-clause-rest
returns-then-version-clause-rest c =
    rw (← c.self.view_is) (kept_without c.args.qual.now c.args.version (map_of c.self.inside.cells) (stays_at c.args.qual.now c.args.version c.self.inside.cells c.in-Ok.i none c.self.invariant c.in-Ok.ensures.found (omega (arith, c.if-version.true, c.version.ensures none))))

pub returns-clause-gone : goal.returns-clause-gone
returns-clause-gone c =
    rw (← c.self.view_is) (sym (goes_at c.args.qual.now c.args.version c.self.inside.cells c.in-Ok.i none c.self.invariant c.in-Ok.ensures.found (omega (arith, c.if-version.false, c.version.ensures none))))

pub returns-clause-rest : goal.returns-clause-rest
returns-clause-rest c =
    rw (← c.self.view_is) (ap map_of c.remove.ensures ∙ remove_is_without c.args.qual.now c.args.version c.self.inside.cells c.in-Ok.i none c.self.invariant c.in-Ok.ensures.found (omega (arith, c.if-version.false, c.version.ensures none)))
