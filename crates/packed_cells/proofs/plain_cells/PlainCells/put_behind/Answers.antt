use Rattle.packed_cells.proofs.LastCells.{put_rises, put_is_put}
use Rattle.packed_cells.proofs.plain_cells.PlainCells.put_behind.Goals as goal

pub invariant_of-self : goal.invariant_of-self
invariant_of-self c = put_rises c.args.qual.now c.args.value.now c.args.version c.self.inside.cells c.put_behind.new.self c.self.invariant c.put_behind.result c.put_behind.ensures.behind c.put_behind.ensures.cells

pub returns : goal.returns
returns c =
    rw (← c.self.view_is)
    (put_is_put c.args.qual.now c.args.value.now c.args.version c.self.inside.cells c.put_behind.new.self c.self.invariant c.put_behind.result c.put_behind.ensures.behind c.put_behind.ensures.cells)
