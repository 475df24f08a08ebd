-- The cells of a row in a tree.
use Rattle.std.specs.Prelude.{ℕ, List, map, Vec}
use Rattle.std.specs.declared.alloc.Global.{Global}
use Rattle.qual_codec.specs.declared.cells.Cell.{Cell}
use Rattle.packed_cells.specs.declared.tree_cells.TreeCell.{TreeCell}

-- the cell of an entry
abbrev pub entry_cell : Vec ℕ Global × TreeCell → Cell
entry_cell e = record { qual = e.0.items; value = e.1.value.items; version = e.1.version }

abbrev pub tree_cells : List (Vec ℕ Global × TreeCell) → List Cell
tree_cells es = map entry_cell es
