-- What a caller's proof cites of qualifiers, values and cells, where the functions of `laws` can't be called.
use Rattle.std.proofs.Common.{◌≡◌, inr, ℕ, List, refl, arith}
use Rattle.std.specs.Prelude.{Ok, Result}
use Rattle.qual_codec.specs.declared.cells.Item.{Item}
use Rattle.qual_codec.specs.declared.cells.Dot.{Dot}
use Rattle.qual_codec.specs.declared.cells.CellFault.{CellFault}
use Rattle.qual_codec.specs.CellDots.{HoldsDots}
use Rattle.qual_codec.specs.CellFaults.{CellsReadOnce}
use Rattle.qual_codec.specs.Order.{BelowExtends, IsAsGood, IsAtMost, IsBelow, ItemsAreUnique}
use Rattle.qual_codec.proofs.Bits as bits
use Rattle.qual_codec.proofs.Columns.{dots_once, reads_once}
use Rattle.qual_codec.proofs.Ordering.{below_extends}
-- ---- the bits of an item
-- an item's fields have its bits
pub use Rattle.qual_codec.proofs.Bits.{are_fields}
-- the number of two bytes, and that of four
pub use Rattle.qual_codec.proofs.Bits.{coarse, fine_number}
-- the bits 1111 begin four bytes, and no two
pub use Rattle.qual_codec.proofs.Bits.{coarse_high, fine_high}
-- an item has two bytes at least, and items have an even number of bytes
pub use Rattle.qual_codec.proofs.Progress.{even_items, long_fields}
-- ---- the column
-- its qualifier is no list of items, and a cell that has its dots by items has them so alone
pub use Rattle.qual_codec.proofs.Columns.{by_items, by_items_alone, items_no_column}
-- the cell of one item is a piece; pieces stand behind pieces, and those at the front are the first ones
pub use Rattle.qual_codec.proofs.Columns.{piece_of_cell, pieces_front, pieces_more, pieces_once}
-- the pieces that were read so far: none yet, one more, which leaves less, and all of them
pub use Rattle.qual_codec.proofs.ColumnSteps.{HasPieces, all_pieces, none_yet, piece_on, shorter}
-- a dot of a cell has an item, and its value fits
pub use Rattle.qual_codec.proofs.Merges.{dot_good}
-- ---- values at an offset
-- a dot's value stands at its offset, and a value that stands at an offset is a dot's
pub use Rattle.qual_codec.proofs.Values.{DotAt, dot_value, value_dot}
-- values that are one don't conflict
pub use Rattle.qual_codec.proofs.Values.{no_conflict}
-- ---- the dots of several cells
-- the next of cells that read does, and its dots stand behind those of the cells before it
pub use Rattle.qual_codec.proofs.Gathered.{are_next, reads_at}
-- a dot of the cells is one of a cell
pub use Rattle.qual_codec.proofs.Merges.{DotIn, dot_in}
-- ---- dots whose offsets rise
-- each dot stands at a lower offset than those behind it
pub use Rattle.qual_codec.proofs.Best.{Rise}
pub use Rattle.qual_codec.proofs.RisingDots.{AreRising}
-- dots that rise below an offset: none, and one more that is from this offset on
pub use Rattle.qual_codec.proofs.RisingDots.{RiseBelow, none_below, rise_push}
-- of dots that rise merging keeps those in the range
pub use Rattle.qual_codec.proofs.RisingDots.{keeps_rising}

-- ---- what a cell reads as

-- a qualifier is one list of items
pub items_once : ItemsAreUnique
items_once = bits.items_once

cells_once : CellsReadOnce
cells_once = reads_once

-- a cell has one list of data points
pub one_dots : (qual value : List ℕ) (a b : List Dot) → HoldsDots qual value a → HoldsDots qual value b → a ≡ b
one_dots = dots_once

-- ---- the order of qualifiers

good_refl : (i : Item) → IsAsGood i i
good_refl i = record { offset = refl; better = inr (refl, omega arith) }

-- what is strictly above another is strictly above all that this is at least
pub below_then : (d q other : List ℕ) → IsBelow d q → IsAtMost q other → IsBelow d other
below_then d q other b more =
    let m = b.at_most in
    let extends : BelowExtends = below_extends in
    extends d d q other (record { items = m.items; others = m.items; reads = m.reads; others_read = m.reads; each = λ i c. (i, c, good_refl i) }) b more
