-- What a caller's proof cites of parts, where the functions of `laws` can't be called, and the lemmas that stand under them.
use Rattle.cell_laws.specs.PartLaws.{HistoryApart, LooksInOne, PartsTellStore}
use Rattle.cell_laws.proofs.Looks as looks
use Rattle.cell_laws.proofs.Parts as parts
use Rattle.cell_laws.proofs.Whole as whole
-- ---- one part
-- what a part has at a place, in a row and in a range, and its counters
pub use Rattle.cell_laws.proofs.Parts.{part-empty, entries-part, get-part, get-mine, cells-part, next-part, content-part, value-part, counter-part, drop_count-part}
-- a replay of one more entry
pub use Rattle.cell_laws.proofs.Parts.{replayed-snoc}
-- a step, its reply and a stamp
pub use Rattle.cell_laws.proofs.Parts.{after-mine, after-other, reply-part, stamped-part, stamped-other}
-- ---- parts beside one another
-- each is that of the whole; one of them may be another
pub use Rattle.cell_laws.proofs.Joins.{parts-joined, set_parts, at_set, at_other}
-- a step and a stamp on one, and the reply
pub use Rattle.cell_laws.proofs.Joins.{step_in_part, stamp_in_part, reply_in_part}
-- the entries of all, once they rise, are those of the whole
pub use Rattle.cell_laws.proofs.PartOrder.{entries-joined}
-- ---- point rows and their cells
-- those of the whole are those of the parts
pub use Rattle.cell_laws.proofs.PointSums.{point_rows-joined, point_cells-joined}
-- how steps change how many there are
pub use Rattle.cell_laws.proofs.PointSums.{points-none, points-written, points-elsewhere, points-dropped, points-stamped}

-- ---- the laws

pub history_apart : HistoryApart
history_apart = parts.history_apart

pub looks_in_one : LooksInOne
looks_in_one = looks.looks_in_one

pub parts_tell_store : PartsTellStore
parts_tell_store = whole.parts_tell_store
