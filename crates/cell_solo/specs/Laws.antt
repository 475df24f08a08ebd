-- What holds of callers that have seen a history as a whole.
use Rattle.std.specs.Prelude.{ℕ, Bool}
use Rattle.cell_model.specs.History.{History}
use Rattle.cell_model.specs.Deeds.{Extends}
use Rattle.cell_solo.specs.Turns.{whole_seen}

-- where the sight of one caller extends its earlier one, so does the sight of every other
abbrev pub EachSightExtends : Type 0
EachSightExtends = (h later : History) (caller other : ℕ) (alone : Bool) → Extends (whole_seen h caller alone) (whole_seen later caller alone) → Extends (whole_seen h other alone) (whole_seen later other alone)
