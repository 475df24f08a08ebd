-- What one caller that steps alone knows of its history, which began empty.
use Rattle.std.specs.Prelude.{◌≡◌, ℕ, true, List, length}
use Rattle.tsd_base.specs.Alphabet.{IsName}
use Rattle.tsd_base.specs.declared.kinds.Kind.{Kind}
use Rattle.cell_model.specs.History.{History, first, store_after}
use Rattle.cell_model.specs.IdRows.{id_of}
use Rattle.cell_model.specs.KindWidths.{Widths}
use Rattle.cell_model.specs.Machine.{counter_of}
use Rattle.cell_model.specs.Seen.{Seen, InEach, IsPossible}
use Rattle.cell_model.specs.Store.{no_cells}
use Rattle.point_lines.specs.NameIds.{Names, id_in, list_of}

-- so it is of each history that fits what was seen, as far as it was seen
abbrev pub Holds : Seen → (History → Type 0) → Type 0
Holds s P = InEach s (λ h. P (first s.length h))

-- the store began empty, with ids of these widths, and nobody else steps
pub record IsLone (w : Widths) (s : Seen) : Type 0 where
  pub base : s.base ≡ no_cells w
  pub alone : s.alone ≡ true
  pub possible : IsPossible s

-- the ids are the places of these names
abbrev pub HasIds : Names → History → Type 0
HasIds names h = (kind : Kind) (name : List ℕ) → IsName name → id_of h kind name ≡ id_in (list_of names kind) name

-- and each counter is the number of its kind's
pub record IsNumbered (names : Names) (h : History) : Type 0 where
  pub counts : (kind : Kind) → counter_of (store_after h) kind ≡ length (list_of names kind)
  pub ids : HasIds names h
