-- Names that have their ids.
use Rattle.std.specs.Prelude.{◌≡◌, ℕ, true, List, is_some}
use Rattle.std.specs.List.{AllByRecursion}
use Rattle.tsd_base.specs.declared.kinds.Kind.{Kind}
use Rattle.point_lines.specs.NameIds.{Names, id_in, list_of}

-- the name has an id
abbrev pub IsKnown : Names → Kind × List ℕ → Type 0
IsKnown names n = is_some (id_in (list_of names n.0) n.1) ≡ true

abbrev pub AreKnown : Names → List (Kind × List ℕ) → Type 0
AreKnown names ns = AllByRecursion (IsKnown names) ns
