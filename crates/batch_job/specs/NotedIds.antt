-- The ids that a batch hands out. They have three bytes.
use Rattle.std.specs.Prelude.{ℕ, pos, false, List, Result}
use Rattle.row_key.specs.Made.{three}
use Rattle.tsd_base.specs.declared.kinds.Kind.{Kind}
use Rattle.tsd_base.specs.TagList.{Pair}
use Rattle.cell_model.specs.Layout.{names_of}
use Rattle.point_lines.specs.NameIds as ids
pub use Rattle.point_lines.specs.NameIds.{Names, and_then_noted, exhausted_text, id_in, list_of, no_names, with_list, with_listed}

-- a name that has no id gets the next one of its kind, unless all were given
abbrev pub noted : Names → Kind → List ℕ → Result Names Kind
noted names kind name = ids.noted three names kind name

-- names from the left, each of its kind; or the kind of the first one for which there is no id
abbrev pub noted_all : Names → List (Kind × List ℕ) → Result Names Kind
noted_all names ns = ids.noted_all three names ns

-- the names of a series: those of any of its points
abbrev pub names_in : List ℕ → List Pair → List (Kind × List ℕ)
names_in metric tags = names_of (record { metric = metric; tags = tags; time = 0; fine = false; value = pos 0 })
