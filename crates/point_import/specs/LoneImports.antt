-- What an import leaves where its caller steps alone over a store that began empty.
use Rattle.std.specs.Prelude.{◌≡◌, ◌<◌, ◌≤◌, ℕ, ◌+◌, List, ◌++◌, length, Some, Ok}
use Rattle.std.specs.List.{flat_map}
use Rattle.tsd_base.specs.Points.{DataPoint}
use Rattle.tsd_hooks.specs.declared.name_patterns.Patterns.{Patterns}
use Rattle.cell_model.specs.declared.events.Entry.{Entry}
use Rattle.cell_model.specs.History.{History, base_of, entry_at, first, store_after}
use Rattle.cell_model.specs.KindWidths.{Widths}
use Rattle.cell_model.specs.Layout.{names_of}
use Rattle.cell_model.specs.Lawful.{IsLawful}
use Rattle.cell_model.specs.Store.{no_cells}
use Rattle.line_stream.specs.Lines.{Line}
use Rattle.point_lines.specs.LinePoints.{points_from, with_points}
use Rattle.point_lines.specs.LoneHistories.{IsNumbered}
use Rattle.point_lines.specs.NameIds.{Names, no_names, noted_all}
use Rattle.point_import.specs.ImportedLines.{WereAccepted}

-- the history is lawful, begins empty with ids of these widths and is so still at one length, and from there to another each entry is this caller's
pub record IsAloneIn (w : Widths) (h : History) (caller n n2 : ℕ) : Type 0 where
  pub lawful : IsLawful h
  pub base : base_of h ≡ no_cells w
  pub empty : store_after (first n h) ≡ no_cells w
  pub only : (place : ℕ) (e : Entry) → n < place → place ≤ n2 → entry_at h place ≡ Some e → e.caller ≡ caller

-- The lines have these points, so many, whatever lines come behind. Each name of theirs has its id: its place, from 1, among the names of its kind in the
-- order in which they first come.
pub record AreNumbered (w : Widths) (lines : List Line) (count : ℕ) (h : History) : Type 0 where
  pub points : List DataPoint
  pub count_is : count ≡ length points
  pub names : Names
  pub noted : noted_all w no_names (flat_map names_of points) ≡ Ok names
  pub numbered : IsNumbered names h
  pub first_points : (number : ℕ) (more : List Line) → points_from w number no_names (lines ++ more) ≡ with_points points (points_from w (number + length lines) names more)

-- lines that were accepted in a history where nobody else steps are so numbered
abbrev pub ImportNumbers : Type 0
ImportNumbers = (w : Widths) (patterns : Patterns) (h : History) (caller n n2 : ℕ) (lines : List Line) (count : ℕ) → IsAloneIn w h caller n n2 → n ≤ n2
    → WereAccepted patterns h caller n lines count n2 → AreNumbered w lines count (first n2 h)
