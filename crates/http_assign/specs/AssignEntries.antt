-- Which entries the assignment of a text makes.
use Rattle.std.specs.Prelude.{◌≡◌, ◌↔◌, ℕ, true, false, List, Contains, Ok}
use Rattle.tsd_base.specs.declared.kinds.Kind.{Kind}
use Rattle.tsd_hooks.specs.declared.name_patterns.Patterns.{Patterns}
use Rattle.cell_model.specs.declared.events.Placed.{Placed}
use Rattle.cell_model.specs.KindWidths.{Widths}
use Rattle.cell_model.specs.History.{History, store_after}
use Rattle.cell_model.specs.IdRows.{NameOf}
use Rattle.uid_table.specs.IdSteps.{DidBump}
use Rattle.point_put.specs.declared.config.Config.{Config}
use Rattle.point_put.specs.Admissions.{Admission, admission}
use Rattle.point_put.specs.Entries.{ForName}
use Rattle.http_assign.specs.AssignLists.{IdTold, TextAssigned}

-- names of every kind are given ids
abbrev pub makes_all : Config
makes_all = record { auto_metric = true; auto_tag_key = true; auto_tag_value = true; appends = false }

-- names of every kind are given ids where the patterns allow them
abbrev pub admits_all : Patterns → Admission
admits_all patterns = admission makes_all patterns

-- one of the entries is a bump that gave an id
abbrev pub HasGiven : Kind → List Placed → Type 0
HasGiven kind own = (d : Placed) × (id : ℕ) × Contains own d × DidBump d kind id

-- the entries are those for a name, and an id is told exactly where one of them gave an id
pub record FewEntries (w : Widths) (patterns : Patterns) (text : NameOf) (own : List Placed) (outcome : IdTold) : Type 0 where
  pub entries : ForName w (admits_all patterns) text.0 text.1 own
  pub given : ((id : ℕ) × (outcome ≡ Ok id)) ↔ HasGiven text.0 own

abbrev pub TextsMakeFewEntries : Type 0
TextsMakeFewEntries = (patterns : Patterns) (text : NameOf) (h : History) (own : List Placed) (outcome : IdTold) → TextAssigned patterns text h own outcome → FewEntries (store_after h).widths patterns text own outcome
