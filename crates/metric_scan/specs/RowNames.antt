-- Asking for the names of ids.
use Rattle.std.specs.Prelude.{◌≡◌, ◌≢◌, ℕ, ◌+◌, ◌≤◌, List, [], ◌∷◌, length, AllPairs, Contains, Option, None, Some, Result, Ok, Err, cond}
use Rattle.std.specs.List.{flat_map}
use Rattle.std.specs.Map.{lookup}
use Rattle.std.specs.BTreeMap.{is_at}
use Rattle.std.specs.Ordering.{nat_cmp}
use Rattle.tsd_base.specs.declared.kinds.Kind.{Kind}
use Rattle.tsd_base.specs.declared.kinds.Kind.TheVariants.{Metric, TagKey, TagValue}
use Rattle.qual_codec.specs.declared.cells.Cell.{Cell}
use Rattle.cell_model.specs.declared.row.Row.{Row}
use Rattle.cell_model.specs.declared.events.Placed.{Placed}
use Rattle.cell_model.specs.declared.events.Step.TheVariants.{Read}
use Rattle.cell_model.specs.declared.events.Reply.TheVariants.{Shown}
use Rattle.cell_model.specs.declared.answers.RowsFault.{RowsFault}
use Rattle.cell_model.specs.Seen.{Seen}
use Rattle.cell_model.specs.Deeds.{Made}
use Rattle.uid_table.specs.Shown.{KnowsName, HasShownName}
use Rattle.metric_scan.specs.declared.row_names.IdNames.{IdNames}

-- an id with its kind
abbrev pub IdOf : Type 0
IdOf = Kind × ℕ

-- which name an id has, where it has one
abbrev pub Names : Type 0
Names = Kind → ℕ → Option (List ℕ)

-- the name that is listed for an id
abbrev pub listed : List (ℕ × List ℕ) → ℕ → Option (List ℕ)
listed entries id = lookup (is_at (nat_cmp id)) entries

-- the names in two lists, of tag keys and of tag values
abbrev pub in_lists : List (ℕ × List ℕ) → List (ℕ × List ℕ) → Names
in_lists keys values Metric id = None
in_lists keys values TagKey id = listed keys id
in_lists keys values TagValue id = listed values id

-- the names that were asked for
abbrev pub known : IdNames → Names
known names = in_lists names.keys.entries names.values.entries

-- the ids of pairs, each key before its value
abbrev pub ids_of : List (ℕ × ℕ) → List IdOf
ids_of pairs = flat_map (λ p. (TagKey, p.0) ∷ (TagValue, p.1) ∷ []) pairs

-- names are known to have the ids of a pair
abbrev pub KnowsPair : Seen → ℕ × ℕ → Type 0
KnowsPair s p = KnowsName s TagKey p.0 × KnowsName s TagValue p.1

-- what is known was shown
abbrev pub AllNamed : Seen → Names → Type 0
AllNamed s names = (kind : Kind) (id : ℕ) (name : List ℕ) → names kind id ≡ Some name → HasShownName s kind id name

abbrev pub HasName : Names → IdOf → Type 0
HasName names i = (name : List ℕ) × (names i.0 i.1 ≡ Some name)

abbrev pub AreReads : List Placed → Type 0
AreReads list = (p : Placed) → Contains list p → (row : Row) × (cells : List Cell) × (p.entry.step ≡ Read row) × (p.entry.reply ≡ Shown cells)

-- the entries read the names of ids that had none before, each id at most once; spare: how many entries more there may be
pub record IdReads (spare : ℕ) (before : Names) (asked ids : List IdOf) (list : List Placed) : Type 0 where
  pub reads : AreReads list
  pub count : length list ≤ length ids + spare
  pub once : AllPairs (λ i j. i ≢ j) ids
  pub fresh : (i : IdOf) → Contains ids i → before i.0 i.1 ≡ None
  pub among : (i : IdOf) → Contains ids i → Contains asked i

-- all of the ids that were asked have names, and none was lost
pub record NamesRead (old : Seen) (before : Names) (asked : List IdOf) (new : Seen) (after : Names) : Type 0 where
  pub list : List Placed
  pub ids : List IdOf
  pub made : Made old list new
  pub reads : IdReads 0 before asked ids list
  pub all : (i : IdOf) → Contains asked i → HasName after i
  pub kept : (kind : Kind) (id : ℕ) (name : List ℕ) → before kind id ≡ Some name → after kind id ≡ Some name
  pub shown : AllNamed old before → AllNamed new after

-- it was broken off
pub record NamesCut (old : Seen) (before : Names) (asked : List IdOf) (new : Seen) : Type 0 where
  pub list : List Placed
  pub ids : List IdOf
  pub made : Made old list new
  pub reads : IdReads 1 before asked ids list

abbrev pub NamesAsked : Seen → Names → List IdOf → Result (Unit {0}) RowsFault → Names → Seen → Type 0
NamesAsked old before asked (Ok x) after new = NamesRead old before asked new after
NamesAsked old before asked (Err fault) after new = NamesCut old before asked new

-- the id was there, or its name was learnt by one read or by none, and added
pub data IdNamed (old : Seen) (kind : Kind) (id : ℕ) (before after : List (ℕ × List ℕ)) (new : Seen) : Type 0 where
  there : {name : List ℕ} → listed before id ≡ Some name → Made old [] new → after ≡ before → IdNamed old kind id before after new
  asked : {list : List Placed} {name : List ℕ} → listed before id ≡ None → Made old list new → AreReads list → length list ≤ 1 → HasShownName new kind id name
      → ((q : ℕ) → listed after q ≡ cond (is_at (nat_cmp id) q) (Some name) (listed before q)) → IdNamed old kind id before after new

-- it wasn't there, and it was broken off
pub record IdCut (old : Seen) (id : ℕ) (before : List (ℕ × List ℕ)) (new : Seen) : Type 0 where
  pub list : List Placed
  pub made : Made old list new
  pub reads : AreReads list
  pub few : length list ≤ 1
  pub fresh : listed before id ≡ None

abbrev pub IdAsked : Seen → Kind → ℕ → List (ℕ × List ℕ) → Result (Unit {0}) RowsFault → List (ℕ × List ℕ) → Seen → Type 0
IdAsked old kind id before (Ok x) after new = IdNamed old kind id before after new
IdAsked old kind id before (Err fault) after new = IdCut old id before new
