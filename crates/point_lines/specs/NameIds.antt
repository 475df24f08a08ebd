-- Names and their ids: the id of a name is its place, from 1, among the names of its kind in the order in which they first come.
use Rattle.std.specs.Prelude.{ℕ, ◌+◌, nat_lt, List, [], ◌∷◌, ◌++◌, length, Option, None, Some, is_some, option_map, Result, Ok, Err, codes, if◌then◌else◌}
use Rattle.tsd_base.specs.declared.kinds.Kind.{Kind}
use Rattle.tsd_base.specs.declared.kinds.Kind.TheVariants.{Metric, TagKey, TagValue}
use Rattle.tsd_base.specs.Faults.{kind_text}
use Rattle.tsd_base.specs.TagList.{is_same}
use Rattle.cell_model.specs.KindWidths.{Widths, greatest}

-- the names of each kind that have ids
pub record Names : Type 0 where
  pub metrics : List (List ℕ)
  pub keys : List (List ℕ)
  pub values : List (List ℕ)

abbrev pub no_names : Names
no_names = record { metrics = []; keys = []; values = [] }

-- the place of a name, from 1
abbrev pub id_in : List (List ℕ) → List ℕ → Option ℕ
id_in [] name = None
id_in (first ∷ names) name = if is_same first name then Some 1 else option_map (λ id. id + 1) (id_in names name)

-- the names of a kind
abbrev pub list_of : Names → Kind → List (List ℕ)
list_of names Metric = names.metrics
list_of names TagKey = names.keys
list_of names TagValue = names.values

-- with another list of the names of a kind
abbrev pub with_list : Names → Kind → List (List ℕ) → Names
with_list names Metric list = record { metrics = list; keys = names.keys; values = names.values }
with_list names TagKey list = record { metrics = names.metrics; keys = list; values = names.values }
with_list names TagValue list = record { metrics = names.metrics; keys = names.keys; values = list }

-- the list with one more name, if the name isn't there; none where all ids up to the greatest were given
abbrev pub listed : ℕ → List (List ℕ) → List ℕ → Option (List (List ℕ))
listed most names name = if is_some (id_in names name) then Some names else if nat_lt (length names) most then Some (names ++ name ∷ []) else None

abbrev pub with_listed : Names → Kind → Option (List (List ℕ)) → Result Names Kind
with_listed names kind (Some list) = Ok (with_list names kind list)
with_listed names kind None = Err kind

-- a name that has no id gets the next one of its kind, unless all of these widths were given
abbrev pub noted : Widths → Names → Kind → List ℕ → Result Names Kind
noted w names kind name = with_listed names kind (listed (greatest w kind) (list_of names kind) name)

-- what comes after names that all have their ids
abbrev pub and_then_noted : Result Names Kind → (Names → Result Names Kind) → Result Names Kind
and_then_noted (Ok names) next = next names
and_then_noted (Err kind) next = Err kind

-- names from the left, each of its kind; or the kind of the first one for which there is no id
abbrev pub noted_all : Widths → Names → List (Kind × List ℕ) → Result Names Kind
noted_all w names [] = Ok names
noted_all w names (n ∷ ns) = and_then_noted (noted w names n.0 n.1) (λ more. noted_all w more ns)

-- what is told of a line for one of whose names there is no id
abbrev pub exhausted_text : Kind → List ℕ
exhausted_text kind = codes "ids of " ++ kind_text kind ++ codes " are exhausted"
