-- What the texts of an assignment are answered, over a history.
use Rattle.std.specs.Prelude.{◌≡◌, ℕ, ◌≤◌, List, [], ◌∷◌, ◌++◌, map, codes, Option, None, Some, Result, Ok, Err, Vec}
use Rattle.std.specs.declared.alloc.Global.{Global}
use Rattle.hex.specs.Hex.{encode_lower}
use Rattle.tsd_base.specs.declared.kinds.Kind.{Kind}
use Rattle.tsd_base.specs.declared.kinds.Kind.TheVariants.{Metric, TagKey, TagValue}
use Rattle.tsd_base.specs.declared.names.NameFault.{NameFault}
use Rattle.tsd_base.specs.Faults.{name_fault_text}
use Rattle.tsd_base.specs.Names.{name_of}
use Rattle.tsd_hooks.specs.declared.name_patterns.Patterns.{Patterns}
use Rattle.cell_model.specs.declared.events.Placed.{Placed}
use Rattle.cell_model.specs.History.{History, first, store_after}
use Rattle.cell_model.specs.KindWidths.{Widths, kind_bytes}
use Rattle.cell_model.specs.IdRows.{NameOf, id_of}
use Rattle.cell_model.specs.Deeds.{deeds}
use Rattle.uid_table.specs.declared.id_answers.Assigned.{Assigned}
use Rattle.uid_table.specs.declared.id_answers.Assigned.TheVariants.{Fresh, Existing, Lost}
use Rattle.uid_table.specs.declared.id_answers.AssignFault.{AssignFault}
use Rattle.uid_table.specs.declared.id_answers.AssignFault.TheVariants.{Filtered, Exhausted, OutOfMemory, Stopped}
use Rattle.uid_table.specs.IdSteps.{AssignMade}
use Rattle.point_put.specs.declared.fault.PutFault.TheVariants as put_fault
use Rattle.point_put.specs.PutFaults.{put_fault_text}
use Rattle.http_assign.specs.declared.assign_lists.IdLists.{IdLists}

-- ---- the lists

-- the texts of a list, where it is asked for
abbrev pub texts_in : Option (Vec (List ℕ) Global) → List (List ℕ)
texts_in None = []
texts_in (Some texts) = texts.items

abbrev pub of_kind : Kind → List (List ℕ) → List NameOf
of_kind kind texts = map (λ text. (kind, text)) texts

-- the texts with their kinds: first the metrics, then the tag keys, then the tag values
abbrev pub elements_in : Option (Vec (List ℕ) Global) → Option (Vec (List ℕ) Global) → Option (Vec (List ℕ) Global) → List NameOf
elements_in metric tagk tagv = of_kind Metric (texts_in metric) ++ (of_kind TagKey (texts_in tagk) ++ of_kind TagValue (texts_in tagv))

-- the id that a text was given, or the text of its error
abbrev pub IdTold : Type 0
IdTold = Result ℕ (List ℕ)

abbrev pub outcome_of : Result ℕ (Vec ℕ Global) → IdTold
outcome_of (Ok id) = Ok id
outcome_of (Err text) = Err text.items

abbrev pub outcomes_of : List (Result ℕ (Vec ℕ Global)) → List IdTold
outcomes_of outs = map outcome_of outs

abbrev pub outcomes_in : IdLists → List IdTold
outcomes_in ids = outcomes_of ids.metric.items ++ (outcomes_of ids.tagk.items ++ outcomes_of ids.tagv.items)

-- ---- texts of errors

-- with the bytes of the id in hexadecimal digits
abbrev pub already_text : Widths → Kind → ℕ → List ℕ
already_text w kind id = codes "already has id " ++ encode_lower (kind_bytes w kind id)

abbrev pub exhausted_text : Kind → List ℕ
exhausted_text kind = put_fault_text (put_fault.Exhausted kind)

abbrev pub filtered_text : Kind → List ℕ → List ℕ
filtered_text kind name = put_fault_text (put_fault.Filtered kind name)

-- ---- one text

-- What is told of an assignment: the id that it gave, or that another caller gave in between; else why there is none to give. The id is the name's
-- after the history.
abbrev pub AnswerTold : NameOf → History → Result Assigned AssignFault → IdTold → Type 0
AnswerTold n h (Ok (Fresh id)) outcome = (outcome ≡ Ok id) × (id_of h n.0 n.1 ≡ Some id)
AnswerTold n h (Ok (Lost wasted id)) outcome = (outcome ≡ Ok id) × (id_of h n.0 n.1 ≡ Some id)
AnswerTold n h (Ok (Existing id)) outcome = (outcome ≡ Err (already_text (store_after h).widths n.0 id)) × (id_of h n.0 n.1 ≡ Some id)
AnswerTold n h (Err (Filtered kind)) outcome = outcome ≡ Err (filtered_text kind n.1)
AnswerTold n h (Err (Exhausted kind)) outcome = outcome ≡ Err (exhausted_text kind)
AnswerTold n h (Err OutOfMemory) outcome = ⊥
AnswerTold n h (Err Stopped) outcome = ⊥

-- a name is assigned an id; of a text that is no name the fault is told, and it makes no entry
abbrev pub ReadAssigned : Patterns → Kind → Result (List ℕ) NameFault → History → List Placed → IdTold → Type 0
ReadAssigned patterns kind (Ok name) h own outcome = (answer : Result Assigned AssignFault) × AssignMade (store_after h).widths patterns kind name answer own × AnswerTold (kind, name) h answer outcome
ReadAssigned patterns kind (Err fault) h own outcome = (own ≡ []) × (outcome ≡ Err (name_fault_text kind fault))

abbrev pub TextAssigned : Patterns → NameOf → History → List Placed → IdTold → Type 0
TextAssigned patterns n h own outcome = ReadAssigned patterns n.0 (name_of n.1) h own outcome

-- a text was begun: its name was assigned an id, whatever came of it
abbrev pub ReadBegun : Widths → Patterns → Kind → Result (List ℕ) NameFault → List Placed → Type 0
ReadBegun w patterns kind (Ok name) own = (answer : Result Assigned AssignFault) × AssignMade w patterns kind name answer own
ReadBegun w patterns kind (Err fault) own = own ≡ []

-- ---- texts, one after the other

-- texts were asked one after the other, from one length on to another; the ids that are told are their names' at the length `end`
pub data Ran (patterns : Patterns) (h : History) (caller n end : ℕ) : List NameOf → List IdTold → ℕ → Type 0 where
  start : Ran patterns h caller n end [] [] n
  then_asked : {done : List NameOf} {outs : List IdTold} {e e2 : ℕ} (text : NameOf) (outcome : IdTold) → Ran patterns h caller n end done outs e → e ≤ e2
      → TextAssigned patterns text (first end h) (deeds h caller e e2) outcome → Ran patterns h caller n end (done ++ text ∷ []) (outs ++ outcome ∷ []) e2

-- each text was asked, and the ids that are told are their names' at the end
abbrev pub AssignRan : Patterns → History → ℕ → ℕ → List NameOf → List IdTold → ℕ → Type 0
AssignRan patterns h caller n texts outs n2 = Ran patterns h caller n n2 texts outs n2

-- the entries are of the first of these texts, and there are none where there is no text
abbrev pub FirstBegun : Widths → Patterns → List NameOf → List Placed → Type 0
FirstBegun w patterns [] own = own ≡ []
FirstBegun w patterns (text ∷ rest) own = ReadBegun w patterns text.0 (name_of text.1) own

-- the first texts were asked up to some length, and what comes later is of the next one alone
pub record AssignBegun (patterns : Patterns) (h : History) (caller n : ℕ) (texts : List NameOf) (n2 : ℕ) : Type 0 where
  pub done : List NameOf
  pub rest : List NameOf
  pub outs : List IdTold
  pub last : ℕ
  pub all : texts ≡ done ++ rest
  pub ran : Ran patterns h caller n n2 done outs last
  pub in_range : last ≤ n2
  pub begun : FirstBegun (store_after h).widths patterns rest (deeds h caller last n2)
