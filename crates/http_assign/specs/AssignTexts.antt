-- What the assignment of one text and of one list makes.
use Rattle.std.specs.Prelude.{◌≡◌, ℕ, List, ◌++◌, length, Option, Result, Ok, Err, Vec}
use Rattle.std.specs.declared.alloc.Global.{Global}
use Rattle.tsd_base.specs.declared.kinds.Kind.{Kind}
use Rattle.tsd_base.specs.declared.names.NameFault.{NameFault}
use Rattle.tsd_base.specs.declared.names.NameFault.TheVariants as names
use Rattle.tsd_base.specs.Faults.{name_fault_text}
use Rattle.tsd_hooks.specs.declared.name_patterns.Patterns.{Patterns}
use Rattle.cell_model.specs.declared.events.Placed.{Placed}
use Rattle.cell_model.specs.KindWidths.{Widths}
use Rattle.cell_model.specs.History.{first}
use Rattle.cell_model.specs.IdRows.{NameOf}
use Rattle.cell_model.specs.Seen.{Seen, InEach}
use Rattle.cell_model.specs.Deeds.{Extends, Made}
use Rattle.uid_table.specs.declared.id_answers.Assigned.{Assigned}
use Rattle.uid_table.specs.declared.id_answers.Assigned.TheVariants.{Fresh, Existing, Lost}
use Rattle.uid_table.specs.declared.id_answers.AssignFault.{AssignFault}
use Rattle.uid_table.specs.declared.id_answers.AssignFault.TheVariants.{Filtered, Exhausted, OutOfMemory, Stopped}
use Rattle.http_assign.specs.declared.assign_lists.IdLists.{IdLists}
use Rattle.http_assign.specs.AssignLists.{AssignBegun, IdTold, Ran, ReadAssigned, ReadBegun, already_text, exhausted_text, filtered_text, texts_in}

-- the answers of each list are as many as its texts
pub record IsAsLong (metric tagk tagv : Option (Vec (List ℕ) Global)) (ids : IdLists) : Type 0 where
  pub metrics : length ids.metric.items ≡ length (texts_in metric)
  pub tag_keys : length ids.tagk.items ≡ length (texts_in tagk)
  pub tag_values : length ids.tagv.items ≡ length (texts_in tagv)

-- ---- one text

-- the text that is told of the answer to a name
abbrev pub Tells : Widths → Kind → List ℕ → Result Assigned AssignFault → IdTold → Type 0
Tells w kind name (Ok (Fresh id)) outcome = outcome ≡ Ok id
Tells w kind name (Ok (Lost wasted id)) outcome = outcome ≡ Ok id
Tells w kind name (Ok (Existing id)) outcome = outcome ≡ Err (already_text w kind id)
Tells w kind name (Err (Filtered k)) outcome = outcome ≡ Err (filtered_text k name)
Tells w kind name (Err (Exhausted k)) outcome = outcome ≡ Err (exhausted_text k)
Tells w kind name (Err OutOfMemory) outcome = ⊥
Tells w kind name (Err Stopped) outcome = ⊥

-- the text that is told of one that is no name
abbrev pub IsBadName : Kind → NameFault → IdTold → Type 0
IsBadName kind names.OutOfMemory outcome = ⊥
IsBadName kind fault outcome = outcome ≡ Err (name_fault_text kind fault)

-- the caller made entries by which the text was asked, also in each history that fits what it sees later
pub record TextSays (patterns : Patterns) (kind : Kind) (read : Result (List ℕ) NameFault) (old : Seen) (outcome : IdTold) (new : Seen) : Type 0 where
  pub own : List Placed
  pub made : Made old own new
  pub asked : (later : Seen) → Extends new later → InEach later (λ h. ReadAssigned patterns kind read (first later.length h) own outcome)

abbrev pub NameSays : Patterns → Kind → List ℕ → Seen → IdTold → Seen → Type 0
NameSays patterns kind name old outcome new = TextSays patterns kind (Ok name) old outcome new

-- the caller made entries by which the text was begun
pub record TextBegun (patterns : Patterns) (kind : Kind) (read : Result (List ℕ) NameFault) (old new : Seen) : Type 0 where
  pub own : List Placed
  pub made : Made old own new
  pub begun : ReadBegun old.base.widths patterns kind read own

abbrev pub NameBegun : Patterns → Kind → List ℕ → Seen → Seen → Type 0
NameBegun patterns kind name old new = TextBegun patterns kind (Ok name) old new

-- ---- one list

-- the caller made some entries
abbrev pub MadeSome : Seen → Seen → Type 0
MadeSome old new = (own : List Placed) × Made old own new

-- texts were asked since the start, also in each history that fits what is seen later
pub record SoFar (patterns : Patterns) (texts : List NameOf) (start : Seen) (outs : List IdTold) (now : Seen) : Type 0 where
  pub own : List Placed
  pub made : Made start own now
  pub ran : (later : Seen) → Extends now later → InEach later (λ h. Ran patterns h start.caller start.length later.length texts outs now.length)

-- whatever was asked before, these texts were asked behind it
abbrev pub GoesOn : Patterns → List NameOf → Seen → List IdTold → Seen → Type 0
GoesOn patterns texts old outs new = (start : Seen) (done : List NameOf) (earlier : List IdTold) → SoFar patterns done start earlier old → SoFar patterns (done ++ texts) start (earlier ++ outs) new

-- whatever was asked before, and whatever was to be asked later, the assignment ended among these texts
abbrev pub EndsEarly : Patterns → List NameOf → Seen → Seen → Type 0
EndsEarly patterns texts old new = (start : Seen) (done rest : List NameOf) (earlier : List IdTold) → SoFar patterns done start earlier old
    → InEach new (λ h. AssignBegun patterns h start.caller start.length (done ++ (texts ++ rest)) new.length)
