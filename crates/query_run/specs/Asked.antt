-- What a query is answered, by the entries that its caller makes for it.
use Rattle.std.specs.Prelude.{◌≡◌, ℕ, Bool, List, [], ◌∷◌, ◌++◌, map, Option, None, Some, Result, Ok, Err}
use Rattle.cell_model.specs.History.{History, first, store_after}
use Rattle.cell_model.specs.IdRows.{name_of}
use Rattle.cell_model.specs.declared.events.Placed.{Placed}
use Rattle.cell_model.specs.Readings.{Reading}
use Rattle.cell_model.specs.Seen.{Seen, InEach}
use Rattle.cell_model.specs.Deeds.{Made, deeds, before_first}
use Rattle.json_reply.specs.Replies.{Group, plain}
use Rattle.json_reply.specs.declared.reply.Reply.{Reply}
use Rattle.metric_scan.specs.declared.fault.AskFault.{AskFault}
use Rattle.metric_scan.specs.declared.fault.AskFault.TheVariants.{TooManyBuckets, BadFilter, Unknown, Duplicate, Overflow, OutOfMemory, Stopped}
use Rattle.metric_scan.specs.Parts.{NameOf, Part, all_own, AreQuerySteps, AllResolved, PartStands, FirstUnknown, FirstConflict}

-- of a sub query: which readings are wanted; the names that it has, in order; why it is refused by itself, if it is; the groups
-- over readings, or the time of an overflow; and which entries are few enough for it
module _ {Sub : Type 0} (wanted : Sub → Reading → Bool) (names_in : Sub → List NameOf) (barred : Sub → Option AskFault) (answer_over : Sub → List Reading → Result (List Group) ℕ) (IsFew : Sub → List Placed → History → Type 0) where
  -- why a sub query is refused, by the entries made for it; each cause comes where those that stand before it here don't
  abbrev pub Cause : Sub → Part → ℕ → History → AskFault → Type 0
  Cause s part end h (TooManyBuckets count) = (part.own ≡ []) × (barred s ≡ Some (TooManyBuckets count))
  Cause s part end h (BadFilter index) = (part.own ≡ []) × (barred s ≡ Some (BadFilter index))
  Cause s part end h (Unknown kind name) = (barred s ≡ None) × FirstUnknown (names_in s) (kind, name) part.own (first end h)
  Cause s part end h (Duplicate time a b) = (barred s ≡ None) × AllResolved (first end h) (names_in s) × FirstConflict (store_after (first (before_first part.own end) h)) (store_after (first end h)).widths (name_of (first end h)) (wanted s) part.own time a b
  Cause s part end h (Overflow time) = (barred s ≡ None) × PartStands (wanted s) (names_in s) part end h × (answer_over s part.shown ≡ Err time)
  Cause s part end h OutOfMemory = Unit {0}
  Cause s part end h Stopped = Unit {0}

  -- each sub query has its part, of few entries, and the groups are the answers over what the parts show
  pub data Answers (end : ℕ) (h : History) : List Sub → List Part → List Group → Type 0 where
    none : Answers end h [] [] []
    more : {s : Sub} {part : Part} {groups : List Group} {subs : List Sub} {parts : List Part} {rest : List Group} → barred s ≡ None → PartStands (wanted s) (names_in s) part end h
        → answer_over s part.shown ≡ Ok groups → IsFew s part.own (first end h) → Answers end h subs parts rest → Answers end h (s ∷ subs) (part ∷ parts) (groups ++ rest)

  -- all sub queries are answered, by these entries and no other
  pub record Answered (old : Seen) (subs : List Sub) (groups : List Group) (new : Seen) : Type 0 where
    pub parts : List Part
    pub made : Made old (all_own parts) new
    pub steps : AreQuerySteps (all_own parts)
    pub answers : InEach new (λ h. Answers new.length h subs parts groups)

  -- the first sub query that has a fault gives it, and those before it were answered
  pub record Refused (old : Seen) (subs : List Sub) (fault : AskFault) (new : Seen) : Type 0 where
    pub done : List Sub
    pub sub : Sub
    pub rest : List Sub
    pub cut : subs ≡ done ++ sub ∷ rest
    pub parts : List Part
    pub part : Part
    pub groups : List Group
    pub made : Made old (all_own parts ++ part.own) new
    pub steps : AreQuerySteps (all_own parts ++ part.own)
    pub before : InEach new (λ h. Answers new.length h done parts groups)
    pub cause : InEach new (λ h. Cause sub part new.length h fault)
    pub few : InEach new (λ h. IsFew sub part.own (first new.length h))

  abbrev pub AskSays : Seen → List Sub → Result Reply AskFault → Seen → Type 0
  AskSays old subs (Ok reply) new = Answered old subs (map plain reply.groups.items) new
  AskSays old subs (Err fault) new = Refused old subs fault new

  -- ---- over one history, between two lengths of it

  -- all sub queries are answered, by the caller's entries and no other
  pub record AllAnswered (h : History) (caller n : ℕ) (subs : List Sub) (groups : List Group) (n2 : ℕ) : Type 0 where
    pub parts : List Part
    pub made : deeds h caller n n2 ≡ all_own parts
    pub steps : AreQuerySteps (deeds h caller n n2)
    pub answers : Answers n2 h subs parts groups

  -- the first sub query that has a fault gives it, and those before it were answered
  pub record OneRefused (h : History) (caller n : ℕ) (subs : List Sub) (fault : AskFault) (n2 : ℕ) : Type 0 where
    pub done : List Sub
    pub sub : Sub
    pub rest : List Sub
    pub cut : subs ≡ done ++ sub ∷ rest
    pub parts : List Part
    pub part : Part
    pub groups : List Group
    pub made : deeds h caller n n2 ≡ all_own parts ++ part.own
    pub steps : AreQuerySteps (deeds h caller n n2)
    pub before : Answers n2 h done parts groups
    pub cause : Cause sub part n2 h fault
    pub few : IsFew sub part.own (first n2 h)

  abbrev pub SubsAsked : History → ℕ → ℕ → List Sub → Result (List Group) AskFault → ℕ → Type 0
  SubsAsked h caller n subs (Ok groups) n2 = AllAnswered h caller n subs groups n2
  SubsAsked h caller n subs (Err fault) n2 = OneRefused h caller n subs fault n2
