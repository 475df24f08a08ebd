-- Working one sub query.
use Rattle.std.specs.Prelude.{◌≡◌, ℕ, ℤ, ◌≤◌, List, length, map, Contains, None, Some, Result, Ok, Err}
use Rattle.std.specs.Global.{Vec}
use Rattle.json_reply.specs.Replies.{Group, plain}
use Rattle.json_reply.specs.declared.reply.Group as code
use Rattle.query_text.specs.declared.queries.Query.{Query}
use Rattle.query_text.specs.declared.queries.Sub.{Sub}
use Rattle.tag_match.specs.declared.built.Built.{Built}
use Rattle.cell_model.specs.History.{History, first}
use Rattle.cell_model.specs.Seen.{Seen, InEach}
use Rattle.cell_model.specs.Deeds.{Made, Extends}
use Rattle.span_merge.specs.Spans.{Span, KeepsSpans}
use Rattle.query_run.specs.declared.collection.Collected.{Collected}
use Rattle.query_run.specs.RowDots.{IsIn}
use Rattle.series_groups.specs.NamedSeries.{Series}
use Rattle.metric_scan.specs.declared.fault.AskFault.{AskFault}
use Rattle.metric_scan.specs.declared.fault.AskFault.TheVariants.{TooManyBuckets, BadFilter, Overflow, OutOfMemory}
use Rattle.series_groups.specs.QueryAnswers.{answer, down_by, too_many_down}
use Rattle.metric_scan.specs.Parts.{Part, AreQuerySteps, PartStands}
use Rattle.query_run.specs.Asked.{Cause}
use Rattle.query_run.specs.AskedQueries.{wanted, names_in, barred, answer_over, IsFew}
use Rattle.series_groups.specs.NamedSeries.{points_in}
use Rattle.metric_scan.specs.RowNames.{Names, known}
use Rattle.query_run.specs.SeriesTags.{Titles, CanTitle}

-- the filters are built, or what bars the sub query is told
abbrev pub BuiltSays : Query → Sub → Result Built AskFault → Type 0
BuiltSays q s (Ok built) = (built ≡ s.filters) × (barred q s ≡ None) × (too_many_down q.start q.end s.down ≡ None)
BuiltSays q s (Err (TooManyBuckets count)) = barred q s ≡ Some (TooManyBuckets count)
BuiltSays q s (Err (BadFilter index)) = barred q s ≡ Some (BadFilter index)
BuiltSays q s (Err OutOfMemory) = Unit {0}
BuiltSays q s (Err fault) = ⊥

-- what was collected is kept of these series, each with points in the range
pub record AreCollected (q : Query) (s : Sub) (c : Collected) (spans : List Span) : Type 0 where
  pub keeps : KeepsSpans (down_by q.ms s.how s.down) c.spans spans
  pub names : CanTitle (known c.names) spans
  pub some : (x : Span) → Contains spans x → 1 ≤ length x.1
  pub within : (x : Span) (d : ℕ × ℤ) → Contains spans x → Contains x.1 d → IsIn q.start q.end d.0

-- the series under their names, with what the answer over their points is
abbrev pub Answering : Query → Sub → Names → List Span → Result (List Group) ℕ → Type 0
Answering q s names spans wanted = (series : List Series) × Titles names spans series × (answer q s (points_in s.metric series) ≡ wanted)

abbrev pub GroupsSay : Query → Sub → Names → List Span → Result (Vec code.Group) AskFault → Type 0
GroupsSay q s names spans (Ok groups) = Answering q s names spans (Ok (map plain groups.items))
GroupsSay q s names spans (Err (Overflow time)) = Answering q s names spans (Err time)
GroupsSay q s names spans (Err OutOfMemory) = Unit {0}
GroupsSay q s names spans (Err fault) = ⊥

-- so it is of the length and the history of each sight from this one on
abbrev pub Later : Seen → (ℕ → History → Type 0) → Type 0
Later s P = (later : Seen) → Extends s later → InEach later (P later.length)

-- the sub query has a part that stands from now on, and these are the groups over what it shows
pub record SubAnswered (q : Query) (s : Sub) (old : Seen) (groups : List Group) (new : Seen) : Type 0 where
  pub part : Part
  pub made : Made old part.own new
  pub steps : AreQuerySteps part.own
  pub free : barred q s ≡ None
  pub stands : Later new (λ end h. PartStands (wanted q s) (names_in s) part end h)
  pub answers : answer_over q s part.shown ≡ Ok groups
  pub few : Later new (λ end h. IsFew q s part.own (first end h))

-- the sub query is refused
pub record SubRefused (q : Query) (s : Sub) (old : Seen) (fault : AskFault) (new : Seen) : Type 0 where
  pub part : Part
  pub made : Made old part.own new
  pub steps : AreQuerySteps part.own
  pub cause : InEach new (λ h. Cause (wanted q) names_in (barred q) (answer_over q) (IsFew q) s part new.length h fault)
  pub few : InEach new (λ h. IsFew q s part.own (first new.length h))

abbrev pub SubSays : Query → Sub → Seen → Result (Vec code.Group) AskFault → Seen → Type 0
SubSays q s old (Ok groups) new = SubAnswered q s old (map plain groups.items) new
SubSays q s old (Err fault) new = SubRefused q s old fault new
