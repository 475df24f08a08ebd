-- What a call is answered, by the entries that its caller makes for it between two lengths of a history.
use Rattle.std.specs.Prelude.{◌≡◌, ◌⊎◌, ℕ, Bool, List, [], ◌++◌, map, Option, None, Some, option_map, Result, Ok, Err, Vec}
use Rattle.std.specs.declared.alloc.Global.{Global}
use Rattle.tsd_base.specs.declared.kinds.Kind.TheVariants.{Metric, TagKey, TagValue}
use Rattle.cell_model.specs.declared.answers.Stored.{Stored}
use Rattle.cell_model.specs.History.{History, store_after}
use Rattle.cell_model.specs.IdRows.{NameOf}
use Rattle.cell_model.specs.Deeds.{deeds, Since}
use Rattle.cell_model.specs.Seen.{Seen, InEach}
use Rattle.compactor.specs.Queues.{HasRows}
use Rattle.point_put.specs.Admissions.{Admission}
use Rattle.queued_put.specs.PutRows.{MayHaveRows}
use Rattle.json_reply.specs.ErrorBodies.{error_body}
use Rattle.json_reply.specs.Replies.{Group, text_of}
use Rattle.json_reply.specs.Texts.{names_text}
use Rattle.http_requests.specs.declared.http_call.Call.{Call}
use Rattle.http_put.specs.PutElements.{Outcome, PutBegun, PutRan}
use Rattle.http_assign.specs.AssignLists.{AssignBegun, AssignRan, IdTold, of_kind, outcomes_of}
use Rattle.http_assign.specs.SuggestNames.{SuggestAsked, SuggestBegun}
use Rattle.http_reply.specs.declared.assign_reply.Assignment.{Assignment}
use Rattle.http_reply.specs.declared.assign_reply.Element.{Element}
use Rattle.http_reply.specs.declared.reply_status.Status.{Status}
use Rattle.http_reply.specs.declared.reply_status.Status.TheVariants as status
use Rattle.http_reply.specs.AssignReplies.{assign_body, assign_status}
use Rattle.http_reply.specs.PutReplies.{put_body, put_status}
use Rattle.http_reply.specs.ReplyBytes.{reply_bytes}
use Rattle.http_reply.specs.ReplyStatuses.{code_of}
use Rattle.name_requests.specs.AssignRequests.{AssignLists}
use Rattle.metric_scan.specs.AskFaultTexts.{ask_fault_text}
use Rattle.query_run.specs.AskedQueries.{QueryAsked}
use Rattle.metric_scan.specs.declared.fault.AskFault.{AskFault}
use Rattle.metric_scan.specs.declared.fault.AskFault.TheVariants.{OutOfMemory, Stopped}
use Rattle.series_meta.specs.declared.meta_faults.MetaFault.{MetaFault}
use Rattle.http_series.specs.SeriesAnswers.{LastsTold, LookupTold, query_fault}
use Rattle.http_api.specs.CallWork.{PutFlags, Work, work_of}
use Rattle.http_api.specs.CallWork.Work.{Says, Puts, Assigns, Suggests, Asks, LooksUp, AsksLast}

-- ---- an assignment's elements

abbrev pub names_in : Option (List (List ℕ)) → List (List ℕ)
names_in None = []
names_in (Some names) = names

-- the texts with their kinds: first the metrics, then the tag keys, then the tag values
abbrev pub named_in : AssignLists → List NameOf
named_in lists = of_kind Metric (names_in lists.metric) ++ (of_kind TagKey (names_in lists.tagk) ++ of_kind TagValue (names_in lists.tagv))

-- the texts of the elements of a kind, and what they were answered
abbrev pub element_texts : Option (Vec Element Global) → Option (List (List ℕ))
element_texts elements = option_map (λ list. map (λ (element : Element). element.text.items) list.items) elements

abbrev pub element_answers : Option (Vec Element Global) → List IdTold
element_answers None = []
element_answers (Some elements) = outcomes_of (map (λ (element : Element). element.answer) elements.items)

abbrev pub answers_in : Assignment → List IdTold
answers_in answers = element_answers answers.metric ++ (element_answers answers.tagk ++ element_answers answers.tagv)

-- the elements have these texts, kind by kind
pub record HasTexts (lists : AssignLists) (answers : Assignment) : Type 0 where
  pub metric : element_texts answers.metric ≡ lists.metric
  pub tagk : element_texts answers.tagk ≡ lists.tagk
  pub tagv : element_texts answers.tagv ≡ lists.tagv

-- ---- what is told

-- the status and the body of a reply
pub record Told : Type 0 where
  pub status : Status
  pub body : List ℕ

abbrev pub told : Status → List ℕ → Told
told status body = record { status = status; body = body }

-- what is told of a query: its groups, or why it has no answer; want of memory and a stop aren't told
abbrev pub QueryTells : Result (List Group) AskFault → Told → Type 0
QueryTells (Ok groups) t = t ≡ told status.Ok (text_of groups)
QueryTells (Err OutOfMemory) t = ⊥
QueryTells (Err Stopped) t = ⊥
QueryTells (Err fault) t = t ≡ told status.BadRequest (error_body (code_of status.BadRequest) (ask_fault_text fault))

-- what is told of last points: the text, or why there is none
abbrev pub SeriesTell : Result (List ℕ) MetaFault → Told → Type 0
SeriesTell (Ok text) t = t ≡ told status.Ok text
SeriesTell (Err fault) t = QueryTells (Err (query_fault fault)) t

-- Work was done between two lengths of the history, and so much is told of it; these rows are of the points that were accepted. A fixed answer makes no
-- entry. Elements and names are asked one after the other, each between two lengths of its own.
abbrev pub Done : Admission → History → ℕ → ℕ → ℕ → Work → Told → List Stored → Type 0
Done c h caller n n2 (Says status body) t stored = (deeds h caller n n2 ≡ []) × (t ≡ told status body) × (stored ≡ [])
Done c h caller n n2 (Puts flags elements) t stored =
    (outcomes : List Outcome) × PutRan c h caller n elements outcomes stored n2 × (t ≡ told (put_status flags.details flags.summary outcomes) (put_body flags.details flags.summary outcomes))
Done c h caller n n2 (Assigns lists) t stored =
    (answers : Assignment) × HasTexts lists answers × AssignRan c.patterns h caller n (named_in lists) (answers_in answers) n2 × (t ≡ told (assign_status answers) (assign_body (store_after h).widths answers)) × (stored ≡ [])
Done c h caller n n2 (Suggests s) t stored =
    (names : List (List ℕ)) × SuggestAsked h caller n s.kind s.prefix s.max names n2 × (t ≡ told status.Ok (names_text names)) × (stored ≡ [])
Done c h caller n n2 (Asks query) t stored =
    (result : Result (List Group) AskFault) × QueryAsked h caller n query result n2 × QueryTells result t × (stored ≡ [])
Done c h caller n n2 (LooksUp asked) t stored =
    (result : Result (List ℕ) MetaFault) × LookupTold h caller n asked result n2 × SeriesTell result t × (stored ≡ [])
Done c h caller n n2 (AsksLast series) t stored =
    (result : Result (List ℕ) MetaFault) × LastsTold h caller n series result n2 × SeriesTell result t × (stored ≡ [])

-- the reply to work that was done
pub record WorkAnswered (c : Admission) (h : History) (caller n n2 : ℕ) (work : Work) (closing : Bool) (reply : List ℕ) (stored : List Stored) : Type 0 where
  pub tells : Told
  pub done : Done c h caller n n2 work tells stored
  pub reply_is : reply ≡ reply_bytes tells.status closing tells.body

-- the reply that tells of a query
abbrev pub IsReplyTo : Result (List Group) AskFault → Bool → List ℕ → Type 0
IsReplyTo result closing reply = (t : Told) × QueryTells result t × (reply ≡ reply_bytes t.status closing t.body)

-- the reply that tells of last points
abbrev pub IsSeriesReply : Result (List ℕ) MetaFault → Bool → List ℕ → Type 0
IsSeriesReply result closing reply = (t : Told) × SeriesTell result t × (reply ≡ reply_bytes t.status closing t.body)

-- a call was answered at a moment, between two lengths of the history, with this reply, and these rows are of the points that were accepted
abbrev pub CallAnswered : Admission → History → ℕ → ℕ → ℕ → ℕ → Call → List ℕ → List Stored → Type 0
CallAnswered c h caller n n2 now call reply stored = WorkAnswered c h caller n n2 (work_of now call) call.closing reply stored

-- elements, names, a query or series were begun between two lengths of the history
abbrev pub WorkBegun : Admission → History → ℕ → ℕ → ℕ → Work → Type 0
WorkBegun c h caller n n2 (Says status body) = ⊥
WorkBegun c h caller n n2 (Puts flags elements) = (stored : List Stored) × PutBegun c h caller n elements stored n2
WorkBegun c h caller n n2 (Assigns lists) = AssignBegun c.patterns h caller n (named_in lists) n2
WorkBegun c h caller n n2 (Suggests s) = SuggestBegun h caller n n2
WorkBegun c h caller n n2 (Asks query) = (result : Result (List Group) AskFault) × QueryAsked h caller n query result n2
WorkBegun c h caller n n2 (LooksUp asked) = (result : Result (List ℕ) MetaFault) × LookupTold h caller n asked result n2
WorkBegun c h caller n n2 (AsksLast series) = (result : Result (List ℕ) MetaFault) × LastsTold h caller n series result n2

-- no entry was made, or the work was begun
abbrev pub BegunAtMost : Admission → History → ℕ → ℕ → ℕ → Work → Type 0
BegunAtMost c h caller n n2 work = (deeds h caller n n2 ≡ []) ⊎ WorkBegun c h caller n n2 work

-- a call was begun at a moment, between two lengths of the history
abbrev pub CallBegun : Admission → History → ℕ → ℕ → ℕ → ℕ → Call → Type 0
CallBegun c h caller n n2 now call = BegunAtMost c h caller n n2 (work_of now call)

-- ---- what a caller sees of it

-- work was answered with this reply in each lawful history that fits, and the queue got the rows of the points that were accepted
pub record WorkReplied (c : Admission) (work : Work) (closing : Bool) (old : Seen) (before : List Stored) (reply : List ℕ) (new : Seen) (after : List Stored) : Type 0 where
  pub stored : List Stored
  pub since : Since old new
  pub answered : InEach new (λ h. WorkAnswered c h old.caller old.length new.length work closing reply stored)
  pub rows : HasRows before stored after

abbrev pub CallReplied : Admission → ℕ → Call → Seen → List Stored → List ℕ → Seen → List Stored → Type 0
CallReplied c now call old before reply new after = WorkReplied c (work_of now call) call.closing old before reply new after

-- work was begun, and the queue may have got rows that its entries put
pub record WorkBroken (c : Admission) (work : Work) (old : Seen) (before : List Stored) (new : Seen) (after : List Stored) : Type 0 where
  pub since : Since old new
  pub begun : InEach new (λ h. BegunAtMost c h old.caller old.length new.length work)
  pub rows : InEach new (λ h. MayHaveRows before [] (deeds h old.caller old.length new.length) after)

abbrev pub CallBroken : Admission → ℕ → Call → Seen → List Stored → Seen → List Stored → Type 0
CallBroken c now call old before new after = WorkBroken c (work_of now call) old before new after

-- the reply that tells of elements
abbrev pub list_reply : PutFlags → Bool → List Outcome → List ℕ
list_reply flags closing outcomes = reply_bytes (put_status flags.details flags.summary outcomes) closing (put_body flags.details flags.summary outcomes)
