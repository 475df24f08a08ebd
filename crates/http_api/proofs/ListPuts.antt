-- The work of a put whose body is a list.
use Rattle.std.proofs.Common.{◌≡◌, refl, ℕ, Bool, List, [], Option, None, Some, Result, Ok, Err, IfOk, IfErr, OnErr, Vec, Global, ap, ◌∙◌, sym, subst}
use Rattle.std.specs.Prelude.{IfSome, IsSomeAnd}
use Rattle.serde_json.specs.Data.{Data}
use Rattle.cell_model.specs.declared.answers.RowsFault.{RowsFault}
use Rattle.cell_model.specs.declared.answers.RowsFault.TheVariants as rows_fault
use Rattle.cell_model.specs.declared.answers.Stored.{Stored}
use Rattle.cell_model.specs.Stops.{RoseIf, is_stop}
use Rattle.cell_model.specs.Seen.{Seen, InEach}
use Rattle.cell_model.specs.Deeds.{Since, deeds}
use Rattle.point_put.specs.Admissions.{Admission}
use Rattle.queued_put.specs.PutRows.{MayHaveRows}
use Rattle.http_requests.specs.declared.http_call.Call.{Call}
use Rattle.http_requests.specs.declared.http_call.Refusal.{Refusal}
use Rattle.http_requests.specs.declared.http_call.Verb.{Verb}
use Rattle.http_requests.specs.declared.http_call.Verb.TheVariants.{Post}
use Rattle.http_requests.specs.declared.routes.Route.{Route}
use Rattle.http_requests.specs.declared.routes.Route.TheVariants as route
use Rattle.http_requests.specs.JsonBodies.{json_of}
use Rattle.http_requests.specs.Routes.{route_of}
use Rattle.http_put.specs.PutElements.{ElementsPut, Outcome, texts_of}
use Rattle.http_put.specs.PutLines.{IsListOf, ListBegun, ListPut}
use Rattle.http_api.specs.CallWork.{PutFlags, Work, by_refusal, by_route, by_verb, call_route, put_flags, puts_body, puts_elements, work_of}
use Rattle.http_api.specs.CallWork.Work.{Puts}
use Rattle.http_api.specs.HttpAnswers.{CallBroken, CallReplied, WorkBroken, WorkReplied, list_reply}
use Rattle.http_api.proofs.Answering.{elements_broken, elements_replied, elements_untold}
use Rattle.http_api.proofs.Bodies.{items_back}

list_work : (flags : PutFlags) (body : List ℕ) (elements : List Data) → IsListOf body elements → Puts flags elements ≡ puts_body flags (json_of body)
list_work flags body elements is = sym (ap (puts_body flags) is ∙ ap (λ (ds : List Data). puts_elements flags (Some ds)) (items_back elements))

pub list_replied : (c : Admission) (flags : PutFlags) (body : List ℕ) (elements : List Data) (closing : Bool) (old new : Seen) (before after : List Stored) (outcomes : List Outcome) → IsListOf body elements → Since old new → ElementsPut c elements old before outcomes new after
    → WorkReplied c (puts_body flags (json_of body)) closing old before (list_reply flags closing outcomes) new after
list_replied c flags body elements closing old new before after outcomes is since put =
    subst (λ (w : Work). WorkReplied c w closing old before (list_reply flags closing outcomes) new after) (list_work flags body elements is)
    (elements_replied c flags elements closing old new before after outcomes since put)

pub list_untold : (c : Admission) (flags : PutFlags) (body : List ℕ) (elements : List Data) (old new : Seen) (before after : List Stored) (outcomes : List Outcome) → IsListOf body elements → Since old new → ElementsPut c elements old before outcomes new after
    → WorkBroken c (puts_body flags (json_of body)) old before new after
list_untold c flags body elements old new before after outcomes is since put =
    subst (λ (w : Work). WorkBroken c w old before new after) (list_work flags body elements is) (elements_untold c flags elements old new before after outcomes since put)

pub list_broken : (c : Admission) (flags : PutFlags) (body : List ℕ) (old new : Seen) (before after : List Stored) → Since old new → ListBegun c body old before new after → InEach new (λ h. MayHaveRows before [] (deeds h old.caller old.length new.length) after)
    → WorkBroken c (puts_body flags (json_of body)) old before new after
list_broken c flags body old new before after since (elements, is, begun) rows =
    subst (λ (w : Work). WorkBroken c w old before new after) (list_work flags body elements is) (elements_broken c flags elements old new before after since begun rows)

-- the reply that was made tells of the elements
pub list_told : (c : Admission) (flags : PutFlags) (body : List ℕ) (closing : Bool) (old new : Seen) (before after : List Stored) (outs given : List (Option (Vec ℕ Global))) (r : Result (Option (Vec ℕ Global)) RowsFault) → given ≡ outs → Since old new → ListPut c body old before outs new after
    → IfOk r (λ found. IsSomeAnd found (λ reply. reply.items ≡ list_reply flags closing (texts_of given))) → IfOk r (λ found. IfSome found (λ reply. WorkReplied c (puts_body flags (json_of body)) closing old before reply.items new after))
list_told c flags body closing old new before after outs given (Err e) same since put told = tt
list_told c flags body closing old new before after outs given (Ok None) same since put told = tt
list_told c flags body closing old new before after outs given (Ok (Some reply)) same since (elements, is, put) told =
    subst (λ (bytes : List ℕ). WorkReplied c (puts_body flags (json_of body)) closing old before bytes new after) (sym (told ∙ ap (λ (o : List (Option (Vec ℕ Global))). list_reply flags closing (texts_of o)) same))
    (list_replied c flags body elements closing old new before after (texts_of outs) is since put)

-- there was no memory for the reply
pub list_unsaid : (c : Admission) (flags : PutFlags) (body : List ℕ) (old new : Seen) (before after : List Stored) (outs : List (Option (Vec ℕ Global))) → Since old new → ListPut c body old before outs new after → WorkBroken c (puts_body flags (json_of body)) old before new after
list_unsaid c flags body old new before after outs since (elements, is, put) = list_untold c flags body elements old new before after (texts_of outs) is since put

pub not_none : (P : Vec ℕ Global → Type 0) (r : Result (Option (Vec ℕ Global)) RowsFault) → IfOk r (λ found. IsSomeAnd found P) → r ≡ Ok None → ⊥
not_none P r some is = subst (λ (x : Result (Option (Vec ℕ Global)) RowsFault). IfOk x (λ found. IsSomeAnd found P)) is some

pub memory_since : {T : Type 0} (before now : ℕ) (r : Result T RowsFault) → IfErr r (λ e. e ≡ rows_fault.OutOfMemory) → IfErr r (λ e. RoseIf (is_stop e) before now)
memory_since before now (Ok x) e = tt
memory_since before now (Err f) e = subst (λ (fault : RowsFault). RoseIf (is_stop fault) before now) (sym e) tt

-- ---- the call

-- a call of this route and method puts what its body has
pub put_work : (now : ℕ) (call : Call) → call_route call ≡ Some route.Put → call.verb ≡ Post → work_of now call ≡ puts_body (put_flags call.form) (json_of call.body)
unfolding work_of
put_work now call leads verb = by call.refused refl
  where
    by : (refused : Option Refusal) → call.refused ≡ refused → by_refusal now refused call ≡ puts_body (put_flags call.form) (json_of call.body)
    by (Some refusal) is = let none : ◌≡◌ {A = Option Route} None (Some route.Put) = rw is at leads in absurd (cc)
    by None is = let path : route_of call.path ≡ Some route.Put = rw is at leads in ap (λ (r : Option Route). by_route now r call) path ∙ ap (λ (v : Verb). by_verb now v route.Put call) verb

-- what is said of its work is said of the call
pub call_replied : (c : Admission) (now : ℕ) (call : Call) (w : Work) (old new : Seen) (before after : List Stored) (r : Result (Option (Vec ℕ Global)) RowsFault) → work_of now call ≡ w
    → IfOk r (λ found. IfSome found (λ reply. WorkReplied c w call.closing old before reply.items new after)) → IfOk r (λ found. IfSome found (λ reply. CallReplied c now call old before reply.items new after))
call_replied c now call w old new before after r is h = subst (λ (w : Work). IfOk r (λ found. IfSome found (λ reply. WorkReplied c w call.closing old before reply.items new after))) (sym is) h

pub call_broken : (c : Admission) (now : ℕ) (call : Call) (w : Work) (old new : Seen) (before after : List Stored) (r : Result (Option (Vec ℕ Global)) RowsFault) → work_of now call ≡ w
    → OnErr r (WorkBroken c w old before new after) → OnErr r (CallBroken c now call old before new after)
call_broken c now call w old new before after r is h = subst (λ (w : Work). OnErr r (WorkBroken c w old before new after)) (sym is) h
