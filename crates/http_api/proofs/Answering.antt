-- What is told of work, and what was begun of it.
use Rattle.std.proofs.Common.{◌≡◌, inl, inr, ℕ, Bool, List, [], ◌++◌, refl, sym, ap, subst, ◌∙◌, append-nil, arith, Result, Ok, Err, Vec, Global}
use Rattle.std.specs.Prelude.{IfOk, OnErr, Option, None, Some, option_map}
use Rattle.query_text.specs.declared.queries.Query.{Query}
use Rattle.query_run.specs.AskedQueries.{QuerySays, plain_result}
use Rattle.metric_scan.specs.declared.fault.AskFault.{AskFault}
use Rattle.query_run.proofs.CallerLemmas.{query_asked}
use Rattle.json_reply.specs.declared.reply.Reply.{Reply}
use Rattle.serde_json.specs.Data.{Data}
use Rattle.cell_model.specs.declared.answers.Stored.{Stored}
use Rattle.cell_model.specs.Seen.{Seen, InEach, Fits}
use Rattle.cell_model.specs.KindWidths.{Widths}
use Rattle.cell_model.specs.History.{History, store_after}
use Rattle.cell_model.specs.Deeds.{Since, deeds}
use Rattle.cell_laws.proofs.CallerLemmas.{nothing_made, seen_widths}
use Rattle.compactor.proofs.CallerLemmas.{rows_none}
use Rattle.point_put.specs.Admissions.{Admission}
use Rattle.queued_put.specs.PutRows.{MayHaveRows}
use Rattle.queued_put.proofs.CallerLemmas.{may_have}
use Rattle.http_put.specs.PutElements.{ElementsBegun, ElementsPut, Outcome}
use Rattle.http_put.proofs.CallerLemmas.{may_have_put}
use Rattle.tsd_base.specs.declared.kinds.Kind.TheVariants.{Metric, TagKey, TagValue}
use Rattle.cell_model.specs.IdRows.{NameOf}
use Rattle.http_assign.specs.AssignLists.{AssignBegun, AssignRan, IdTold, elements_in, of_kind, texts_in}
use Rattle.http_assign.specs.SuggestNames.{SuggestAsked, SuggestBegun}
use Rattle.http_reply.specs.declared.assign_reply.Assignment.{Assignment}
use Rattle.http_reply.specs.AssignReplies.{assign_body, assign_status}
use Rattle.http_reply.specs.PutReplies.{put_body, put_status}
use Rattle.http_reply.specs.ReplyBytes.{reply_bytes}
use Rattle.http_reply.specs.declared.reply_status.Status.{Status}
use Rattle.http_reply.specs.declared.reply_status.Status.TheVariants as status
use Rattle.json_reply.specs.Texts.{names_text}
use Rattle.name_requests.specs.AssignRequests.{AssignLists, assign_lists}
use Rattle.name_requests.specs.declared.assign_request.AssignRequest.{AssignRequest}
use Rattle.name_requests.specs.SuggestRequests.{Suggestion}
use Rattle.http_api.specs.CallWork.{PutFlags, Work}
use Rattle.series_meta.specs.LatestPoints.{Asking}
use Rattle.series_meta.specs.Lookups.{SeriesAsked}
use Rattle.series_meta.specs.declared.meta_faults.MetaFault.{MetaFault}
use Rattle.http_series.specs.SeriesAnswers.{LastsTell, LookupTells}
use Rattle.http_api.specs.CallWork.Work.{Says, Puts, Assigns, Suggests, Asks, LooksUp, AsksLast}
use Rattle.http_api.specs.HttpAnswers.{HasTexts, IsReplyTo, IsSeriesReply, WorkBroken, WorkReplied, answers_in, named_in, names_in, told}

-- no entry was made since
none_since : (old new : Seen) (h : History) → Since old new → Fits new h → deeds h old.caller new.length new.length ≡ []
none_since old new h since f = ap (λ n. deeds h n new.length new.length) (sym since.caller) ∙ (nothing_made new).made h f

-- ---- nothing was done

pub nothing : (c : Admission) (work : Work) (s : Seen) (queue : List Stored) → WorkBroken c work s queue s queue
nothing c work s queue = record {
  since = (nothing_made s).since;
  begun = λ h l f. inl ((nothing_made s).made h f);
  rows = λ h l f. may_have queue [] queue (deeds h s.caller s.length s.length) (rows_none queue);
}

pub said : (c : Admission) (status : Status) (body : List ℕ) (closing : Bool) (s : Seen) (queue : List Stored) → WorkReplied c (Says status body) closing s queue (reply_bytes status closing body) s queue
said c status body closing s queue = record {
  stored = [];
  since = (nothing_made s).since;
  answered = λ h l f. record { tells = told status body; done = ((nothing_made s).made h f, refl, refl); reply_is = refl };
  rows = rows_none queue;
}

-- ---- elements

pub elements_replied : (c : Admission) (flags : PutFlags) (elements : List Data) (closing : Bool) (old new : Seen) (before after : List Stored) (outcomes : List Outcome) → Since old new → ElementsPut c elements old before outcomes new after
    → WorkReplied c (Puts flags elements) closing old before (reply_bytes (put_status flags.details flags.summary outcomes) closing (put_body flags.details flags.summary outcomes)) new after
elements_replied c flags elements closing old new before after outcomes since put = record {
  stored = put.stored;
  since = since;
  answered = λ h l f. record {
    tells = told (put_status flags.details flags.summary outcomes) (put_body flags.details flags.summary outcomes);
    done = (outcomes, put.ran h l f, refl);
    reply_is = refl;
  };
  rows = put.rows;
}

pub elements_broken : (c : Admission) (flags : PutFlags) (elements : List Data) (old new : Seen) (before after : List Stored) → Since old new → ElementsBegun c elements old before new after
    → InEach new (λ h. MayHaveRows before [] (deeds h old.caller old.length new.length) after) → WorkBroken c (Puts flags elements) old before new after
elements_broken c flags elements old new before after since begun rows = record { since = since; begun = λ h l f. inr (begun.stored, begun.begun h l f); rows = rows }

-- all elements were put, and there was no memory for the reply
ended : (c : Admission) (elements : List Data) (old new : Seen) (before after : List Stored) (outcomes : List Outcome) → Since old new → ElementsPut c elements old before outcomes new after → ElementsBegun c elements old before new after
ended c elements old new before after outcomes since put = record {
  stored = put.stored;
  begun = λ h l f. record {
    done = elements;
    rest = [];
    outs = outcomes;
    last = new.length;
    all = sym (append-nil elements);
    ran = put.ran h l f;
    in_range = omega arith;
    begun = none_since old new h since f;
  };
  rows = put.rows;
}

pub elements_untold : (c : Admission) (flags : PutFlags) (elements : List Data) (old new : Seen) (before after : List Stored) (outcomes : List Outcome) → Since old new → ElementsPut c elements old before outcomes new after
    → WorkBroken c (Puts flags elements) old before new after
elements_untold c flags elements old new before after outcomes since put =
    let begun = ended c elements old new before after outcomes since put in
    elements_broken c flags elements old new before after since begun (may_have_put c elements old new before after begun)

-- ---- names

-- the texts of a list are those that are asked for
kind_names : (list : Option (Vec (List ℕ) Global)) → texts_in list ≡ names_in (option_map (λ names. names.items) list)
kind_names None = refl
kind_names (Some names) = refl

same_names : (r : AssignRequest) → elements_in r.metric r.tagk r.tagv ≡ named_in (assign_lists r)
same_names r = ap (λ names. of_kind Metric names ++ (of_kind TagKey (texts_in r.tagk) ++ of_kind TagValue (texts_in r.tagv))) (kind_names r.metric)
    ∙ ap (λ names. of_kind Metric (names_in (assign_lists r).metric) ++ (of_kind TagKey names ++ of_kind TagValue (texts_in r.tagv))) (kind_names r.tagk)
    ∙ ap (λ names. of_kind Metric (names_in (assign_lists r).metric) ++ (of_kind TagKey (names_in (assign_lists r).tagk) ++ of_kind TagValue names)) (kind_names r.tagv)

-- what holds of these texts holds of those that are asked for
pub as_named : (P : List NameOf → Type 0) (r : AssignRequest) → P (elements_in r.metric r.tagk r.tagv) → P (named_in (assign_lists r))
as_named P r p = subst P (same_names r) p

pub names_replied : (c : Admission) (lists : AssignLists) (closing : Bool) (old new : Seen) (queue : List Stored) (answers : Assignment) (w : Widths) → w ≡ new.base.widths → Since old new → HasTexts lists answers
    → InEach new (λ h. AssignRan c.patterns h old.caller old.length (named_in lists) (answers_in answers) new.length)
    → WorkReplied c (Assigns lists) closing old queue (reply_bytes (assign_status answers) closing (assign_body w answers)) new queue
names_replied c lists closing old new queue answers w same since texts ran = record {
  stored = [];
  since = since;
  answered = λ h l f. record {
    tells = told (assign_status answers) (assign_body (store_after h).widths answers);
    done = (answers, texts, ran h l f, refl, refl);
    reply_is = ap (λ (v : Widths). reply_bytes (assign_status answers) closing (assign_body v answers)) (same ∙ seen_widths new h f);
  };
  rows = rows_none queue;
}

pub names_broken : (c : Admission) (lists : AssignLists) (old new : Seen) (queue : List Stored) → Since old new → InEach new (λ h. AssignBegun c.patterns h old.caller old.length (named_in lists) new.length)
    → WorkBroken c (Assigns lists) old queue new queue
names_broken c lists old new queue since begun = record {
  since = since;
  begun = λ h l f. inr (begun h l f);
  rows = λ h l f. may_have queue [] queue (deeds h old.caller old.length new.length) (rows_none queue);
}

pub names_untold : (c : Admission) (lists : AssignLists) (old new : Seen) (queue : List Stored) (outcomes : List IdTold) → Since old new
    → InEach new (λ h. AssignRan c.patterns h old.caller old.length (named_in lists) outcomes new.length) → WorkBroken c (Assigns lists) old queue new queue
names_untold c lists old new queue outcomes since ran = names_broken c lists old new queue since (λ h l f. record {
  done = named_in lists;
  rest = [];
  outs = outcomes;
  last = new.length;
  all = sym (append-nil (named_in lists));
  ran = ran h l f;
  in_range = omega arith;
  begun = none_since old new h since f;
})

-- ---- suggestions

pub suggestion_replied : (c : Admission) (s : Suggestion) (closing : Bool) (old new : Seen) (queue : List Stored) (names : List (List ℕ)) → Since old new
    → InEach new (λ h. SuggestAsked h old.caller old.length s.kind s.prefix s.max names new.length)
    → WorkReplied c (Suggests s) closing old queue (reply_bytes status.Ok closing (names_text names)) new queue
suggestion_replied c s closing old new queue names since asked = record {
  stored = [];
  since = since;
  answered = λ h l f. record { tells = told status.Ok (names_text names); done = (names, asked h l f, refl, refl); reply_is = refl };
  rows = rows_none queue;
}

pub suggestion_broken : (c : Admission) (s : Suggestion) (old new : Seen) (queue : List Stored) → Since old new → InEach new (λ h. SuggestBegun h old.caller old.length new.length) → WorkBroken c (Suggests s) old queue new queue
suggestion_broken c s old new queue since begun = record {
  since = since;
  begun = λ h l f. inr (begun h l f);
  rows = λ h l f. may_have queue [] queue (deeds h old.caller old.length new.length) (rows_none queue);
}

pub suggestion_untold : (c : Admission) (s : Suggestion) (old new : Seen) (queue : List Stored) (names : List (List ℕ)) → Since old new
    → InEach new (λ h. SuggestAsked h old.caller old.length s.kind s.prefix s.max names new.length) → WorkBroken c (Suggests s) old queue new queue
suggestion_untold c s old new queue names since asked = suggestion_broken c s old new queue since (λ h l f. (asked h l f).looks)

-- ---- queries

pub query_replied : (c : Admission) (q : Query) (closing : Bool) (old new : Seen) (queue : List Stored) (result : Result Reply AskFault) (reply : List ℕ) → QuerySays q old result new → IsReplyTo (plain_result result) closing reply
    → WorkReplied c (Asks q) closing old queue reply new queue
query_replied c q closing old new queue result reply says (t, tells, is) =
    let asked = query_asked q old new result says in
    record {
      stored = [];
      since = asked.0;
      answered = λ h l f. record { tells = t; done = (plain_result result, asked.1 h l f, tells, refl); reply_is = is };
      rows = rows_none queue;
    }

pub query_untold : (c : Admission) (q : Query) (old new : Seen) (queue : List Stored) (result : Result Reply AskFault) → QuerySays q old result new → WorkBroken c (Asks q) old queue new queue
query_untold c q old new queue result says =
    let asked = query_asked q old new result says in
    record {
      since = asked.0;
      begun = λ h l f. inr (plain_result result, asked.1 h l f);
      rows = λ h l f. may_have queue [] queue (deeds h old.caller old.length new.length) (rows_none queue);
    }

-- ---- series

pub lookup_replied : (c : Admission) (q : SeriesAsked) (closing : Bool) (old new : Seen) (queue : List Stored) (result : Result (List ℕ) MetaFault) (reply : List ℕ) → LookupTells q old result new → IsSeriesReply result closing reply
    → WorkReplied c (LooksUp q) closing old queue reply new queue
lookup_replied c q closing old new queue result reply asked (t, tells, is) = record {
  stored = [];
  since = asked.0;
  answered = λ h l f. record { tells = t; done = (result, asked.1 h l f, tells, refl); reply_is = is };
  rows = rows_none queue;
}

pub lookup_untold : (c : Admission) (q : SeriesAsked) (old new : Seen) (queue : List Stored) (result : Result (List ℕ) MetaFault) → LookupTells q old result new → WorkBroken c (LooksUp q) old queue new queue
lookup_untold c q old new queue result asked = record {
  since = asked.0;
  begun = λ h l f. inr (result, asked.1 h l f);
  rows = λ h l f. may_have queue [] queue (deeds h old.caller old.length new.length) (rows_none queue);
}

pub lasts_replied : (c : Admission) (series : List Asking) (closing : Bool) (old new : Seen) (queue : List Stored) (result : Result (List ℕ) MetaFault) (reply : List ℕ) → LastsTell series old result new → IsSeriesReply result closing reply
    → WorkReplied c (AsksLast series) closing old queue reply new queue
lasts_replied c series closing old new queue result reply asked (t, tells, is) = record {
  stored = [];
  since = asked.0;
  answered = λ h l f. record { tells = t; done = (result, asked.1 h l f, tells, refl); reply_is = is };
  rows = rows_none queue;
}

pub lasts_untold : (c : Admission) (series : List Asking) (old new : Seen) (queue : List Stored) (result : Result (List ℕ) MetaFault) → LastsTell series old result new → WorkBroken c (AsksLast series) old queue new queue
lasts_untold c series old new queue result asked = record {
  since = asked.0;
  begun = λ h l f. inr (result, asked.1 h l f);
  rows = λ h l f. may_have queue [] queue (deeds h old.caller old.length new.length) (rows_none queue);
}

-- ---- results

-- what follows of each reply
pub of_reply : {T E : Type 0} (P Q : T → Type 0) (r : Result T E) → ((reply : T) → P reply → Q reply) → IfOk r P → IfOk r Q
of_reply P Q (Ok reply) go p = go reply p
of_reply P Q (Err fault) go p = tt

-- what holds of these bytes holds of the reply
pub with_bytes : {E : Type 0} (P : List ℕ → Type 0) (bytes : List ℕ) (r : Result (Vec ℕ Global) E) → IfOk r (λ reply. reply.items ≡ bytes) → P bytes → IfOk r (λ reply. P reply.items)
with_bytes P bytes (Ok reply) same p = subst P (sym same) p
with_bytes P bytes (Err fault) same p = tt

-- what holds in any case holds of an error
pub in_error : {T E : Type 0} (P : Type 0) (r : Result T E) → P → OnErr r P
in_error P (Ok x) p = tt
in_error P (Err fault) p = p

-- what follows from what holds of an error
pub of_error : {T E : Type 0} {P Q : Type 0} (r : Result T E) → (P → Q) → OnErr r P → OnErr r Q
of_error (Ok x) go p = tt
of_error (Err fault) go p = go p
