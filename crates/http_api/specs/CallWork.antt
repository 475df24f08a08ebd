-- What a call asks for, a function of the call alone.
use Rattle.std.specs.Prelude.{ℕ, min, Bool, true, false, is_some, List, [], ◌∷◌, codes, Option, None, Some, Result, Ok, Err, if◌then◌else◌}
use Rattle.serde_json.specs.Data.{Data, Items, no_items, item}
use Rattle.serde_json.specs.Find.{as_array, as_object}
use Rattle.http_requests.specs.JsonBodies.{json_of}
use Rattle.json_reply.specs.ErrorBodies.{error_body}
use Rattle.http_requests.specs.declared.http_call.Call.{Call}
use Rattle.http_requests.specs.declared.http_call.Verb.{Verb}
use Rattle.http_requests.specs.declared.http_call.Verb.TheVariants.{Get, Post, Other}
use Rattle.http_requests.specs.declared.http_call.Refusal.{Refusal}
use Rattle.http_requests.specs.declared.http_call.Refusal.TheVariants.{BadHead, HeadTooLarge, Codings, BadLength, NoLength, BodyTooLarge}
use Rattle.http_requests.specs.Forms.{first_value, form_pairs}
use Rattle.http_reply.specs.declared.reply_status.Status.{Status}
use Rattle.http_reply.specs.declared.reply_status.Status.TheVariants as status
use Rattle.http_reply.specs.FixedBodies.{aggregators_body, version_body}
use Rattle.http_reply.specs.ReplyStatuses.{code_of}
use Rattle.http_requests.specs.Routes.{route_of}
use Rattle.http_requests.specs.declared.routes.Route.{Route}
use Rattle.http_requests.specs.declared.routes.Route.TheVariants as route
use Rattle.name_requests.specs.AssignRequests.{AssignLists, assign_by_body, assign_by_form}
use Rattle.name_requests.specs.declared.fault.AssignFault.{AssignFault}
use Rattle.name_requests.specs.declared.fault.SuggestFault.{SuggestFault}
use Rattle.name_requests.specs.RequestFaults.{assign_fault_text, suggest_fault_text}
use Rattle.name_requests.specs.SuggestRequests.{Suggestion, suggest_by_body, suggest_by_form}
use Rattle.query_requests.specs.FormQueries.{query_by_form}
use Rattle.query_requests.specs.JsonQueries.{query_by_json}
use Rattle.query_text.specs.QueryFaultTexts.{query_fault_text}
use Rattle.query_text.specs.declared.queries.Query.{Query}
use Rattle.query_text.specs.declared.queries.QueryFault.{QueryFault}
use Rattle.tsd_base.specs.declared.times.TheConstants.{LAST_TIME}
use Rattle.series_meta.specs.LatestPoints.{Asking}
use Rattle.series_meta.specs.Lookups.{SeriesAsked}
use Rattle.http_series.specs.ArgumentTexts.{argument_fault_text}
use Rattle.http_series.specs.SeriesRequests.{LastsAsked, askings, lasts_by_form, lookup_by_form}
use Rattle.http_series.specs.declared.argument_fault.ArgumentFault.{ArgumentFault}

-- what a reply to a put is to tell beside its status
pub record PutFlags : Type 0 where
  pub details : Bool
  pub summary : Bool

-- a fixed answer; elements to put, one after the other; names to give ids; names to suggest; a query to answer; series to look up; or series whose last points are wanted
pub data Work : Type 0 where
  Says : Status → List ℕ → Work
  Puts : PutFlags → List Data → Work
  Assigns : AssignLists → Work
  Suggests : Suggestion → Work
  Asks : Query → Work
  LooksUp : SeriesAsked → Work
  AsksLast : List Asking → Work

abbrev pub refuses : Status → List ℕ → Work
refuses status message = Says status (error_body (code_of status) message)

-- ---- refusals of a head

abbrev pub refusal_status : Refusal → Status
refusal_status BadHead = status.BadRequest
refusal_status HeadTooLarge = status.RequestHeaderFieldsTooLarge
refusal_status Codings = status.NotImplemented
refusal_status BadLength = status.BadRequest
refusal_status NoLength = status.LengthRequired
refusal_status BodyTooLarge = status.PayloadTooLarge

abbrev pub refusal_message : Refusal → List ℕ
refusal_message BadHead = codes "bad head"
refusal_message HeadTooLarge = codes "head too large"
refusal_message Codings = codes "codings are not supported"
refusal_message BadLength = codes "bad length"
refusal_message NoLength = codes "length required"
refusal_message BodyTooLarge = codes "body too large"

abbrev pub no_json : Work
no_json = refuses status.BadRequest (codes "body is not JSON")

-- ---- a put

abbrev pub items_in : Items → List Data
items_in no_items = []
items_in (item d ds) = d ∷ items_in ds

abbrev pub elements_by : Data → Option Items → Option (List Data)
elements_by body (Some items) = Some (items_in items)
elements_by body None = if is_some (as_object body) then Some (body ∷ []) else None

-- the elements of a list, or one object
abbrev pub elements_of : Data → Option (List Data)
elements_of body = elements_by body (as_array body)

abbrev pub has_parameter : List ℕ → List ℕ → Bool
has_parameter name form = is_some (first_value name (form_pairs form))

-- a flag is set where a parameter has its name, whatever its value
abbrev pub put_flags : List ℕ → PutFlags
put_flags form = record { details = has_parameter (codes "details") form; summary = has_parameter (codes "summary") form }

abbrev pub puts_elements : PutFlags → Option (List Data) → Work
puts_elements flags None = refuses status.BadRequest (codes "body is not a point or a list of points")
puts_elements flags (Some elements) = Puts flags elements

abbrev pub puts_body : PutFlags → Option Data → Work
puts_body flags None = no_json
puts_body flags (Some body) = puts_elements flags (elements_of body)

-- ---- names

abbrev pub assigns : Result AssignLists AssignFault → Work
assigns (Ok lists) = Assigns lists
assigns (Err fault) = refuses status.BadRequest (assign_fault_text fault)

abbrev pub suggests : Result Suggestion SuggestFault → Work
suggests (Ok suggestion) = Suggests suggestion
suggests (Err fault) = refuses status.BadRequest (suggest_fault_text fault)

-- ---- a query

abbrev pub asks : Result Query QueryFault → Work
asks (Ok query) = Asks query
asks (Err fault) = refuses status.BadRequest (query_fault_text fault)

abbrev pub asks_body : ℕ → Option Data → Work
asks_body now None = no_json
asks_body now (Some body) = asks (query_by_json now body)

-- ---- series

abbrev pub looks_up : Result SeriesAsked ArgumentFault → Work
looks_up (Ok asked) = LooksUp asked
looks_up (Err fault) = refuses status.BadRequest (argument_fault_text fault)

-- a moment behind the last time counts as that
abbrev pub asks_last : ℕ → Result LastsAsked ArgumentFault → Work
asks_last now (Ok asked) = AsksLast (askings (min now LAST_TIME) asked)
asks_last now (Err fault) = refuses status.BadRequest (argument_fault_text fault)

-- ---- routes

abbrev pub no_path : Work
no_path = refuses status.NotFound (codes "no such path")

abbrev pub no_method : Work
no_method = refuses status.MethodNotAllowed (codes "no such method")

-- by GET, at a moment
abbrev pub got_by : ℕ → Route → List ℕ → Work
got_by now route.Put form = no_method
got_by now route.Assign form = assigns (assign_by_form form)
got_by now route.Query form = asks (query_by_form now form)
got_by now route.Last form = asks_last now (lasts_by_form form)
got_by now route.Lookup form = looks_up (lookup_by_form form)
got_by now route.Suggest form = suggests (suggest_by_form form)
got_by now route.Version form = Says status.Ok version_body
got_by now route.Aggregators form = Says status.Ok aggregators_body

-- by POST, at a moment
abbrev pub posted_by : ℕ → Route → List ℕ → List ℕ → Work
posted_by now route.Put form body = puts_body (put_flags form) (json_of body)
posted_by now route.Assign form body = assigns (assign_by_body body)
posted_by now route.Query form body = asks_body now (json_of body)
posted_by now route.Last form body = no_method
posted_by now route.Lookup form body = no_method
posted_by now route.Suggest form body = suggests (suggest_by_body body)
posted_by now route.Version form body = Says status.Ok version_body
posted_by now route.Aggregators form body = Says status.Ok aggregators_body

abbrev pub by_verb : ℕ → Verb → Route → Call → Work
by_verb now Get route call = got_by now route call.form
by_verb now Post route call = posted_by now route call.form call.body
by_verb now Other route call = no_method

abbrev pub by_route : ℕ → Option Route → Call → Work
by_route now None call = no_path
by_route now (Some route) call = by_verb now call.verb route call

abbrev pub by_refusal : ℕ → Option Refusal → Call → Work
by_refusal now (Some refusal) call = refuses (refusal_status refusal) (refusal_message refusal)
by_refusal now None call = by_route now (route_of call.path) call

-- what a call asks for at a moment: the refusal of its head, or else what its path and its method say
unfoldable pub work_of : ℕ → Call → Work
work_of now call = by_refusal now call.refused call

-- the route of a call that isn't refused
abbrev pub route_unless : Option Refusal → List ℕ → Option Route
route_unless (Some refusal) path = None
route_unless None path = route_of path

abbrev pub call_route : Call → Option Route
call_route call = route_unless call.refused call.path

-- the clock is asked where the path is that of queries or of last points, whatever the method
abbrev pub asks_moment : Option Route → Bool
asks_moment (Some route.Query) = true
asks_moment (Some route.Last) = true
asks_moment (Some route.Lookup) = false
asks_moment (Some route.Aggregators) = false
asks_moment (Some route.Put) = false
asks_moment (Some route.Suggest) = false
asks_moment (Some route.Assign) = false
asks_moment (Some route.Version) = false
asks_moment None = false

abbrev pub asks_clock : Call → Bool
asks_clock call = asks_moment (call_route call)
