-- What was read of a call.
use Rattle.std.specs.Prelude.{◌≡◌, ◌≤◌, List, Some}
use Rattle.serde_json.specs.Data.{Data}
use Rattle.serde_json.specs.View.{view}
use Rattle.name_requests.specs.AssignRequests.{assign_lists}
use Rattle.name_requests.specs.SuggestRequests.{IsMax, suggestion}
use Rattle.query_requests.specs.QueryReadings.{CanWork}
use Rattle.tsd_base.specs.declared.times.TheConstants.{LAST_TIME}
use Rattle.http_series.specs.SeriesRequests.{askings, lasts_asked, lookup_asked}
use Rattle.http_api.specs.declared.call_task.Task.{Task}
use Rattle.http_api.specs.declared.call_task.Task.TheVariants as task
use Rattle.http_api.specs.CallWork.{Work, elements_of}
use Rattle.http_api.specs.CallWork.Work.{Says, Puts, Assigns, Suggests, Asks, LooksUp, AsksLast}

-- the task is this work
abbrev pub IsTask : Work → Task → Type 0
IsTask work (task.Say status body) = work ≡ Says status body.items
IsTask work (task.Put details summary body) = (elements : List Data) × (elements_of (view body) ≡ Some elements) × (work ≡ Puts (record { details = details; summary = summary }) elements)
IsTask work (task.Assign request) = work ≡ Assigns (assign_lists request)
IsTask work (task.Suggest request) = (work ≡ Suggests (suggestion request)) × IsMax request.max
IsTask work (task.Ask query) = (work ≡ Asks query) × CanWork query
IsTask work (task.LookUp request) = work ≡ LooksUp (lookup_asked request)
IsTask work (task.AskLast request now) = (work ≡ AsksLast (askings now (lasts_asked request))) × (now ≤ LAST_TIME) × (request.back ≤ 8784)
