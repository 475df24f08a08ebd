-- What is asked to be given ids.
use Rattle.std.specs.Prelude.{◌≡◌, ℕ, ◌||◌, List, [], ◌∷◌, ◌++◌, codes, is_some, Option, None, Some, option_map, Result, Ok, Err, MatchResult, if◌then◌else◌}
use Rattle.serde_json.specs.Data.{Data, Items, no_items, item}
use Rattle.serde_json.specs.Find.{get, as_str, as_array, as_object}
use Rattle.tsd_base.specs.Words.{parts_of}
use Rattle.http_requests.specs.Forms.{Parameter, first_value, form_pairs}
use Rattle.http_requests.specs.JsonBodies.{json_of}
use Rattle.name_requests.specs.declared.assign_request.AssignRequest.{AssignRequest}
use Rattle.name_requests.specs.declared.fault.AssignFault.{AssignFault}
use Rattle.name_requests.specs.declared.fault.AssignFault.TheVariants.{NotJson, BadLists, NothingToAssign, OutOfMemory}
use Rattle.name_requests.specs.RequestReading.{◌>>=◌, or_fault}

-- the names of each kind, where its list is there
pub record AssignLists : Type 0 where
  pub metric : Option (List (List ℕ))
  pub tagk : Option (List (List ℕ))
  pub tagv : Option (List (List ℕ))

abbrev pub assign_lists : AssignRequest → AssignLists
assign_lists r = record {
  metric = option_map (λ names. names.items) r.metric;
  tagk = option_map (λ names. names.items) r.tagk;
  tagv = option_map (λ names. names.items) r.tagv;
}

-- one list at least
abbrev pub with_a_list : AssignLists → Result AssignLists AssignFault
with_a_list lists = if is_some lists.metric || is_some lists.tagk || is_some lists.tagv then Ok lists else Err NothingToAssign

-- the names between the commas
abbrev pub comma_names : List ℕ → List (List ℕ)
comma_names text = parts_of 44 text

-- the list that the first parameter of a name is
abbrev pub listed : List ℕ → List Parameter → Option (List (List ℕ))
listed name form = option_map comma_names (first_value name form)

abbrev pub assign_of_form : List Parameter → Result AssignLists AssignFault
assign_of_form form =
    with_a_list (record { metric = listed (codes "metric") form; tagk = listed (codes "tagk") form; tagv = listed (codes "tagv") form })

-- what a form asks
unfoldable pub assign_by_form : List ℕ → Result AssignLists AssignFault
assign_by_form form = assign_of_form (form_pairs form)

-- strings alone
abbrev pub texts_of : Items → Result (List (List ℕ)) AssignFault
texts_of no_items = Ok []
texts_of (item d ds) = do
  text ← or_fault BadLists (as_str d)
  texts ← texts_of ds
  Ok (text ∷ texts)

-- an array of strings
abbrev pub texts_in : Data → Result (List (List ℕ)) AssignFault
texts_in d = or_fault BadLists (as_array d) >>= texts_of

-- a member that is there is an array of strings
abbrev pub list_in : Option Data → Result (Option (List (List ℕ))) AssignFault
list_in None = Ok None
list_in (Some d) = texts_in d >>= λ texts. Ok (Some texts)

abbrev pub lists_in : Data → Result AssignLists AssignFault
lists_in d = do
  metric ← list_in (get (codes "metric") d)
  tagk ← list_in (get (codes "tagk") d)
  tagv ← list_in (get (codes "tagv") d)
  with_a_list (record { metric = metric; tagk = tagk; tagv = tagv })

abbrev pub assign_of_value : Data → Result AssignLists AssignFault
assign_of_value d = if is_some (as_object d) then lists_in d else Err BadLists

-- what a body asks
unfoldable pub assign_by_body : List ℕ → Result AssignLists AssignFault
assign_by_body body = or_fault NotJson (json_of body) >>= assign_of_value

-- these texts, and those that are read behind them
abbrev pub behind : List (List ℕ) → Result (List (List ℕ)) AssignFault → Result (List (List ℕ)) AssignFault
behind front read = read >>= λ texts. Ok (front ++ texts)

-- want of memory may always be told; any other fault is the request's own
abbrev pub AssignFails : {A : Type 0} → AssignFault → Result A AssignFault → Type 0
AssignFails OutOfMemory read = Unit {0}
AssignFails fault read = read ≡ Err fault

-- what was read is what reading gives
abbrev pub GivesAssign : {A B : Type 0} → (A → B) → Result A AssignFault → Result B AssignFault → Type 0
GivesAssign view answer read = MatchResult answer (λ found. read ≡ Ok (view found)) (λ fault. AssignFails fault read)
