-- Members of JSON objects, each of one kind.
use Rattle.std.specs.Prelude.{ℕ, ◌+◌, Bool, true, false, ◌&&◌, List, is_some, Option, None, Some, Result, Ok, Err, if◌then◌else◌}
use Rattle.serde_json.specs.Data.{Data, Items, no_items, item, Members, no_members, member}
use Rattle.serde_json.specs.Find.{as_array, as_bool, as_object, as_str}
use Rattle.query_requests.specs.QueryReadings.{◌>>=◌, or_fault}
use Rattle.query_text.specs.declared.queries.QueryFault.{QueryFault}
use Rattle.query_text.specs.declared.queries.QueryFault.TheVariants.{BadQuery}

abbrev pub object_in : Data → Result Data QueryFault
object_in d = if is_some (as_object d) then Ok d else Err BadQuery

-- a member that is there
abbrev pub present : Option Data → Result Data QueryFault
present value = or_fault BadQuery value

-- a string
abbrev pub text_in : Option Data → Result (List ℕ) QueryFault
text_in value = present value >>= λ d. or_fault BadQuery (as_str d)

-- an array
abbrev pub items_in : Option Data → Result Items QueryFault
items_in value = present value >>= λ d. or_fault BadQuery (as_array d)

-- true or false; where it is absent, false
abbrev pub flag_in : Option Data → Result Bool QueryFault
flag_in None = Ok false
flag_in (Some d) = or_fault BadQuery (as_bool d)

abbrev pub all_texts : Members → Bool
all_texts no_members = true
all_texts (member k d ms) = is_some (as_str d) && all_texts ms

-- an object of strings; where it is absent, an empty one
abbrev pub texts_in : Option Data → Result Members QueryFault
texts_in None = Ok no_members
texts_in (Some d) = or_fault BadQuery (as_object d) >>= λ ms. if all_texts ms then Ok ms else Err BadQuery

-- how many items there are
abbrev pub count_of : Items → ℕ
count_of no_items = 0
count_of (item d ds) = count_of ds + 1
