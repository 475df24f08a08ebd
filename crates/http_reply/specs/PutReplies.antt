-- The reply to a put.
use Rattle.std.specs.Prelude.{ℕ, ◌+◌, ◌==◌, Bool, List, [], ◌∷◌, ◌++◌, length, map, filter, codes, decimal, Option, None, Some, is_none, option_map, if◌then◌else◌, Vec}
use Rattle.std.specs.declared.alloc.Global.{Global}
use Rattle.json_reply.specs.ErrorBodies.{error_body}
use Rattle.json_reply.specs.Texts.{listed}
use Rattle.http_reply.specs.declared.reply_status.Status.{Status}
use Rattle.http_reply.specs.declared.reply_status.Status.TheVariants as statuses

-- of an element: none where it was stored, else why it was refused
abbrev pub Outcome : Type 0
Outcome = Option (List ℕ)

-- the places of the refused elements, with their texts, where the first element has this place
abbrev pub refused_from : ℕ → List Outcome → List (ℕ × List ℕ)
refused_from index [] = []
refused_from index (None ∷ outcomes) = refused_from (index + 1) outcomes
refused_from index (Some text ∷ outcomes) = (index, text) ∷ refused_from (index + 1) outcomes

abbrev pub refused : List Outcome → List (ℕ × List ℕ)
refused outcomes = refused_from 0 outcomes

abbrev pub failed : List Outcome → ℕ
failed outcomes = length (refused outcomes)

abbrev pub stored : List Outcome → ℕ
stored outcomes = length (filter is_none outcomes)

abbrev pub all_stored : List Outcome → Bool
all_stored outcomes = failed outcomes == 0

-- texts of refusals need no escapes
abbrev pub error_object : ℕ × List ℕ → List ℕ
error_object refusal = codes "{\"error\":\"" ++ refusal.1 ++ codes "\",\"index\":" ++ decimal refusal.0 ++ codes "}"

abbrev pub counts_text : List Outcome → List ℕ
counts_text outcomes = codes "\"failed\":" ++ decimal (failed outcomes) ++ codes ",\"success\":" ++ decimal (stored outcomes) ++ codes "}"

abbrev pub details_body : List Outcome → List ℕ
details_body outcomes = codes "{\"errors\":[" ++ listed (map error_object (refused outcomes)) ++ codes "]," ++ counts_text outcomes

abbrev pub summary_body : List Outcome → List ℕ
summary_body outcomes = codes "{" ++ counts_text outcomes

abbrev pub plain_body : List Outcome → List ℕ
plain_body outcomes = if all_stored outcomes then [] else error_body 400 (codes "One or more data points had errors")

-- details go before a summary
abbrev pub put_body : Bool → Bool → List Outcome → List ℕ
put_body details summary outcomes = if details then details_body outcomes else if summary then summary_body outcomes else plain_body outcomes

abbrev pub put_status : Bool → Bool → List Outcome → Status
put_status details summary outcomes = if all_stored outcomes then (if details then statuses.Ok else if summary then statuses.Ok else statuses.NoContent) else statuses.BadRequest

-- an outcome of the code as plain data
abbrev pub text_of : Option (Vec ℕ Global) → Outcome
text_of outcome = option_map (λ text. text.items) outcome

abbrev pub texts_of : List (Option (Vec ℕ Global)) → List Outcome
texts_of outcomes = map text_of outcomes
