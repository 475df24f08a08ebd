-- What is asked to be suggested.
use Rattle.std.specs.Prelude.{◌≡◌, ℕ, ◌≤◌, ◌&&◌, nat_eq, nat_le, List, [], codes, is_some, Option, None, Some, option_and_then, Result, Ok, Err, MatchResult, if◌then◌else◌}
use Rattle.std.specs.Cmp.Lexicographic.{pointwise}
use Rattle.std.specs.Str.Parse.{digits_value}
use Rattle.serde_json.specs.Data.{Data}
use Rattle.serde_json.specs.Find.{get, as_str, as_number, as_object, as_u64}
use Rattle.tsd_base.specs.Digits.{is_number}
use Rattle.tsd_base.specs.declared.kinds.Kind.{Kind}
use Rattle.tsd_base.specs.declared.kinds.Kind.TheVariants.{Metric, TagKey, TagValue}
use Rattle.http_requests.specs.Forms.{Parameter, first_value, form_pairs}
use Rattle.http_requests.specs.JsonBodies.{json_of}
use Rattle.name_requests.specs.declared.suggest_request.SuggestRequest.{SuggestRequest}
use Rattle.name_requests.specs.declared.fault.SuggestFault.{SuggestFault}
use Rattle.name_requests.specs.declared.fault.SuggestFault.TheVariants.{NotJson, BadRequest, BadType, BadMax, OutOfMemory}
use Rattle.name_requests.specs.RequestReading.{◌>>=◌, or_fault}

-- the names of a kind that begin with a prefix, at most so many
pub record Suggestion : Type 0 where
  pub kind : Kind
  pub prefix : List ℕ
  pub max : ℕ

abbrev pub suggestion : SuggestRequest → Suggestion
suggestion r = record { kind = r.kind; prefix = r.prefix; max = r.max }

-- metrics, tagk or tagv
abbrev pub kind_named : List ℕ → Option Kind
kind_named text =
    if pointwise nat_eq text (codes "metrics") then Some Metric
    else (if pointwise nat_eq text (codes "tagk") then Some TagKey
    else (if pointwise nat_eq text (codes "tagv") then Some TagValue else None))

abbrev pub kind_of : Option (List ℕ) → Result Kind SuggestFault
kind_of text = or_fault BadType (option_and_then kind_named text)

-- 1 to 10,000
abbrev pub max_within : ℕ → Option ℕ
max_within n = if nat_le 1 n && nat_le n 10000 then Some n else None

-- in digits, of any length
abbrev pub max_named : List ℕ → Option ℕ
max_named text = if is_number text then max_within (digits_value 10 text) else None

-- 25 where nothing is said
abbrev pub max_of : Option (List ℕ) → Result ℕ SuggestFault
max_of None = Ok 25
max_of (Some text) = or_fault BadMax (max_named text)

-- empty where nothing is said
abbrev pub prefix_of : Option (List ℕ) → List ℕ
prefix_of None = []
prefix_of (Some text) = text

abbrev pub suggest_of_form : List Parameter → Result Suggestion SuggestFault
suggest_of_form form = do
  kind ← kind_of (first_value (codes "type") form)
  max ← max_of (first_value (codes "max") form)
  Ok (record { kind = kind; prefix = prefix_of (first_value (codes "q") form); max = max })

-- what a form asks
unfoldable pub suggest_by_form : List ℕ → Result Suggestion SuggestFault
suggest_by_form form = suggest_of_form (form_pairs form)

-- a prefix that is there is a string
abbrev pub prefix_in : Option Data → Result (List ℕ) SuggestFault
prefix_in None = Ok []
prefix_in (Some d) = or_fault BadRequest (as_str d)

-- a string of digits, or a number
abbrev pub max_by : Option (List ℕ) → Option ℕ → Option ℕ
max_by (Some text) n = max_named text
max_by None n = option_and_then max_within n

abbrev pub max_in : Option Data → Result ℕ SuggestFault
max_in None = Ok 25
max_in (Some d) = or_fault BadMax (max_by (as_str d) (option_and_then as_u64 (as_number d)))

abbrev pub suggest_in : Data → Result Suggestion SuggestFault
suggest_in d = do
  kind ← kind_of (option_and_then as_str (get (codes "type") d))
  prefix ← prefix_in (get (codes "q") d)
  max ← max_in (get (codes "max") d)
  Ok (record { kind = kind; prefix = prefix; max = max })

abbrev pub suggest_of_value : Data → Result Suggestion SuggestFault
suggest_of_value d = if is_some (as_object d) then suggest_in d else Err BadRequest

-- what a body asks
unfoldable pub suggest_by_body : List ℕ → Result Suggestion SuggestFault
suggest_by_body body = or_fault NotJson (json_of body) >>= suggest_of_value

-- want of memory may always be told; any other fault is the request's own
abbrev pub SuggestFails : {A : Type 0} → SuggestFault → Result A SuggestFault → Type 0
SuggestFails OutOfMemory read = Unit {0}
SuggestFails fault read = read ≡ Err fault

-- what was read is what reading gives
abbrev pub GivesSuggest : {A B : Type 0} → (A → B) → Result A SuggestFault → Result B SuggestFault → Type 0
GivesSuggest view answer read = MatchResult answer (λ found. read ≡ Ok (view found)) (λ fault. SuggestFails fault read)

-- a number of names that may be asked for
abbrev pub IsMax : ℕ → Type 0
IsMax max = (1 ≤ max) × (max ≤ 10000)
