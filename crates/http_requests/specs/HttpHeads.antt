-- What the head of a request asks, or why it is refused.
use Rattle.std.specs.Prelude.{ℕ, ◌+◌, ◌≤◌, ◌<◌, Bool, true, false, ◌&&◌, ◌||◌, not, nat_eq, nat_lt, nat_le, List, [], length, take, drop, codes, is_some, Option, None, Some, Result, Ok, Err, if◌then◌else◌}
use Rattle.std.specs.List.{position_or_len}
use Rattle.std.specs.Str.Parse.{digits_value}
use Rattle.httparse.specs.Grammar.{RequestHead, ReadsRequest}
use Rattle.tsd_base.specs.Digits.{is_number}
use Rattle.tsd_base.specs.Tags.{is_same}
use Rattle.http_requests.specs.declared.http_call.TheConstants.{LONGEST_BODY, MOST_FIELDS}
use Rattle.http_requests.specs.declared.http_call.Verb.{Verb}
use Rattle.http_requests.specs.declared.http_call.Verb.TheVariants.{Get, Post, Other}
use Rattle.http_requests.specs.declared.http_call.Refusal.{Refusal}
use Rattle.http_requests.specs.declared.http_call.Refusal.TheVariants.{BadHead, Codings, BadLength, NoLength, BodyTooLarge}
use Rattle.http_requests.specs.declared.http_head.Plan.{Plan}
use Rattle.http_requests.specs.HeadFields.{Fields, all_have, asks_close, fields_of, has_field, value_of}

abbrev pub content_length : List ℕ
content_length = codes "content-length"

-- 1 to 20 digits
abbrev pub is_length : List ℕ → Bool
is_length text = is_number text && nat_le (length text) 20

-- whether the lengths that are given are lengths, and the same text
abbrev pub are_lengths : Option (List ℕ) → Fields → Bool
are_lengths None fields = true
are_lengths (Some text) fields = is_length text && all_have content_length text fields

abbrev pub length_in : Option (List ℕ) → ℕ
length_in None = 0
length_in (Some text) = digits_value 10 text

-- digits, where a length is given
abbrev pub are_digits : Option (List ℕ) → Bool
are_digits None = true
are_digits (Some text) = is_number text

abbrev pub has_codings : Fields → Bool
has_codings fields = has_field (codes "transfer-encoding") fields || has_field (codes "content-encoding") fields

-- the methods are told apart with their case
abbrev pub verb_of : List ℕ → Verb
verb_of method = if is_same method (codes "GET") then Get else if is_same method (codes "POST") then Post else Other

abbrev pub is_post : Verb → Bool
is_post Post = true
is_post Get = false
is_post Other = false

-- the first cause for which a head is refused: codings, lengths, no length of a POST, too long a body
abbrev pub refusal_by : Verb → Fields → Option (List ℕ) → Option Refusal
refusal_by verb fields text =
    if has_codings fields then Some Codings
    else if not (are_lengths text fields) then Some BadLength
    else if is_post verb && not (is_some text) then Some NoLength
    else if nat_lt LONGEST_BODY (length_in text) then Some BodyTooLarge
    else None

-- HTTP/1.0, or it is asked
abbrev pub closes : ℕ → Fields → Bool
closes minor fields = nat_eq minor 0 || asks_close fields

abbrev pub is_mark : ℕ → Bool
is_mark b = nat_eq b 63

-- before the first `?`, and behind it
abbrev pub path_of : List ℕ → List ℕ
path_of target = take (position_or_len is_mark target) target

abbrev pub form_of : List ℕ → List ℕ
form_of target = drop (position_or_len is_mark target + 1) target

abbrev pub plan_of : RequestHead → Plan
plan_of h = record {
  verb = verb_of h.method;
  path = path_of h.target;
  form = form_of h.target;
  closing = closes h.minor (fields_of h);
  len = length_in (value_of content_length (fields_of h));
}

abbrev pub planned : RequestHead → Option Refusal → Result Plan Refusal
planned h None = Ok (plan_of h)
planned h (Some refusal) = Err refusal

-- what a head asks, or why it is refused
unfoldable pub asked_of : Option RequestHead → Result Plan Refusal
asked_of None = Err BadHead
asked_of (Some h) = planned h (refusal_by (verb_of h.method) (fields_of h) (value_of content_length (fields_of h)))

-- the bytes as a whole are this head, whose fields are few enough; or they are no such head
abbrev pub IsHead : List ℕ → Option RequestHead → Type 0
IsHead bytes (Some h) = ReadsRequest bytes h [] × (length h.fields ≤ MOST_FIELDS)
IsHead bytes None = (h : RequestHead) → ReadsRequest bytes h [] → MOST_FIELDS < length h.fields
