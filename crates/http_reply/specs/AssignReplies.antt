-- The reply to an assignment of ids, where these have so many bytes.
use Rattle.std.specs.Prelude.{ℕ, Bool, true, false, List, [], ◌∷◌, codes, Option, None, Some, Result, Ok, Err, is_err, if◌then◌else◌, Vec}
use Rattle.std.specs.Str.Lossy.{utf8_lossy}
use Rattle.std.specs.declared.alloc.Global.{Global}
use Rattle.hex.specs.Hex.{encode_lower}
use Rattle.row_key.specs.IdWidths.{id_bytes}
use Rattle.row_key.specs.declared.widths.Widths.{Widths}
use Rattle.serde_json.specs.Data.{Members, no_members, put, string, object}
use Rattle.serde_json.specs.Written.{compact_text}
use Rattle.http_reply.specs.declared.reply_status.Status.{Status}
use Rattle.http_reply.specs.declared.reply_status.Status.TheVariants as statuses
use Rattle.http_reply.specs.declared.assign_reply.Element.{Element}
use Rattle.http_reply.specs.declared.assign_reply.Assignment.{Assignment}

-- the bytes of an id, in hexadecimal digits
abbrev pub id_text : ℕ → ℕ → List ℕ
id_text width id = encode_lower (id_bytes width id)

-- an id stands under its element's text, in place of an earlier one
abbrev pub with_id : ℕ → List ℕ → Result ℕ (Vec ℕ Global) → Members → Members
with_id width text (Ok id) ids = put (utf8_lossy text) (string (id_text width id)) ids
with_id width text (Err error) ids = ids

abbrev pub ids_onto : ℕ → Members → List Element → Members
ids_onto width ids [] = ids
ids_onto width ids (element ∷ elements) = ids_onto width (with_id width element.text.items element.answer ids) elements

-- so does the text of an error
abbrev pub with_error : List ℕ → Result ℕ (Vec ℕ Global) → Members → Members
with_error text (Ok id) errors = errors
with_error text (Err error) errors = put (utf8_lossy text) (string (utf8_lossy error.items)) errors

abbrev pub errors_onto : Members → List Element → Members
errors_onto errors [] = errors
errors_onto errors (element ∷ elements) = errors_onto (with_error element.text.items element.answer errors) elements

-- the two members of a kind that was named
abbrev pub with_kind : ℕ → List ℕ → List ℕ → Option (Vec Element Global) → Members → Members
with_kind width key errors_key None members = members
with_kind width key errors_key (Some elements) members = put errors_key (object (errors_onto no_members elements.items)) (put key (object (ids_onto width no_members elements.items)) members)

-- the ids of each list have the bytes of its kind
abbrev pub assign_members : Widths → Assignment → Members
assign_members w answers =
    with_kind w.tag_value (codes "tagv") (codes "tagv_errors") answers.tagv
    (with_kind w.tag_key (codes "tagk") (codes "tagk_errors") answers.tagk (with_kind w.metric (codes "metric") (codes "metric_errors") answers.metric no_members))

-- keys are escaped, in byte order
abbrev pub assign_body : Widths → Assignment → List ℕ
assign_body w answers = compact_text (object (assign_members w answers))

abbrev pub any_error : List Element → Bool
any_error [] = false
any_error (element ∷ elements) = if is_err element.answer then true else any_error elements

abbrev pub has_error : Option (Vec Element Global) → Bool
has_error None = false
has_error (Some elements) = any_error elements.items

abbrev pub assign_status : Assignment → Status
assign_status answers = if has_error answers.metric then statuses.BadRequest else if has_error answers.tagk then statuses.BadRequest else if has_error answers.tagv then statuses.BadRequest else statuses.Ok
