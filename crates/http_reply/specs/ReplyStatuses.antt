-- The statuses of replies.
use Rattle.std.specs.Prelude.{ℕ, List, Bool, true, false, codes}
use Rattle.http_reply.specs.declared.reply_status.Status.{Status}
use Rattle.http_reply.specs.declared.reply_status.Status.TheVariants as statuses

abbrev pub code_of : Status → ℕ
code_of statuses.Ok = 200
code_of statuses.NoContent = 204
code_of statuses.BadRequest = 400
code_of statuses.NotFound = 404
code_of statuses.MethodNotAllowed = 405
code_of statuses.LengthRequired = 411
code_of statuses.PayloadTooLarge = 413
code_of statuses.RequestHeaderFieldsTooLarge = 431
code_of statuses.NotImplemented = 501

abbrev pub phrase_of : Status → List ℕ
phrase_of statuses.Ok = codes "OK"
phrase_of statuses.NoContent = codes "No Content"
phrase_of statuses.BadRequest = codes "Bad Request"
phrase_of statuses.NotFound = codes "Not Found"
phrase_of statuses.MethodNotAllowed = codes "Method Not Allowed"
phrase_of statuses.LengthRequired = codes "Length Required"
phrase_of statuses.PayloadTooLarge = codes "Payload Too Large"
phrase_of statuses.RequestHeaderFieldsTooLarge = codes "Request Header Fields Too Large"
phrase_of statuses.NotImplemented = codes "Not Implemented"

-- one status alone says that there is no body
abbrev pub has_content : Status → Bool
has_content statuses.Ok = true
has_content statuses.NoContent = false
has_content statuses.BadRequest = true
has_content statuses.NotFound = true
has_content statuses.MethodNotAllowed = true
has_content statuses.LengthRequired = true
has_content statuses.PayloadTooLarge = true
has_content statuses.RequestHeaderFieldsTooLarge = true
has_content statuses.NotImplemented = true
