-- The bytes of a reply.
use Rattle.std.specs.Prelude.{ℕ, List, [], ◌++◌, length, Bool, codes, decimal, if◌then◌else◌}
use Rattle.http_reply.specs.declared.reply_status.Status.{Status}
use Rattle.http_reply.specs.ReplyStatuses.{code_of, phrase_of, has_content}

abbrev pub status_line : Status → List ℕ
status_line status = codes "HTTP/1.1 " ++ decimal (code_of status) ++ codes " " ++ phrase_of status ++ codes "\r\n"

-- the fields of a body of so many bytes
abbrev pub content_fields : ℕ → List ℕ
content_fields count = codes "Content-Type: application/json; charset=UTF-8\r\nContent-Length: " ++ decimal count ++ codes "\r\n"

abbrev pub closing_field : Bool → List ℕ
closing_field closing = if closing then codes "Connection: close\r\n" else []

-- the head of a reply with a body of so many bytes
abbrev pub head_bytes : Status → Bool → ℕ → List ℕ
head_bytes status closing count = status_line status ++ (if has_content status then content_fields count else []) ++ closing_field closing ++ codes "\r\n"

-- a status without content has neither the fields of a body nor the body
abbrev pub reply_bytes : Status → Bool → List ℕ → List ℕ
reply_bytes status closing body = head_bytes status closing (length body) ++ (if has_content status then body else [])
