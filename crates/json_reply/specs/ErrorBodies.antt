-- The body of an error's reply.
use Rattle.std.specs.Prelude.{ℕ, List, ◌++◌, codes, decimal}

-- messages need no escapes
abbrev pub error_body : ℕ → List ℕ → List ℕ
error_body code text = codes "{\"error\":{\"code\":" ++ decimal code ++ codes ",\"message\":\"" ++ text ++ codes "\"}}"
