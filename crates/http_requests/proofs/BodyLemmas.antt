-- What was read of a body.
use Rattle.std.proofs.Common.{◌≡◌, ℕ, List, refl, sym, ap, ◌∙◌, inl, inr}
use Rattle.std.specs.Prelude.{Option, None, Some}
use Rattle.std.specs.Str.{IsUtf8, is_utf8}
use Rattle.std.proofs.lemmas.Bool.{cases_Bool}
use Rattle.std.proofs.lemmas.Str.{IsUtf8-from_is_utf8, is_utf8-from_IsUtf8}
use Rattle.serde_json.specs.Data.{Data}
use Rattle.serde_json.specs.Read.{read}
use Rattle.http_requests.specs.JsonBodies.{json_of}

pub body_reads : (bytes : List ℕ) (d : Data) → IsUtf8 bytes → read bytes ≡ Some d → Some d ≡ json_of bytes
unfolding json_of
body_reads bytes d text is = rw (is_utf8-from_IsUtf8 bytes text) (sym is)

pub body_refuses : (bytes : List ℕ) → (IsUtf8 bytes → read bytes ≡ None) → None ≡ json_of bytes
unfolding json_of
body_refuses bytes none = elim (cases_Bool (is_utf8 bytes)) [
  | inl text ↦ rw text (sym (none (IsUtf8-from_is_utf8 bytes text)))
  | inr other ↦ rw other refl
]
