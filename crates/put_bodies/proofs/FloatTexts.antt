-- Numbers that are read as floats.
use Rattle.std.proofs.Common.{◌≡◌, ℕ, ◌<◌, Bool, true, false, ◌==◌, List, [], ◌∷◌, length, Option, None, Some, option_and_then, option_map, refl, sym, ap, subst, ◌∙◌, arith, append-nil, ne_eqb}
use Rattle.std.specs.Option.{unwrap_or}
use Rattle.json.specs.Token as t
use Rattle.json.specs.Print.{IsNumber}
use Rattle.json.specs.Word.{after_number}
use Rattle.json.specs.Json as json
use Rattle.json.specs.Lex.{fresh, lex, punctuate, token, tokens}
use Rattle.json.proofs.Printed.Numbers.{lex-number}
use Rattle.json.proofs.Printed.Trees.{value-json_tokens}
use Rattle.serde_json.specs.Data.{Data, Num, float, negative, number, unsigned}
use Rattle.serde_json.specs.Find.{as_number, is_float}
use Rattle.serde_json.specs.Read.{max_depth, number_of, of_json, read}
use Rattle.put_bodies.specs.TextNumbers.{IsFraction}
use Rattle.put_bodies.specs.TextScans.{lexemes}

none_lexed : lexemes [] ≡ []
unfolding lex
none_lexed = refl

number_token : (s : List ℕ) → punctuate fresh (token (t.number s) ∷ []) ≡ t.number s ∷ []
unfolding punctuate
number_token s = refl

number_tokens : (s : List ℕ) → IsNumber s → tokens s ≡ t.number s ∷ []
number_tokens s is =
    ap tokens (sym (append-nil s)) ∙ ap (punctuate fresh) (lex-number s [] is refl ∙ ap (λ ls. token (t.number s) ∷ ls) none_lexed) ∙ number_token s

number_read : (s : List ℕ) → IsNumber s → read s ≡ option_map number (number_of s)
number_read s is =
    ap (λ ts. option_and_then of_json (option_and_then (λ p. json.if_last p.0 p.1) (json.value max_depth ts))) (number_tokens s is)
    ∙ ap (λ o. option_and_then of_json (option_and_then (λ p. json.if_last p.0 p.1) o)) (value-json_tokens (json.number s) max_depth [] (omega arith))

pub number_some : (s : List ℕ) → IsNumber s → 0 < length s
unfolding after_number
number_some [] is = absurd (cc)
number_some (c ∷ s) is = omega arith

is_fraction : (s : List ℕ) (n : Num) → number_of s ≡ Some n → is_float n ≡ true → IsFraction s
is_fraction s (unsigned n) is e = absurd (cc)
is_fraction s (negative z) is e = absurd (cc)
is_fraction s (float x) is e = (x, is)

by_number : (s : List ℕ) (d : Data) (o : Option Num) → number_of s ≡ o → option_map number o ≡ Some d → unwrap_or (option_map is_float (as_number d)) false ≡ true → IsFraction s
by_number s d None is e f = absurd (cc)
by_number s d (Some n) is e f = is_fraction s n is (subst (λ (o : Option Data). unwrap_or (option_and_then (λ x. option_map is_float (as_number x)) o) false ≡ true) (sym e) f)

pub float_read : (s : List ℕ) (d : Data) (b : Bool) → read s ≡ Some d → b ≡ unwrap_or (option_map is_float (as_number d)) false → b ≡ true → IsNumber s → IsFraction s × (0 < length s)
float_read s d b reads is so formed = (by_number s d (number_of s) refl (sym (number_read s formed) ∙ reads) (sym is ∙ so), number_some s formed)

-- an empty text has no lexeme
pub empty_lexed : (text rest : List ℕ) (b : Bool) → lexemes rest ≡ lexemes text → b ≡ (length rest == 0) → b ≡ true → lexemes text ≡ []
empty_lexed text [] b same is so = sym same ∙ none_lexed
empty_lexed text (c ∷ rest) b same is so = absurd (let e = sym (ne_eqb (length (c ∷ rest)) 0 (λ z. omega arith)) ∙ sym is ∙ so in let f : false ≡ true = e in cc)
