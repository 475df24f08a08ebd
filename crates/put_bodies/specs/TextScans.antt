-- What stands at the front of a text of JSON.
use Rattle.std.specs.Prelude.{◌≡◌, ℕ, ◌||◌, ◌==◌, Bool, true, false, not, nat_lt, List, [], ◌∷◌, ◌++◌}
use Rattle.std.specs.Char.{is_ascii_digit}
use Rattle.json.specs.Lex.{Lexeme, between, lex, begins_colon, Place, after_value, may_begin, punctuate}
use Rattle.json.specs.Word.{is_space}
use Rattle.json.specs.Json.{Json, Items, Members}
use Rattle.json.specs.Tree.{json_tokens, items_tokens, members_tokens}

abbrev pub lexemes : List ℕ → List Lexeme
lexemes text = lex between text

abbrev pub begins_blank : List ℕ → Bool
begins_blank [] = false
begins_blank (b ∷ text) = is_space b

-- a quote, a backslash or a control character, before which a string stands for itself
abbrev pub is_stop : ℕ → Bool
is_stop b = (b == 34) || (b == 92) || nat_lt b 32

-- no byte of a number
abbrev pub is_other : ℕ → Bool
is_other b = not (is_ascii_digit b || (b == 45) || (b == 43) || (b == 46) || (b == 101) || (b == 69))

-- the byte is this lexeme, whatever stands behind it
abbrev pub IsLexeme : ℕ → Lexeme → Type 0
IsLexeme b l = (text : List ℕ) → lexemes (b ∷ text) ≡ l ∷ lexemes text

-- the lexemes begin with this value, where no colon stands behind it
abbrev pub ValueAt : Json → List Lexeme → List Lexeme → Type 0
ValueAt j ls rest = begins_colon rest ≡ false → (p : Place) → may_begin p ≡ true → punctuate p ls ≡ json_tokens j ++ punctuate after_value rest

-- the lexemes begin with these members, and the brace behind them
abbrev pub MembersAt : Members → List Lexeme → List Lexeme → Type 0
MembersAt ms ls rest = (p : Place) → may_begin p ≡ true → punctuate p ls ≡ members_tokens ms ++ punctuate after_value rest

-- the lexemes begin with these items, and the bracket behind them
abbrev pub ItemsAt : Items → List Lexeme → List Lexeme → Type 0
ItemsAt js ls rest = (p : Place) → may_begin p ≡ true → punctuate p ls ≡ items_tokens js ++ punctuate after_value rest
