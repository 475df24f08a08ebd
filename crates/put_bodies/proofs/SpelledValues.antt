-- Values, members and items put together of lexemes.
use Rattle.std.proofs.Common.{◌≡◌, ℕ, true, true≢false, List, [], ◌∷◌, ◌++◌, refl, sym, ap, ◌∙◌, append_assoc}
use Rattle.json.specs.Token as t
use Rattle.json.specs.Json.{Json, string, number, object, array, Items, item, no_items, Members, member, no_members}
use Rattle.json.specs.Tree.{json_tokens, items_tokens, members_tokens}
use Rattle.json.specs.Lex.{Lexeme, token, comma, colon, fresh, after_value, after_comma, after_key, Place, lex, may_begin, punctuate}
use Rattle.put_bodies.specs.TextScans.{IsLexeme, ItemsAt, MembersAt, ValueAt}

-- ---- the bytes of punctuation

pub open_brace_is : IsLexeme 123 (token t.begin_object)
unfolding lex
open_brace_is text = refl

pub close_brace_is : IsLexeme 125 (token t.end_object)
unfolding lex
close_brace_is text = refl

pub open_bracket_is : IsLexeme 91 (token t.begin_array)
unfolding lex
open_bracket_is text = refl

pub close_bracket_is : IsLexeme 93 (token t.end_array)
unfolding lex
close_bracket_is text = refl

pub comma_is : IsLexeme 44 comma
unfolding lex
comma_is text = refl

pub colon_is : IsLexeme 58 colon
unfolding lex
colon_is text = refl

-- ---- values

pub text_at : (s : List ℕ) (ls rest : List Lexeme) → ls ≡ token (t.string s) ∷ rest → ValueAt (string s) ls rest
unfolding punctuate
text_at s ls rest is alone fresh may = rw (is, alone) refl
text_at s ls rest is alone after_value may = absurd (true≢false (sym may))
text_at s ls rest is alone after_comma may = rw (is, alone) refl
text_at s ls rest is alone after_key may = absurd (true≢false (sym may))

pub number_at : (s : List ℕ) (ls rest : List Lexeme) → ls ≡ token (t.number s) ∷ rest → ValueAt (number s) ls rest
unfolding punctuate
number_at s ls rest is alone fresh may = rw is refl
number_at s ls rest is alone after_value may = absurd (true≢false (sym may))
number_at s ls rest is alone after_comma may = rw is refl
number_at s ls rest is alone after_key may = absurd (true≢false (sym may))

pub object_at : (ms : Members) (ls inside rest : List Lexeme) → ls ≡ token t.begin_object ∷ inside → MembersAt ms inside rest → ValueAt (object ms) ls rest
unfolding punctuate
object_at ms ls inside rest is at alone fresh may = ap (punctuate fresh) is ∙ ap (λ (ts : List t.Token). t.begin_object ∷ ts) (at fresh refl)
object_at ms ls inside rest is at alone after_value may = absurd (true≢false (sym may))
object_at ms ls inside rest is at alone after_comma may = ap (punctuate after_comma) is ∙ ap (λ (ts : List t.Token). t.begin_object ∷ ts) (at fresh refl)
object_at ms ls inside rest is at alone after_key may = absurd (true≢false (sym may))

pub array_at : (js : Items) (ls inside rest : List Lexeme) → ls ≡ token t.begin_array ∷ inside → ItemsAt js inside rest → ValueAt (array js) ls rest
unfolding punctuate
array_at js ls inside rest is at alone fresh may = ap (punctuate fresh) is ∙ ap (λ (ts : List t.Token). t.begin_array ∷ ts) (at fresh refl)
array_at js ls inside rest is at alone after_value may = absurd (true≢false (sym may))
array_at js ls inside rest is at alone after_comma may = ap (punctuate after_comma) is ∙ ap (λ (ts : List t.Token). t.begin_array ∷ ts) (at fresh refl)
array_at js ls inside rest is at alone after_key may = absurd (true≢false (sym may))

-- ---- members

-- a key, and then what stands behind its colon
keyed : (k : List ℕ) (ls inside : List Lexeme) → ls ≡ token (t.string k) ∷ colon ∷ inside → (p : Place) → may_begin p ≡ true → punctuate p ls ≡ t.key k ∷ punctuate fresh inside
unfolding punctuate
keyed k ls inside is fresh may = rw is refl
keyed k ls inside is after_value may = absurd (true≢false (sym may))
keyed k ls inside is after_comma may = rw is refl
keyed k ls inside is after_key may = absurd (true≢false (sym may))

ends_object : (rest : List Lexeme) → punctuate after_value (token t.end_object ∷ rest) ≡ t.end_object ∷ punctuate after_value rest
unfolding punctuate
ends_object rest = refl

ends_array : (rest : List Lexeme) → punctuate after_value (token t.end_array ∷ rest) ≡ t.end_array ∷ punctuate after_value rest
unfolding punctuate
ends_array rest = refl

goes_on : (rest : List Lexeme) → punctuate after_value (comma ∷ rest) ≡ punctuate after_comma rest
unfolding punctuate
goes_on rest = refl

pub last_member : (k : List ℕ) (j : Json) (ls inside rest : List Lexeme) → ls ≡ token (t.string k) ∷ colon ∷ inside → ValueAt j inside (token t.end_object ∷ rest) → MembersAt (member k j no_members) ls rest
last_member k j ls inside rest is at p may =
    keyed k ls inside is p may ∙ ap (λ (ts : List t.Token). t.key k ∷ ts) (at refl fresh refl ∙ ap (λ (ts : List t.Token). json_tokens j ++ ts) (ends_object rest) ∙ sym (append_assoc (json_tokens j) (t.end_object ∷ []) (punctuate after_value rest)))

pub more_members : (k : List ℕ) (j : Json) (ms : Members) (ls inside later rest : List Lexeme) → ls ≡ token (t.string k) ∷ colon ∷ inside → ValueAt j inside (comma ∷ later) → MembersAt ms later rest → MembersAt (member k j ms) ls rest
more_members k j ms ls inside later rest is at more p may =
    keyed k ls inside is p may
    ∙ ap (λ (ts : List t.Token). t.key k ∷ ts) (at refl fresh refl ∙ ap (λ (ts : List t.Token). json_tokens j ++ ts) (goes_on later ∙ more after_comma refl) ∙ sym (append_assoc (json_tokens j) (members_tokens ms) (punctuate after_value rest)))

pub last_item : (j : Json) (ls rest : List Lexeme) → ValueAt j ls (token t.end_array ∷ rest) → ItemsAt (item j no_items) ls rest
last_item j ls rest at p may = at refl p may ∙ ap (λ (ts : List t.Token). json_tokens j ++ ts) (ends_array rest) ∙ sym (append_assoc (json_tokens j) (t.end_array ∷ []) (punctuate after_value rest))

pub more_items : (j : Json) (js : Items) (ls later rest : List Lexeme) → ValueAt j ls (comma ∷ later) → ItemsAt js later rest → ItemsAt (item j js) ls rest
more_items j js ls later rest at more p may =
    at refl p may ∙ ap (λ (ts : List t.Token). json_tokens j ++ ts) (goes_on later ∙ more after_comma refl) ∙ sym (append_assoc (json_tokens j) (items_tokens js) (punctuate after_value rest))
