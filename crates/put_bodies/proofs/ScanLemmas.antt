-- The lexemes at the front of a text.
use Rattle.std.proofs.Common.{◌≡◌, ℕ, ◌+◌, ◌-◌, ◌≤◌, Bool, true, false, not, cond, ◌||◌, ◌==◌, nat_lt, List, [], ◌∷◌, length, take, drop, position, Some, refl, sym, ap, ap₂, subst, ◌∙◌, inl, inr, ◌⊎◌, one-add, arith}
use Rattle.std.specs.List.{position_or_len}
use Rattle.std.specs.Option.{unwrap_or}
use Rattle.std.proofs.lemmas.Bool.{or_parts}
use Rattle.std.proofs.lemmas.Bool.Decides.{nat_tests}
use Rattle.std.proofs.lemmas.List.{take_rest}
use Rattle.std.proofs.lemmas.List.Sums.{prefix_len-le-length}
use Rattle.json.specs.Token.{string}
use Rattle.json.specs.Text.{content, plain}
use Rattle.json.specs.Word.{is_operator, is_space}
use Rattle.json.specs.Lex.{Lexeme, Mode, in_string, operator, space, other, lex, lex_byte, string_token, token}
use Rattle.put_bodies.specs.TextScans.{begins_blank, is_stop, lexemes}

pub position_or_whole : (p : ℕ → Bool) (text : List ℕ) → unwrap_or (position p text) (length text) ≡ position_or_len p text
position_or_whole p text = let most = prefix_len-le-length (λ b. not (p b)) text in grind (arith, nat_tests)

pub position_within : (p : ℕ → Bool) (text : List ℕ) → position_or_len p text ≤ length text
position_within p text = prefix_len-le-length (λ b. not (p b)) text

space_cases : (b : ℕ) → is_space b ≡ true → (b ≡ 32) ⊎ ((b ≡ 9) ⊎ ((b ≡ 10) ⊎ (b ≡ 13)))
space_cases b e = grind (arith, nat_tests)

lex-blank : (b : ℕ) (text : List ℕ) → (b ≡ 32) ⊎ ((b ≡ 9) ⊎ ((b ≡ 10) ⊎ (b ≡ 13))) → lexemes (b ∷ text) ≡ lexemes text
unfolding lex
lex-blank b text (inl e) = rw e refl
lex-blank b text (inr (inl e)) = rw e refl
lex-blank b text (inr (inr (inl e))) = rw e refl
lex-blank b text (inr (inr (inr e))) = rw e refl

pub blank_behind : (text : List ℕ) → begins_blank text ≡ true → lexemes (take (length text - 1) (drop 1 text)) ≡ lexemes text
blank_behind [] e = absurd cc
blank_behind (b ∷ text) e = rw (take_rest (b ∷ text) 1) (sym (lex-blank b text (space_cases b e)))

-- ---- strings

stays_inside : (o s : Bool) (x : ℕ) (r : List ℕ) (k : Mode → List Lexeme) → lex_byte in_string (cond o operator (cond s space other)) x r k ≡ k in_string
stays_inside true s x r k = refl
stays_inside false true x r k = refl
stays_inside false false x r k = refl

-- the text up to the place, and the lexemes behind the quote there
abbrev IsInside : List ℕ → List ℕ → List ℕ → Type 0
IsInside r text rest = (content plain r ≡ Some text) × (lex in_string r ≡ lexemes rest)

at_quote : (rest : List ℕ) → IsInside (34 ∷ rest) [] rest
unfolding content lex
at_quote rest = (refl, refl)

at_plain : (x : ℕ) (r text rest : List ℕ) → is_stop x ≡ false → IsInside r text rest → IsInside (x ∷ r) (x ∷ text) rest
unfolding content lex
at_plain x r text rest e inside =
    let no = or_parts ((x == 34) || (x == 92)) (nat_lt x 32) e in
    let more = or_parts (x == 34) (x == 92) no.0 in (
      rw (more.0, more.1, no.1, inside.0) refl,
      rw (more.0, more.1) (stays_inside (is_operator x) (is_space x) x r (λ m. lex m r)) ∙ inside.1,
    )

pub inside_is : (r rest : List ℕ) → drop (position_or_len is_stop r) r ≡ 34 ∷ rest → IsInside r (take (position_or_len is_stop r) r) rest
inside_is [] rest e = absurd (cc)
inside_is (x ∷ r) rest e = by_stop (is_stop x) refl e (inside_is r rest)
  where
    at : (y : ℕ) (ys : List ℕ) → ◌≡◌ {A = List ℕ} (y ∷ ys) (34 ∷ rest) → IsInside (y ∷ ys) [] rest
    at y ys e = subst (λ (l : List ℕ). IsInside l [] rest) (sym e) (at_quote rest)

    by_stop : (b : Bool) → is_stop x ≡ b → drop (cond (not b) (1 + position_or_len is_stop r) 0) (x ∷ r) ≡ 34 ∷ rest
        → (drop (position_or_len is_stop r) r ≡ 34 ∷ rest → IsInside r (take (position_or_len is_stop r) r) rest) → IsInside (x ∷ r) (take (cond (not b) (1 + position_or_len is_stop r) 0) (x ∷ r)) rest
    by_stop true is e ih = at x r e
    by_stop false is e ih =
        let next = one-add (position_or_len is_stop r) in
        subst (λ (k : ℕ). IsInside (x ∷ r) (take k (x ∷ r)) rest) (sym next)
        (at_plain x r (take (position_or_len is_stop r) r) rest is (ih (subst (λ (k : ℕ). drop k (x ∷ r) ≡ 34 ∷ rest) next e)))

pub string_is : (r rest : List ℕ) → drop (position_or_len is_stop r) r ≡ 34 ∷ rest → lexemes (34 ∷ r) ≡ token (string (take (position_or_len is_stop r) r)) ∷ lexemes rest
unfolding lex
string_is r rest e = let inside = inside_is r rest e in ap₂ (λ o l. token (string_token o) ∷ l) inside.0 inside.1

-- the same, as it was cut
pub string_cut : (r text behind rest : List ℕ) (n : ℕ) (b : ℕ) → n ≡ position_or_len is_stop r → text ≡ take n r → behind ≡ drop n r → behind ≡ b ∷ rest → b ≡ 34 → lexemes (34 ∷ r) ≡ token (string text) ∷ lexemes rest
string_cut r text behind rest n b is front back cut quote =
    let place : drop (position_or_len is_stop r) r ≡ 34 ∷ rest = ap (λ k. drop k r) (sym is) ∙ sym back ∙ cut ∙ ap (λ c. c ∷ rest) quote in
    string_is r rest place ∙ ap (λ (s : List ℕ). token (string s) ∷ lexemes rest) (sym (front ∙ ap (λ k. take k r) is))
