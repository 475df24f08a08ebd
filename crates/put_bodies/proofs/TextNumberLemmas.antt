-- Numbers of digits, with a minus or none.
use Rattle.std.proofs.Common.{◌≡◌, ℕ, suc, ◌+◌, ◌^◌, ◌<◌, ◌≤◌, Bool, true, false, not, ◌==◌, List, [], ◌∷◌, ◌++◌, length, take, drop, Some, refl, sym, ap, ap₂, subst, ◌∙◌, inl, inr, one-add, arith, append-nil, lt-ltb, le-leb, ne_eqb}
use Rattle.std.specs.Char.{is_ascii_digit}
use Rattle.std.specs.List.{list_all, position_or_len, prefix_len}
use Rattle.std.specs.Str.Parse.{AllDigits, digits_value}
use Rattle.std.proofs.lemmas.List.{take-append-drop}
use Rattle.std.proofs.lemmas.Bool.{and_parts, cases_Bool}
use Rattle.std.proofs.lemmas.Bool.Decides.{nat_tests}
use Rattle.fast_float.specs.Text.{IsWellFormed, with_sign}
use Rattle.fast_float.proofs.Writing.{scan-text_of}
use Rattle.json.specs.Print.{IsNumber}
use Rattle.json.specs.Word.{after_digits, after_number, after_whole, ends_word}
use Rattle.json.specs.Lex.{token}
use Rattle.json.specs.Token.{number}
use Rattle.json.proofs.Printed.Numbers.{lex-number}
use Rattle.serde_json.specs.Data.{negative, unsigned}
use Rattle.serde_json.specs.Read.{number_from, number_of}
use Rattle.put_bodies.specs.PlainBodies.{IsDigits}
use Rattle.put_bodies.specs.TextNumbers.{HasNumber, IsNegative, IsOfKind, IsWhole}
use Rattle.put_bodies.specs.TextScans.{lexemes}
use Rattle.put_bodies.specs.declared.text_numbers.NumberKind.{NumberKind}
use Rattle.put_bodies.specs.declared.text_numbers.NumberKind.TheVariants.{Whole, Negative, Fraction}
use Rattle.put_bodies.proofs.NumberLemmas.{digits, number_of-digits}
use Rattle.put_bodies.proofs.TapeLemmas.{digits_are}

pub digits_taken : (text : List ℕ) → list_all is_ascii_digit (take (position_or_len (λ b. not (is_ascii_digit b)) text) text) ≡ true
digits_taken [] = refl
digits_taken (c ∷ text) = let rest = digits_taken text in
    elim (cases_Bool (is_ascii_digit c)) [
      | inl e ↦ rw (e, one-add) (rw e rest)
      | inr e ↦ rw e refl
    ]

prefix_all : (s : List ℕ) → list_all is_ascii_digit s ≡ true → prefix_len is_ascii_digit s ≡ length s
prefix_all [] e = refl
prefix_all (c ∷ s) e = let parts = and_parts (is_ascii_digit c) (list_all is_ascii_digit s) e in rw (parts.0, one-add) (ap suc (prefix_all s parts.1))

gone : (s : List ℕ) → drop (length s) s ≡ []
gone [] = refl
gone (c ∷ cs) = gone cs

digits_after : (c : ℕ) (s : List ℕ) → list_all is_ascii_digit (c ∷ s) ≡ true → after_digits (c ∷ s) ≡ Some []
digits_after c s e = rw (prefix_all (c ∷ s) e, ne_eqb (length (c ∷ s)) 0 (λ z. omega arith)) (ap (λ (l : List ℕ). Some l) (gone (c ∷ s)))

one_digit : (c : ℕ) (b : Bool) → (c == 48) ≡ b → list_all is_ascii_digit (c ∷ []) ≡ true → after_whole (c ∷ []) ≡ Some []
one_digit c true is e = rw is refl
one_digit c false is e = rw is (digits_after c [] e)

no_zero : (b : Bool) → not b ≡ true → b ≡ false
no_zero false e = refl
no_zero true e = absurd cc

whole_after : (s : List ℕ) → IsWhole s → after_whole s ≡ Some []
whole_after [] w = absurd (let e : false ≡ true = w.leads in cc)
whole_after (c ∷ []) w = one_digit c (c == 48) refl w.digits
whole_after (c ∷ d ∷ cs) w = rw (no_zero (c == 48) w.leads) (digits_after c (d ∷ cs) w.digits)

no_minus : (c : ℕ) → is_ascii_digit c ≡ true → (c == 45) ≡ false
no_minus c e = grind (arith, nat_tests)

pub whole_is_number : (s : List ℕ) → IsWhole s → IsNumber s
unfolding after_number
whole_is_number [] w = absurd (let e : false ≡ true = w.leads in cc)
whole_is_number (c ∷ s) w = rw (no_minus c (and_parts _ _ w.digits).0) (rw (whole_after (c ∷ s) w) refl)

pub negative_is_number : (s : List ℕ) → IsWhole s → IsNumber (45 ∷ s)
unfolding after_number
negative_is_number s w = rw (whole_after s w) refl

pub whole_some : (s : List ℕ) → IsWhole s → 0 < length s
whole_some [] w = absurd (let e : false ≡ true = w.leads in cc)
whole_some (c ∷ s) w = omega arith

pub whole_digits : (s : List ℕ) → IsWhole s → IsDigits s
whole_digits s w = digits_are s w.digits (whole_some s w) w.few

-- the lexemes of a number that ends before the rest
pub number_lexed : (s rest : List ℕ) → IsNumber s → ends_word rest ≡ true → lexemes (s ++ rest) ≡ token (number s) ∷ lexemes rest
number_lexed s rest is ended = lex-number s rest is ended

-- ---- what it is worth

read_negative : (s : List ℕ) → AllDigits 10 s → number_of (45 ∷ (s ++ [])) ≡ number_from true (digits s)
unfolding number_of
read_negative s h =
    let formed : IsWellFormed (digits s) = record { whole_digits = h; fraction_digits = tt; exponent_digits = tt; no_point = λ _. refl; no_exponent = λ _. refl; len_is = refl } in
    ap (number_from true) (scan-text_of (digits s) formed)

pub number_of-negative : (s : List ℕ) → AllDigits 10 s → 0 < length s → 0 < digits_value 10 s → digits_value 10 s ≤ 2 ^ 63 → number_of (45 ∷ s) ≡ Some (negative (with_sign true (digits_value 10 s)))
number_of-negative s h long some fits =
    let worth : digits_value 10 (s ++ []) ≡ digits_value 10 s = ap (digits_value 10) (append-nil s) in
    ap (λ (l : List ℕ). number_of (45 ∷ l)) (sym (append-nil s)) ∙ read_negative s h ∙ rw (lt-ltb _ _ long, worth) (rw (lt-ltb _ _ some, le-leb _ _ fits) refl)

pub negative_of : (s : List ℕ) (n : IsNegative s) → number_of s ≡ Some (negative (with_sign true (digits_value 10 n.digits)))
negative_of s n = let d = whole_digits n.digits n.whole in ap number_of n.text ∙ number_of-negative n.digits d.0 d.1 n.some n.fits

pub kind_reads : (kind : NumberKind) (s : List ℕ) → IsOfKind kind s → HasNumber s
kind_reads Whole s w = let d = whole_digits s w in (unsigned (digits_value 10 s), number_of-digits s d.0 d.1 d.2)
kind_reads Negative s n = (negative (with_sign true (digits_value 10 n.digits)), negative_of s n)
kind_reads Fraction s f = (_, f.1)

-- ---- numbers, as they were cut

abbrev Lexed : List ℕ → List ℕ → List ℕ → Type 0
Lexed text s rest = lexemes text ≡ token (number s) ∷ lexemes rest

pub cut_lexed : (text s rest : List ℕ) (n : ℕ) → s ≡ take n text → rest ≡ drop n text → IsNumber s → ends_word rest ≡ true → Lexed text s rest
cut_lexed text s rest n front back is ended = ap lexemes (sym (take-append-drop n text) ∙ ap₂ (λ (a b : List ℕ). a ++ b) (sym front) (sym back)) ∙ number_lexed s rest is ended

pub whole_cut : (text s rest : List ℕ) (n : ℕ) → n ≡ position_or_len (λ b. not (is_ascii_digit b)) text → s ≡ take n text → rest ≡ drop n text → (list_all is_ascii_digit s ≡ true → IsWhole s) → ends_word rest ≡ true → Lexed text s rest × IsWhole s
whole_cut text s rest n place front back is ended =
    let whole = is (subst (λ (l : List ℕ). list_all is_ascii_digit l ≡ true) (sym (front ∙ ap (λ k. take k text) place)) (digits_taken text)) in
    (cut_lexed text s rest n front back (whole_is_number s whole) ended, whole)

abbrev Below : List ℕ → Type 0
Below digits = IsWhole digits × (0 < digits_value 10 digits) × (digits_value 10 digits ≤ 2 ^ 63)

pub negative_cut : (text behind s rest digits : List ℕ) (sign n : ℕ) → text ≡ sign ∷ behind → sign ≡ 45 → n ≡ position_or_len (λ b. not (is_ascii_digit b)) behind → s ≡ take (1 + n) text → rest ≡ drop (1 + n) text → digits ≡ drop 1 s
    → (list_all is_ascii_digit digits ≡ true → Below digits) → ends_word rest ≡ true → Lexed text s rest × IsNegative s
negative_cut text behind s rest digits sign n first minus place front back inside below ended =
    let s_is : s ≡ 45 ∷ take n behind = front ∙ ap (take (1 + n)) (first ∙ ap (λ c. c ∷ behind) minus) ∙ ap (λ k. take k (45 ∷ behind)) (one-add n) in
    let digits_are : digits ≡ take n behind = inside ∙ ap (drop 1) s_is in
    let b = below (subst (λ (l : List ℕ). list_all is_ascii_digit l ≡ true) (sym (digits_are ∙ ap (λ k. take k behind) place)) (digits_taken behind)) in
    let text_is : s ≡ 45 ∷ digits = s_is ∙ ap (λ (l : List ℕ). 45 ∷ l) (sym digits_are) in (
      cut_lexed text s rest (1 + n) front back (subst IsNumber (sym text_is) (negative_is_number digits b.0)) ended,
      record { digits = digits; whole = b.0; text = text_is; some = b.1; fits = b.2 },
    )
