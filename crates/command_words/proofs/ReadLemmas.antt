-- Words that are taken, and words that are refused.
use Rattle.std.proofs.Common.{◌≡◌, ℕ, ◌-◌, ◌^◌, ◌<◌, min, ⊎_elim, true, List, [], ◌∷◌, refl, sym, ap, subst, ◌∙◌, arith, if◌then◌else◌}
use Rattle.std.proofs.lemmas.Bool.Decides.{nat_tests}
use Rattle.std.proofs.lemmas.Bool.{and_parts}
use Rattle.std.proofs.lemmas.Str.Parse.{numerals_by_value, parse_digits, tells_digits}
use Rattle.std.specs.Prelude.{Bool, Option, None, Err}
use Rattle.std.specs.Char.{digit_value, is_ascii_digit}
use Rattle.std.specs.List.{list_all}
use Rattle.std.specs.Str.Parse.{AllDigits, ParsesUnsigned, digits_value}
use Rattle.tsd_base.specs.Digits.{is_number}
use Rattle.clap.specs.Kinds.{HasKind, IsAmong, Kinds}
use Rattle.clap.specs.Values.{kind_of}
use Rattle.clap.specs.Walk.{Row, Text}
use Rattle.clap.specs.Simple.{App, is_simple, subcommand_of}
use Rattle.clap.specs.Faults.{fault_of, is_simple_and_free}
use Rattle.clap.specs.declared.error.Error.{Error}
use Rattle.clap.specs.declared.error.kind.ErrorKind.TheVariants as kind
use Rattle.command_words.specs.CommandWords.{asked_in, asked_of, number_within, unless_refused, within}
use Rattle.command_grammar.specs.Grammar.{grammar}

is_plain : is_simple grammar ≡ true
is_plain = refl

is_free : is_simple_and_free grammar ≡ true
is_free = refl

module _ (app : App) (is : app ≡ grammar) (words : List Text) where
  pub taken : {Rows : Type 0} (rows : Option (Text × List Row)) → (is_simple app ≡ true → Rows × (rows ≡ subcommand_of app words)) → (is_simple_and_free app ≡ true → fault_of app words ≡ []) → asked_in rows ≡ asked_of words
  taken rows matches fails =
      let found = matches (ap is_simple is ∙ is_plain) in
      let free : fault_of grammar words ≡ [] = ap (λ (a : App). fault_of a words) (sym is) ∙ fails (ap is_simple_and_free is ∙ is_free) in
      ap asked_in (found.1 ∙ ap (λ (a : App). subcommand_of a words) is) ∙ sym (ap (λ (kinds : Kinds). unless_refused kinds (asked_in (subcommand_of grammar words))) free)

  pub refused : (e : Error) → (kind_of e ≡ kind.OutOfMemory → ⊥) → (is_simple_and_free app ≡ true → HasKind (fault_of app words) e) → None ≡ asked_of words
  refused e told fails =
      let has = subst (λ (a : App). HasKind (fault_of a words) e) is (fails (ap is_simple_and_free is ∙ is_free)) in
      some (fault_of grammar words) (⊎_elim (λ (memory : kind_of e ≡ kind.OutOfMemory). absurd (told memory)) (λ (among : IsAmong (kind_of e) (fault_of grammar words)). among) has)
    where
      some : (kinds : Kinds) → IsAmong (kind_of e) kinds → None ≡ unless_refused kinds (asked_in (subcommand_of grammar words))
      some [] among = absurd among
      some (k ∷ kinds) among = refl

-- a number past the last `u64` is none up to a `u32`, and neither is the last `u64`
pub within_min : (least most n : ℕ) → most < 2 ^ 32 → within least most (min n (2 ^ 64 - 1)) ≡ within least most n
within_min least most n few = grind (arith, nat_tests)

-- ---- seeds

digit_value-lt : (c : ℕ) → is_ascii_digit c ≡ true → digit_value c < 10
digit_value-lt c e = grind (arith, nat_tests)

all_digits : (text : List ℕ) → list_all is_ascii_digit text ≡ true → AllDigits 10 text
all_digits [] e = tt
all_digits (c ∷ text) e = let parts = and_parts _ _ e in (digit_value-lt c parts.0, all_digits text parts.1)

none_within : (n : ℕ) → (n < 2 ^ 64 → ⊥) → within 0 18446744073709551615 n ≡ None
none_within n above = grind (arith, nat_tests)

-- digits that are no `u64` are no seed
pub no_seed : {E : Type 0} (text : List ℕ) (e : E) → is_number text ≡ true → ParsesUnsigned {E = E} 64 10 text (Err e) → None ≡ number_within 0 18446744073709551615 text
no_seed [] e is parses = absurd cc
no_seed (c ∷ cs) e is parses =
    let refused = parse_digits (numerals_by_value (AllDigits 10) tells_digits) 64 (c ∷ cs) (Err e) parses (all_digits (c ∷ cs) is) in
    sym (ap (λ (b : Bool). if b then within 0 18446744073709551615 (digits_value 10 (c ∷ cs)) else None) is ∙ none_within (digits_value 10 (c ∷ cs)) (λ fits. refused (omega arith, fits)))
