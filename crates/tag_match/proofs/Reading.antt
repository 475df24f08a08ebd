-- What the engine says of a text, and what the grammar reads in it.
use Rattle.std.proofs.Common.{◌≡◌, ◌⊎◌, ℕ, ◌<◌, ◌≤◌, Bool, true, false, List, All, get_or, refl, sym, ap, subst, ◌∙◌, arith, inl, inr, lit≤, length, IsSomeAnd, Option, None, Some, is_some, ⊎_elim}
use Rattle.std.specs.Prelude.{◌≢◌, nat_le, IfSome, not}
use Rattle.std.specs.Str.{chars}
use Rattle.std.proofs.lemmas.Bool.{cases_lt, le-leb}
use Rattle.std.proofs.lemmas.Bool.Decides.{nat_tests}
use Rattle.std.proofs.lemmas.List.{get_or_past}
use Rattle.regex_syntax.specs.Brackets.{Nested}
use Rattle.regex_hir.specs.Meaning.{meaning}
use Rattle.regex_hir.specs.declared.hir.Hir.{Hir}
use Rattle.regex_syntax.specs.Captures.{SameCaptures}
use Rattle.regex_syntax.specs.Grammar.{Names, group_count, read}
use Rattle.regex_syntax.specs.Verdict.{Reads, Refuses}
use Rattle.regex_syntax.specs.declared.error.ErrorKind.{ErrorKind}
use Rattle.regex_syntax.specs.declared.error.ErrorKind.TheVariants.{OutOfMemory, NestLimitExceeded}
use Rattle.regex.specs.Patterns.{Re, find_str, default_config}
use Rattle.regex.specs.Strings.{regex_pattern, regex_source, regex_config, IsReadFromSource}
use Rattle.regex.specs.declared.string.regex.Regex.{Regex}
use Rattle.regex_syntax.specs.Same.{SameTree}
use Rattle.regex.proofs.OnLiterals.{IsReadAs, same_refl, is_match_as_written}
use Rattle.list_lemmas.proofs.BoolTests.{not_Some, same_Some}
use Rattle.query_text.specs.declared.queries.Test.{Test}
use Rattle.query_text.specs.declared.queries.Test.TheVariants.{Pattern}
use Rattle.group_by.specs.TagFilters.{passes_test}
use Rattle.tag_match.specs.TestPatterns.{JudgesAs, IsPlain}
use Rattle.tag_match.specs.Patterns.{read_text, is_within, is_read, is_found, finds, IsRegexOf}

-- what was read is within the limit
reads_within : (pattern : List ℕ) (hir : Hir) (names : Names) → Reads default_config pattern hir names → is_within (read_text pattern) ≡ true
unfolding Reads
reads_within pattern hir names r = at (read_text pattern) r
  where
    at : (o : Option (Nested Re × Names)) → IsSomeAnd o (λ (re, found). (re.depth ≤ default_config.nest_limit) × SameCaptures (meaning hir) re.value × (names ≡ found) × (group_count (meaning hir) ≤ length names)) → is_within o ≡ true
    at None never = absurd never
    at (Some (re, found)) so = le-leb re.depth default_config.nest_limit so.0

pub regex_of : (text : List ℕ) (r : Regex) → regex_source r ≡ text → regex_config r ≡ default_config → IsReadFromSource r → IsRegexOf text r
regex_of text r source config from = record { source = source; config = config; from = from; is_read = reads_within text _ _ (rw (source, config) at from) }

-- an error of syntax tells that the grammar reads no pattern
not_within : (o : Option (Nested Re × Names)) → (o ≡ None) ⊎ IfSome o (λ x. default_config.nest_limit < x.0.depth) → is_within o ≡ false
not_within None e = refl
not_within (Some (re, names)) (inl e) = absurd cc
not_within (Some (re, names)) (inr lt) = grind (arith, nat_tests, lt)

pub refused : (text : List ℕ) (kind : ErrorKind) → Refuses default_config text kind → kind ≢ OutOfMemory → is_read text ≡ false
unfolding Refuses
refused text kind r other = ⊎_elim (λ memory. absurd (other memory)) (λ s. not_within (read_text text) (⊎_elim (λ e. inl e) (λ deep. inr deep.1) s)) r

-- a search by the regular expression of a text finds what the text's pattern does
found_by : (text : List ℕ) (r : Regex) → IsRegexOf text r → (value : List ℕ) → All (λ b. b < 256) value → (o : Option (Nested Re × Names)) → read_text text ≡ o → is_within o ≡ true → is_some (find_str (regex_pattern r) value 0) ≡ is_found o value
found_by text r of value bytes None e w = absurd cc
found_by text r of value bytes (Some (re, names)) e w =
    is_match_as_written r text re.value of.source of.config of.from (subst (λ (o : Option (Nested Re × Names)). IsSomeAnd o (λ x. SameTree x.0.value re.value)) (sym e) (same_refl re.value)) value (small value bytes) 0
  where
    small : (value : List ℕ) → All (λ b. b < 256) value → (k : ℕ) → get_or value k 0 < 256
    small value bytes k = ⊎_elim (λ lt. bytes k 0 lt) (λ ge. let past = get_or_past value k 0 ge in omega (arith, past)) (cases_lt k (length value))

pub found : (text : List ℕ) (r : Regex) → IsRegexOf text r → (value : List ℕ) → All (λ b. b < 256) value → is_some (find_str (regex_pattern r) value 0) ≡ finds text value
found text r of value bytes = found_by text r of value bytes (read_text text) refl of.is_read

-- so its searches judge as the test of the text's pattern
pub judges_of : (text : List ℕ) (r : Regex) → IsRegexOf text r → (test : Test) → test ≡ Pattern text → JudgesAs (Some (regex_pattern r)) test
judges_of text r of test is re e value bytes = ap (λ (p : Re). is_some (find_str p value 0)) (sym (same_Some (regex_pattern r) re e)) ∙ found text r of value bytes ∙ ap (λ (t : Test). passes_test finds t value) (sym is)

pub plain_of : (re : Re) (test : Test) → IsPlain (Some re) test
plain_of re test e = absurd (not_Some re e)
