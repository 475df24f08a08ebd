-- Readings, one after the other.
use Rattle.std.proofs.Common.{◌≡◌, ◌∙◌, List, [], ◌∷◌, ◌++◌, refl, sym, ap, append_assoc, ℕ, Result, Ok, Err}
use Rattle.tsd_base.specs.TagList.{Pair}
use Rattle.query_text.specs.declared.queries.Filter.{Filter}
use Rattle.http_series.specs.declared.argument_fault.ArgumentFault.{ArgumentFault}
use Rattle.http_series.specs.declared.argument_fault.ArgumentFault.TheVariants.{BadLookup, BadLimit, BadTimeseries, BadBackScan, OutOfMemory}
use Rattle.http_series.specs.ArgumentReading.{◌>>=◌, Fails, or_fault, with_front}
use Rattle.http_series.specs.declared.last_request.SeriesName.{SeriesName}
use Rattle.http_series.specs.SeriesRequests.{all_named}
use Rattle.http_series.specs.SeriesTexts.{pair_of, pairs_of, series_named}

-- a reading that has this fault fails with it
pub fails_so : {A : Type 0} (fault : ArgumentFault) (read : Result A ArgumentFault) → read ≡ Err fault → Fails fault read
fails_so BadLookup read is = is
fails_so BadLimit read is = is
fails_so BadTimeseries read is = is
fails_so BadBackScan read is = is
fails_so OutOfMemory read is = tt

-- one more at the front
one_front : {A : Type 0} (x : A) (rest : Result (List A) ArgumentFault) → (rest >>= λ xs. Ok (x ∷ xs)) ≡ with_front (x ∷ []) rest
one_front x (Ok xs) = refl
one_front x (Err fault) = refl

fronts : {A : Type 0} (front : List A) (x : A) (rest : Result (List A) ArgumentFault) → with_front (front ++ x ∷ []) rest ≡ with_front front (with_front (x ∷ []) rest)
fronts front x (Ok xs) = ap (λ l. Ok l) (append_assoc front (x ∷ []) xs)
fronts front x (Err fault) = refl

-- one more pair was read
pub pair_more : (front pushed : List Pair) (filters rest : List Filter) (filter : Filter) (pair : Pair) (all : Result (List Pair) ArgumentFault) → filters ≡ filter ∷ rest → or_fault BadTimeseries (pair_of filter) ≡ Ok pair → pushed ≡ front ++ pair ∷ []
    → with_front front (pairs_of filters) ≡ all → with_front pushed (pairs_of rest) ≡ all
pair_more front pushed filters rest filter pair all split read pushed_is before =
    ap (λ l. with_front l (pairs_of rest)) pushed_is ∙ fronts front pair (pairs_of rest)
    ∙ ap (with_front front) (sym (one_front pair (pairs_of rest)) ∙ ap (λ r. r >>= λ p. pairs_of rest >>= λ ps. Ok (p ∷ ps)) (sym read) ∙ ap pairs_of (sym split)) ∙ before

-- one more series was read
pub name_more : (front pushed : List SeriesName) (texts rest : List (List ℕ)) (text : List ℕ) (one : SeriesName) (all : Result (List SeriesName) ArgumentFault) → texts ≡ text ∷ rest → series_named text ≡ Ok one → pushed ≡ front ++ one ∷ []
    → with_front front (all_named texts) ≡ all → with_front pushed (all_named rest) ≡ all
name_more front pushed texts rest text one all split read pushed_is before =
    ap (λ l. with_front l (all_named rest)) pushed_is ∙ fronts front one (all_named rest)
    ∙ ap (with_front front) (sym (one_front one (all_named rest)) ∙ ap (λ r. r >>= λ x. all_named rest >>= λ xs. Ok (x ∷ xs)) (sym read) ∙ ap all_named (sym split)) ∙ before
