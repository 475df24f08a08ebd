-- Filters of JSON, one after the other.
use Rattle.std.proofs.Common.{◌≡◌, ℕ, ◌+◌, List, [], ◌∷◌, ◌++◌, length, refl, sym, ap, arith, subst, ◌∙◌, append_assoc, Result, Ok, Err}
use Rattle.std.proofs.lemmas.List.{length_push}
use Rattle.serde_json.specs.Data.{Data, Members, member}
use Rattle.serde_json.specs.View.{items_of}
use Rattle.query_requests.specs.JsonFilters.{FilterParts, part_filter, part_filters, tag_filter, tag_filters}
use Rattle.query_requests.specs.JsonMembers.{count_of}
use Rattle.query_requests.specs.QueryReadings.{◌>>=◌, Fails, with_front}
use Rattle.query_text.specs.declared.queries.Filter.{Filter}
use Rattle.query_text.specs.declared.queries.QueryFault.{QueryFault}
use Rattle.query_text.specs.declared.queries.QueryFault.TheVariants.{BadM, UnknownAggregator, RateRefused, BadDownsample, BadFilter, BadTimes, BadQuery, TooManyQueries, OutOfMemory}

-- how many items an array has
pub counts : (ds : List Data) → count_of (items_of ds) ≡ length ds
counts [] = refl
counts (d ∷ ds) = let e = counts ds in omega (arith, e)

behind : {A : Type 0} (front : List A) (x : A) (r : Result (List A) QueryFault) → with_front (front ++ x ∷ []) r ≡ with_front front (r >>= λ xs. Ok (x ∷ xs))
behind front x (Ok xs) = ap (λ ys. Ok ys) (append_assoc front (x ∷ []) xs)
behind front x (Err e) = refl

pub tag_pushed : (front new : List Filter) (key : List ℕ) (d : Data) (ms : Members) (f : Filter) (wanted : Result (List Filter) QueryFault) → tag_filter (length front) key d ≡ Ok f → new ≡ front ++ f ∷ []
    → with_front front (tag_filters (length front) (member key d ms)) ≡ wanted → with_front new (tag_filters (length new) ms) ≡ wanted
tag_pushed front new key d ms f wanted is n w =
    let index : length new ≡ length front + 1 = ap length n ∙ length_push front f in
    (λ i. with_front (n i) (tag_filters (index i) ms)) ∙ behind front f (tag_filters (length front + 1) ms)
    ∙ sym (ap (λ (r : Result Filter QueryFault). with_front front (r >>= λ g. tag_filters (length front + 1) ms >>= λ gs. Ok (g ∷ gs))) is) ∙ w

fault_by : {A B : Type 0} (fault : QueryFault) (r : Result A QueryFault) (f : Result A QueryFault → Result B QueryFault) → ((e : QueryFault) → f (Err e) ≡ Err e) → Fails fault r → Fails fault (f r)
fault_by (BadM at) r f keeps e = ap f e ∙ keeps (BadM at)
fault_by UnknownAggregator r f keeps e = ap f e ∙ keeps UnknownAggregator
fault_by RateRefused r f keeps e = ap f e ∙ keeps RateRefused
fault_by BadDownsample r f keeps e = ap f e ∙ keeps BadDownsample
fault_by (BadFilter index) r f keeps e = ap f e ∙ keeps (BadFilter index)
fault_by BadTimes r f keeps e = ap f e ∙ keeps BadTimes
fault_by BadQuery r f keeps e = ap f e ∙ keeps BadQuery
fault_by (TooManyQueries n) r f keeps e = ap f e ∙ keeps (TooManyQueries n)
fault_by OutOfMemory r f keeps e = tt

pub part_fault : (front : List Filter) (index : ℕ) (p : FilterParts) (ps all : List FilterParts) (fault : QueryFault) (wanted : Result (List Filter) QueryFault) → index ≡ length front → all ≡ p ∷ ps → Fails fault (part_filter index p)
    → with_front front (part_filters (length front) all) ≡ wanted → Fails fault wanted
part_fault front index p ps all fault wanted i a e w =
    subst (Fails fault) (ap (λ (xs : List FilterParts). with_front front (part_filters (length front) xs)) (sym a) ∙ w)
    (fault_by fault (part_filter (length front) p) (λ r. with_front front (r >>= λ g. part_filters (length front + 1) ps >>= λ gs. Ok (g ∷ gs))) (λ e. refl) (subst (λ (n : ℕ). Fails fault (part_filter n p)) i e))
