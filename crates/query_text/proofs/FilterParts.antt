-- Filters, one after the other.
use Rattle.std.proofs.Common.{◌≡◌, ℕ, ◌+◌, ◌<◌, ◌≤◌, Bool, true, false, cond, List, [], ◌∷◌, ◌++◌, length, take, drop, get_or, refl, sym, ap, ◌∙◌, arith, append_assoc}
use Rattle.std.specs.Prelude.{◌≢◌, Option, None, Some, Result, Ok, Err, slice_get, nat_eq}
use Rattle.std.proofs.lemmas.List.{append-nil, length-append, get_or_default}
use Rattle.std.proofs.lemmas.Option.{slice_get_read}
use Rattle.std.proofs.lemmas.Bool.{cond-true, cond-false, ne_eqb}
use Rattle.list_lemmas.proofs.BoolTests.{nat_eq-same}
use Rattle.query_text.specs.declared.queries.Filter.{Filter}
use Rattle.query_text.specs.declared.queries.QueryFault.{QueryFault}
use Rattle.query_text.specs.declared.queries.QueryFault.TheVariants.{BadM, UnknownAggregator, RateRefused, BadDownsample, BadFilter, BadTimes, BadQuery, TooManyQueries, OutOfMemory}
use Rattle.tsd_base.specs.Alphabet.{is_name}
use Rattle.query_text.specs.declared.queries.Test.{Test}
use Rattle.query_text.specs.Cuts.{place_of, before, behind, parts_by, is_byte}
use Rattle.query_text.proofs.Parts.{is_a_name}
use Rattle.query_text.specs.FilterTexts.{test_of, filter_with, filter_by, filter_of, filter_and, each_filter, filters_in, up_to_place, part_between, part_at, last_part, second_part, filters_from, filters_of, GivesOne, GivesMore, GivesPart, GivesFilters}

-- these filters, and then those of the rest
abbrev pub after_filters : List Filter → Result (List Filter) QueryFault → Result (List Filter) QueryFault
after_filters done (Ok filters) = Ok (done ++ filters)
after_filters done (Err fault) = Err fault

after_none : (rest : Result (List Filter) QueryFault) → rest ≡ after_filters [] rest
after_none (Ok filters) = refl
after_none (Err fault) = refl

after_one : (done : List Filter) (n : ℕ) (f : Filter) (rest : Result (List Filter) QueryFault) → after_filters done (filter_and n (Some f) rest) ≡ after_filters (done ++ f ∷ []) rest
after_one done n f (Ok filters) = ap Ok (sym (append_assoc done (f ∷ []) filters))
after_one done n f (Err fault) = refl

-- the filters so far, and what those of the rest make
pub record FiltersKept (group : Bool) (old : List Filter) (text : List ℕ) (filters : List Filter) (rest : List ℕ) : Type 0 where
  pub done : List Filter
  pub made : filters ≡ old ++ done
  pub is : each_filter group (length old) (parts_by 44 text) ≡ after_filters done (each_filter group (length filters) (parts_by 44 rest))

pub filters_none : (group : Bool) (old : List Filter) (text : List ℕ) → FiltersKept group old text old text
filters_none group old text = record { done = []; made = sym (append-nil old); is = after_none (each_filter group (length old) (parts_by 44 text)) }

pub filters_push : (group : Bool) (old : List Filter) (text : List ℕ) (filters : List Filter) (rest one more : List ℕ) (new : List Filter) → FiltersKept group old text filters rest → parts_by 44 rest ≡ one ∷ parts_by 44 more
    → GivesOne filters (Ok tt) new (filter_of group one) → FiltersKept group old text new more
filters_push group old text filters rest one more new kept parts added =
    let f = added.0 in
    let longer : length new ≡ length filters + 1 = ap length added.2 ∙ length-append filters (f ∷ []) in
    record {
      done = kept.done ++ f ∷ [];
      made = added.2 ∙ ap (λ (fs : List Filter). fs ++ f ∷ []) kept.made ∙ append_assoc old kept.done (f ∷ []);
      is = kept.is ∙ ap (λ (ps : List (List ℕ)). after_filters kept.done (each_filter group (length filters) ps)) parts
          ∙ ap (λ (o : Option Filter). after_filters kept.done (filter_and (length filters) o (each_filter group (length filters + 1) (parts_by 44 more)))) added.1
          ∙ after_one kept.done (length filters) f (each_filter group (length filters + 1) (parts_by 44 more))
          ∙ ap (λ (n : ℕ). after_filters (kept.done ++ f ∷ []) (each_filter group n (parts_by 44 more))) (sym longer);
    }

pub filters_all : (group : Bool) (old : List Filter) (text : List ℕ) (filters : List Filter) (rest one : List ℕ) (new : List Filter) → FiltersKept group old text filters rest → parts_by 44 rest ≡ one ∷ []
    → GivesOne filters (Ok tt) new (filter_of group one) → GivesMore old (Ok tt) new (each_filter group (length old) (parts_by 44 text))
filters_all group old text filters rest one new kept parts added =
    let f = added.0 in (
      kept.done ++ f ∷ [],
      kept.is ∙ ap (λ (ps : List (List ℕ)). after_filters kept.done (each_filter group (length filters) ps)) parts ∙ ap (λ (o : Option Filter). after_filters kept.done (filter_and (length filters) o (Ok []))) added.1,
      added.2 ∙ ap (λ (fs : List Filter). fs ++ f ∷ []) kept.made ∙ append_assoc old kept.done (f ∷ []),
    )

no_filter : (group : Bool) (old : List Filter) (text : List ℕ) (filters : List Filter) (rest one : List ℕ) (more : List (List ℕ)) (fault : QueryFault) → FiltersKept group old text filters rest → parts_by 44 rest ≡ one ∷ more → filter_of group one ≡ None → fault ≡ BadFilter (length filters)
    → each_filter group (length old) (parts_by 44 text) ≡ Err fault
no_filter group old text filters rest one more fault kept parts none is =
    kept.is ∙ ap (λ (ps : List (List ℕ)). after_filters kept.done (each_filter group (length filters) ps)) parts
    ∙ ap (λ (o : Option Filter). after_filters kept.done (filter_and (length filters) o (each_filter group (length filters + 1) more))) none ∙ ap Err (sym is)

pub filters_not : (group : Bool) (old : List Filter) (text : List ℕ) (filters : List Filter) (rest one : List ℕ) (more : List (List ℕ)) (fault : QueryFault) (now new : List Filter) → FiltersKept group old text filters rest → parts_by 44 rest ≡ one ∷ more
    → GivesOne filters (Err fault) now (filter_of group one) → GivesMore old (Err fault) new (each_filter group (length old) (parts_by 44 text))
filters_not group old text filters rest one more (BadM at) now new kept parts g = no_filter group old text filters rest one more (BadM at) kept parts g.0 g.1
filters_not group old text filters rest one more UnknownAggregator now new kept parts g = no_filter group old text filters rest one more UnknownAggregator kept parts g.0 g.1
filters_not group old text filters rest one more RateRefused now new kept parts g = no_filter group old text filters rest one more RateRefused kept parts g.0 g.1
filters_not group old text filters rest one more BadDownsample now new kept parts g = no_filter group old text filters rest one more BadDownsample kept parts g.0 g.1
filters_not group old text filters rest one more (BadFilter index) now new kept parts g = no_filter group old text filters rest one more (BadFilter index) kept parts g.0 g.1
filters_not group old text filters rest one more BadTimes now new kept parts g = no_filter group old text filters rest one more BadTimes kept parts g.0 g.1
filters_not group old text filters rest one more BadQuery now new kept parts g = no_filter group old text filters rest one more BadQuery kept parts g.0 g.1
filters_not group old text filters rest one more (TooManyQueries count) now new kept parts g = no_filter group old text filters rest one more (TooManyQueries count) kept parts g.0 g.1
filters_not group old text filters rest one more OutOfMemory now new kept parts g = tt

-- a key and a test that were read are a filter
pub filter_read : (group : Bool) (text first key rest : List ℕ) (test : Test) → first ≡ before 61 text → Some rest ≡ behind 61 text → Some test ≡ test_of rest → Some key ≡ cond (is_name first) (Some first) None
    → Some (record { key = key; test = test; group = group }) ≡ filter_of group text
filter_read group text first key rest test f r t k =
    let name = is_a_name first key k in
    ap (λ (n : List ℕ). Some (record { key = n; test = test; group = group })) name.1 ∙ sym (cond-true _ _ _ name.0) ∙ ap (filter_with group first) t ∙ (λ i. filter_by group (f i) (r i))

-- a part was read up to its `}`
pub part_read : (group : Bool) (index : ℕ) (text : List ℕ) (at len : ℕ) (fs : List Filter) → Some len ≡ place_of 125 (drop (at + 1) text) → filters_in group index (take len (drop (at + 1) text)) ≡ Ok fs → part_at group index text at ≡ Ok (fs, at + 1 + len + 1)
part_read group index text at len fs place is = ap (part_between group index text (at + 1)) (sym place) ∙ ap (up_to_place (at + 1 + len + 1)) is

-- the first part was read, from the first `{` on
pub record FirstRead (text : List ℕ) (at : ℕ) (filters : List Filter) (end : ℕ) : Type 0 where
  pub place : Some at ≡ place_of 123 text
  pub part : part_at true 0 text at ≡ Ok (filters, end)

pub first_read : (text : List ℕ) (at : ℕ) (old filters : List Filter) (end : ℕ) → Some at ≡ place_of 123 text → old ≡ [] → GivesPart old (Ok end) filters (part_at true (length old) text at) → FirstRead text at filters end
first_read text at old filters end place none g =
    let same : filters ≡ g.0 = g.2 ∙ ap (λ (fs : List Filter). fs ++ g.0) none in
    record { place = place; part = ap (λ (fs : List Filter). part_at true (length fs) text at) (sym none) ∙ g.1 ∙ ap (λ (fs : List Filter). Ok (fs, end)) (sym same) }

module _ (text : List ℕ) (at : ℕ) (filters : List Filter) (end : ℕ) (read : FirstRead text at filters end) where
  from_first : filters_of text ≡ second_part text (Ok (filters, end))
  from_first = ap (filters_from text) (sym read.place) ∙ ap (second_part text) read.part

  pub first_bad : nat_eq end (length text) ≡ false → is_byte 123 (slice_get text end) ≡ false → filters_of text ≡ Err (BadM end)
  first_bad more other = from_first ∙ cond-false _ _ _ more ∙ cond-false _ _ _ other

  to_second : nat_eq end (length text) ≡ false → is_byte 123 (slice_get text end) ≡ true → filters_of text ≡ last_part text filters (part_at false (length filters) text end)
  to_second more brace = from_first ∙ cond-false _ _ _ more ∙ cond-true _ _ _ brace

  pub second_ends : nat_eq end (length text) ≡ false → is_byte 123 (slice_get text end) ≡ true → (last : ℕ) (all : List Filter) → GivesPart filters (Ok last) all (part_at false (length filters) text end) → nat_eq last (length text) ≡ true → filters_of text ≡ Ok all
  second_ends more brace last all g ends = to_second more brace ∙ ap (last_part text filters) g.1 ∙ cond-true _ _ _ ends ∙ ap Ok (sym g.2)

  pub second_goes_on : nat_eq end (length text) ≡ false → is_byte 123 (slice_get text end) ≡ true → (last : ℕ) (all : List Filter) → GivesPart filters (Ok last) all (part_at false (length filters) text end) → nat_eq last (length text) ≡ false → filters_of text ≡ Err (BadM last)
  second_goes_on more brace last all g ends = to_second more brace ∙ ap (last_part text filters) g.1 ∙ cond-false _ _ _ ends

  pub second_fails : nat_eq end (length text) ≡ false → is_byte 123 (slice_get text end) ≡ true → (fault : QueryFault) (all : List Filter) → GivesPart filters (Err fault) all (part_at false (length filters) text end) → GivesFilters (Err fault) (filters_of text)
  second_fails more brace (BadM at) all g = to_second more brace ∙ ap (last_part text filters) g
  second_fails more brace UnknownAggregator all g = to_second more brace ∙ ap (last_part text filters) g
  second_fails more brace RateRefused all g = to_second more brace ∙ ap (last_part text filters) g
  second_fails more brace BadDownsample all g = to_second more brace ∙ ap (last_part text filters) g
  second_fails more brace (BadFilter index) all g = to_second more brace ∙ ap (last_part text filters) g
  second_fails more brace BadTimes all g = to_second more brace ∙ ap (last_part text filters) g
  second_fails more brace BadQuery all g = to_second more brace ∙ ap (last_part text filters) g
  second_fails more brace (TooManyQueries count) all g = to_second more brace ∙ ap (last_part text filters) g
  second_fails more brace OutOfMemory all g = tt

pub apart : (m n : ℕ) → m ≢ n → nat_eq m n ≡ false
apart m n other = ne_eqb m n other

there : (text : List ℕ) (end : ℕ) → end ≤ length text → end ≢ length text → slice_get text end ≡ Some (get_or text end 0)
there text end within other =
    let lt : end < length text = omega (arith, within, other) in
    slice_get_read text (length text) end (get_or text end 0) refl lt (get_or_default text end 0 (get_or text end 0) lt)

pub is_other : (text : List ℕ) (end : ℕ) → end ≤ length text → end ≢ length text → get_or text end 0 ≢ 123 → is_byte 123 (slice_get text end) ≡ false
is_other text end within more other = ap (is_byte 123) (there text end within more) ∙ apart (get_or text end 0) 123 other

pub is_brace : (text : List ℕ) (end : ℕ) → end ≤ length text → end ≢ length text → get_or text end 0 ≡ 123 → is_byte 123 (slice_get text end) ≡ true
is_brace text end within more same = ap (is_byte 123) (there text end within more) ∙ nat_eq-same (get_or text end 0) 123 same
