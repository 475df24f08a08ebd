-- Filters in text.
use Rattle.std.specs.Prelude.{◌≡◌, ℕ, ◌+◌, ◌-◌, Bool, true, false, ◌&&◌, nat_eq, nat_le, List, [], ◌∷◌, ◌++◌, codes, length, take, drop, Option, None, Some, Vec, Result, Ok, Err, slice_get, if◌then◌else◌}
use Rattle.std.specs.declared.alloc.Global.{Global}
use Rattle.std.specs.List.{list_all}
use Rattle.std.specs.Option.{option_map}
use Rattle.tsd_base.specs.Alphabet.{is_name}
use Rattle.tsd_base.specs.Tags.{is_same}
use Rattle.query_text.specs.Cuts.{place_of, before, behind, parts_by, is_byte}
use Rattle.query_text.specs.TestTexts.{is_wild_text, is_pattern_text}
use Rattle.query_text.specs.declared.queries.Test.{Test}
use Rattle.query_text.specs.declared.queries.Test.TheVariants.{Any, OneOf, NotOneOf, Wild, Pattern}
use Rattle.query_text.specs.declared.queries.Filter.{Filter}
use Rattle.query_text.specs.declared.queries.QueryFault.{QueryFault}
use Rattle.query_text.specs.declared.queries.QueryFault.TheVariants.{BadM, BadFilter, OutOfMemory}

-- names with a `|` between them
abbrev pub names_of : List ℕ → Option (List (List ℕ))
names_of text = if list_all is_name (parts_by 124 text) then Some (parts_by 124 text) else None

-- whether the text begins with this and ends with `)` behind it
abbrev pub is_call : List ℕ → List ℕ → Bool
is_call begin text = nat_le (length begin + 1) (length text) && (is_same (take (length begin) text) begin && is_byte 41 (slice_get text (length text - 1)))

-- what stands between these, where it does
abbrev pub called : List ℕ → List ℕ → Option (List ℕ)
called begin text = if is_call begin text then Some (take (length text - 1 - length begin) (drop (length begin) text)) else None

abbrev pub one_of : Option (List (List ℕ)) → Option Test
one_of names = option_map (λ list. OneOf list) names

abbrev pub not_one_of : Option (List (List ℕ)) → Option Test
not_one_of names = option_map (λ list. NotOneOf list) names

abbrev pub wild : List ℕ → Option Test
wild text = if is_wild_text text then Some (Wild text) else None

abbrev pub pattern : List ℕ → Option Test
pattern text = if is_pattern_text text then Some (Pattern text) else None

-- the first of these that a call has between its brackets tells the test, and else the text is names
abbrev pub test_by : Option (List ℕ) → Option (List ℕ) → Option (List ℕ) → Option (List ℕ) → List ℕ → Option Test
test_by (Some names) nots w p text = one_of (names_of names)
test_by None (Some names) w p text = not_one_of (names_of names)
test_by None None (Some w) p text = wild w
test_by None None None (Some p) text = pattern p
test_by None None None None text = one_of (names_of text)

-- `*`, names, `literal_or(names)`, `not_literal_or(names)`, `wildcard(text)` or `regexp(text)`
abbrev pub test_of : List ℕ → Option Test
test_of text =
    if is_same text (codes "*") then Some Any
    else test_by (called (codes "literal_or(") text) (called (codes "not_literal_or(") text) (called (codes "wildcard(") text) (called (codes "regexp(") text) text

abbrev pub filter_with : Bool → List ℕ → Option Test → Option Filter
filter_with group key None = None
filter_with group key (Some test) = if is_name key then Some (record { key = key; test = test; group = group }) else None

abbrev pub filter_by : Bool → List ℕ → Option (List ℕ) → Option Filter
filter_by group key None = None
filter_by group key (Some test) = filter_with group key (test_of test)

-- the value is tested by its text, and not against names
abbrev pub is_of_text : Test → Bool
is_of_text Any = false
is_of_text (OneOf names) = false
is_of_text (NotOneOf names) = false
is_of_text (Wild text) = true
is_of_text (Pattern text) = true

-- a name, `=` and a test
abbrev pub filter_of : Bool → List ℕ → Option Filter
filter_of group text = filter_by group (before 61 text) (behind 61 text)

-- a filter and those behind it
abbrev pub filter_and : ℕ → Option Filter → Result (List Filter) QueryFault → Result (List Filter) QueryFault
filter_and index None rest = Err (BadFilter index)
filter_and index (Some f) (Ok fs) = Ok (f ∷ fs)
filter_and index (Some f) (Err fault) = Err fault

-- filters, numbered from the first one's index on
abbrev pub each_filter : Bool → ℕ → List (List ℕ) → Result (List Filter) QueryFault
each_filter group index [] = Ok []
each_filter group index (text ∷ texts) = filter_and index (filter_of group text) (each_filter group (index + 1) texts)

-- filters with a `,` between them, or none
abbrev pub filters_in : Bool → ℕ → List ℕ → Result (List Filter) QueryFault
filters_in group index [] = Ok []
filters_in group index (c ∷ text) = each_filter group index (parts_by 44 (c ∷ text))

-- filters, and the place behind them
abbrev pub up_to_place : ℕ → Result (List Filter) QueryFault → Result (List Filter × ℕ) QueryFault
up_to_place end (Ok filters) = Ok (filters, end)
up_to_place end (Err fault) = Err fault

abbrev pub part_between : Bool → ℕ → List ℕ → ℕ → Option ℕ → Result (List Filter × ℕ) QueryFault
part_between group index text from None = Err (BadM (length text))
part_between group index text from (Some n) = up_to_place (from + n + 1) (filters_in group index (take n (drop from text)))

-- the filters of the part whose `{` stands here, and the place behind its `}`
abbrev pub part_at : Bool → ℕ → List ℕ → ℕ → Result (List Filter × ℕ) QueryFault
part_at group index text at = part_between group index text (at + 1) (place_of 125 (drop (at + 1) text))

-- behind the second part the text ends
abbrev pub last_part : List ℕ → List Filter → Result (List Filter × ℕ) QueryFault → Result (List Filter) QueryFault
last_part text filters (Ok part) = if nat_eq part.1 (length text) then Ok (filters ++ part.0) else Err (BadM part.1)
last_part text filters (Err fault) = Err fault

-- behind the first part it ends, or a second part stands, whose filters don't group
abbrev pub second_part : List ℕ → Result (List Filter × ℕ) QueryFault → Result (List Filter) QueryFault
second_part text (Ok part) =
    if nat_eq part.1 (length text) then Ok part.0
    else if is_byte 123 (slice_get text part.1) then last_part text part.0 (part_at false (length part.0) text part.1)
    else Err (BadM part.1)
second_part text (Err fault) = Err fault

abbrev pub filters_from : List ℕ → Option ℕ → Result (List Filter) QueryFault
filters_from text None = Ok []
filters_from text (Some at) = second_part text (part_at true 0 text at)

-- the filters of a sub query's text, from its first `{` on: at most two parts, and nothing behind them
abbrev pub filters_of : List ℕ → Result (List Filter) QueryFault
filters_of text = filters_from text (place_of 123 text)

-- the filter is added, or has the number of the next one as a fault
abbrev pub GivesOne : List Filter → Result (Unit {0}) QueryFault → List Filter → Option Filter → Type 0
GivesOne old (Ok done) new wanted = (f : Filter) × (wanted ≡ Some f) × (new ≡ old ++ f ∷ [])
GivesOne old (Err OutOfMemory) new wanted = Unit {0}
GivesOne old (Err fault) new wanted = (wanted ≡ None) × (fault ≡ BadFilter (length old))

-- the filters that are wanted are added, or the fault is told; want of memory may always be told
abbrev pub GivesMore : List Filter → Result (Unit {0}) QueryFault → List Filter → Result (List Filter) QueryFault → Type 0
GivesMore old (Ok done) new wanted = (fs : List Filter) × (wanted ≡ Ok fs) × (new ≡ old ++ fs)
GivesMore old (Err OutOfMemory) new wanted = Unit {0}
GivesMore old (Err fault) new wanted = wanted ≡ Err fault

-- the same with the place behind the part
abbrev pub GivesPart : List Filter → Result ℕ QueryFault → List Filter → Result (List Filter × ℕ) QueryFault → Type 0
GivesPart old (Ok end) new wanted = (fs : List Filter) × (wanted ≡ Ok (fs, end)) × (new ≡ old ++ fs)
GivesPart old (Err OutOfMemory) new wanted = Unit {0}
GivesPart old (Err fault) new wanted = wanted ≡ Err fault

abbrev pub GivesFilters : Result (Vec Filter Global) QueryFault → Result (List Filter) QueryFault → Type 0
GivesFilters (Ok filters) wanted = wanted ≡ Ok filters.items
GivesFilters (Err OutOfMemory) wanted = Unit {0}
GivesFilters (Err fault) wanted = wanted ≡ Err fault
