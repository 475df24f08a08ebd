-- Filters in JSON.
use Rattle.std.specs.Prelude.{ℕ, ◌+◌, Bool, true, List, [], ◌∷◌, ◌++◌, codes, length, option_and_then, Option, None, Some, Result, Ok}
use Rattle.serde_json.specs.Data.{Data, Items, no_items, item, Members, no_members, member}
use Rattle.serde_json.specs.Find.{as_array, as_str, get}
use Rattle.query_text.specs.FilterTexts.{filter_with, test_of}
use Rattle.query_requests.specs.JsonMembers.{flag_in, object_in, text_in, texts_in}
use Rattle.query_requests.specs.QueryReadings.{◌>>=◌, or_fault, with_front}
use Rattle.query_text.specs.declared.queries.Filter.{Filter}
use Rattle.query_text.specs.declared.queries.QueryFault.{QueryFault}
use Rattle.query_text.specs.declared.queries.QueryFault.TheVariants.{BadFilter, BadQuery}

-- a filter that groups
abbrev pub tag_filter : ℕ → List ℕ → Data → Result Filter QueryFault
tag_filter index key value = or_fault (BadFilter index) (filter_with true key (option_and_then test_of (as_str value)))

-- the filters of tags, numbered in byte order of their keys
abbrev pub tag_filters : ℕ → Members → Result (List Filter) QueryFault
tag_filters index no_members = Ok []
tag_filters index (member key value ms) = do
  f ← tag_filter index key value
  fs ← tag_filters (index + 1) ms
  Ok (f ∷ fs)

-- what an object says of a filter
pub record FilterParts : Type 0 where
  pub key : List ℕ
  pub kind : List ℕ
  pub names : List ℕ
  pub group : Bool

unfoldable pub parts_in : Data → Result FilterParts QueryFault
parts_in d = do
  o ← object_in d
  kind ← text_in (get (codes "type") o)
  key ← text_in (get (codes "tagk") o)
  names ← text_in (get (codes "filter") o)
  group ← flag_in (get (codes "groupBy") o)
  Ok (record { key = key; kind = kind; names = names; group = group })

abbrev pub each_parts : Items → Result (List FilterParts) QueryFault
each_parts no_items = Ok []
each_parts (item d ds) = do
  p ← parts_in d
  ps ← each_parts ds
  Ok (p ∷ ps)

-- an array of such objects; where it is absent, an empty one
abbrev pub all_parts : Option Data → Result (List FilterParts) QueryFault
all_parts None = Ok []
all_parts (Some d) = or_fault BadQuery (as_array d) >>= each_parts

-- `type(filter)`
abbrev pub test_text : FilterParts → List ℕ
test_text p = p.kind ++ 40 ∷ (p.names ++ 41 ∷ [])

abbrev pub part_filter : ℕ → FilterParts → Result Filter QueryFault
part_filter index p = or_fault (BadFilter index) (filter_with p.group p.key (test_of (test_text p)))

-- the filters of such objects, numbered from an index on
abbrev pub part_filters : ℕ → List FilterParts → Result (List Filter) QueryFault
part_filters index [] = Ok []
part_filters index (p ∷ ps) = do
  f ← part_filter index p
  fs ← part_filters (index + 1) ps
  Ok (f ∷ fs)

abbrev pub tags_in : Data → Result (List Filter) QueryFault
tags_in o = texts_in (get (codes "tags") o) >>= tag_filters 0

-- the filters of an object: those of its tags, which group, and then those that it lists
unfoldable pub filters_in : Data → Result (List Filter) QueryFault
filters_in o = do
  grouping ← tags_in o
  parts ← all_parts (get (codes "filters") o)
  with_front grouping (part_filters (length grouping) parts)
