-- What a JSON value is as an element of a put.
use Rattle.std.specs.Prelude.{◌≡◌, ℕ, ◌+◌, Bool, true, ◌&&◌, List, [], ◌∷◌, ◌++◌, codes, decimal, is_some, Option, None, Some, Result, Ok, Err, MatchResult, ℤ, option_and_then, if◌then◌else◌}
use Rattle.serde_json.specs.Data.{Num, Data, Members, no_members, member}
use Rattle.serde_json.specs.Find.{get, as_str, as_number, as_object, as_u64, as_i64}
use Rattle.tsd_base.specs.declared.points.PointFault.{PointFault}
use Rattle.tsd_base.specs.declared.points.PointFault.TheVariants.{Metric, Time, Value, TagKey, TagValue, Tags}
use Rattle.tsd_base.specs.declared.values.ValueFault.{ValueFault}
use Rattle.tsd_base.specs.declared.values.ValueFault.TheVariants.{Float, BadValue, ValueTooLarge}
use Rattle.tsd_base.specs.declared.names.NameFault.{NameFault}
use Rattle.tsd_base.specs.Names.{name_of}
use Rattle.tsd_base.specs.TagList.{Pair}
use Rattle.tsd_base.specs.Tags.{tags_of}
use Rattle.tsd_base.specs.Times.{time_of}
use Rattle.tsd_base.specs.Values.{value_of}
use Rattle.tsd_base.specs.Points.{DataPoint}
use Rattle.json_points.specs.declared.fault.Member.{Member}
use Rattle.json_points.specs.declared.fault.Member.TheVariants as members
use Rattle.json_points.specs.declared.fault.ElementFault.{ElementFault}
use Rattle.json_points.specs.declared.fault.ElementFault.TheVariants.{NotObject, BadMember, Point, OutOfMemory}

-- what comes after what was read, where it was
infixl 10 ◌>>=◌
abbrev pub ◌>>=◌ : {A B : Type 0} → Result A ElementFault → (A → Result B ElementFault) → Result B ElementFault
(Ok x) >>= f = f x
(Err e) >>= f = Err e

abbrev pub point_fault : PointFault → ElementFault
point_fault fault = Point fault

-- a fault of one part is the element's
abbrev pub told : {A E : Type 0} → (E → PointFault) → Result A E → Result A ElementFault
told fault (Ok x) = Ok x
told fault (Err e) = Err (Point (fault e))

abbrev pub bad_tags : ElementFault
bad_tags = BadMember members.Tags

-- a member that is there
abbrev pub member_in : Member → Option Data → Result Data ElementFault
member_in which None = Err (BadMember which)
member_in which (Some d) = Ok d

abbrev pub metric_by : Option (List ℕ) → Result (List ℕ) ElementFault
metric_by None = Err (BadMember members.Metric)
metric_by (Some text) = Ok text

-- the metric is a string
abbrev pub text_in : Option Data → Result (List ℕ) ElementFault
text_in None = Err (BadMember members.Metric)
text_in (Some d) = metric_by (as_str d)

abbrev pub all_texts : Members → Bool
all_texts no_members = true
all_texts (member k d ms) = is_some (as_str d) && all_texts ms

abbrev pub texts_by : Option Members → Result Members ElementFault
texts_by None = Err bad_tags
texts_by (Some ms) = if all_texts ms then Ok ms else Err bad_tags

-- the tags are an object of strings
abbrev pub texts_in : Option Data → Result Members ElementFault
texts_in None = Err bad_tags
texts_in (Some d) = texts_by (as_object d)

abbrev pub name_in : (NameFault → PointFault) → List ℕ → Result (List ℕ) ElementFault
name_in fault bytes = told fault (name_of bytes)

abbrev pub text_time : List ℕ → Result (ℕ × Bool) ElementFault
text_time text = told (λ _. Time) (time_of text)

abbrev pub number_time : Option ℕ → Result (ℕ × Bool) ElementFault
number_time None = Err (Point Time)
number_time (Some n) = text_time (decimal n)

abbrev pub time_by : Option (List ℕ) → Option ℕ → Result (ℕ × Bool) ElementFault
time_by (Some text) n = text_time text
time_by None n = number_time n

-- a string, or a number that fits u64, which is read as its digits
abbrev pub time_in : Data → Result (ℕ × Bool) ElementFault
time_in d = time_by (as_str d) (option_and_then as_u64 (as_number d))

-- a number that fits i64 is that value; one that fits u64 alone is too large; any other is a float
abbrev pub integer_by : Option ℤ → Option ℕ → Result ℤ ValueFault
integer_by (Some z) n = Ok z
integer_by None (Some n) = Err ValueTooLarge
integer_by None None = Err Float

abbrev pub number_value : Option Num → Result ℤ ValueFault
number_value None = Err BadValue
number_value (Some n) = integer_by (as_i64 n) (as_u64 n)

abbrev pub value_by : Option (List ℕ) → Option Num → Result ℤ ValueFault
value_by (Some text) n = value_of text
value_by None n = number_value n

abbrev pub value_in : Data → Result ℤ ElementFault
value_in d = told Value (value_by (as_str d) (as_number d))

abbrev pub pair_by : ℕ → List ℕ → Option (List ℕ) → Result Pair ElementFault
pair_by index key None = Err bad_tags
pair_by index key (Some text) = do
  k ← name_in (TagKey index) key
  v ← name_in (TagValue index) text
  Ok (k, v)

abbrev pub pair_in : ℕ → List ℕ → Data → Result Pair ElementFault
pair_in index key d = pair_by index key (as_str d)

-- the pairs, numbered in byte order of their keys
abbrev pub pairs_in : ℕ → Members → Result (List Pair) ElementFault
pairs_in index no_members = Ok []
pairs_in index (member k d ms) = do
  pair ← pair_in index k d
  pairs ← pairs_in (index + 1) ms
  Ok (pair ∷ pairs)

-- these pairs, and those that are read behind them
abbrev pub with_front : List Pair → Result (List Pair) ElementFault → Result (List Pair) ElementFault
with_front front (Ok pairs) = Ok (front ++ pairs)
with_front front (Err fault) = Err fault

-- the point of the members, or else the first fault
unfoldable pub point_in : List ℕ → Data → Data → Members → Result DataPoint ElementFault
point_in metric time value tags = do
  name ← name_in Metric metric
  moment ← time_in time
  number ← value_in value
  pairs ← pairs_in 1 tags
  all ← told Tags (tags_of pairs)
  Ok (record { metric = name; tags = all; time = moment.0; fine = moment.1; value = number })

-- each member, in order
unfoldable pub element_in : Data → Result DataPoint ElementFault
element_in d = do
  metric ← text_in (get (codes "metric") d)
  time ← member_in members.Timestamp (get (codes "timestamp") d)
  value ← member_in members.Value (get (codes "value") d)
  tags ← texts_in (get (codes "tags") d)
  point_in metric time value tags

-- the point that an element is, or else the first fault
unfoldable pub element_of : Data → Result DataPoint ElementFault
element_of d = if is_some (as_object d) then element_in d else Err NotObject

-- want of memory may always be told; any other fault is the element's own
abbrev pub Fails : {A : Type 0} → ElementFault → Result A ElementFault → Type 0
Fails OutOfMemory read = Unit {0}
Fails fault read = read ≡ Err fault

-- what was read is what reading gives
abbrev pub Gives : {A B : Type 0} → (A → B) → Result A ElementFault → Result B ElementFault → Type 0
Gives view answer read = MatchResult answer (λ found. read ≡ Ok (view found)) (λ fault. Fails fault read)
