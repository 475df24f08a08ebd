-- Reading a point of a line.
use Rattle.std.specs.Prelude.{◌≡◌, ℕ, ◌+◌, ◌<◌, ◌≤◌, Bool, true, List, [], ◌∷◌, length, nat_eq, Result, Ok, Err, MatchResult, if◌then◌else◌, ℤ}
use Rattle.std.specs.List.{list_any, before_first, after_first}
use Rattle.tsd_base.specs.declared.tags.TagsFault.{TagsFault}
use Rattle.tsd_base.specs.declared.tags.TagsFault.TheVariants as tags_faults
use Rattle.tsd_base.specs.declared.points.Point.{Point}
use Rattle.tsd_base.specs.declared.points.PointFault.{PointFault}
use Rattle.tsd_base.specs.declared.points.PointFault.TheVariants.{FewWords, Metric, Time, Value, TagForm, TagKey, TagValue, Tags, OutOfMemory}
use Rattle.tsd_base.specs.declared.point_text.Parts.{Parts}
use Rattle.tsd_base.specs.Names.{name_of}
use Rattle.tsd_base.specs.Tags.{Pair, tags_of}
use Rattle.tsd_base.specs.Times.{time_of}
use Rattle.tsd_base.specs.Values.{value_of}
use Rattle.tsd_base.specs.Words.{words_of}

-- a data point, as plain data
pub record DataPoint : Type 0 where
  pub metric : List ℕ
  pub tags : List Pair
  pub time : ℕ
  pub fine : Bool
  pub value : ℤ

abbrev pub data_point : Point → DataPoint
data_point p = record { metric = p.metric; tags = p.tags; time = p.time; fine = p.fine; value = p.value }

-- what comes after what was read, where it was
infixl 10 ◌>>=◌
abbrev pub ◌>>=◌ : {A B : Type 0} → Result A PointFault → (A → Result B PointFault) → Result B PointFault
(Ok x) >>= f = f x
(Err e) >>= f = Err e

-- a fault of one part is the point's
abbrev pub told_as : {A E : Type 0} → (E → PointFault) → Result A E → Result A PointFault
told_as fault (Ok x) = Ok x
told_as fault (Err e) = Err (fault e)

abbrev pub is_equals : ℕ → Bool
is_equals b = nat_eq b 61

-- a pair of names round the first =
abbrev pub pair_of : ℕ → List ℕ → Result Pair PointFault
pair_of index word = do
  key ← told_as (TagKey index) (name_of (before_first is_equals word))
  value ← told_as (TagValue index) (name_of (after_first is_equals word))
  Ok (key, value)

abbrev pub tag_of : ℕ → List ℕ → Result Pair PointFault
tag_of index word = if list_any is_equals word then pair_of index word else Err (TagForm index)

-- the tags from the left, numbered
unfoldable pub pairs_of : ℕ → List (List ℕ) → Result (List Pair) PointFault
pairs_of index [] = Ok []
pairs_of index (word ∷ words) = do
  pair ← tag_of index word
  pairs ← pairs_of (index + 1) words
  Ok (pair ∷ pairs)

-- the point of a metric, a time, a value and tags, or else the first fault
unfoldable pub point_of_parts : List ℕ → List ℕ → List ℕ → List (List ℕ) → Result DataPoint PointFault
point_of_parts metric time value tags = do
  name ← told_as Metric (name_of metric)
  moment ← told_as (λ _. Time) (time_of time)
  number ← told_as Value (value_of value)
  pairs ← pairs_of 1 tags
  all ← told_as Tags (tags_of pairs)
  Ok (record { metric = name; tags = all; time = moment.0; fine = moment.1; value = number })

-- the point that the words are, or else the first fault
abbrev pub point_of_words : List (List ℕ) → Result DataPoint PointFault
point_of_words (metric ∷ time ∷ value ∷ tag ∷ tags) = point_of_parts metric time value (tag ∷ tags)
point_of_words words = Err (FewWords (length words))

abbrev pub point_of : List ℕ → Result DataPoint PointFault
point_of text = point_of_words (words_of text)

-- want of memory may always be told; any other fault is the text's own
abbrev pub FailsPoint : {A : Type 0} → PointFault → Result A PointFault → Type 0
FailsPoint OutOfMemory read = Unit {0}
FailsPoint fault read = read ≡ Err fault

-- what was read, as plain data, is what reading gives
abbrev pub Gives : {A B : Type 0} → (A → B) → Result A PointFault → Result B PointFault → Type 0
Gives view answer read = MatchResult answer (λ found. read ≡ Ok (view found)) (λ fault. FailsPoint fault read)

-- the answer is what reading the text gives
abbrev pub GivesPoint : Result Point PointFault → List ℕ → Type 0
GivesPoint answer text = Gives data_point answer (point_of text)

-- the first three words of a text, and what stands behind them
pub record HasParts (text : List ℕ) (parts : Parts) : Type 0 where
  pub words : words_of text ≡ parts.metric.now ∷ parts.time.now ∷ parts.value.now ∷ words_of parts.tags.now
  pub enough : 4 ≤ length (words_of text)

-- fewer words than a point has, and how many
pub record HasFewWords (text : List ℕ) (fault : PointFault) : Type 0 where
  pub few : length (words_of text) < 4
  pub counted : fault ≡ FewWords (length (words_of text))

-- the sides of the first = of a word
pub record IsCut (word key value : List ℕ) : Type 0 where
  pub found : list_any is_equals word ≡ true
  pub before : key ≡ before_first is_equals word
  pub after : value ≡ after_first is_equals word

-- a fault of tags is the point's, but for want of memory
abbrev pub from_tags : TagsFault → PointFault
from_tags tags_faults.OutOfMemory = OutOfMemory
from_tags fault = Tags fault
