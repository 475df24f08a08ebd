-- What an answer depends on.
use Rattle.std.specs.Prelude.{◌≡◌, ◌↔◌, List, map, Contains}
use Rattle.tsd_base.specs.Points.{DataPoint}
use Rattle.cell_model.specs.Readings.{Reading, reading_of}
use Rattle.query_text.specs.declared.queries.Query.{Query}
use Rattle.query_text.specs.declared.queries.Sub.{Sub}
use Rattle.series_groups.specs.QueryAnswers.{answer}

-- they have the same readings, in any order and each any number of times
abbrev pub HaveSameReadings : List DataPoint → List DataPoint → Type 0
HaveSameReadings xs ys = (r : Reading) → Contains (map reading_of xs) r ↔ Contains (map reading_of ys) r

-- of the points, which are of one metric, no two have one series and one time and different values
abbrev pub AreOneValued : List DataPoint → Type 0
AreOneValued points = (p q : DataPoint) → Contains points p → Contains points q → p.tags ≡ q.tags → p.time ≡ q.time → p.value ≡ q.value

-- where no series has two values at one time, neither the order of points nor their form nor how often one is repeated changes an answer
abbrev pub AnswerIsUnordered : Type 0
AnswerIsUnordered = (q : Query) (s : Sub) (xs ys : List DataPoint) → HaveSameReadings xs ys → AreOneValued xs → answer q s xs ≡ answer q s ys
