-- The texts that tell of series.
use Rattle.std.specs.Prelude.{ℕ, List, [], ◌∷◌, ◌++◌, map, codes, decimal, Option, None, Some}
use Rattle.std.specs.Fmt.{signed_decimal}
use Rattle.hex.specs.Hex.{encode_lower}
use Rattle.tsd_base.specs.TagList.{Pair}
use Rattle.json_reply.specs.Texts.{listed, quoted, tag_text}
use Rattle.series_meta.specs.Lookups.{SeriesAsked}
use Rattle.series_meta.specs.declared.meta_answers.Last.{Last}
use Rattle.series_meta.specs.declared.meta_answers.Line.{Line}

-- an object of tags
abbrev pub tags_text : List Pair → List ℕ
tags_text tags = codes "{" ++ listed (map tag_text tags) ++ codes "}"

-- an identifier in lower-case hexadecimal digits
abbrev pub tsuid_text : List ℕ → List ℕ
tsuid_text tsuid = quoted (encode_lower tsuid)

-- the identifier of a series
abbrev pub identifier_text : List ℕ → List ℕ
identifier_text tsuid = codes ",\"tsuid\":" ++ tsuid_text tsuid

-- the count of a series that was found
abbrev pub count_text : ℕ → List ℕ
count_text count = codes "{\"count\":" ++ decimal count

-- its tags and its identifier
abbrev pub found_text : Line → List ℕ
found_text line = codes ",\"tags\":" ++ (tags_text line.tags ++ (identifier_text line.tsuid ++ codes "}"))

-- a series that was found
abbrev pub line_text : Line → List ℕ
line_text line = count_text line.count ++ found_text line

-- at most how many series were asked for
abbrev pub limit_text : ℕ → List ℕ
limit_text limit = codes "{\"limit\":" ++ decimal limit

-- of which metric
unfoldable pub metric_text : List ℕ → List ℕ
metric_text metric = codes ",\"metric\":" ++ quoted metric ++ codes ",\"results\":["

-- what was asked, and the series that were found
abbrev pub lookup_text : SeriesAsked → List Line → List ℕ
lookup_text q lines = limit_text q.limit ++ (metric_text q.sub.metric ++ (listed (map line_text lines) ++ codes "],\"type\":\"LOOKUP\"}"))

-- the names of a series
abbrev pub names_text : List ℕ → List Pair → List ℕ
names_text metric tags = codes "{\"metric\":" ++ quoted metric ++ codes ",\"tags\":" ++ tags_text tags

-- the time of a point
abbrev pub time_text : Last → List ℕ
time_text last = codes ",\"timestamp\":" ++ decimal last.time

-- its value
abbrev pub value_text : Last → List ℕ
value_text last = codes ",\"value\":" ++ signed_decimal last.value ++ codes "}"

-- the last point of the series of this metric with these tags
abbrev pub point_text : List ℕ → List Pair → Last → List ℕ
point_text metric tags last = names_text metric tags ++ (time_text last ++ (identifier_text last.tsuid ++ value_text last))

-- a series without a point gives none
abbrev pub point_texts : List ℕ → List Pair → Option Last → List (List ℕ)
point_texts metric tags None = []
point_texts metric tags (Some last) = point_text metric tags last ∷ []

-- an array of the objects that these texts are
abbrev pub points_text : List (List ℕ) → List ℕ
points_text texts = codes "[" ++ listed texts ++ codes "]"
