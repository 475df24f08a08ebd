-- The text of a reply: one JSON array without blanks.
use Rattle.std.specs.Prelude.{◌≡◌, ℕ, ◌%◌, ℤ, Bool, false, List, ◌++◌, map, All, AllPairs, codes}
use Rattle.std.specs.declared.cmp.Ordering.TheVariants.{Less}
use Rattle.tsd_base.specs.TagList.{Pair, RiseByKey}
use Rattle.list_lemmas.specs.BytesOrder.{bytes_cmp}
use Rattle.json_reply.specs.declared.reply.Group as code
use Rattle.json_reply.specs.Texts.{quoted, listed, tag_text, dot_text, keyed}

-- the answer for one group of series: times in milliseconds, and whether they are written so or else in seconds
pub record Group : Type 0 where
  pub metric : List ℕ
  pub tags : List Pair
  pub aggregate_tags : List (List ℕ)
  pub dots : List (ℕ × ℤ)
  pub ms : Bool

abbrev pub group_text : Group → List ℕ
group_text group =
    codes "{\"aggregateTags\":[" ++ listed (map quoted group.aggregate_tags) ++ codes "],\"dps\":{" ++ listed (map dot_text (keyed group.ms group.dots)) ++ codes "},\"metric\":"
    ++ quoted group.metric ++ codes ",\"tags\":{" ++ listed (map tag_text group.tags) ++ codes "}}"

abbrev pub text_of : List Group → List ℕ
text_of groups = codes "[" ++ listed (map group_text groups) ++ codes "]"

-- a group of the code as plain data
abbrev pub plain : code.Group → Group
plain group = record { metric = group.metric; tags = group.tags.items; aggregate_tags = group.aggregate_tags.items; dots = group.dps; ms = group.ms }

-- tags rise by key, aggregate tags rise, and times in seconds are whole
pub record IsReady (group : code.Group) : Type 0 where
  pub tags : RiseByKey group.tags.items
  pub aggregate_tags : AllPairs (λ x y. bytes_cmp x y ≡ Less) group.aggregate_tags.items
  pub whole : group.ms ≡ false → All (λ dot. dot.0 % 1000 ≡ 0) group.dps
