-- The ids of each kind that are left, and the least of them by their bytes.
use Rattle.std.specs.Prelude.{ℕ, ◌+◌, ◌≤◌, List, Option, None, Some, nat_le, if◌then◌else◌}
use Rattle.std.specs.Ordering.{is_lt}
use Rattle.tsd_base.specs.declared.kinds.Kind.{Kind}
use Rattle.tsd_base.specs.declared.kinds.Kind.TheVariants.{Metric, TagKey, TagValue}
use Rattle.list_lemmas.specs.BytesOrder.{bytes_cmp}
use Rattle.row_key.specs.IdWidths.{id_bytes, most_ids}
use Rattle.cell_model.specs.KindWidths.{Widths}
use Rattle.cell_model.specs.Machine.{counter_of}
use Rattle.cell_model.specs.Store.{Store, same_bytes}
use Rattle.listing_print.specs.declared.ids_left.Left.{Left}
use Rattle.listing_print.specs.declared.ids_left.IdsLeft.{IdsLeft}

-- those of a kind
abbrev pub left_of : IdsLeft → Kind → Left
left_of ids Metric = ids.metric
left_of ids TagKey = ids.tag_key
left_of ids TagValue = ids.tag_value

-- the last of each kind is no greater than its ids can be
pub record AreIds (w : Widths) (ids : IdsLeft) : Type 0 where
  pub metric : ids.metric.last ≤ most_ids w.metric
  pub tag_key : ids.tag_key.last ≤ most_ids w.tag_key
  pub tag_value : ids.tag_value.last ≤ most_ids w.tag_value

-- the bytes of the first id that is left, if there is one
abbrev pub first_of : ℕ → Left → Option (List ℕ)
first_of width left = if nat_le left.next left.last then Some (id_bytes width left.next) else None

-- the lesser of two, where both are there
abbrev pub lesser : Option (List ℕ) → Option (List ℕ) → Option (List ℕ)
lesser None b = b
lesser (Some a) None = Some a
lesser (Some a) (Some b) = if is_lt (bytes_cmp b a) then Some b else Some a

-- the least bytes of an id that is left
abbrev pub least_of : Widths → IdsLeft → Option (List ℕ)
least_of w ids = lesser (lesser (first_of w.metric ids.metric) (first_of w.tag_key ids.tag_key)) (first_of w.tag_value ids.tag_value)

-- without the first one, where its bytes are these
abbrev pub without_first : Left → Option (List ℕ) → List ℕ → Left
without_first left None bytes = left
without_first left (Some first) bytes = if same_bytes first bytes then record { next = left.next + 1; last = left.last } else left

abbrev pub without : ℕ → Left → List ℕ → Left
without width left bytes = without_first left (first_of width left) bytes

-- the ids of each kind without those whose bytes these are
abbrev pub passed_all : Widths → IdsLeft → List ℕ → IdsLeft
passed_all w ids bytes = record { metric = without w.metric ids.metric bytes; tag_key = without w.tag_key ids.tag_key bytes; tag_value = without w.tag_value ids.tag_value bytes }

-- those of a kind with so many
abbrev pub up_to : ℕ → Left
up_to count = record { next = 1; last = count }

-- all ids of each kind, up to its counter
abbrev pub all_ids : Store → IdsLeft
all_ids s = record { metric = up_to (counter_of s Metric); tag_key = up_to (counter_of s TagKey); tag_value = up_to (counter_of s TagValue) }
