-- What a woven history comes to, in numbers, and their text.
use Rattle.std.specs.Prelude.{◌≡◌, ℕ, suc, zero, ◌+◌, Bool, false, ◌&&◌, not, List, [], ◌∷◌, ◌++◌, codes, decimal, flat_map, length, count_by}
use Rattle.std.specs.List.{list_any}
use Rattle.tsd_base.specs.declared.kinds.Kind.{Kind}
use Rattle.tsd_base.specs.declared.kinds.Kind.TheVariants.{Metric, TagKey, TagValue}
use Rattle.row_key.specs.declared.tables.Table.{Table}
use Rattle.row_key.specs.declared.tables.Table.TheVariants.{Ids}
use Rattle.row_key.specs.declared.widths.Widths.{Widths}
use Rattle.cell_model.specs.declared.row.ListLine.{ListLine}
use Rattle.cell_model.specs.KindWidths.{kind_bytes}
use Rattle.cell_model.specs.Store.{Store, same_bytes}
use Rattle.cell_model.specs.Machine.{kind_qual, counter_of}
use Rattle.cell_model.specs.Counts.{counters_of, lines_of, point_entries}
use Rattle.cell_model.specs.History.{History, store_after}
use Rattle.weave_rows.specs.WovenHistories.{IsOfThree, puts_in}
use Rattle.weave_script.specs.declared.script_counts.Woven.{Woven}

-- the line gives a name the id of these bytes, by a cell of this qualifier
abbrev pub has_id_in : Table → List ℕ → List ℕ → ListLine → Bool
has_id_in Ids qual id line = same_bytes line.qual qual && same_bytes line.value id
has_id_in _ qual id line = false

abbrev pub has_id : List ℕ → List ℕ → ListLine → Bool
has_id qual id line = has_id_in line.table qual id line

-- the ids from 1 to n
abbrev pub ids_to : ℕ → List ℕ
ids_to zero = []
ids_to (suc n) = ids_to n ++ suc n ∷ []

-- none of the lines gives a name of the kind this id
abbrev pub is_wasted : List ListLine → Widths → Kind → ℕ → Bool
is_wasted lines w kind id = not (list_any (has_id (kind_qual kind) (kind_bytes w kind id)) lines)

-- how many of the ids of a kind up to this one are wasted
abbrev pub wasted_of : List ListLine → Widths → Kind → ℕ → ℕ
wasted_of lines w kind counter = count_by (is_wasted lines w kind) (ids_to counter)

-- how many of the ids given of a kind no name has
abbrev pub wasted_in : Store → Kind → ℕ
wasted_in s kind = wasted_of (lines_of s) s.widths kind (counter_of s kind)

-- The numbers of one lawful history, in which three callers alone step on an empty store: how many entries put a point, the ids given, how many of these no name has, and how many cells of points there are at the end.
pub record CountsWoven (count : ℕ) (w : Woven) : Type 0 where
  pub history : History
  pub of_three : IsOfThree history
  pub operations : w.operations ≡ count
  pub accepted : w.accepted ≡ puts_in history
  pub ids : w.ids ≡ counters_of (store_after history)
  pub wasted : w.wasted ≡ wasted_in (store_after history) Metric + wasted_in (store_after history) TagKey + wasted_in (store_after history) TagValue
  pub cells : w.cells ≡ length (point_entries (store_after history))

-- the five lines
abbrev pub woven_text : Woven → List ℕ
woven_text w =
    codes "operations " ++ decimal w.operations ++ codes "\naccepted " ++ decimal w.accepted ++ codes "\nids" ++ flat_map (λ (n : ℕ). codes " " ++ decimal n) w.ids ++ codes "\nwasted " ++ decimal w.wasted
    ++ codes "\ncells " ++ decimal w.cells ++ codes "\n"
