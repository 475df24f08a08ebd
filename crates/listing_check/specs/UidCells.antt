-- What a cell of `ids` or of `names` says, where it reads.
use Rattle.std.specs.Prelude.{ℕ, Bool, ◌&&◌, nat_le, List, [], ◌∷◌, Option, None, Some, option_and_then, if◌then◌else◌}
use Rattle.std.specs.Int.{w64, to_be_bytes, from_be_bytes}
use Rattle.tsd_base.specs.Alphabet.{is_name}
use Rattle.tsd_base.specs.declared.kinds.Kind.{Kind}
use Rattle.tsd_base.specs.declared.kinds.Kind.TheVariants.{Metric, TagKey, TagValue}
use Rattle.row_key.specs.declared.tables.Table.{Table}
use Rattle.row_key.specs.declared.tables.Table.TheVariants.{Ids, Names, Points}
use Rattle.cell_model.specs.declared.row.ListLine.{ListLine}
use Rattle.cell_model.specs.Store.{same_bytes}
use Rattle.cell_model.specs.KindWidths.{Widths, greatest, kind_bytes}
use Rattle.cell_model.specs.Machine.{kind_qual}
use Rattle.cell_model.specs.IdRows.{id_number}

-- the greatest id given of a kind; the id of a name; the name of an id
pub data UidCell : Type 0 where
  Counter : (kind : Kind) (number : ℕ) → UidCell
  Forward : (kind : Kind) (name : List ℕ) (id : ℕ) → UidCell
  Reverse : (kind : Kind) (id : ℕ) (name : List ℕ) → UidCell

-- the kind with this qualifier
abbrev pub kind_named : List ℕ → Option Kind
kind_named qual =
    if same_bytes qual (kind_qual Metric) then Some Metric
    else if same_bytes qual (kind_qual TagKey) then Some TagKey
    else if same_bytes qual (kind_qual TagValue) then Some TagValue
    else None

-- from 1 to the kind's greatest id
abbrev pub is_id : Widths → Kind → ℕ → Bool
is_id w kind n = nat_le 1 n && nat_le n (greatest w kind)

-- a number that is an id of the kind, if these are its bytes
abbrev pub if_spelled : Widths → Kind → List ℕ → List ℕ → ℕ → Option ℕ
if_spelled w kind value bytes n = if is_id w kind n && same_bytes bytes value then Some n else None

-- the id of the kind whose bytes these are
abbrev pub id_spelled : Widths → Kind → List ℕ → Option ℕ
id_spelled w kind value = option_and_then (λ n. if_spelled w kind value (kind_bytes w kind n) n) (id_number value)

-- the counter of the kind whose eight bytes these are
abbrev pub counter_spelled : Widths → Kind → List ℕ → Option ℕ
counter_spelled w kind value = if_spelled w kind value (to_be_bytes w64 (from_be_bytes w64 value)) (from_be_bytes w64 value)

-- the name whose bytes these are
abbrev pub name_spelled : List ℕ → Option (List ℕ)
name_spelled bytes = if is_name bytes then Some bytes else None

abbrev pub counter_with : Kind → Option ℕ → Option UidCell
counter_with kind (Some number) = Some (Counter kind number)
counter_with kind None = None

abbrev pub forward_with : Kind → Option (List ℕ) → Option ℕ → Option UidCell
forward_with kind (Some name) (Some id) = Some (Forward kind name id)
forward_with kind _ _ = None

abbrev pub reverse_with : Kind → Option ℕ → Option (List ℕ) → Option UidCell
reverse_with kind (Some id) (Some name) = Some (Reverse kind id name)
reverse_with kind _ _ = None

-- a counter of a kind
abbrev pub counter_by : Widths → Option Kind → List ℕ → Option UidCell
counter_by w None value = None
counter_by w (Some kind) value = counter_with kind (counter_spelled w kind value)

-- the id of a name of a kind
abbrev pub forward_by : Widths → Option Kind → List ℕ → List ℕ → Option UidCell
forward_by w None row value = None
forward_by w (Some kind) row value = forward_with kind (name_spelled row) (id_spelled w kind value)

-- the name of an id of a kind
abbrev pub reverse_by : Widths → Option Kind → List ℕ → List ℕ → Option UidCell
reverse_by w None row value = None
reverse_by w (Some kind) row value = reverse_with kind (id_spelled w kind row) (name_spelled value)

-- where ids have these widths; the row of the counters is the byte 0
abbrev pub uid_in : Widths → Table → List ℕ → List ℕ → List ℕ → Option UidCell
uid_in w Ids row qual value = if same_bytes row (0 ∷ []) then counter_by w (kind_named qual) value else forward_by w (kind_named qual) row value
uid_in w Names row qual value = reverse_by w (kind_named qual) row value
uid_in w Points row qual value = None

abbrev pub uid_cell : Widths → ListLine → Option UidCell
uid_cell w l = uid_in w l.table l.row l.qual l.value
