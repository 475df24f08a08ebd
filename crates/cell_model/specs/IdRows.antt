-- Ids and names, as the store has them.
use Rattle.std.specs.Prelude.{◌≡◌, Contains, ℕ, List, [], ◌∷◌, Option, None, Some, option_and_then}
use Rattle.std.specs.Int.{w32, from_be_bytes}
use Rattle.tsd_base.specs.declared.kinds.Kind.{Kind}
use Rattle.row_key.specs.declared.tables.Table.TheVariants.{Ids, Names}
pub use Rattle.cell_model.specs.KindWidths.{Widths, kind_bytes, width_of}
use Rattle.cell_model.specs.declared.row.Row.{Row}
use Rattle.cell_model.specs.Store.{Store, value_at}
use Rattle.cell_model.specs.Machine.{kind_qual}
use Rattle.cell_model.specs.History.{History, store_after}

-- the row of a name in the table from names to ids
abbrev pub name_row : List ℕ → Row
name_row name = record { table = Ids; bytes = name }

-- the row of these bytes in the table from ids to names
abbrev pub reverse_row : List ℕ → Row
reverse_row bytes = record { table = Names; bytes = bytes }

-- the row of an id of a kind there, where ids have these widths
abbrev pub id_row : Widths → Kind → ℕ → Row
id_row w kind id = reverse_row (kind_bytes w kind id)

-- the number in two, three or four bytes
abbrev pub id_number : List ℕ → Option ℕ
id_number (a ∷ b ∷ []) = Some (from_be_bytes w32 (0 ∷ 0 ∷ a ∷ b ∷ []))
id_number (a ∷ b ∷ c ∷ []) = Some (from_be_bytes w32 (0 ∷ a ∷ b ∷ c ∷ []))
id_number (a ∷ b ∷ c ∷ d ∷ []) = Some (from_be_bytes w32 (a ∷ b ∷ c ∷ d ∷ []))
id_number _ = None

-- the id that the name has in the store
abbrev pub id_in : Store → Kind → List ℕ → Option ℕ
id_in s kind name = option_and_then id_number (value_at s (name_row name) (kind_qual kind))

-- the name that the id has in the store
abbrev pub name_in : Store → Kind → ℕ → Option (List ℕ)
name_in s kind id = value_at s (id_row s.widths kind id) (kind_qual kind)

-- the id that the name has after the history; the name is resolved where there is one
abbrev pub id_of : History → Kind → List ℕ → Option ℕ
id_of h = id_in (store_after h)

-- a name with its kind
abbrev pub NameOf : Type 0
NameOf = Kind × List ℕ

-- the name is resolved after the history
abbrev pub IsResolved : History → NameOf → Type 0
IsResolved h n = (id : ℕ) × (id_of h n.0 n.1 ≡ Some id)

-- the names are resolved after the history
abbrev pub AllResolved : History → List NameOf → Type 0
AllResolved h names = (n : NameOf) → Contains names n → IsResolved h n

-- the name that the id has after the history
abbrev pub name_of : History → Kind → ℕ → Option (List ℕ)
name_of h = name_in (store_after h)
