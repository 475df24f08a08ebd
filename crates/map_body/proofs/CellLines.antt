-- Cells one by one, as a list and as lines.
use Rattle.std.proofs.Common.{◌≡◌, ℕ, ◌+◌, ◌≤◌, ◌<◌, List, [], ◌∷◌, ◌++◌, length, map, refl, sym, ap, ◌∙◌}
use Rattle.std.specs.Prelude.{take, slice_index_or}
use Rattle.std.specs.FinMap.{entries}
use Rattle.list_lemmas.proofs.ListCuts.{take_next, take_whole, map_join, joined}
use Rattle.row_key.specs.declared.tables.Table.{Table}
use Rattle.cell_model.specs.declared.row.ListLine.{ListLine}
use Rattle.cell_model.specs.Counts.{line_of}
use Rattle.qual_codec.specs.declared.cells.Cell.{Cell}
use Rattle.packed_cells.specs.Keyed.{CellMap, cell_from, cells_in}
use Rattle.map_body.specs.Whole.{placed, flat, tagged, lines_in}

-- a cell's line
abbrev pub line_at : Table → List ℕ → Cell → ListLine
line_at table row c = record { table = table; row = row; qual = c.qual; value = c.value }

-- one more line
pub next_line : (table : Table) (row : List ℕ) (cells : List Cell) (i : ℕ) (d : Cell) (old now new : List ListLine) (line : ListLine) → i < length cells → now ≡ old ++ map (line_at table row) (take i cells) → line ≡ line_at table row (slice_index_or cells i d)
    → new ≡ now ++ line ∷ [] → new ≡ old ++ map (line_at table row) (take (i + 1) cells)
next_line table row cells i d old now new line lt was is added =
    added ∙ (λ j. was j ++ is j ∷ []) ∙ joined old (map (line_at table row) (take i cells)) (line_at table row (slice_index_or cells i d) ∷ [])
    ∙ ap (λ (l : List ListLine). old ++ l) (sym (map_join (line_at table row) (take i cells) (slice_index_or cells i d ∷ [])))
    ∙ ap (λ (l : List Cell). old ++ map (line_at table row) l) (sym (take_next cells i d lt))

pub same_lines : (table : Table) (bytes : List ℕ) (es : List (List ℕ × (List ℕ × ℕ))) → map (line_at table bytes) (map cell_from es) ≡ map line_of (map (placed (record { table = table; bytes = bytes })) es)
same_lines table bytes [] = refl
same_lines table bytes (e ∷ es) = ap (λ (l : List ListLine). line_at table bytes (cell_from e) ∷ l) (same_lines table bytes es)

pub row_lines : (table : Table) (bytes : List ℕ) (row : CellMap) (cells : List Cell) (i : ℕ) (old now : List ListLine) → cells ≡ cells_in row → length cells ≤ i → now ≡ old ++ map (line_at table bytes) (take i cells)
    → now ≡ old ++ map line_of (map (placed (record { table = table; bytes = bytes })) (entries row))
row_lines table bytes row cells i old now is le was =
    was ∙ ap (λ (l : List Cell). old ++ map (line_at table bytes) l) (take_whole cells i le ∙ is) ∙ ap (λ (l : List ListLine). old ++ l) (same_lines table bytes (entries row))

-- the lines of one more row
pub lines_next : (table : Table) (bytes : List ℕ) (row : CellMap) (rest : List (List ℕ × CellMap)) → lines_in table ((bytes, row) ∷ rest) ≡ map line_of (map (placed (record { table = table; bytes = bytes })) (entries row)) ++ lines_in table rest
lines_next table bytes row rest = map_join line_of (map (placed (record { table = table; bytes = bytes })) (entries row)) (flat (tagged table rest))
