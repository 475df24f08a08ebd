-- The text of a listing: its lines, and the cell that a line tells.
use Rattle.std.specs.Prelude.{ℕ, Bool, ◌||◌, ◌&&◌, nat_lt, slice_index, List, [], ◌∷◌, ◌++◌, codes, filter, length, map, Option, None, Some, Result, Ok, Err, if◌then◌else◌}
use Rattle.std.specs.List.{flat_map, list_all}
use Rattle.hex.specs.Hex.{decode_of, encode_lower, lower_digits}
use Rattle.hex.specs.declared.error.FromHexError.{FromHexError}
use Rattle.line_stream.specs.Lines.{Line, last_line, lines_of}
use Rattle.tsd_base.specs.Alphabet.{is_between}
use Rattle.tsd_base.specs.TagList.{is_same}
use Rattle.row_key.specs.declared.tables.Table.{Table}
use Rattle.row_key.specs.declared.tables.Table.TheVariants.{Ids, Names, Points}
use Rattle.cell_model.specs.declared.row.ListLine.{ListLine}
use Rattle.cell_listing.specs.Cuts.{parts_by}
use Rattle.cell_listing.specs.declared.listing_line.TheConstants.{LONGEST_LISTED}
use Rattle.cell_listing.specs.declared.listing_line.LineRead.{LineRead}
use Rattle.cell_listing.specs.declared.listing_line.LineRead.TheVariants.{Cell, Other}

-- ---- a line

-- 0 to 9 and a to f
abbrev pub is_lower_digit : ℕ → Bool
is_lower_digit c = is_between 48 57 c || is_between 97 102 c

abbrev pub if_read : Result (List ℕ) FromHexError → Option (List ℕ)
if_read (Ok bytes) = Some bytes
if_read (Err fault) = None

-- the bytes that these digits tell, two digits each, at least one byte
abbrev pub bytes_in : List ℕ → Option (List ℕ)
bytes_in text = if nat_lt 0 (length text) && list_all is_lower_digit text then if_read (decode_of text) else None

-- the table with this name
abbrev pub table_named : List ℕ → Option Table
table_named word =
    if is_same word (codes "ids") then Some Ids
    else if is_same word (codes "names") then Some Names
    else if is_same word (codes "points") then Some Points
    else None

-- the words of a line
pub record LineWords : Type 0 where
  pub table : List ℕ
  pub row : List ℕ
  pub qual : List ℕ
  pub value : List ℕ

-- a line has four words, with one space between
abbrev pub four_of : List (List ℕ) → Option LineWords
four_of (table ∷ row ∷ qual ∷ value ∷ []) = Some (record { table = table; row = row; qual = qual; value = value })
four_of _ = None

abbrev pub cell_with : Option Table → Option (List ℕ) → Option (List ℕ) → Option (List ℕ) → Option ListLine
cell_with (Some table) (Some row) (Some qual) (Some value) = Some (record { table = table; row = row; qual = qual; value = value })
cell_with _ _ _ _ = None

-- a table, a row, a qualifier and a value
abbrev pub cell_by : Option LineWords → Option ListLine
cell_by None = None
cell_by (Some w) = cell_with (table_named w.table) (bytes_in w.row) (bytes_in w.qual) (bytes_in w.value)

-- the cell that a line tells, if it isn't too long
abbrev pub cell_in : List ℕ → Option ListLine
cell_in line = if nat_lt LONGEST_LISTED (length line) then None else cell_by (four_of (parts_by 32 line))

-- what is kept of a line that tells no cell: its bytes, or nothing where it is too long
abbrev pub kept_bytes : List ℕ → Option (List ℕ)
kept_bytes line = if nat_lt LONGEST_LISTED (length line) then None else Some line

abbrev pub line_by : List ℕ → Option ListLine → LineRead
line_by line (Some cell) = Cell cell
line_by line None = Other (kept_bytes line)

-- a line as it is read
abbrev pub line_read : List ℕ → LineRead
line_read line = line_by line (cell_in line)

-- ---- a text

-- a last line that no LF ends counts where it has a byte
abbrev pub is_line : Line → Bool
is_line line = line.ended || nat_lt 0 (length line.bytes)

-- these lines as they are read
abbrev pub all_read : List Line → List LineRead
all_read lines = map (λ (line : Line). line_read line.bytes) (filter is_line lines)

-- the lines of a text
abbrev pub listed : List ℕ → List LineRead
listed text = all_read (lines_of text)

-- the last line, which no LF ends
abbrev pub last_read : List ℕ → List LineRead
last_read bytes = all_read (last_line bytes ∷ [])

-- ---- printing

abbrev pub table_word : Table → List ℕ
table_word Ids = codes "ids"
table_word Names = codes "names"
table_word Points = codes "points"

-- the digit of a number below 16
abbrev pub digit_of : ℕ → ℕ
digit_of n = slice_index lower_digits n

abbrev pub line_text : ListLine → List ℕ
line_text l = table_word l.table ++ 32 ∷ (encode_lower l.row ++ 32 ∷ (encode_lower l.qual ++ 32 ∷ encode_lower l.value))

-- the text of cells: a line each, which LF ends
abbrev pub cells_text : List ListLine → List ℕ
cells_text cells = flat_map (λ l. line_text l ++ 10 ∷ []) cells
