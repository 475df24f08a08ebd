-- The head that bytes are as a whole, read from the left: a function, so that requests are a function of bytes.
use Rattle.std.specs.Prelude.{ℕ, zero, suc, Bool, false, not, nat_eq, nat_le, List, [], ◌∷◌, length, take, drop, codes, Option, None, Some, if◌then◌else◌}
use Rattle.std.specs.Str.{is_utf8}
use Rattle.httparse.specs.Grammar.{is_token_byte, is_uri_byte, is_value_byte, LineEnd, crlf, lf, Field, RequestHead}
use Rattle.httparse.specs.Pieces.{is_newline}
use Rattle.tsd_base.specs.Tags.{is_same}
use Rattle.http_requests.specs.declared.http_call.TheConstants.{MOST_FIELDS}

-- a piece at the front, and the bytes behind it
abbrev pub Reader : Type 0 → Type 0
Reader A = List ℕ → Option (A × List ℕ)

abbrev pub joined : {A B : Type 0} → A → Option (B × List ℕ) → Option ((A × B) × List ℕ)
joined a None = None
joined a (Some q) = Some ((a, q.0), q.1)

-- one piece and then another
abbrev pub after_first : {A B : Type 0} → Option (A × List ℕ) → Reader B → Option ((A × B) × List ℕ)
after_first None second = None
after_first (Some p) second = joined p.0 (second p.1)

abbrev pub in_order : {A B : Type 0} → Reader A → Reader B → Reader (A × B)
in_order first second text = after_first (first text) second

-- LF or CR LF
abbrev pub lf_at : List ℕ → Option (LineEnd × List ℕ)
lf_at [] = None
lf_at (b ∷ text) = if nat_eq b 10 then Some (crlf, text) else None

abbrev pub newline_at : Reader LineEnd
newline_at [] = None
newline_at (b ∷ text) = if nat_eq b 10 then Some (lf, text) else if nat_eq b 13 then lf_at text else None

-- the bytes at the front that pass the test, and the rest
abbrev pub onto : ℕ → List ℕ × List ℕ → List ℕ × List ℕ
onto b p = (b ∷ p.0, p.1)

unfoldable pub run_at : (ℕ → Bool) → List ℕ → List ℕ × List ℕ
run_at test [] = ([], [])
run_at test (b ∷ text) = if test b then onto b (run_at test text) else ([], b ∷ text)

-- what stands behind this byte, if it is the first
abbrev pub behind : ℕ → List ℕ → Option (List ℕ)
behind stop [] = None
behind stop (b ∷ text) = if nat_eq b stop then Some text else None

abbrev pub word_by : List ℕ → Option (List ℕ) → Option (List ℕ × List ℕ)
word_by word None = None
word_by [] (Some rest) = None
word_by (b ∷ word) (Some rest) = Some (b ∷ word, rest)

-- one or more bytes that pass the test, and the byte that ends them
abbrev pub word_at : (ℕ → Bool) → ℕ → Reader (List ℕ)
word_at test stop text = word_by (run_at test text).0 (behind stop (run_at test text).1)

abbrev pub utf8_only : Option (List ℕ × List ℕ) → Option (List ℕ × List ℕ)
utf8_only None = None
utf8_only (Some p) = if is_utf8 p.0 then Some p else None

abbrev pub target_at : Reader (List ℕ)
target_at text = utf8_only (word_at is_uri_byte 32 text)

abbrev pub minor_at : List ℕ → Option (ℕ × List ℕ)
minor_at [] = None
minor_at (b ∷ text) = if nat_eq b 48 then Some (0, text) else if nat_eq b 49 then Some (1, text) else None

abbrev pub version_at : Reader ℕ
version_at text = if is_same (take 7 text) (codes "HTTP/1.") then minor_at (drop 7 text) else None

abbrev pub with_line : LineEnd → List LineEnd × List ℕ → List LineEnd × List ℕ
with_line end p = (end ∷ p.0, p.1)

abbrev pub lines_by : Option (LineEnd × List ℕ) → (List ℕ → List LineEnd × List ℕ) → List ℕ → List LineEnd × List ℕ
lines_by None more text = ([], text)
lines_by (Some p) more text = with_line p.0 (more p.1)

-- the empty lines at the front, at most k
unfoldable pub blank_lines : ℕ → List ℕ → List LineEnd × List ℕ
blank_lines zero text = ([], text)
blank_lines (suc k) text = lines_by (newline_at text) (blank_lines k) text

abbrev pub stops : (ℕ → Bool) → List ℕ → Bool
stops test [] = false
stops test (b ∷ text) = not (test b)

-- all of them, and a byte behind them that is neither CR nor LF
abbrev pub blank_at : Reader (List LineEnd)
blank_at text = if stops is_newline (blank_lines (length text) text).1 then Some (blank_lines (length text) text) else None

abbrev pub start_at : Reader (List LineEnd × (List ℕ × (List ℕ × (ℕ × LineEnd))))
start_at = in_order blank_at (in_order (word_at is_token_byte 32) (in_order target_at (in_order version_at newline_at)))

abbrev pub ended_by : List ℕ → List ℕ → Option (LineEnd × List ℕ) → Option (Field × List ℕ)
ended_by name raw None = None
ended_by name raw (Some e) = Some (record { name = name; raw = raw; end = e.0 }, e.1)

abbrev pub field_by : Option (List ℕ × List ℕ) → Option (Field × List ℕ)
field_by None = None
field_by (Some p) = ended_by p.0 (run_at is_value_byte p.1).0 (newline_at (run_at is_value_byte p.1).1)

abbrev pub field_at : Reader Field
field_at text = field_by (word_at is_token_byte 58 text)

abbrev pub with_field : Field → Option ((List Field × LineEnd) × List ℕ) → Option ((List Field × LineEnd) × List ℕ)
with_field f None = None
with_field f (Some p) = Some ((f ∷ p.0.0, p.0.1), p.1)

abbrev pub section_by : Option (LineEnd × List ℕ) → Option (Field × List ℕ) → Reader (List Field × LineEnd) → Option ((List Field × LineEnd) × List ℕ)
section_by (Some e) field more = Some (([], e.0), e.1)
section_by None None more = None
section_by None (Some f) more = with_field f.0 (more f.1)

-- the field lines and the empty line behind them; k bounds how many lines
unfoldable pub section_lines : ℕ → Reader (List Field × LineEnd)
section_lines zero text = None
section_lines (suc k) text = section_by (newline_at text) (field_at text) (section_lines k)

abbrev pub section_at : Reader (List Field × LineEnd)
section_at text = section_lines (suc (length text)) text

abbrev pub Tree : Type 0
Tree = (List LineEnd × (List ℕ × (List ℕ × (ℕ × LineEnd)))) × (List Field × LineEnd)

abbrev pub tree_at : Reader Tree
tree_at = in_order start_at section_at

abbrev pub head_from : Tree → RequestHead
head_from t = record {
  blank = t.0.0;
  method = t.0.1.0;
  target = t.0.1.1.0;
  minor = t.0.1.1.1.0;
  line_end = t.0.1.1.1.1;
  fields = t.1.0;
  last = t.1.1;
}

-- nothing may stand behind it, and its fields are few enough
abbrev pub whole : Option (Tree × List ℕ) → Option RequestHead
whole None = None
whole (Some (t, [])) = if nat_le (length t.1.0) MOST_FIELDS then Some (head_from t) else None
whole (Some (t, b ∷ rest)) = None

-- the head that the bytes are as a whole
unfoldable pub head_of : List ℕ → Option RequestHead
head_of bytes = whole (tree_at bytes)
