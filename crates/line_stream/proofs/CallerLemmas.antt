-- What a caller's proof cites of the words in `specs/Lines`.
use Rattle.std.proofs.Common.{◌≡◌, ℕ, ◌+◌, ◌<◌, false, List, [], ◌∷◌, ◌++◌, length, take, drop, refl, sym, ap, ◌∙◌, append_assoc, append-nil}
use Rattle.std.specs.Prelude.{slice_index}
use Rattle.line_stream.specs.Lines.{Line, Splits, has_line_end, last_line, lines_of, whole_line}
use Rattle.line_stream.proofs.FirstLines.{lines_cut, lines_line, lines_rest}

-- before anything was read: no line, and all is left
pub splits_none : (bytes : List ℕ) → Splits bytes [] bytes
splits_none bytes more = refl

-- what was left was read further
pub splits_more : (bytes mid rest : List ℕ) (lines others : List Line) → Splits bytes lines mid → Splits mid others rest → Splits bytes (lines ++ others) rest
splits_more bytes mid rest lines others s t more = s more ∙ ap (λ ls. lines ++ ls) (t more) ∙ sym (append_assoc lines others (lines_of (rest ++ more)))

-- more bytes came behind what is left
pub splits_with : (bytes rest further : List ℕ) (lines : List Line) → Splits bytes lines rest → Splits (bytes ++ further) lines (rest ++ further)
splits_with bytes rest further lines s more = ap lines_of (append_assoc bytes further more) ∙ s (further ++ more) ∙ ap (λ xs. lines ++ lines_of xs) (sym (append_assoc rest further more))

-- the first LF ends the first line
pub splits_line : (bytes : List ℕ) (n : ℕ) → n < length bytes → has_line_end (take n bytes) ≡ false → slice_index bytes n ≡ 10 → Splits bytes (whole_line (take n bytes) ∷ []) (drop (n + 1) bytes)
splits_line bytes n lt none ten more = lines_cut bytes more n lt none ten

-- bytes without LF are one line
pub lines_of_front : (rest : List ℕ) → has_line_end rest ≡ false → lines_of rest ≡ last_line rest ∷ []
lines_of_front rest none = lines_rest rest none

-- the bytes have ended, and what is left is the last line
pub lines_at_end : (bytes rest : List ℕ) (lines : List Line) → Splits bytes lines rest → has_line_end rest ≡ false → lines_of bytes ≡ lines ++ last_line rest ∷ []
lines_at_end bytes rest lines s none =
    ap lines_of (sym (append-nil bytes)) ∙ s [] ∙ ap (λ ls. lines ++ ls) (ap lines_of (append-nil rest) ∙ lines_rest rest none)

-- a line that an LF ends, and what stands behind it
pub splits_cut : (line rest : List ℕ) → has_line_end line ≡ false → Splits (line ++ 10 ∷ rest) (whole_line line ∷ []) rest
splits_cut line rest none more = ap lines_of (append_assoc line (10 ∷ rest) more) ∙ lines_line line (rest ++ more) none
