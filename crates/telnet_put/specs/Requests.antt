-- The requests of a telnet session, a function of its bytes alone.
use Rattle.std.specs.Prelude.{ℕ, Bool, true, false, List, [], ◌∷◌, codes, Option, None, Some, Result, if◌then◌else◌}
use Rattle.std.specs.List.{filter_map}
use Rattle.tsd_base.specs.declared.points.PointFault.{PointFault}
use Rattle.tsd_base.specs.Points.{DataPoint, point_of_words}
use Rattle.tsd_base.specs.Tags.{is_same}
use Rattle.tsd_base.specs.Words.{words_of}
use Rattle.line_stream.specs.Lines.{Line, is_blank, is_too_long, lines_of, text_of}

-- what a session can ask; a put has its point, or why its words are none; any line that is too long asks the same, and so does any
-- line whose first word is no command
pub data Request : Type 0 where
  Put : Result DataPoint PointFault → Request
  Version : Request
  Help : Request
  Stats : Request
  DropCaches : Request
  Exit : Request
  Die : Request
  TooLong : Request
  Other : Request

-- no request comes behind it
abbrev pub closes : Request → Bool
closes Exit = true
closes Die = true
closes _ = false

-- what a first word other than `put` asks, whatever words are behind it
abbrev pub request_of_word : List ℕ → Request
request_of_word word =
    if is_same word (codes "version") then Version else
    if is_same word (codes "help") then Help else
    if is_same word (codes "stats") then Stats else
    if is_same word (codes "dropcaches") then DropCaches else
    if is_same word (codes "exit") then Exit else
    if is_same word (codes "diediedie") then Die else Other

-- what the words of a line ask, which has some where it isn't blank
abbrev pub request_of_words : List (List ℕ) → Request
request_of_words [] = Other
request_of_words (word ∷ words) = if is_same word (codes "put") then Put (point_of_words words) else request_of_word word

-- a blank line is no request
abbrev pub request_of_text : List ℕ → Option Request
request_of_text text = if is_blank text then None else Some (request_of_words (words_of text))

abbrev pub request_of_whole_line : Line → Option Request
request_of_whole_line line = if is_too_long line.bytes then Some TooLong else request_of_text (text_of line)

-- what no LF ends is no request
abbrev pub request_of_line : Line → Option Request
request_of_line line = if line.ended then request_of_whole_line line else None

-- up to the first request that closes, and with it
abbrev pub through_closing : List Request → List Request
through_closing [] = []
through_closing (request ∷ requests) = request ∷ (if closes request then [] else through_closing requests)

abbrev pub requests_of : List ℕ → List Request
requests_of bytes = through_closing (filter_map request_of_line (lines_of bytes))
