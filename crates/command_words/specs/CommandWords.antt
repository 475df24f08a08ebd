-- What words ask for: `clap` gives the words of a command their places, and they have to be in their forms.
use Rattle.std.specs.Prelude.{ℕ, Bool, true, false, not, ◌&&◌, nat_le, is_ok, List, [], ◌∷◌, codes, Option, None, Some, option_map, if◌then◌else◌}
use Rattle.std.specs.Option.{option_map_or, option_and_then}
use Rattle.std.specs.Str.Parse.{digits_value}
use Rattle.clap.specs.Kinds.{Kinds}
use Rattle.clap.specs.Walk.{Row, Text, first_of}
use Rattle.clap.specs.Simple.{subcommand_of}
use Rattle.clap.specs.Faults.{fault_of}
use Rattle.tsd_base.specs.Digits.{is_number}
use Rattle.tsd_base.specs.Names.{name_of}
use Rattle.tsd_base.specs.Tags.{is_same}
use Rattle.tsd_hooks.specs.declared.name_patterns.Patterns.{Patterns}
use Rattle.query_requests.specs.QueryTimes.{fixed_time}
use Rattle.row_key.specs.declared.widths.Widths.{Widths}
use Rattle.command_grammar.specs.Grammar.{grammar}
use Rattle.command_words.specs.WidthWords.{widths_said}

-- what `batch` is asked: a range of milliseconds, the text of a query, and whether times are told in milliseconds
pub record Batch : Type 0 where
  pub start : ℕ
  pub end : ℕ
  pub query : List ℕ
  pub ms : Bool

-- of which kinds names that have no id are given one, and how these must begin
pub record NameOptions : Type 0 where
  pub auto_metric : Bool
  pub auto_tag_key : Bool
  pub auto_tag_value : Bool
  pub patterns : Patterns

-- what `stdio` is asked: which names are given ids, whether points are appended, how many bytes the ids of each kind have, and how the metrics of points begin that are published
pub record Stdio : Type 0 where
  pub names : NameOptions
  pub appends : Bool
  pub widths : Widths
  pub publish : Option (List ℕ)

-- what `serve` is asked: the port, how many daemons, workers of each and regions of data points there are, which names are given ids, whether points are appended, whether the store begins from
-- an image, and whether one is saved
pub record Serve : Type 0 where
  pub port : ℕ
  pub daemons : ℕ
  pub workers : ℕ
  pub regions : ℕ
  pub names : NameOptions
  pub appends : Bool
  pub image : Bool
  pub save : Bool

-- what `import` is asked: whether rows are compacted, and how many bytes the ids of each kind have
pub record Import : Type 0 where
  pub compact : Bool
  pub widths : Widths

-- what `weave` is asked: the number from which it draws, and how many operations there are
pub record Weave : Type 0 where
  pub seed : ℕ
  pub count : ℕ

-- of `dump`, `fsck`, `fix` and `pack` the widths of the listing's ids
pub data Asked : Type 0 where
  BatchAsked : Batch → Asked
  StdioAsked : Stdio → Asked
  ServeAsked : Serve → Asked
  ImportAsked : Import → Asked
  DumpAsked : Widths → Asked
  FsckAsked : Widths → Asked
  FixAsked : Widths → Asked
  WeaveAsked : Weave → Asked
  PackAsked : Widths → Asked
  UnpackAsked : Asked

-- a range ends at its start or behind it
abbrev pub range_between : Option ℕ → Option ℕ → Option (ℕ × ℕ)
range_between (Some start) (Some end) = if nat_le start end then Some (start, end) else None
range_between _ _ = None

-- the range of two times, in milliseconds; a time in seconds is its second's first millisecond, also at the end
abbrev pub range_of : List ℕ → List ℕ → Option (ℕ × ℕ)
range_of start end = range_between (fixed_time start) (fixed_time end)

abbrev pub batch_from : List ℕ → List ℕ → List ℕ → Bool → Option Batch
batch_from start end query ms = option_map (λ range. record { start = range.0; end = range.1; query = query; ms = ms }) (range_of start end)

-- the option is among the words
abbrev pub is_given : Text → List Row → Bool
is_given id rows = option_map_or (λ text. is_same text (codes "true")) (first_of id rows) false

abbrev pub batch_with : Option Text → Option Text → Option Text → Bool → Option Batch
batch_with (Some start) (Some end) (Some query) ms = batch_from start end query ms
batch_with _ _ _ ms = None

abbrev pub batch_in : List Row → Option Batch
batch_in rows = batch_with (first_of (codes "start") rows) (first_of (codes "end") rows) (first_of (codes "query") rows) (is_given (codes "ms") rows)

-- how new names must begin, of each kind whose option is among the words
abbrev pub patterns_in : List Row → Patterns
patterns_in rows = record { metric = first_of (codes "allow-metric") rows; tag_key = first_of (codes "allow-tagk") rows; tag_value = first_of (codes "allow-tagv") rows }

abbrev pub is_name : Text → Bool
is_name text = is_ok (name_of text)

abbrev pub is_pattern : Option Text → Bool
is_pattern pattern = option_map_or is_name pattern true

-- each pattern is the bytes of a name
abbrev pub are_names : Patterns → Bool
are_names patterns = is_pattern patterns.metric && (is_pattern patterns.tag_key && is_pattern patterns.tag_value)

abbrev pub names_with : List Row → Patterns → NameOptions
names_with rows patterns = record {
  auto_metric = is_given (codes "auto-metric") rows;
  auto_tag_key = not (is_given (codes "no-auto-tagk") rows);
  auto_tag_value = not (is_given (codes "no-auto-tagv") rows);
  patterns = patterns;
}

abbrev pub names_in : List Row → Option NameOptions
names_in rows = if are_names (patterns_in rows) then Some (names_with rows (patterns_in rows)) else None

-- how the metrics of points begin that are published, where the option is among the words
abbrev pub publish_in : List Row → Option (Option Text)
publish_in rows = if is_pattern (first_of (codes "publish") rows) then Some (first_of (codes "publish") rows) else None

abbrev pub stdio_with : Option NameOptions → Option Widths → Option (Option Text) → Bool → Option Stdio
stdio_with (Some names) (Some widths) (Some publish) appends = Some (record { names = names; appends = appends; widths = widths; publish = publish })
stdio_with _ _ _ appends = None

-- how many bytes the ids of each kind have, three where nothing is said
abbrev pub widths_in : List Row → Option Widths
widths_in rows = widths_said (first_of (codes "widths") rows)

abbrev pub stdio_in : List Row → Option Stdio
stdio_in rows = stdio_with (names_in rows) (widths_in rows) (publish_in rows) (is_given (codes "appends") rows)

abbrev pub within : ℕ → ℕ → ℕ → Option ℕ
within least most n = if nat_le least n && nat_le n most then Some n else None

-- in digits, of any length
abbrev pub number_within : ℕ → ℕ → Text → Option ℕ
number_within least most text = if is_number text then within least most (digits_value 10 text) else None

abbrev pub port_in : List Row → Option ℕ
port_in rows = option_and_then (number_within 0 65535) (first_of (codes "port") rows)

-- from 1 to a most, and a usual number where none is told
abbrev pub count_of : ℕ → ℕ → Option Text → Option ℕ
count_of most usual (Some text) = number_within 1 most text
count_of most usual None = Some usual

abbrev pub serve_with : Option ℕ → Option ℕ → Option ℕ → Option ℕ → Option NameOptions → (appends image save : Bool) → Option Serve
serve_with (Some port) (Some daemons) (Some workers) (Some regions) (Some names) appends image save =
    Some (record { port = port; daemons = daemons; workers = workers; regions = regions; names = names; appends = appends; image = image; save = save })
serve_with _ _ _ _ _ appends image save = None

-- 1 to 8 daemons, and 1 where nothing is said, 1 to 16 workers of each, and 4, and 1 to 16 regions, and 4
abbrev pub serve_in : List Row → Option Serve
serve_in rows =
    serve_with (port_in rows) (count_of 8 1 (first_of (codes "daemons") rows)) (count_of 16 4 (first_of (codes "workers") rows)) (count_of 16 4 (first_of (codes "regions") rows)) (names_in rows) (is_given (codes "appends") rows)
    (is_given (codes "image") rows) (is_given (codes "save") rows)

abbrev pub import_in : List Row → Option Import
import_in rows = option_map (λ widths. record { compact = is_given (codes "compact") rows; widths = widths }) (widths_in rows)

abbrev pub weave_with : Option ℕ → Option ℕ → Option Weave
weave_with (Some seed) (Some count) = Some (record { seed = seed; count = count })
weave_with _ _ = None

-- a seed is a `u64`, and there are at most 1,000,000 operations
abbrev pub weave_in : List Row → Option Weave
weave_in rows = weave_with (option_and_then (number_within 0 18446744073709551615) (first_of (codes "seed") rows)) (option_and_then (number_within 0 1000000) (first_of (codes "count") rows))

-- of the name of a command on an image, and what its words are
abbrev pub image_asked : Text → List Row → Option Asked
image_asked name rows =
    if is_same name (codes "pack") then option_map PackAsked (widths_in rows)
    else if is_same name (codes "unpack") then Some UnpackAsked
    else None

-- of the name of a tool on a store as text or as an image, and what its words are
abbrev pub tool_asked : Text → List Row → Option Asked
tool_asked name rows =
    if is_same name (codes "import") then option_map ImportAsked (import_in rows)
    else if is_same name (codes "dump") then option_map DumpAsked (widths_in rows)
    else if is_same name (codes "fsck") then option_map FsckAsked (widths_in rows)
    else if is_same name (codes "fix") then option_map FixAsked (widths_in rows)
    else if is_same name (codes "weave") then option_map WeaveAsked (weave_in rows)
    else image_asked name rows

-- of a command's name and what its words are
abbrev pub asked_by : Text → List Row → Option Asked
asked_by name rows =
    if is_same name (codes "batch") then option_map BatchAsked (batch_in rows)
    else if is_same name (codes "stdio") then option_map StdioAsked (stdio_in rows)
    else if is_same name (codes "serve") then option_map ServeAsked (serve_in rows)
    else tool_asked name rows

abbrev pub asked_in : Option (Text × List Row) → Option Asked
asked_in None = None
asked_in (Some command) = asked_by command.0 command.1

-- what is asked of a fleet, if one is asked for
abbrev pub fleet_asked : Option Asked → Option Serve
fleet_asked (Some (ServeAsked s)) = Some s
fleet_asked asked = None

-- nothing where `clap` refuses the words, which it does of a request for help or for a version too
abbrev pub unless_refused : Kinds → Option Asked → Option Asked
unless_refused [] asked = asked
unless_refused (kind ∷ kinds) asked = None

-- what the words ask for
abbrev pub asked_of : List Text → Option Asked
asked_of words = unless_refused (fault_of grammar words) (asked_in (subcommand_of grammar words))
