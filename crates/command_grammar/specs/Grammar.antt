-- The grammar of words, in the terms of `clap`.
use Rattle.std.specs.Prelude.{true, Some, codes}
use Rattle.clap.specs.Walk.{Rule, Text}
use Rattle.clap.specs.Simple.{App, Shape, new_app, new_rule, on_top, with_rule, with_subcommand}
use Rattle.clap.specs.declared.builder.action.ArgAction.TheVariants.{Set, SetTrue}

-- a word that has to be there
abbrev pub word : Text → Rule
word id = record (new_rule id) { required = true }

-- an option without a value, whose name is its id
abbrev pub flag : Text → Rule
flag id = record (new_rule id) { long = Some id; action = Some SetTrue }

-- an option with a value, whose name is its id
abbrev pub valued : Text → Rule
valued id = record (new_rule id) { long = Some id; action = Some Set }

-- batch START END M [--ms]
abbrev pub batch_grammar : Shape
batch_grammar = (with_rule (with_rule (with_rule (with_rule (new_app (codes "batch")) (word (codes "start"))) (word (codes "end"))) (word (codes "query"))) (flag (codes "ms"))).top

-- [--auto-metric] [--no-auto-tagk] [--no-auto-tagv]
abbrev pub with_auto : App → App
with_auto app = with_rule (with_rule (with_rule app (flag (codes "auto-metric"))) (flag (codes "no-auto-tagk"))) (flag (codes "no-auto-tagv"))

-- [--allow-metric P] [--allow-tagk P] [--allow-tagv P]
abbrev pub with_patterns : App → App
with_patterns app = with_rule (with_rule (with_rule app (valued (codes "allow-metric"))) (valued (codes "allow-tagk"))) (valued (codes "allow-tagv"))

-- both, and [--appends]
abbrev pub with_puts : App → App
with_puts app = with_rule (with_patterns (with_auto app)) (flag (codes "appends"))

-- stdio, all of these, [--widths M,K,V] and [--publish P]
abbrev pub stdio_grammar : Shape
stdio_grammar = (with_rule (with_rule (with_puts (new_app (codes "stdio"))) (valued (codes "widths"))) (valued (codes "publish"))).top

-- serve PORT [--daemons N] [--workers N] [--regions N]
abbrev pub with_sizes : App
with_sizes = with_rule (with_rule (with_rule (with_rule (new_app (codes "serve")) (word (codes "port"))) (valued (codes "daemons"))) (valued (codes "workers"))) (valued (codes "regions"))

-- [--image] [--save]
abbrev pub with_keeping : App → App
with_keeping app = with_rule (with_rule app (flag (codes "image"))) (flag (codes "save"))

-- both, and those of `stdio` but for the widths
abbrev pub serve_grammar : Shape
serve_grammar = (with_keeping (with_puts with_sizes)).top

-- a command on a listing [--widths M,K,V]
abbrev pub listing_grammar : Text → Shape
listing_grammar name = (with_rule (new_app name) (valued (codes "widths"))).top

-- unpack
abbrev pub unpack_grammar : Shape
unpack_grammar = (new_app (codes "unpack")).top

-- import [--compact] [--widths M,K,V]
abbrev pub import_grammar : Shape
import_grammar = (with_rule (with_rule (new_app (codes "import")) (flag (codes "compact"))) (valued (codes "widths"))).top

-- weave SEED N
abbrev pub weave_grammar : Shape
weave_grammar = (with_rule (with_rule (new_app (codes "weave")) (word (codes "seed"))) (word (codes "count"))).top

-- what asks queries or puts points
abbrev pub with_connections : App → App
with_connections app = with_subcommand (with_subcommand (with_subcommand app batch_grammar) stdio_grammar) serve_grammar

-- what makes a store
abbrev pub with_makers : App → App
with_makers app = with_subcommand (with_subcommand app import_grammar) weave_grammar

-- what reads a listing
abbrev pub with_listings : App → App
with_listings app = with_subcommand (with_subcommand (with_subcommand app (listing_grammar (codes "dump"))) (listing_grammar (codes "fsck"))) (listing_grammar (codes "fix"))

-- what makes an image, or reads one
abbrev pub with_images : App → App
with_images app = with_subcommand (with_subcommand app (listing_grammar (codes "pack"))) unpack_grammar

-- the program's name isn't among the words
abbrev pub root : App
root = on_top (λ s. record s { no_binary_name = true }) (new_app (codes "tsd"))

-- the words begin with a command
abbrev pub grammar : App
grammar = with_images (with_listings (with_makers (with_connections root)))
