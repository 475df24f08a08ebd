-- What is asked, as plain data.
use Rattle.std.specs.Prelude.{◌≤◌, ℕ, List, Option, option_map}
use Rattle.std.specs.Borrow.{Bor}
use Rattle.tsd_base.specs.declared.times.TheConstants.{LAST_TIME}
use Rattle.command_words.specs.declared.asked.Batch as batch
use Rattle.command_words.specs.declared.asked.PatternTexts as texts
use Rattle.command_words.specs.declared.asked.NameOptions as options
use Rattle.command_words.specs.declared.asked.Stdio as stdio
use Rattle.command_words.specs.declared.asked.Serve as serve
use Rattle.command_words.specs.declared.asked.Import as import
use Rattle.command_words.specs.declared.asked.Weave as weave
use Rattle.command_words.specs.declared.asked.Asked as code
use Rattle.command_words.specs.declared.asked.Asked.TheVariants as asked
use Rattle.tsd_hooks.specs.declared.name_patterns.Patterns.{Patterns}
use Rattle.command_words.specs.CommandWords.{Batch, NameOptions, Stdio, Serve, Import, Weave, Asked}
use Rattle.command_words.specs.CommandWords.Asked.{BatchAsked, StdioAsked, ServeAsked, ImportAsked, DumpAsked, FsckAsked, FixAsked, WeaveAsked, PackAsked, UnpackAsked}

abbrev pub plain_batch : batch.Batch → Batch
plain_batch b = record { start = b.start; end = b.end; query = b.query.now; ms = b.ms }

abbrev pub plain_pattern : Option (Bor (List ℕ)) → Option (List ℕ)
plain_pattern pattern = option_map (λ text. text.now) pattern

abbrev pub plain_patterns : texts.PatternTexts → Patterns
plain_patterns p = record { metric = plain_pattern p.metric; tag_key = plain_pattern p.tag_key; tag_value = plain_pattern p.tag_value }

abbrev pub plain_names : options.NameOptions → NameOptions
plain_names n = record { auto_metric = n.auto_metric; auto_tag_key = n.auto_tag_key; auto_tag_value = n.auto_tag_value; patterns = plain_patterns n.patterns }

abbrev pub plain_stdio : stdio.Stdio → Stdio
plain_stdio s = record { names = plain_names s.names; appends = s.appends; widths = s.widths; publish = plain_pattern s.publish }

abbrev pub plain_serve : serve.Serve → Serve
plain_serve s = record { port = s.port; daemons = s.daemons; workers = s.workers; regions = s.regions; names = plain_names s.names; appends = s.appends; image = s.image; save = s.save }

abbrev pub plain_import : import.Import → Import
plain_import i = record { compact = i.compact; widths = i.widths }

abbrev pub plain_weave : weave.Weave → Weave
plain_weave w = record { seed = w.seed; count = w.count }

abbrev pub plain_asked : code.Asked → Asked
plain_asked (asked.Batch b) = BatchAsked (plain_batch b)
plain_asked (asked.Stdio s) = StdioAsked (plain_stdio s)
plain_asked (asked.Serve s) = ServeAsked (plain_serve s)
plain_asked (asked.Import i) = ImportAsked (plain_import i)
plain_asked (asked.Dump widths) = DumpAsked widths
plain_asked (asked.Fsck widths) = FsckAsked widths
plain_asked (asked.Fix widths) = FixAsked widths
plain_asked (asked.Weave w) = WeaveAsked (plain_weave w)
plain_asked (asked.Pack widths) = PackAsked widths
plain_asked asked.Unpack = UnpackAsked

abbrev pub batch_of : Option batch.Batch → Option Batch
batch_of b = option_map plain_batch b

abbrev pub names_of : Option options.NameOptions → Option NameOptions
names_of n = option_map plain_names n

abbrev pub stdio_of : Option stdio.Stdio → Option Stdio
stdio_of s = option_map plain_stdio s

abbrev pub serve_of : Option serve.Serve → Option Serve
serve_of s = option_map plain_serve s

abbrev pub import_of : Option import.Import → Option Import
import_of i = option_map plain_import i

abbrev pub weave_of : Option weave.Weave → Option Weave
weave_of w = option_map plain_weave w

abbrev pub what_asked : Option code.Asked → Option Asked
what_asked a = option_map plain_asked a

-- 1 to 8 daemons, 1 to 16 workers of each, and 1 to 16 regions
pub record IsFleet (s : serve.Serve) : Type 0 where
  pub some_daemons : 1 ≤ s.daemons
  pub few_daemons : s.daemons ≤ 8
  pub some_workers : 1 ≤ s.workers
  pub few_workers : s.workers ≤ 16
  pub some_regions : 1 ≤ s.regions
  pub few_regions : s.regions ≤ 16

-- a range ends at its start or behind it, and at the last time or before, a fleet has its limits, and so have operations
abbrev pub InRange : code.Asked → Type 0
InRange (asked.Batch b) = (b.start ≤ b.end) × (b.end ≤ LAST_TIME)
InRange (asked.Serve s) = IsFleet s
InRange (asked.Weave w) = w.count ≤ 1000000
InRange _ = Unit {0}
