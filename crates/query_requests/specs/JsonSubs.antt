-- Sub queries in JSON.
use Rattle.std.specs.Prelude.{ℕ, Bool, true, false, List, codes, Option, None, Some, Result, Ok, Err, if◌then◌else◌}
use Rattle.serde_json.specs.Data.{Data}
use Rattle.serde_json.specs.Find.{as_str, get}
use Rattle.tsd_base.specs.Alphabet.{is_name}
use Rattle.tsd_base.specs.declared.kinds.Aggregator.{Aggregator}
use Rattle.tsd_base.specs.declared.kinds.Down.{Down}
use Rattle.query_text.specs.Aggregators.{aggregator_named}
use Rattle.query_text.specs.Downs.{down_of}
use Rattle.query_requests.specs.JsonFilters.{filters_in}
use Rattle.query_requests.specs.JsonMembers.{flag_in, object_in, text_in}
use Rattle.query_requests.specs.QueryReadings.{◌>>=◌, or_fault}
use Rattle.query_text.specs.declared.queries.Sub.{Sub}
use Rattle.query_text.specs.declared.queries.QueryFault.{QueryFault}
use Rattle.query_text.specs.declared.queries.QueryFault.TheVariants.{BadDownsample, BadM, BadQuery, RateRefused, UnknownAggregator}

abbrev pub how_in : List ℕ → Result Aggregator QueryFault
how_in name = or_fault UnknownAggregator (aggregator_named name)

abbrev pub unless_rate : Bool → Result Bool QueryFault
unless_rate true = Err RateRefused
unless_rate false = Ok false

abbrev pub some_down : Option Down → Result (Option Down) QueryFault
some_down None = Err BadDownsample
some_down (Some down) = Ok (Some down)

-- the downsample of a string; where it is absent there is none
abbrev pub down_in : Bool → Option Data → Result (Option Down) QueryFault
down_in ms None = Ok None
down_in ms (Some d) = or_fault BadQuery (as_str d) >>= λ text. some_down (down_of ms text)

abbrev pub metric_in : List ℕ → Result (List ℕ) QueryFault
metric_in text = if is_name text then Ok text else Err (BadM 0)

-- an object's aggregator, rate, downsample, metric, tags and filters, in this order
unfoldable pub sub_in : Bool → Data → Result Sub QueryFault
sub_in ms d = do
  o ← object_in d
  name ← text_in (get (codes "aggregator") o)
  how ← how_in name
  rate ← flag_in (get (codes "rate") o)
  plain ← unless_rate rate
  down ← down_in ms (get (codes "downsample") o)
  text ← text_in (get (codes "metric") o)
  metric ← metric_in text
  filters ← filters_in o
  Ok (record { how = how; down = down; metric = metric; filters = filters })
