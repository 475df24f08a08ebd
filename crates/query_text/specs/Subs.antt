-- Sub queries in text.
use Rattle.std.specs.Prelude.{◌≡◌, ℕ, ◌+◌, ◌-◌, Bool, ◌||◌, List, codes, length, take, drop, Option, None, Some, IfSome, Result, Ok, Err, if◌then◌else◌}
use Rattle.std.specs.Option.{option_map}
use Rattle.tsd_base.specs.Alphabet.{is_name}
use Rattle.tsd_base.specs.Tags.{is_same}
use Rattle.tsd_base.specs.declared.kinds.Aggregator.{Aggregator}
use Rattle.tsd_base.specs.declared.kinds.Down.{Down}
use Rattle.query_text.specs.Aggregators.{aggregator_named}
use Rattle.query_text.specs.Cuts.{place_of, before}
use Rattle.query_text.specs.Downs.{IsInterval, down_of}
use Rattle.query_text.specs.FilterTexts.{filters_of}
use Rattle.query_text.specs.declared.queries.Filter.{Filter}
use Rattle.query_text.specs.declared.queries.Sub.{Sub}
use Rattle.query_text.specs.declared.queries.QueryFault.{QueryFault}
use Rattle.query_text.specs.declared.queries.QueryFault.TheVariants.{BadM, UnknownAggregator, RateRefused, BadDownsample, OutOfMemory}

-- what stands before the first `{`
abbrev pub head_of : List ℕ → List ℕ
head_of text = before 123 text

-- the place of the first `:` of the head
abbrev pub colon_of : List ℕ → Option ℕ
colon_of text = place_of 58 (head_of text)

-- the same from this place on
abbrev pub colon_from : List ℕ → ℕ → Option ℕ
colon_from text from = option_map (λ n. from + n) (place_of 58 (drop from (head_of text)))

-- the text goes on with a rate
abbrev pub asks_rate : List ℕ → Bool
asks_rate text = is_same (take 5 text) (codes "rate:") || is_same (take 5 text) (codes "rate{")

abbrev pub sub_with : Aggregator → Option Down → List ℕ → Result (List Filter) QueryFault → Result Sub QueryFault
sub_with how down metric (Ok filters) = Ok (record { how = how; down = down; metric = metric; filters = filters })
sub_with how down metric (Err fault) = Err fault

-- the rest of the head is the metric's name, and the filters stand behind it
abbrev pub sub_by_metric : List ℕ → Aggregator → Option Down → ℕ → Result Sub QueryFault
sub_by_metric text how down at =
    if is_name (drop at (head_of text)) then sub_with how down (drop at (head_of text)) (filters_of text) else Err (BadM at)

abbrev pub unless_colon : Option ℕ → Result Sub QueryFault → Result Sub QueryFault
unless_colon None sub = sub
unless_colon (Some at) sub = Err (BadM at)

-- behind a downsample stands the metric
abbrev pub sub_by_down : List ℕ → Aggregator → ℕ → Option Down → Result Sub QueryFault
sub_by_down text how at None = Err BadDownsample
sub_by_down text how at (Some down) =
    if asks_rate (drop at text) then Err RateRefused else unless_colon (colon_from text at) (sub_by_metric text how (Some down) at)

-- where one more `:` stands in the head, the piece before it is a downsample
abbrev pub sub_by_colon : Bool → List ℕ → Aggregator → ℕ → Option ℕ → Result Sub QueryFault
sub_by_colon ms text how at None = sub_by_metric text how None at
sub_by_colon ms text how at (Some colon) = sub_by_down text how (colon + 1) (down_of ms (take (colon - at) (drop at text)))

abbrev pub sub_by_aggregator : Bool → List ℕ → ℕ → Option Aggregator → Result Sub QueryFault
sub_by_aggregator ms text at None = Err UnknownAggregator
sub_by_aggregator ms text at (Some how) = if asks_rate (drop at text) then Err RateRefused else sub_by_colon ms text how at (colon_from text at)

abbrev pub sub_from : Bool → List ℕ → Option ℕ → Result Sub QueryFault
sub_from ms text None = Err (BadM (length (head_of text)))
sub_from ms text (Some colon) = sub_by_aggregator ms text (colon + 1) (aggregator_named (take colon text))

-- An aggregator, perhaps a downsample, and a metric, with a `:` between them, and then the filters; or the first fault from the left.
abbrev pub sub_of : Bool → List ℕ → Result Sub QueryFault
sub_of ms text = sub_from ms text (colon_of text)

-- the sub query that is asked, or the fault; want of memory may always be told
abbrev pub GivesSub : Result Sub QueryFault → Result Sub QueryFault → Type 0
GivesSub (Ok sub) asked = asked ≡ Ok sub
GivesSub (Err OutOfMemory) asked = Unit {0}
GivesSub (Err fault) asked = asked ≡ Err fault

-- an interval, where there is a downsample
abbrev pub CanDown : Bool → Sub → Type 0
CanDown ms sub = IfSome sub.down (λ down. IsInterval ms down.interval)
