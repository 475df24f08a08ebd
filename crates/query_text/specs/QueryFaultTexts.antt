-- What is told of what is no query.
use Rattle.std.specs.Prelude.{ℕ, List, [], ◌++◌, codes, decimal}
use Rattle.query_text.specs.declared.queries.QueryFault.{QueryFault}
use Rattle.query_text.specs.declared.queries.QueryFault.TheVariants as query

-- want of memory isn't told
abbrev pub query_fault_text : QueryFault → List ℕ
query_fault_text (query.BadM at) = codes "bad query at byte " ++ decimal at
query_fault_text query.UnknownAggregator = codes "unknown aggregator"
query_fault_text query.RateRefused = codes "rate is not supported"
query_fault_text query.BadDownsample = codes "bad downsample"
query_fault_text (query.BadFilter index) = codes "bad filter " ++ decimal index
query_fault_text query.BadTimes = codes "bad times"
query_fault_text query.BadQuery = codes "bad request"
query_fault_text (query.TooManyQueries count) = decimal count ++ codes " queries (16 at most)"
query_fault_text query.OutOfMemory = []
