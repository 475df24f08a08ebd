-- What an object says of a filter, as the code holds it.
use Rattle.std.specs.Prelude.{List, map}
use Rattle.query_requests.specs.declared.json_filters.JsonFilter.{JsonFilter}
use Rattle.query_requests.specs.JsonFilters.{FilterParts}

abbrev pub parts_seen : JsonFilter → FilterParts
parts_seen f = record { key = f.key.now; kind = f.kind.now; names = f.names.now; group = f.group }

abbrev pub all_seen : List JsonFilter → List FilterParts
all_seen fs = map parts_seen fs
