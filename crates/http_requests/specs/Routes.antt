-- The routes of the requests.
use Rattle.std.specs.Prelude.{◌≡◌, ℕ, false, List, [], ◌∷◌, map, codes, Option, Ok}
use Rattle.matchit.specs.Rows.{RowsOf}
use Rattle.matchit.specs.Order.{lookup}
use Rattle.matchit.specs.Route.{outside, parse_route}
use Rattle.matchit.specs.Router.{RouteOf}
use Rattle.http_requests.specs.declared.routes.Route.{Route}
use Rattle.http_requests.specs.declared.routes.Route.TheVariants.{Aggregators, Put, Query, Last, Lookup, Suggest, Assign, Version}

-- each path with its route, in the order of the router's rows
abbrev pub route_table : RowsOf Route
route_table =
    (codes "/api/aggregators", Aggregators)
    ∷ (codes "/api/put", Put)
    ∷ (codes "/api/query/last", Last)
    ∷ (codes "/api/query", Query)
    ∷ (codes "/api/search/lookup", Lookup)
    ∷ (codes "/api/suggest", Suggest)
    ∷ (codes "/api/uid/assign", Assign)
    ∷ (codes "/api/version", Version)
    ∷ []

-- the rows of a router with their values alone
abbrev pub valued : RowsOf (RouteOf Route) → RowsOf Route
valued rows = map (λ r. (r.0, r.1.value)) rows

-- the route whose path this is
unfoldable pub route_of : List ℕ → Option Route
route_of path = lookup path route_table

-- a path that reads as itself, without parameters
abbrev pub IsLiteral : List ℕ → Type 0
IsLiteral path = parse_route path ≡ Ok (record { pattern = path; text = path; names = []; name_start = 0; catch_all = false; mode = outside })

-- the row of such a path
abbrev pub literal_row : List ℕ → Route → List ℕ × RouteOf Route
literal_row path route = (path, record { pattern = path; text = path; names = []; value = route })
