-- A call whose route doesn't ask the clock asks for the same at every moment.
use Rattle.std.proofs.Common.{◌≡◌, ℕ, false, List, refl, sym, ap, ◌∙◌, Option, Some, None}
use Rattle.http_requests.specs.declared.http_call.Call.{Call}
use Rattle.http_requests.specs.declared.http_call.Refusal.{Refusal}
use Rattle.http_requests.specs.declared.http_call.Verb.{Verb}
use Rattle.http_requests.specs.declared.http_call.Verb.TheVariants.{Get, Post, Other}
use Rattle.http_requests.specs.Routes.{route_of}
use Rattle.http_requests.specs.declared.routes.Route.{Route}
use Rattle.http_requests.specs.declared.routes.Route.TheVariants as route
use Rattle.http_api.specs.CallWork.{asks_clock, asks_moment, by_refusal, by_route, by_verb, got_by, posted_by, route_unless, work_of}

got_alike : (a b : ℕ) (r : Route) (form : List ℕ) → asks_moment (Some r) ≡ false → got_by a r form ≡ got_by b r form
got_alike a b route.Aggregators form other = refl
got_alike a b route.Put form other = refl
got_alike a b route.Query form other = absurd (cc)
got_alike a b route.Last form other = absurd (cc)
got_alike a b route.Lookup form other = refl
got_alike a b route.Suggest form other = refl
got_alike a b route.Assign form other = refl
got_alike a b route.Version form other = refl

posted_alike : (a b : ℕ) (r : Route) (form body : List ℕ) → asks_moment (Some r) ≡ false → posted_by a r form body ≡ posted_by b r form body
posted_alike a b route.Aggregators form body other = refl
posted_alike a b route.Put form body other = refl
posted_alike a b route.Query form body other = absurd (cc)
posted_alike a b route.Last form body other = absurd (cc)
posted_alike a b route.Lookup form body other = refl
posted_alike a b route.Suggest form body other = refl
posted_alike a b route.Assign form body other = refl
posted_alike a b route.Version form body other = refl

verbs_alike : (a b : ℕ) (verb : Verb) (r : Route) (call : Call) → asks_moment (Some r) ≡ false → by_verb a verb r call ≡ by_verb b verb r call
verbs_alike a b Get r call other = got_alike a b r call.form other
verbs_alike a b Post r call other = posted_alike a b r call.form call.body other
verbs_alike a b Other r call other = refl

routes_alike : (a b : ℕ) (found : Option Route) (call : Call) → asks_moment found ≡ false → by_route a found call ≡ by_route b found call
routes_alike a b None call other = refl
routes_alike a b (Some r) call other = verbs_alike a b call.verb r call other

pub work_alike : (call : Call) → asks_clock call ≡ false → (a b : ℕ) → work_of a call ≡ work_of b call
unfolding work_of
work_alike call other a b = by call.refused refl
  where
    by : (refused : Option Refusal) → call.refused ≡ refused → by_refusal a refused call ≡ by_refusal b refused call
    by (Some refusal) is = refl
    by None is = routes_alike a b (route_of call.path) call (ap (λ r. asks_moment (route_unless r call.path)) (sym is) ∙ other)
