use Rattle.std.proofs.Common.{◌∙◌, sym, ap, refl}
use Rattle.std.specs.Option.{option_map}
use Rattle.matchit.specs.Router.{RouteOf}
use Rattle.http_requests.specs.Routes.{route_table, route_of}
use Rattle.http_requests.specs.declared.routes.Route.{Route}
use Rattle.http_requests.proofs.Literals.{finds, finds_no}
use Rattle.http_requests.proofs.routes.route_of.Goals as goal

-- src/routes.rt:39:9
pub returns-in_default : goal.returns-in_default
unfolding route_of
returns-in_default c = sym (finds_no c.args.path.now route_table c.in_default.ensures.cases.0 refl)

-- src/routes.rt:34:1
pub returns-in-Ok-at : goal.returns-in-Ok-at
unfolding route_of
returns-in-Ok-at c =
    let same = rw c.in-Ok.ensures.cases.0 at c.in-Ok-at.ensures.found in
    sym (ap (option_map (λ (r : RouteOf Route). r.value)) same) ∙ finds (λ (r : RouteOf Route). r.value) c.args.router.now route_table c.args.path.now c.requires refl

-- src/routes.rt:34:1
pub returns-in-Err : goal.returns-in-Err
unfolding route_of
returns-in-Err c =
    let same = rw c.in-Ok.ensures.cases.0 at c.in-Err.ensures.missing in
    sym (ap (option_map (λ (r : RouteOf Route). r.value)) same) ∙ finds (λ (r : RouteOf Route). r.value) c.args.router.now route_table c.args.path.now c.requires refl
