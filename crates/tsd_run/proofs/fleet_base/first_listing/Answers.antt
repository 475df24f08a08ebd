use Rattle.std.proofs.Common.{◌≡◌, true, false, rules}
use Rattle.row_key.proofs.CallerLemmas.{has_three}
use Rattle.tsd_run.proofs.FleetLemmas.{base_empty, begins_empty, begins_loaded, none_made}
use Rattle.tsd_run.proofs.fleet_base.first_listing.Goals as goal

pub returns-then-not-image-clause-begins : goal.returns-then-not-image-clause-begins
returns-then-not-image-clause-begins g c =
    let none : c.args.image ≡ false = search rules in
    begins_empty c.args.image _ c.none.result none (none_made c.none.result c.three.result c.none.ensures (has_three c.three.result c.three.ensures))

pub returns-then-not-image-clause-base : goal.returns-then-not-image-clause-base
returns-then-not-image-clause-base g c = base_empty c.none.result (none_made c.none.result c.three.result c.none.ensures (has_three c.three.result c.three.ensures))

pub returns-in-Ok-clause-begins : goal.returns-in-Ok-clause-begins
returns-in-Ok-clause-begins g c =
    let so : c.args.image ≡ true = search rules in
    begins_loaded c.args.image _ _ _ _ c.in-Ok.listing so c.in-Ok.ensures.loads
