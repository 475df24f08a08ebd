use Rattle.std.proofs.Common.{refl, sym, subst}
use Rattle.row_key.specs.declared.widths.Widths.{Widths}
use Rattle.row_key.specs.Key.{IsKey}
use Rattle.metric_scan.specs.IdFilters.{passes}
use Rattle.metric_scan.specs.KeyJumps.{JumpsOver}
use Rattle.metric_scan.proofs.SkipSteps.{stays_there, same_metric, forward, goes_behind}
use Rattle.metric_scan.proofs.metric_rows.pass_over.Goals as goal

pub jump-requires : goal.jump-requires
jump-requires c = subst (λ (w : Widths). IsKey w c.args.key.now) (sym c.widths.ensures) c.requires.key

pub skip_to-requires-clause-key : goal.skip_to-requires-clause-key
skip_to-requires-clause-key c = subst (λ (w : Widths). IsKey w c.in-Some.target) c.widths.ensures c.in-Some.ensures.is_key

pub skip_to-requires-clause-metric : goal.skip_to-requires-clause-metric
skip_to-requires-clause-metric c = same_metric c.args.scan.now.widths c.args.key.now c.in-Some.target c.args.scan.now.from c.in-Some.ensures.metric_is c.requires.behind

pub skip_to-requires-clause-forward : goal.skip_to-requires-clause-forward
skip_to-requires-clause-forward c =
    let jumps = subst (λ (w : Widths). JumpsOver w (passes c.args.filters.now) c.args.key.now c.in-Some.target) c.widths.ensures c.in-Some.ensures in
    forward c.args.scan.now.widths (passes c.args.filters.now) c.args.key.now c.in-Some.target c.args.scan.now.from c.requires.key jumps c.requires.behind

pub returns-in-Some : goal.returns-in-Some
returns-in-Some c =
    let jumps = subst (λ (w : Widths). JumpsOver w (passes c.args.filters.now) c.args.key.now c.in-Some.target) c.widths.ensures c.in-Some.ensures in
    goes_behind c.args.scan.now.widths (passes c.args.filters.now) c.args.key.now c.in-Some.target c.args.scan.now.from c.requires.key jumps c.requires.behind c.args.scan.now c.skip_to.new.self refl refl c.skip_to.ensures

pub returns-in_default : goal.returns-in_default
returns-in_default c = stays_there (passes c.args.filters.now) c.args.scan.now
