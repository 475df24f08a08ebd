use Rattle.std.proofs.Common.{ap, subst, ◌∙◌}
use Rattle.cell_model.specs.Ranges.{SameMetric}
use Rattle.row_scan.specs.Scans.{Left}
use Rattle.cell_laws.proofs.CallerLemmas.{nothing_waited}
use Rattle.row_scan.proofs.Turning.{none_made, one_made, range_there, behind_short, behind_metric}
use Rattle.row_scan.proofs.scan.Scan.turn.Goals as goal

pub returns-in_err-from-clause-made : goal.returns-in_err-from-clause-made
returns-in_err-from-clause-made g c = none_made c.args.self.now _ _ c.from_residual.result c.from_residual.ensures.0 (nothing_waited (g.R.Rows.seen c.args.rows.now)) (λ p. p)

pub next_row-requires : goal.next_row-requires
next_row-requires g c = record {
  range = range_there _ c.args.self.now _ _ c.requires (c.in_ok-from.ensures.made ∙ c.as_slice.ensures.value ∙ ap (λ (l : Left). l.from) c.self.view_is) (ap (λ (l : Left). l.to) c.self.view_is) (subst (λ (l : Left). SameMetric l.widths l.from l.to) c.self.view_is c.self.invariant);
}

pub returns-in_err-found-clause-made : goal.returns-in_err-found-clause-made
returns-in_err-found-clause-made g c = none_made c.args.self.now _ _ c.from_residual-in_err-found.result c.from_residual-in_err-found.ensures.0 c.in_err-found.ensures.err c.in_err-found.ensures.lives

pub go_behind-requires-clause-short : goal.go_behind-requires-clause-short
go_behind-requires-clause-short g c = behind_short _ _ _ _ _ _ c.in-Some.found c.in-Some.is c.list.ensures c.in_ok-found.ensures.ok c.in_ok-found.ensures.possible

pub go_behind-requires-clause-metric : goal.go_behind-requires-clause-metric
go_behind-requires-clause-metric g c =
    behind_metric c.args.self.now _ _ _ _ _ _ c.in-Some.found (subst (λ (l : Left). SameMetric l.widths l.from l.to) c.self.view_is c.self.invariant)
    (c.in_ok-from.ensures.made ∙ c.as_slice.ensures.value ∙ ap (λ (l : Left). l.from) c.self.view_is) (ap (λ (l : Left). l.to) c.self.view_is) c.in-Some.is c.list.ensures c.in_ok-found.ensures.ok c.in_ok-found.ensures.possible

pub returns-clause-made : goal.returns-clause-made
returns-clause-made g c =
    one_made c.args.self.now _ _ _ _ c.in_ok-found.found
    (c.in_ok-from.ensures.made ∙ c.as_slice.ensures.value ∙ ap (λ (l : Left). l.from) c.self.view_is) (ap (λ (l : Left). l.to) c.self.view_is) c.in_ok-found.ensures.ok c.in_ok-found.ensures.possible
