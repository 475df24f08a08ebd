use Rattle.std.proofs.Common.{length, sym, ap, subst, ◌∙◌, arith}
use Rattle.row_key.specs.Key.{key_bytes}
use Rattle.cell_model.specs.Ranges.{SameMetric}
use Rattle.row_scan.specs.Scans.{Left}
use Rattle.row_scan.proofs.Lower.{key_fits}
use Rattle.row_scan.proofs.Turning.{metric_passed_on}
use Rattle.row_scan.proofs.scan.Scan.skip_to.Goals as goal

pub held-self-inside-requires : goal.held-self-inside-requires
held-self-inside-requires c =
    let short = key_fits c.args.self.now.widths c.args.key.now c.requires.key in
    let same = ap length (c.as_slice.ensures.value ∙ c.write_key-row.ensures) in
    omega (arith, short, same)

pub invariant_of-self : goal.invariant_of-self
invariant_of-self c =
    metric_passed_on c.self.inside.widths (key_bytes c.self.inside.widths c.args.key.now) _ c.self.inside.from.items c.self.inside.to (c.held-self-inside.ensures ∙ c.as_slice.ensures.value ∙ c.write_key-row.ensures)
    (subst (λ (l : Left). SameMetric l.widths (key_bytes l.widths c.args.key.now) l.from) (sym c.self.view_is) c.requires.metric) c.self.invariant
