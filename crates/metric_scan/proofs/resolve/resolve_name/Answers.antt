use Rattle.std.proofs.Common.{List, [], ◌∷◌, ℕ, sym, subst}
use Rattle.metric_scan.specs.declared.fault.AskFault.TheVariants.{Unknown}
use Rattle.metric_scan.specs.ResolvedIds.{IsUnresolved}
use Rattle.metric_scan.proofs.NameIds.{name_unknown}
use Rattle.metric_scan.proofs.resolve.resolve_name.Goals as goal

pub returns-in-Ok-again-clause-says : goal.returns-in-Ok-again-clause-says
returns-in-Ok-again-clause-says g c =
    let made = rw c.in-Err-Unknown.field-0-is at c.in-Err-Unknown.ensures.made in
    subst (λ (n : List ℕ). IsUnresolved (g.R.Rows.seen c.args.names.now.rows) ((c.args.kind, c.args.name.now) ∷ []) (Unknown c.in-Err-Unknown.kind n) (g.R.Rows.seen c.resolve.new.self.rows)) (sym c.in-Ok-again.ensures.same)
    (name_unknown _ _ c.args.kind c.in-Err-Unknown.kind c.args.name.now made)
