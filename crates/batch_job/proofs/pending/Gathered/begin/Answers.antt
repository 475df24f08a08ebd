use Rattle.std.proofs.Common.{◌≡◌, ◌∷◌, [], ℤ, List, FitsSigned, rules, ap, ◌∙◌, subst, sym, w64}
use Rattle.std.proofs.lemmas.Int.{to_z-of_z}
use Rattle.batch_job.specs.AddedTexts.{AddsValue}
use Rattle.batch_job.specs.PendingSeries.{KeepTexts, all_values}
use Rattle.batch_job.specs.SeriesValues.{SeriesEntry, values_in}
use Rattle.batch_job.specs.SeriesTexts.{IsKnownBy}
use Rattle.batch_job.proofs.HeldSeries.{begun_adds, begun_texts}
use Rattle.batch_job.proofs.pending.Gathered.begin.Goals as goal

pub invariant_of-self-2 : goal.invariant_of-self-2
invariant_of-self-2 c =
    subst KeepTexts (sym c.in_ok-insert.ensures.entries)
    (begun_texts c.self.inside.series c.args.series c.in_ok-pending.pending (ap (λ (es : List SeriesEntry). values_in es c.args.series) c.self.view_is ∙ c.requires.new) c.self.invariant
    (subst (IsKnownBy c.args.series) (sym c.in_ok-pending.ensures.text) c.requires.known))

pub returns-clause-adds : goal.returns-clause-adds
returns-clause-adds c =
    let fits : FitsSigned w64 c.args.value = search rules in
    let pending = c.in_ok-pending.pending in
    let values = subst (λ (v : ℤ). pending.values ≡ (c.args.time, v) ∷ []) (to_z-of_z w64 c.args.value fits) c.in_ok-pending.ensures.values in
    subst (λ (es : List SeriesEntry). AddsValue c.args.series [] (c.args.time, c.args.value) es (all_values c.insert.new.self.entries)) c.self.view_is
    (begun_adds c.self.inside.series c.insert.new.self c.args.series pending (c.args.time, c.args.value) c.in_ok-insert.ensures.updates values)
