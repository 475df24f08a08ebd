use Rattle.std.proofs.Common.{◌∙◌, ◌∷◌, ◌+◌, sym, ap, drop, map}
use Rattle.std.proofs.lemmas.List.{drop_more}
use Rattle.http_series.specs.SeriesRequests.{all_named}
use Rattle.http_series.proofs.FaultLemmas.{name_more}
use Rattle.http_series.proofs.last_request.all_named.Goals as goal

pub loop-text-preserved : goal.loop-text-preserved
loop-text-preserved c =
    let l = c.loop-text in
    name_more l.series.items c.push.new.self.items (map (λ text. text.now) (drop l.text-index c.args.texts.now)) (map (λ text. text.now) (drop (l.text-index + 1) c.args.texts.now)) c.as_bytes.result.now c.in_ok-one.one (all_named (map (λ text. text.now) c.args.texts.now))
    (ap (map (λ text. text.now)) (drop_more c.args.texts.now l.text-index _ c.loop-text-test.true) ∙ ap (λ t. t ∷ map (λ text. text.now) (drop (l.text-index + 1) c.args.texts.now)) (sym c.as_bytes.ensures.value))
    c.in_ok-one.ensures c.in_ok-push.ensures.items l.invariant
