use Rattle.std.proofs.Common.{rules, ◌≡◌, true, false, bytes_eq, codes}
use Rattle.put_bodies.proofs.MemberTurns as turns
use Rattle.put_bodies.proofs.element_scan.with_value.Goals as goal

pub returns-then-eq : goal.returns-then-eq
returns-then-eq c front words j of has =
    let same : bytes_eq c.args.key.now (codes "metric") ≡ true = search rules in
    turns.with_metric front words c.args.key.now j c.args.parts has c.text_of-metric.result same (c.text_of-metric.ensures j of)

pub returns-then-eq-2 : goal.returns-then-eq-2
returns-then-eq-2 c front words j of has =
    let same : bytes_eq c.args.key.now (codes "timestamp") ≡ true = search rules in
    turns.with_time front words c.args.key.now j c.args.parts has c.time_word-time.result same (c.time_word-time.ensures j of)

pub returns-then-eq-3 : goal.returns-then-eq-3
returns-then-eq-3 c front words j of has =
    let same : bytes_eq c.args.key.now (codes "value") ≡ true = search rules in
    turns.with_value front words c.args.key.now j c.args.parts has c.value_word-value.result same (c.value_word-value.ensures j of)

pub returns-else-eq-3 : goal.returns-else-eq-3
returns-else-eq-3 c front words j of has =
    let metric : bytes_eq c.args.key.now (codes "metric") ≡ false = search rules in
    let time : bytes_eq c.args.key.now (codes "timestamp") ≡ false = search rules in
    let value : bytes_eq c.args.key.now (codes "value") ≡ false = search rules in
    turns.with_other front words c.args.key.now j c.args.parts has metric time value c.requires
