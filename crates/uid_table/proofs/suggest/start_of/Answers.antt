use Rattle.std.proofs.Common.{◌<◌}
use Rattle.std.proofs.lemmas.List.Elements.{All-from_get_or}
use Rattle.uid_table.proofs.ByteOrder.{outside_of, starts_of}
use Rattle.uid_table.proofs.suggest.start_of.Goals as goal

pub returns-then-first-low : goal.returns-then-first-low
returns-then-first-low c = outside_of c.args.prefix.now c.in-Some.field-0.now c.args.low c.args.high c.in-Some.ensures.value c.then-first-low.either

pub returns-in_ok-start-in-Some : goal.returns-in_ok-start-in-Some
returns-in_ok-start-in-Some c =
    let short = c.if-prefix-gt-LONGEST_NAME.false in
    let bytes = All-from_get_or (λ b. b < 256) c.args.prefix.now 0 (λ i lt. (c.type_inv.prefix i).fits) in
    starts_of c.args.prefix.now c.in_ok-start-in-Some.start c.in-Some.field-0.now c.args.low c.args.high c.in-Some.ensures.value c.if-first-low.false c.if-high-first.false short bytes c.in_ok-start-in-Some.ensures.made
