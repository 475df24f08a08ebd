use Rattle.std.proofs.Common.{◌+◌, ◌++◌, ◌∙◌, ap, drop, sym}
use Rattle.telnet_put.specs.Requests.{requests_of}
use Rattle.telnet_put.proofs.RequestLemmas.{blank_turn, found_next, front_turn, none_of}
use Rattle.telnet_put.proofs.telnet_lines.Lines.find.Goals as goal

pub returns-in_default : goal.returns-in_default
returns-in_default c =
    let i = c.loop-self.self-inside in
    let same = c.in_default.ensures.same in
    front_turn c.args.self.now i.buffer i.closed c.loop-self.invariant c.loop-self-test.true c.shorten.new.buffer c.in_default.ensures.end (λ more. c.shorten.ensures.same more ∙ ap (λ xs. requests_of (xs ++ more)) same) c.shorten.ensures.few

pub returns-then-asks : goal.returns-then-asks
returns-then-asks c =
    let i = c.loop-self.self-inside in
    found_next c.args.self.now i.buffer i.closed c.loop-self.invariant c.loop-self-test.true c.line_end.new.self c.bytes.result.now c.in-Some.end c.in-Some.ensures.end c.in-Some.ensures.same c.bytes.ensures (sym c.asks.ensures ∙ c.if-asks.true)

pub loop-self-preserved : goal.loop-self-preserved
loop-self-preserved c =
    let i = c.loop-self.self-inside in
    let same = c.in-Some.ensures.same in
    blank_turn c.args.self.now i.buffer i.closed c.loop-self.invariant c.loop-self-test.true c.bytes.result.now c.skip.new.self c.in-Some.end c.in-Some.ensures.end (c.bytes.ensures ∙ same) (c.skip.ensures ∙ ap (drop (c.in-Some.end + 1)) same)
    (none_of _ (sym c.asks.ensures ∙ c.if-asks.false))
