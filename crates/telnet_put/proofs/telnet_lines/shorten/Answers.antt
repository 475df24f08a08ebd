use Rattle.std.proofs.Common.{◌++◌, ◌-◌, ap, arith, drop, length, ◌∙◌}
use Rattle.line_stream.specs.declared.line.TheConstants.{LONGEST_LINE}
use Rattle.telnet_put.specs.Requests.{requests_of}
use Rattle.telnet_put.proofs.RequestLemmas.{requests_shortened}
use Rattle.telnet_put.proofs.telnet_lines.shorten.Goals as goal

pub returns-then-len-gt-LONGEST_LINE-clause-same : goal.returns-then-len-gt-LONGEST_LINE-clause-same
returns-then-len-gt-LONGEST_LINE-clause-same c =
    let bytes = c.args.buffer.now in
    let size = ap length c.bytes-len.ensures in
    let long = c.if-len-gt-LONGEST_LINE.true in
    λ more. ap (λ xs. requests_of (xs ++ more)) (c.skip.ensures ∙ ap (λ n. drop (n - LONGEST_LINE - 1) bytes) size) ∙ requests_shortened bytes c.requires (omega (arith, size, long)) more
