use Rattle.std.proofs.Common.{◌≤◌, ◌++◌, ◌∙◌, map, length, get_or, pos, sym, ap, FitsSigned, w64, rules}
use Rattle.std.proofs.lemmas.Int.{to_z-of_z}
use Rattle.std.proofs.lemmas.List.{get_or_default, take_all}
use Rattle.json_reply.specs.Texts.{dot_text, listed}
use Rattle.json_reply.proofs.Listing.{listed_more}
use Rattle.json_reply.proofs.Rising.{under_text, keyed_rising, rises_more, rises_all}
use Rattle.json_reply.proofs.json_text.write_rising.Goals as goal

pub loop-index-preserved : goal.loop-index-preserved
loop-index-preserved c =
    let dots = c.args.dots.now in
    let dot = get_or dots c.loop-index.index (0, pos 0) in
    let fits : FitsSigned w64 dot.1 = search rules in
    let value_is = to_z-of_z w64 dot.1 fits in
    let written = c.in_ok-write_dot.ensures ∙ (λ k. c.write_comma.new.out.items ++ dot_text (c.in_ok-text.ensures k, value_is k)) in (
      listed_more dot_text (under_text c.args.ms) dots c.loop-index.index dot _ _ _ _ c.loop-index-test.true (get_or_default dots c.loop-index.index (0, pos 0) dot c.loop-index-test.true) c.loop-index.invariant.0 c.in_ok-write_comma.ensures written,
      rises_more c.args.ms dots dots c.loop-index.last c.in_ok-text.text c.loop-index.index (0, pos 0) c.loop-index-test.true c.in_ok-text.ensures c.loop-index.invariant.1 c.if-le.ensures,
    )

pub returns-clause-all : goal.returns-clause-all
returns-clause-all c rose =
    let ms = c.args.ms in
    let dots = c.args.dots.now in
    let i = c.loop-index.index in
    let end : length dots ≤ i = search rules in
    let rise = rises_all ms dots dots c.loop-index.last i end c.loop-index.invariant.1 in
    c.loop-index.invariant.0 ∙ ap (λ entries. c.args.out.now.items ++ listed (map dot_text entries)) (ap (map (under_text ms)) (take_all i dots end) ∙ sym (keyed_rising ms dots rise))
