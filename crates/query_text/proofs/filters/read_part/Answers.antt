use Rattle.std.proofs.Common.{◌∙◌, ◌+◌, ℕ, List, length, take, sym, ap}
use Rattle.std.proofs.lemmas.List.{take_rest}
use Rattle.query_text.specs.Cuts.{place_of}
use Rattle.query_text.specs.FilterTexts.{filters_in}
use Rattle.query_text.proofs.FilterParts.{part_read}
use Rattle.query_text.proofs.filters.read_part.Goals as goal

pub returns-clause-part : goal.returns-clause-part
returns-clause-part c =
    let g = c.in_ok-add_filters.ensures {u = tt} in
    let rest = take_rest c.args.text.now (c.args.at + 1) in
    let filters = sym (ap (λ (text : List ℕ). filters_in c.args.group (length c.args.filters.now.items) (take c.in-Some.len text)) rest) ∙ g.1 in
    (g.0, part_read c.args.group (length c.args.filters.now.items) c.args.text.now c.args.at c.in-Some.len g.0 (c.in-Some.ensures.place ∙ ap (place_of 125) rest) filters, g.2)
