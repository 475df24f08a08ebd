use Rattle.std.proofs.Common.{List, ℕ, ◌∷◌, ap, sym}
use Rattle.std.specs.Option.{option_map}
use Rattle.cell_listing.specs.Grammar.{four_of}
use Rattle.cell_listing.proofs.Parts.{parts_last, parts_two}
use Rattle.cell_listing.proofs.line_words.words_to.Goals as goal

pub returns-in-Some : goal.returns-in-Some
returns-in-Some c =
    let parts = parts_two 32 c.args.text.now c.cut.result.0.now (option_map (λ r. r.now) c.cut.result.1) c.cut.ensures.before c.cut.ensures.behind c.in-Some.field-0.now (ap (option_map (λ r. r.now)) c.in-Some.is) in
    sym (ap (λ (ps : List (List ℕ)). four_of (c.args.table.now ∷ c.args.row.now ∷ c.args.qual.now ∷ ps)) parts.2)

pub returns-in-None : goal.returns-in-None
returns-in-None c =
    let parts = parts_last 32 c.args.text.now c.cut.result.0.now (option_map (λ r. r.now) c.cut.result.1) c.cut.ensures.before c.cut.ensures.behind (ap (option_map (λ r. r.now)) c.in-None.is) in
    sym (ap (λ (ps : List (List ℕ)). four_of (c.args.table.now ∷ c.args.row.now ∷ c.args.qual.now ∷ ps)) parts)
