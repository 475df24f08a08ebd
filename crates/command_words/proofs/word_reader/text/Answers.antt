use Rattle.std.proofs.Common.{◌≡◌, ℕ, List, ap, subst, ◌∙◌}
use Rattle.std.specs.Borrow.{Bor}
use Rattle.std.specs.Prelude.{Option, Some, option_map}
use Rattle.clap.specs.Matches.{found_of}
use Rattle.clap.specs.Walk.{first_of, rows_of}
use Rattle.command_words.proofs.word_reader.text.Goals as goal

pub returns-in-Some : goal.returns-in-Some
returns-in-Some c =
    ap Some c.as_bytes.ensures.value ∙ subst (λ (o : Option (Bor (List ℕ))). option_map (λ s. s.now) o ≡ first_of c.args.id.now (rows_of (found_of c.args.words.now))) c.in-Some.is c.said.ensures

pub returns-in-None : goal.returns-in-None
returns-in-None c = subst (λ (o : Option (Bor (List ℕ))). option_map (λ s. s.now) o ≡ first_of c.args.id.now (rows_of (found_of c.args.words.now))) c.in-None.is c.said.ensures
