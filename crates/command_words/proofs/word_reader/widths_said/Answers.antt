use Rattle.std.proofs.Common.{ℕ, List, sym, ap, ◌∙◌}
use Rattle.std.specs.Borrow.{Bor}
use Rattle.std.specs.Prelude.{Option, Some}
use Rattle.command_words.specs.PlainAsked.{plain_pattern}
use Rattle.command_words.specs.WidthWords.{widths_said}
use Rattle.row_key.proofs.CallerLemmas.{has_three}
use Rattle.command_words.proofs.word_reader.widths_said.Goals as goal

pub returns-in-None : goal.returns-in-None
returns-in-None c = ap Some (has_three c.three.result c.three.ensures) ∙ ap (λ (t : Option (Bor (List ℕ))). widths_said (plain_pattern t)) (sym c.in-None.is)
