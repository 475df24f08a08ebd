use Rattle.std.proofs.Common.{ℕ, List, true, subst, ◌≡◌}
use Rattle.tsd_base.specs.Digits.{is_number}
use Rattle.command_words.proofs.ReadLemmas.{no_seed}
use Rattle.command_words.proofs.word_reader.seed_of.Goals as goal

pub returns-in-Err : goal.returns-in-Err
returns-in-Err c = no_seed c.args.text.now c.in-Err._error (subst (λ (t : List ℕ). is_number t ≡ true) c.as_bytes.ensures.value c.in_ok-read_digits.ensures.0) c.in-Err.ensures.value.0
