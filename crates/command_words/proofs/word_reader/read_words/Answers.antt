use Rattle.std.proofs.Common.{◌∙◌, map}
use Rattle.std.specs.Prelude.{string_bytes}
use Rattle.clap.specs.Simple.{app_of, subcommand_rows_of}
use Rattle.command_words.proofs.ReadLemmas.{refused, taken}
use Rattle.command_words.proofs.word_reader.read_words.Goals as goal

pub returns-in-Ok-clause-asked : goal.returns-in-Ok-clause-asked
returns-in-Ok-clause-asked c =
    c.asked_in.ensures.asked ∙ taken (app_of c.in_ok-grammar.grammar) c.in_ok-grammar.ensures (map string_bytes c.args.words.now) (subcommand_rows_of c.in-Ok.matches) c.in-Ok.ensures.matches c.in-Ok.ensures.kinds

pub returns : goal.returns
returns c = record {
  asked = refused (app_of c.in_ok-grammar.grammar) c.in_ok-grammar.ensures (map string_bytes c.args.words.now) c.in-Err.error (λ memory. c.in_default.not-OutOfMemory (c.kind.ensures ∙ memory)) c.in-Err.ensures.kinds;
  range = tt;
}
