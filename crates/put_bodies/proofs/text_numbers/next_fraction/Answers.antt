use Rattle.put_bodies.proofs.TextNumberLemmas.{cut_lexed}
use Rattle.put_bodies.proofs.text_numbers.next_fraction.Goals as goal

pub returns-then-ends_word-clause-lexeme : goal.returns-then-ends_word-clause-lexeme
returns-then-ends_word-clause-lexeme c =
    cut_lexed c.args.text.now c.split_at.result.0.now c.split_at.result.1.now c.number_len.result c.split_at.ensures.front c.split_at.ensures.back (c.is_fraction.ensures c.if-is_fraction.true).0 (c.ends_word.ensures c.if-ends_word.true)
