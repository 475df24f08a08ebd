use Rattle.put_bodies.proofs.TextNumberLemmas.{whole_cut}
use Rattle.put_bodies.proofs.text_numbers.next_whole.Goals as goal

pub returns-then-ends_word-clause-lexeme : goal.returns-then-ends_word-clause-lexeme
returns-then-ends_word-clause-lexeme c =
    (whole_cut c.args.text.now c.split_at.result.0.now c.split_at.result.1.now c.digits_len.result c.digits_len.ensures.place c.split_at.ensures.front c.split_at.ensures.back (c.is_whole.ensures c.if-is_whole.true) (c.ends_word.ensures c.if-ends_word.true)).0

pub returns-then-ends_word-clause-whole : goal.returns-then-ends_word-clause-whole
returns-then-ends_word-clause-whole c =
    (whole_cut c.args.text.now c.split_at.result.0.now c.split_at.result.1.now c.digits_len.result c.digits_len.ensures.place c.split_at.ensures.front c.split_at.ensures.back (c.is_whole.ensures c.if-is_whole.true) (c.ends_word.ensures c.if-ends_word.true)).1
