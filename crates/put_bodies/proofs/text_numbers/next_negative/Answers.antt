use Rattle.std.proofs.Common.{rules}
use Rattle.std.proofs.lemmas.List.{take_rest}
use Rattle.put_bodies.proofs.TextNumberLemmas.{negative_cut}
use Rattle.put_bodies.proofs.text_numbers.next_negative.Goals as goal

pub returns-then-ends_word-clause-lexeme : goal.returns-then-ends_word-clause-lexeme
returns-then-ends_word-clause-lexeme c =
    (negative_cut c.args.text.now c.in_ok-sign.behind.now c.split_at.result.0.now c.split_at.result.1.now _ c.in_ok-sign.sign.now c.digits_len.result c.in_ok-sign.ensures.cases.0 c.if-sign-eq45.true c.digits_len.ensures.place
    (search rules) (search rules) (take_rest c.split_at.result.0.now 1) (c.is_below.ensures c.if-is_below.true) (c.ends_word.ensures c.if-ends_word.true)).0

pub returns-then-ends_word-clause-negative : goal.returns-then-ends_word-clause-negative
returns-then-ends_word-clause-negative c =
    (negative_cut c.args.text.now c.in_ok-sign.behind.now c.split_at.result.0.now c.split_at.result.1.now _ c.in_ok-sign.sign.now c.digits_len.result c.in_ok-sign.ensures.cases.0 c.if-sign-eq45.true c.digits_len.ensures.place
    (search rules) (search rules) (take_rest c.split_at.result.0.now 1) (c.is_below.ensures c.if-is_below.true) (c.ends_word.ensures c.if-ends_word.true)).1
