use Rattle.std.proofs.Common.{rules}
use Rattle.put_bodies.proofs.ScanLemmas.{string_cut}
use Rattle.put_bodies.proofs.text_scan.string_inside.Goals as goal

pub returns-then-end-eq34-clause-lexeme : goal.returns-then-end-eq34-clause-lexeme
returns-then-end-eq34-clause-lexeme c =
    string_cut c.args.inside.now c.split_at.result.0.now c.split_at.result.1.now c.in_ok-end.rest.now c.string_len.result c.in_ok-end.end.now c.string_len.ensures.place
    c.split_at.ensures.front c.split_at.ensures.back c.in_ok-end.ensures.cases.0 (search rules)
