use Rattle.std.proofs.Common.{refl, arith}
use Rattle.std.proofs.lemmas.List.{take_rest}
use Rattle.std.proofs.lemmas.Result.{err_from_is_err_and}
use Rattle.qual_codec.proofs.NextItem.{next_ok, next_err, two_fields, two_front, four_fields, four_front}
use Rattle.qual_codec.proofs.cell_reader.next_item.Goals as goal

pub returns-in_ok-item-in-len2-up-clause-item : goal.returns-in_ok-item-in-len2-up-clause-item
returns-in_ok-item-in-len2-up-clause-item c =
    let bytes = c.args.bytes.now in
    let front = two_front bytes _ c.from_be_bytes-number.result c.from-offset.result (λ i. omega (arith, c.type_inv.bytes i)) c.in-len2-up.len_at_least c.if-a-lt240.true c.from_be_bytes-number.ensures c.from-offset.ensures (take_rest bytes 2) in
    next_ok c.args.at c.args.least (two_fields c.from_be_bytes-number.result c.from-offset.result) bytes _ _ front.1 front.0 (c.in_ok-item-in-len2-up.ensures {u = tt})

pub returns-in_ok-item-in-len4-up-clause-item : goal.returns-in_ok-item-in-len4-up-clause-item
returns-in_ok-item-in-len4-up-clause-item c =
    let bytes = c.args.bytes.now in
    let n = c.from_be_bytes-number-in-len4-up in
    let front = four_front bytes _ n.result (λ i. omega (arith, c.type_inv.bytes i)) c.in-len4-up.len_at_least c.if-a-lt240.false n.ensures (take_rest bytes 4) in
    next_ok c.args.at c.args.least (four_fields n.result) bytes _ _ front.1 front.0 (c.in_ok-item-in-len4-up.ensures {u = tt})

pub returns-in_err-item-in-len2-up-clause-fault : goal.returns-in_err-item-in-len2-up-clause-fault
returns-in_err-item-in-len2-up-clause-fault c =
    let bytes = c.args.bytes.now in
    let front = two_front bytes _ c.from_be_bytes-number.result c.from-offset.result (λ i. omega (arith, c.type_inv.bytes i)) c.in-len2-up.len_at_least c.if-a-lt240.true c.from_be_bytes-number.ensures c.from-offset.ensures refl in
    let p = err_from_is_err_and c.from_residual.result c.from_residual.ensures.1 in
    rw (p.1, p.2) (next_err c.args.at c.args.least (two_fields c.from_be_bytes-number.result c.from-offset.result) bytes _ _ front.1 front.0 (c.in_err-item-in-len2-up.ensures {u = tt}))

pub returns-in_err-item-in-len4-up-clause-fault : goal.returns-in_err-item-in-len4-up-clause-fault
returns-in_err-item-in-len4-up-clause-fault c =
    let bytes = c.args.bytes.now in
    let n = c.from_be_bytes-number-in-len4-up in
    let front = four_front bytes _ n.result (λ i. omega (arith, c.type_inv.bytes i)) c.in-len4-up.len_at_least c.if-a-lt240.false n.ensures refl in
    let p = err_from_is_err_and c.from_residual-in_err-item-in-len4-up.result c.from_residual-in_err-item-in-len4-up.ensures.1 in
    rw (p.1, p.2) (next_err c.args.at c.args.least (four_fields n.result) bytes _ _ front.1 front.0 (c.in_err-item-in-len4-up.ensures {u = tt}))
