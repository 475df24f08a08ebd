use Rattle.std.proofs.Common.{length}
use Rattle.std.proofs.lemmas.Result.{err_from_is_err_and}
use Rattle.query_text.proofs.FilterParts.{apart, is_other, is_brace, first_read, first_bad, second_ends, second_goes_on, second_fails}
use Rattle.list_lemmas.proofs.BoolTests.{nat_eq-same}
use Rattle.query_text.proofs.filters.read_filters.Goals as goal

pub returns-then-text-second-ne123 : goal.returns-then-text-second-ne123
returns-then-text-second-ne123 c =
    let first = first_read c.args.text.now c.in-Some.first c.new-filters.result.items c.read_part.new.filters.items c.in_ok-second.second c.in-Some.ensures.place c.new-filters.ensures.items (c.in_ok-second.ensures {u = tt}).part in
    let more = apart c.in_ok-second.second (length c.args.text.now) c.if-second-text.false in
    first_bad c.args.text.now c.in-Some.first c.read_part.new.filters.items c.in_ok-second.second first more (is_other c.args.text.now c.in_ok-second.second (c.in_ok-second.ensures {u = tt}).within c.if-second-text.false c.if-text-second-ne123.true)

pub returns-in_err-end : goal.returns-in_err-end
returns-in_err-end c =
    let first = first_read c.args.text.now c.in-Some.first c.new-filters.result.items c.read_part.new.filters.items c.in_ok-second.second c.in-Some.ensures.place c.new-filters.ensures.items (c.in_ok-second.ensures {u = tt}).part in
    let more = apart c.in_ok-second.second (length c.args.text.now) c.if-second-text.false in
    let brace = is_brace c.args.text.now c.in_ok-second.second (c.in_ok-second.ensures {u = tt}).within c.if-second-text.false c.if-text-second-ne123.false in
    let p = err_from_is_err_and c.from_residual-in_err-end.result c.from_residual-in_err-end.ensures.1 in
    rw (p.1, p.2) (second_fails c.args.text.now c.in-Some.first c.read_part.new.filters.items c.in_ok-second.second first more brace c.in_err-end.field-0.0 c.read_part-2.new.filters.items (c.in_err-end.ensures {u = tt}).part)

pub returns-then-end-text : goal.returns-then-end-text
returns-then-end-text c =
    let first = first_read c.args.text.now c.in-Some.first c.new-filters.result.items c.read_part.new.filters.items c.in_ok-second.second c.in-Some.ensures.place c.new-filters.ensures.items (c.in_ok-second.ensures {u = tt}).part in
    let more = apart c.in_ok-second.second (length c.args.text.now) c.if-second-text.false in
    let brace = is_brace c.args.text.now c.in_ok-second.second (c.in_ok-second.ensures {u = tt}).within c.if-second-text.false c.if-text-second-ne123.false in
    second_ends c.args.text.now c.in-Some.first c.read_part.new.filters.items c.in_ok-second.second first more brace c.in_ok-end.end c.read_part-2.new.filters.items (c.in_ok-end.ensures {u = tt}).part (nat_eq-same c.in_ok-end.end (length c.args.text.now) c.if-end-text.true)

pub returns-else-end-text : goal.returns-else-end-text
returns-else-end-text c =
    let first = first_read c.args.text.now c.in-Some.first c.new-filters.result.items c.read_part.new.filters.items c.in_ok-second.second c.in-Some.ensures.place c.new-filters.ensures.items (c.in_ok-second.ensures {u = tt}).part in
    let more = apart c.in_ok-second.second (length c.args.text.now) c.if-second-text.false in
    let brace = is_brace c.args.text.now c.in_ok-second.second (c.in_ok-second.ensures {u = tt}).within c.if-second-text.false c.if-text-second-ne123.false in
    second_goes_on c.args.text.now c.in-Some.first c.read_part.new.filters.items c.in_ok-second.second first more brace c.in_ok-end.end c.read_part-2.new.filters.items (c.in_ok-end.ensures {u = tt}).part (apart c.in_ok-end.end (length c.args.text.now) c.if-end-text.false)
