use Rattle.std.proofs.lemmas.Result.{err_from_is_err_and}
use Rattle.qual_codec.proofs.WholeCell.{alone_added, alone_err}
use Rattle.qual_codec.proofs.cell_reader.read_cell.Goals as goal

pub returns-in_err-read_onto-clause-alone : goal.returns-in_err-read_onto-clause-alone
returns-in_err-read_onto-clause-alone c =
    let p = err_from_is_err_and c.from_residual-in_err-read_onto.result c.from_residual-in_err-read_onto.ensures.1 in
    rw (p.1, p.2) (alone_err c.args.qual.now c.args.value.now c.in_err-read_onto.field-0.0 c.in_err-read_onto.ensures.fault)

pub returns-clause-alone : goal.returns-clause-alone
returns-clause-alone c = alone_added c.args.qual.now c.args.value.now c.in_ok-dots.dots.items c.read_onto.new.dots.items c.in_ok-dots.ensures.items c.in_ok-read_onto.ensures.dots
