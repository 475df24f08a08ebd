use Rattle.std.proofs.Common.{List, [], ◌++◌, map, sym, ap, ◌∙◌, arith}
use Rattle.map_body.proofs.store_lines.add_row.Goals as goal
use Rattle.list_lemmas.proofs.ListCuts.{take_none, nothing_behind}
use Rattle.map_body.proofs.CellLines.{line_at, next_line, row_lines}
use Rattle.qual_codec.specs.declared.cells.Cell.{Cell}
use Rattle.map_body.proofs.Rise.{next_above}

pub add_line-requires : goal.add_line-requires
add_line-requires c =
    next_above c.args.table c.args.bytes.now c.args.row.now c.in_ok-copy.copy c.loop-i.i (record { qual = []; value = []; version = 0 }) c.args.listing.now c.loop-i.listing
    (record { table = c.args.table; row = c.list.result.now; qual = c.qual.result.now; value = c.value.result.now }) c.in_ok-copy.ensures.same (omega (arith, c.loop-i-test.true, c.len-i-end.ensures)) c.loop-i.invariant.so_far
    (λ j. record { table = c.args.table; row = c.list.ensures j; qual = c.qual.ensures (record { qual = []; value = []; version = 0 }) j; value = c.value.ensures (record { qual = []; value = []; version = 0 }) j }) c.requires

pub loop-i-init : goal.loop-i-init
loop-i-init c = record { packed = c.in_ok-copy.ensures.same; so_far = sym (nothing_behind c.args.listing.now) ∙ ap (λ (l : List Cell). c.args.listing.now ++ map (line_at c.args.table c.args.bytes.now) l) (sym (take_none c.in_ok-copy.copy)) }

pub loop-i-preserved : goal.loop-i-preserved
loop-i-preserved c = record {
  packed = c.loop-i.invariant.packed;
  so_far =
      next_line c.args.table c.args.bytes.now c.in_ok-copy.copy c.loop-i.i (record { qual = []; value = []; version = 0 }) c.args.listing.now c.loop-i.listing c.add_line.new.listing
      (record { table = c.args.table; row = c.list.result.now; qual = c.qual.result.now; value = c.value.result.now }) (omega (arith, c.loop-i-test.true, c.len-i-end.ensures)) c.loop-i.invariant.so_far
      (λ j. record { table = c.args.table; row = c.list.ensures j; qual = c.qual.ensures (record { qual = []; value = []; version = 0 }) j; value = c.value.ensures (record { qual = []; value = []; version = 0 }) j }) c.in_ok-add_line.ensures;
}

pub returns : goal.returns
returns c = row_lines c.args.table c.args.bytes.now c.args.row.now c.in_ok-copy.copy c.loop-i.i c.args.listing.now c.loop-i.listing c.in_ok-copy.ensures.same (omega (arith, c.loop-i-test.false, c.len-i-end.ensures)) c.loop-i.invariant.so_far
