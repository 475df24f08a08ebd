use Rattle.std.proofs.Common.{arith, ◌≡◌, ◌<◌, ◌+◌, ◌-◌, ◌∙◌, ℕ, length, ap, sym, subst, slice_index_or}
use Rattle.std.specs.declared.cmp.Ordering.TheVariants.{Greater}
use Rattle.qual_codec.specs.declared.cells.Cell.{Cell}
use Rattle.list_lemmas.specs.BytesOrder.{bytes_cmp}
use Rattle.cell_blocks.specs.Seeks.{AllBefore}
use Rattle.cell_blocks.proofs.Halves.{up_to}
use Rattle.cell_blocks.proofs.seeks.seek.Goals as goal

pub returns-in-Greater-clause-absent : goal.returns-in-Greater-clause-absent
returns-in-Greater-clause-absent c =
    let lt : c.len-len.result - 1 < length c.args.cells.now = omega (arith, c.len-len.ensures, c.if-len-eq0.false) in
    let all : c.len-len.result - 1 + 1 ≡ c.len-len.result = omega (arith, c.if-len-eq0.false) in
    let is : (d : Cell) → bytes_cmp c.args.qual.now (slice_index_or c.args.cells.now (c.len-len.result - 1) d).qual ≡ Greater = λ d. ap (bytes_cmp c.args.qual.now) (sym (c.qual.ensures d)) ∙ sym c.order.ensures ∙ c.in-Greater.is in
    record {
      in_range = omega (arith, c.len-len.ensures);
      before = subst (λ (n : ℕ). AllBefore c.args.qual.now c.args.cells.now n) all (up_to c.args.qual.now c.args.cells.now (c.len-len.result - 1) c.requires lt is);
      behind = λ k above within d. absurd (omega (arith, c.len-len.ensures, above, within));
    }
