use Rattle.std.proofs.Common.{arith, ◌≡◌, ◌<◌, ◌-◌, ◌∙◌, ℕ, length, ap, sym, subst, slice_index_or}
use Rattle.std.specs.declared.cmp.Ordering.TheVariants.{Less, Greater}
use Rattle.qual_codec.specs.declared.cells.Cell.{Cell}
use Rattle.list_lemmas.specs.BytesOrder.{bytes_cmp}
use Rattle.cell_blocks.specs.Seeks.{AllBefore, AllBehind}
use Rattle.cell_blocks.proofs.Halves.{up_to, from_on}
use Rattle.cell_blocks.proofs.seeks.search.Goals as goal
use Rattle.cell_blocks.proofs.seeks.search.Goals.{in-Less, in-Greater}

pub loop-low-preserved : goal.loop-low-preserved
loop-low-preserved c = elim c.match-cmp.branch [
  | in-Less w ↦
      let lt : c.loop-low.high - c.loop-low.step < length c.args.cells.now = omega (arith, c.loop-low.invariant.within, c.loop-low.invariant.some_step, c.loop-low.invariant.stays c.loop-low-test.true) in
      let is : (d : Cell) → bytes_cmp c.args.qual.now (slice_index_or c.args.cells.now (c.loop-low.high - c.loop-low.step) d).qual ≡ Less = λ d. ap (bytes_cmp c.args.qual.now) (sym (c.qual.ensures d)) ∙ sym c.cmp.ensures ∙ w.in-Less.is in
      record {
        order = omega (arith, w.low-is, w.high-is, c.loop-low.invariant.stays c.loop-low-test.true);
        within = omega (arith, w.high-is, c.loop-low.invariant.within);
        some_step = omega arith;
        stays = λ more. omega arith;
        before = subst (λ (n : ℕ). AllBefore c.args.qual.now c.args.cells.now n) (sym w.low-is) c.loop-low.invariant.before;
        behind = subst (λ (n : ℕ). AllBehind c.args.qual.now c.args.cells.now n) (sym w.high-is) (from_on c.args.qual.now c.args.cells.now (c.loop-low.high - c.loop-low.step) c.loop-low.invariant.rises lt is);
        rises = c.loop-low.invariant.rises;
      }
  | in-Greater w ↦
      let lt : c.loop-low.high - c.loop-low.step < length c.args.cells.now = omega (arith, c.loop-low.invariant.within, c.loop-low.invariant.some_step, c.loop-low.invariant.stays c.loop-low-test.true) in
      let is : (d : Cell) → bytes_cmp c.args.qual.now (slice_index_or c.args.cells.now (c.loop-low.high - c.loop-low.step) d).qual ≡ Greater = λ d. ap (bytes_cmp c.args.qual.now) (sym (c.qual.ensures d)) ∙ sym c.cmp.ensures ∙ w.in-Greater.is in
      record {
        order = omega (arith, w.low-is, w.high-is, c.loop-low.invariant.some_step, c.loop-low.invariant.stays c.loop-low-test.true);
        within = omega (arith, w.high-is, c.loop-low.invariant.within);
        some_step = omega arith;
        stays = λ more. omega arith;
        before = subst (λ (n : ℕ). AllBefore c.args.qual.now c.args.cells.now n) (sym w.low-is) (up_to c.args.qual.now c.args.cells.now (c.loop-low.high - c.loop-low.step) c.loop-low.invariant.rises lt is);
        behind = subst (λ (n : ℕ). AllBehind c.args.qual.now c.args.cells.now n) (sym w.high-is) c.loop-low.invariant.behind;
        rises = c.loop-low.invariant.rises;
      }
]
