use Rattle.std.proofs.Common.{List, subst, sym, ◌∙◌}
use Rattle.qual_codec.specs.declared.cells.Dot.{Dot}
use Rattle.test_rows.specs.Merges.{AllWithin}
use Rattle.test_rows.proofs.Allowing.{below, cell_qual, told_apart}
use Rattle.test_rows.proofs.drops.is_above.Goals as goal

pub returns-in-Some : goal.returns-in-Some
returns-in-Some c = λ yes.
    let high = c.in-Some.ensures in
    record {
      above = high.qual;
      value = high.value;
      shows = high.shows;
      below = below c.args.qual.now high.qual c.requires.0 high.value c.args.low.now c.in-Some.high.items
          (λ same. told_apart _ _ c.if-eq.ensures (c.list.ensures ∙ cell_qual c.args.fact.now _ _ _ _ _ _ _ _ c.in-Cell.is high.shows.is ∙ sym same)) c.requires.1 high.reads
          (subst (λ (ds : List Dot). AllWithin c.args.low.now ds) c.as_slice.ensures.value (c.all_within.ensures yes));
    }
