use Rattle.std.proofs.Common.{arith, ◌≡◌, ◌<◌, ◌+◌, ◌∙◌, ℕ, List, length, ap, sym, subst}
use Rattle.std.specs.Prelude.{slice_index_or, slice_set}
use Rattle.cell_blocks.specs.Packed.{cells_at, spans, overwritten, IsKept}
use Rattle.cell_blocks.proofs.Packed.{both, written_length}
use Rattle.cell_blocks.proofs.Spans.{IsAt, count, span_fits, span_lengths, restamped, over_kept, over_cells}
use Rattle.cell_blocks.proofs.mixed_cells.MixedCells.set.Goals as goal
use Rattle.cell_blocks.proofs.mixed_cells.MixedCells.set.Goals.{else-span-qual-via-then-span-qual+else-span-value, else-span-qual-via-else-span-qual}

pub overwrite-requires : goal.overwrite-requires
overwrite-requires c =
    let in_range : c.args.i < length c.self.inside.heads.items = omega (arith, c.requires, ap length c.self.view_is, count c.self.inside.bytes.items c.self.inside.longs.items c.self.inside.heads.items) in
    let at : IsAt c.self.inside.bytes.items c.self.inside.longs.items c.self.inside.heads.items c.args.i c.index-head.result.now c.spread-span.result = record { kept = c.self.invariant; in_range = in_range; head = c.index-head.ensures; span = c.spread-span.ensures } in
    let fits = span_fits c.self.inside.bytes.items c.self.inside.longs.items c.self.inside.heads.items c.args.i c.index-head.result.now c.spread-span.result at in
    omega (arith, fits, c.if-span-qual.true)

pub overwrite-requires-then-span-value : goal.overwrite-requires-then-span-value
overwrite-requires-then-span-value c =
    let in_range : c.args.i < length c.self.inside.heads.items = omega (arith, c.requires, ap length c.self.view_is, count c.self.inside.bytes.items c.self.inside.longs.items c.self.inside.heads.items) in
    let at : IsAt c.self.inside.bytes.items c.self.inside.longs.items c.self.inside.heads.items c.args.i c.index-head.result.now c.spread-span.result = record { kept = c.self.invariant; in_range = in_range; head = c.index-head.ensures; span = c.spread-span.ensures } in
    let fits = span_fits c.self.inside.bytes.items c.self.inside.longs.items c.self.inside.heads.items c.args.i c.index-head.result.now c.spread-span.result at in
    omega (arith, fits, c.if-span-qual.true, c.if-span-value.true, ap length c.overwrite.ensures, written_length c.self.inside.bytes.items c.args.qual.now c.spread-span.result.at (omega (arith, fits, c.if-span-qual.true)))

pub invariant_of-self : goal.invariant_of-self
invariant_of-self c =
    let in_range : c.args.i < length c.self.inside.heads.items = omega (arith, c.requires, ap length c.self.view_is, count c.self.inside.bytes.items c.self.inside.longs.items c.self.inside.heads.items) in
    let at : IsAt c.self.inside.bytes.items c.self.inside.longs.items c.self.inside.heads.items c.args.i c.index-head.result.now c.spread-span.result = record { kept = c.self.invariant; in_range = in_range; head = c.index-head.ensures; span = c.spread-span.ensures } in
    let bytes : c.overwrite-then-span-value.new.bytes.items ≡ both c.self.inside.bytes.items c.spread-span.result.at c.args.qual.now c.args.value.now =
    c.overwrite-then-span-value.ensures ∙ ap (λ (b : List ℕ). overwritten b (c.spread-span.result.at + length c.args.qual.now) c.args.value.now) c.overwrite.ensures in
    subst (λ (b : List ℕ). IsKept b c.self.inside.longs.items (slice_set c.self.inside.heads.items c.args.i (restamped c.index-head.result.now c.args.version))) (sym bytes) (over_kept c.self.inside.bytes.items c.self.inside.longs.items c.self.inside.heads.items c.args.i c.index-head.result.now c.spread-span.result at c.args.qual.now c.args.value.now c.args.version c.if-span-qual.true c.if-span-value.true)

pub returns-then-span-value-clause-ok : goal.returns-then-span-value-clause-ok
returns-then-span-value-clause-ok c =
    let in_range : c.args.i < length c.self.inside.heads.items = omega (arith, c.requires, ap length c.self.view_is, count c.self.inside.bytes.items c.self.inside.longs.items c.self.inside.heads.items) in
    let at : IsAt c.self.inside.bytes.items c.self.inside.longs.items c.self.inside.heads.items c.args.i c.index-head.result.now c.spread-span.result = record { kept = c.self.invariant; in_range = in_range; head = c.index-head.ensures; span = c.spread-span.ensures } in
    let bytes : c.overwrite-then-span-value.new.bytes.items ≡ both c.self.inside.bytes.items c.spread-span.result.at c.args.qual.now c.args.value.now =
    c.overwrite-then-span-value.ensures ∙ ap (λ (b : List ℕ). overwritten b (c.spread-span.result.at + length c.args.qual.now) c.args.value.now) c.overwrite.ensures in
    rw (← c.self.view_is) (ap (λ (b : List ℕ). cells_at b (spans c.self.inside.longs.items (slice_set c.self.inside.heads.items c.args.i (restamped c.index-head.result.now c.args.version)))) bytes ∙ over_cells c.self.inside.bytes.items c.self.inside.longs.items c.self.inside.heads.items c.args.i c.index-head.result.now c.spread-span.result at c.args.qual.now c.args.value.now c.args.version c.if-span-qual.true c.if-span-value.true)

-- where both lengths are the old ones, the code took the other branch
pub returns-in_err-tidy-clause-in_place : goal.returns-in_err-tidy-clause-in_place
returns-in_err-tidy-clause-in_place c d a b =
    let in_range : c.args.i < length c.self.inside.heads.items = omega (arith, c.requires, ap length c.self.view_is, count c.self.inside.bytes.items c.self.inside.longs.items c.self.inside.heads.items) in
    let at : IsAt c.self.inside.bytes.items c.self.inside.longs.items c.self.inside.heads.items c.args.i c.index-head.result.now c.spread-span.result = record { kept = c.self.invariant; in_range = in_range; head = c.index-head.ensures; span = c.spread-span.ensures } in
    let lengths = span_lengths c.self.inside.bytes.items c.self.inside.longs.items c.self.inside.heads.items c.args.i c.index-head.result.now c.spread-span.result at d in
    let q : length (slice_index_or c.args.self.now c.args.i d).qual ≡ c.spread-span.result.qual_len = rw (← c.self.view_is) lengths.0 in
    let v : length (slice_index_or c.args.self.now c.args.i d).value ≡ c.spread-span.result.value_len = rw (← c.self.view_is) lengths.1 in
    elim c.else-span-qual.branch [
      | else-span-qual-via-then-span-qual+else-span-value w ↦ absurd (w.if-span-value.false (sym v ∙ b))
      | else-span-qual-via-else-span-qual w ↦ absurd (w.if-span-qual.false (sym q ∙ a))
    ]

-- where both lengths are the old ones, the code took the other branch
pub returns-clause-in_place : goal.returns-clause-in_place
returns-clause-in_place c d a b =
    let in_range : c.args.i < length c.self.inside.heads.items = omega (arith, c.requires, ap length c.self.view_is, count c.self.inside.bytes.items c.self.inside.longs.items c.self.inside.heads.items) in
    let at : IsAt c.self.inside.bytes.items c.self.inside.longs.items c.self.inside.heads.items c.args.i c.index-head.result.now c.spread-span.result = record { kept = c.self.invariant; in_range = in_range; head = c.index-head.ensures; span = c.spread-span.ensures } in
    let lengths = span_lengths c.self.inside.bytes.items c.self.inside.longs.items c.self.inside.heads.items c.args.i c.index-head.result.now c.spread-span.result at d in
    let q : length (slice_index_or c.args.self.now c.args.i d).qual ≡ c.spread-span.result.qual_len = rw (← c.self.view_is) lengths.0 in
    let v : length (slice_index_or c.args.self.now c.args.i d).value ≡ c.spread-span.result.value_len = rw (← c.self.view_is) lengths.1 in
    elim c.else-span-qual.branch [
      | else-span-qual-via-then-span-qual+else-span-value w ↦ absurd (w.if-span-value.false (sym v ∙ b))
      | else-span-qual-via-else-span-qual w ↦ absurd (w.if-span-qual.false (sym q ∙ a))
    ]
