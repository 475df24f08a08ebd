use Rattle.std.proofs.Common.{◌≡◌, List, [], ◌∷◌, ◌++◌, ap, sym, subst, ◌∙◌, append_assoc, append-nil}
use Rattle.qual_codec.specs.declared.cells.Cell.{Cell}
use Rattle.cell_blocks.specs.Seeks.{Rises}
use Rattle.packed_cells.specs.TreeCells.{tree_cells}
use Rattle.packed_cells.proofs.Trees.{Entry, tree_more, tree_rises}
use Rattle.packed_cells.proofs.tree_cells.copy_of.Goals as goal

pub loop-qual-preserved : goal.loop-qual-preserved
loop-qual-preserved c =
    let done : List Entry = c.loop-qual.invariant.0 in
    let e : Entry = (c.in-Some.qual.now, c.in-Some.cell.now) in
    let pushed : c.push.new.self ≡ c.loop-qual.made ++ (record { qual = c.in-Some.qual.now.items; value = c.in-Some.cell.now.value.items; version = c.in-Some.cell.now.version }) ∷ [] =
    c.in_ok-push.ensures.ok ∙ (λ i. c.loop-qual.made ++ (record { qual = c.as_slice.ensures.value i; value = c.as_slice-in-loop-qual.ensures.value i; version = c.in-Some.cell.now.version }) ∷ []) in (
      done ++ e ∷ [],
      c.loop-qual.invariant.1 ∙ ap (λ (es : List Entry). done ++ es) c.in-Some.ensures.steps ∙ sym (append_assoc done (e ∷ []) c.next.new.self),
      pushed ∙ ap (λ (cells : List Cell). cells ++ (record { qual = c.in-Some.qual.now.items; value = c.in-Some.cell.now.value.items; version = c.in-Some.cell.now.version }) ∷ []) c.loop-qual.invariant.2 ∙ tree_more done e,
    )

pub returns-clause-rises : goal.returns-clause-rises
returns-clause-rises c =
    let done : List Entry = c.loop-qual.invariant.0 in
    let all : c.args.cells.now.entries ≡ done = c.loop-qual.invariant.1 ∙ ap (λ (es : List Entry). done ++ es) c.in-None.ensures.steps.0 ∙ append-nil done in
    subst Rises (ap tree_cells all ∙ sym c.loop-qual.invariant.2) (tree_rises c.args.cells.now.entries c.iter-qual-items.ensures.ordered)
