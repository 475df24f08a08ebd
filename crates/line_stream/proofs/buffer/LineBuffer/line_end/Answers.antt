use Rattle.std.proofs.Common.{◌+◌, ◌-◌, List, ℕ, subst, sym, ◌∙◌}
use Rattle.std.specs.Prelude.{Some, None}
use Rattle.line_stream.specs.Lines.{EndsLine}
use Rattle.line_stream.specs.Searched.{IsSearched}
use Rattle.line_stream.proofs.SearchLemmas.{found_end, no_end}
use Rattle.line_stream.proofs.buffer.LineBuffer.line_end.Goals as goal

pub invariant_of-self : goal.invariant_of-self
invariant_of-self c =
    let i = c.self.inside in
    let h = rw c.deref.ensures.value at c.in-Some.ensures in
    (found_end i.block.items i.start i.searched c.in-Some.at c.self.invariant h.0 h.1).block_is

pub invariant_of-self-in-None : goal.invariant_of-self-in-None
invariant_of-self-in-None c =
    let i = c.self.inside in
    let h = rw c.deref.ensures.value at c.in-None.ensures in
    subst (IsSearched i.block.items i.start) (sym (c.len-self-inside.ensures ∙ i.block.ok.0)) (no_end i.block.items i.start i.searched c.self.invariant h).block_is

pub returns-in-Some-clause-end : goal.returns-in-Some-clause-end
returns-in-Some-clause-end c =
    let i = c.self.inside in
    let h = rw c.deref.ensures.value at c.in-Some.ensures in
    subst (λ (xs : List ℕ). EndsLine (Some (i.searched + c.in-Some.at - i.start)) xs) c.self.view_is (found_end i.block.items i.start i.searched c.in-Some.at c.self.invariant h.0 h.1).ends

pub returns-in-None-clause-end : goal.returns-in-None-clause-end
returns-in-None-clause-end c =
    let i = c.self.inside in
    let h = rw c.deref.ensures.value at c.in-None.ensures in
    subst (λ (xs : List ℕ). EndsLine None xs) c.self.view_is (no_end i.block.items i.start i.searched c.self.invariant h).ends
