use Rattle.std.proofs.Common.{inl, inr}
use Rattle.std.specs.Prelude.{Ok}
use Rattle.listing_check.proofs.cell_flaws.fault_of.Goals as goal

pub returns-in-Err : goal.returns-in-Err
returns-in-Err c = λ r. elim (c.in-Err.ensures.alone (Ok r.0) r.1) [ inl memory ↦ memory | inr other ↦ absurd cc ]
