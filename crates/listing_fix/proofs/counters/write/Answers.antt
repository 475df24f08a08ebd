use Rattle.std.proofs.Common.{List, ap, refl, subst, ◌∙◌}
use Rattle.std.specs.Prelude.{Err, Ok}
use Rattle.std.specs.List.{insert}
use Rattle.cell_model.specs.declared.row.ListLine.{ListLine}
use Rattle.cell_model.specs.Rising.{place_of_line}
use Rattle.listing_fix.specs.Steps.{IsPlaceIn}
use Rattle.listing_fix.proofs.CounterWrites.{inserted, replaced}
use Rattle.listing_fix.proofs.counters.write.Goals as goal

pub returns-in-Ok : goal.returns-in-Ok
returns-in-Ok c =
    replaced c.args.cells.now.items _ c.in-Ok.at c.args.line c.requires (subst (λ (ls : List ListLine). IsPlaceIn ls (place_of_line c.args.line) (Ok c.in-Ok.at)) c.deref.ensures.value c.in-Ok.ensures) refl

pub returns-in_ok-insert-in-Err : goal.returns-in_ok-insert-in-Err
returns-in_ok-insert-in-Err c =
    inserted c.args.cells.now.items c.insert.new.self.items c.in-Err.at c.args.line c.requires
    (subst (λ (ls : List ListLine). IsPlaceIn ls (place_of_line c.args.line) (Err c.in-Err.at)) c.deref.ensures.value c.in-Err.ensures)
    (c.in_ok-insert-in-Err.ensures.items ∙ ap (λ (ls : List ListLine). insert ls c.in-Err.at c.args.line) c.reserve_exact.ensures.items)
