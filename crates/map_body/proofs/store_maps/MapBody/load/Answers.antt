use Rattle.std.proofs.Common.{ℕ, List, sym, ap, subst, ◌∙◌, refl}
use Rattle.map_body.proofs.store_maps.MapBody.load.Goals as goal
use Rattle.map_body.proofs.Changes.{counter_written}
use Rattle.map_body.proofs.Counted.{counters_set, number_fits}
use Rattle.map_body.specs.Counting.{AllCounters}
use Rattle.cell_model.specs.declared.row.Row.{Row}
use Rattle.cell_model.specs.Sound.{IsCounter}
use Rattle.cell_model.specs.Store.{Store, written}
use Rattle.cell_model.specs.Machine.{kind_qual}
use Rattle.std.specs.Int.{w64, to_be_bytes}
use Rattle.map_body.specs.Whole.{store_in}

pub number_of-number-requires : goal.number_of-number-requires
number_of-number-requires c =
    let row = c.if-is_counter_row.ensures.0 refl in
    let flawless = subst (λ (s : Store). IsCounter s.widths c.args.line.now.qual c.args.line.now.value) (sym c.self.view_is) (c.requires (ap (λ (r : Row). r.table) row) (ap (λ (r : Row). r.bytes) row)) in
    let fits = number_fits c.self.inside.widths c.args.line.now.qual c.args.line.now.value flawless in
    (fits.0, fits.1, fits.2, c.list-then-is_counter_row.ensures ∙ fits.3)

pub invariant_of-self : goal.invariant_of-self
invariant_of-self c =
    let row = c.if-is_counter_row.ensures.0 refl in
    let flawless = subst (λ (s : Store). IsCounter s.widths c.args.line.now.qual c.args.line.now.value) (sym c.self.view_is) (c.requires (ap (λ (r : Row). r.table) row) (ap (λ (r : Row). r.bytes) row)) in
    let set =
    subst (λ (p : List ℕ × List ℕ). IsCounter c.self.inside.widths p.0 p.1)
    (λ i. ((sym c.list.ensures ∙ c.kind_of-kind.ensures) i, (sym c.list-then-is_counter_row.ensures ∙ c.number_of-number.ensures.value) i)) flawless in (
      c.self.invariant.0,
      c.self.invariant.1,
      subst (AllCounters c.self.inside.widths) (sym c.set.ensures) (counters_set c.self.inside.widths c.self.inside.counters (kind_qual c.kind_of-kind.result) (to_be_bytes w64 c.number_of-number.result) 0 c.self.invariant.2 set),
    )

pub returns-then-is_counter_row-clause-ok : goal.returns-then-is_counter_row-clause-ok
returns-then-is_counter_row-clause-ok c =
    rw (← c.self.view_is)
    (counter_written c.self.inside.widths c.self.inside.tables c.self.inside.counters c.set.new.self c.self.invariant.0 (kind_qual c.kind_of-kind.result) (to_be_bytes w64 c.number_of-number.result) 0 c.set.ensures
    ∙ (λ i. written (store_in c.self.inside.widths c.self.inside.tables c.self.inside.counters) (sym (c.if-is_counter_row.ensures.0 refl) i) ((sym c.kind_of-kind.ensures ∙ c.list.ensures) i) ((sym c.number_of-number.ensures.value ∙ c.list-then-is_counter_row.ensures) i) 0))
