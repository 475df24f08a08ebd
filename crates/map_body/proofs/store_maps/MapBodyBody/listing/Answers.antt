use Rattle.std.proofs.Common.{ℕ, List, ◌++◌, sym, ap, subst, ◌∙◌, refl}
use Rattle.map_body.proofs.store_maps.MapBodyBody.listing.Goals as goal
use Rattle.std.specs.FinMap.{entries}
use Rattle.map_body.specs.Whole.{lines_in}
use Rattle.std.specs.Prelude.{slice_index_or}
use Rattle.map_body.proofs.Bodies.{at_table}
use Rattle.row_key.specs.declared.tables.Table.TheVariants.{Ids, Names, Points}
use Rattle.map_body.proofs.Listings.{all_listed}
use Rattle.row_pages.specs.RowMaps.{rows_below, rows_from}
use Rattle.map_body.proofs.Rise.{below_rise, counters_rise, ids_rise, names_rise, points_rise}
use Rattle.cell_model.specs.Rising.{LinesRise}
use Rattle.cell_model.specs.declared.row.ListLine.{ListLine}

pub list_below-requires : goal.list_below-requires
list_below-requires c =
    subst (λ (l : List ListLine). LinesRise (l ++ lines_in Ids (rows_below c.short-counters.result (entries (slice_index_or c.self.inside.tables 0 c.index-self-0.result))))) (sym c.none-listing.ensures) (below_rise Ids c.short-counters.result (slice_index_or c.self.inside.tables 0 c.index-self-0.result))

pub list-requires : goal.list-requires
list-requires c = counters_rise c.self.inside.widths c.self.inside.tables c.self.inside.counters (slice_index_or c.self.inside.tables 0 c.index-self-0.result) (slice_index_or c.self.inside.tables 1 c.index-self-1.result) (slice_index_or c.self.inside.tables 2 c.index-self-2.result) c.self.invariant.0 c.in_ok-list_below.ensures.none_empty (at_table c.self.inside.tables Ids 0 (slice_index_or c.self.inside.tables 0 c.index-self-0.result) c.self.invariant.1 refl (ap (slice_index_or c.self.inside.tables 0) c.index-self-0.is)) (at_table c.self.inside.tables Names 1 (slice_index_or c.self.inside.tables 1 c.index-self-1.result) c.self.invariant.1 refl (ap (slice_index_or c.self.inside.tables 1) c.index-self-1.is)) (at_table c.self.inside.tables Points 2 (slice_index_or c.self.inside.tables 2 c.index-self-2.result) c.self.invariant.1 refl (ap (slice_index_or c.self.inside.tables 2) c.index-self-2.is))
    c.short-counters.result c.none-listing.result c.list_below.new.listing c.short-counters.ensures c.none-listing.ensures c.in_ok-list_below.ensures.lines

pub list_from-requires : goal.list_from-requires
list_from-requires c = ids_rise c.self.inside.widths c.self.inside.tables c.self.inside.counters (slice_index_or c.self.inside.tables 0 c.index-self-0.result) (slice_index_or c.self.inside.tables 1 c.index-self-1.result) (slice_index_or c.self.inside.tables 2 c.index-self-2.result) c.self.invariant.0 c.in_ok-list_below.ensures.none_empty (at_table c.self.inside.tables Ids 0 (slice_index_or c.self.inside.tables 0 c.index-self-0.result) c.self.invariant.1 refl (ap (slice_index_or c.self.inside.tables 0) c.index-self-0.is)) (at_table c.self.inside.tables Names 1 (slice_index_or c.self.inside.tables 1 c.index-self-1.result) c.self.invariant.1 refl (ap (slice_index_or c.self.inside.tables 1) c.index-self-1.is)) (at_table c.self.inside.tables Points 2 (slice_index_or c.self.inside.tables 2 c.index-self-2.result) c.self.invariant.1 refl (ap (slice_index_or c.self.inside.tables 2) c.index-self-2.is))
    c.short-counters.result c.none-listing.result c.list_below.new.listing c.short-counters.ensures c.none-listing.ensures c.in_ok-list_below.ensures.lines c.list.new.listing c.in_ok-list.ensures

pub list_from-requires-2 : goal.list_from-requires-2
list_from-requires-2 c = names_rise c.self.inside.widths c.self.inside.tables c.self.inside.counters (slice_index_or c.self.inside.tables 0 c.index-self-0.result) (slice_index_or c.self.inside.tables 1 c.index-self-1.result) (slice_index_or c.self.inside.tables 2 c.index-self-2.result) c.self.invariant.0 c.in_ok-list_below.ensures.none_empty (at_table c.self.inside.tables Ids 0 (slice_index_or c.self.inside.tables 0 c.index-self-0.result) c.self.invariant.1 refl (ap (slice_index_or c.self.inside.tables 0) c.index-self-0.is)) (at_table c.self.inside.tables Names 1 (slice_index_or c.self.inside.tables 1 c.index-self-1.result) c.self.invariant.1 refl (ap (slice_index_or c.self.inside.tables 1) c.index-self-1.is)) (at_table c.self.inside.tables Points 2 (slice_index_or c.self.inside.tables 2 c.index-self-2.result) c.self.invariant.1 refl (ap (slice_index_or c.self.inside.tables 2) c.index-self-2.is))
    c.short-counters.result c.none-listing.result c.list_below.new.listing c.short-counters.ensures c.none-listing.ensures c.in_ok-list_below.ensures.lines c.list.new.listing c.in_ok-list.ensures c.list_from.new.listing c.in_ok-list_from.ensures c.none.result c.none.ensures

pub list_from-requires-3 : goal.list_from-requires-3
list_from-requires-3 c = points_rise c.self.inside.widths c.self.inside.tables c.self.inside.counters (slice_index_or c.self.inside.tables 0 c.index-self-0.result) (slice_index_or c.self.inside.tables 1 c.index-self-1.result) (slice_index_or c.self.inside.tables 2 c.index-self-2.result) c.self.invariant.0 c.in_ok-list_below.ensures.none_empty (at_table c.self.inside.tables Ids 0 (slice_index_or c.self.inside.tables 0 c.index-self-0.result) c.self.invariant.1 refl (ap (slice_index_or c.self.inside.tables 0) c.index-self-0.is)) (at_table c.self.inside.tables Names 1 (slice_index_or c.self.inside.tables 1 c.index-self-1.result) c.self.invariant.1 refl (ap (slice_index_or c.self.inside.tables 1) c.index-self-1.is)) (at_table c.self.inside.tables Points 2 (slice_index_or c.self.inside.tables 2 c.index-self-2.result) c.self.invariant.1 refl (ap (slice_index_or c.self.inside.tables 2) c.index-self-2.is))
    c.short-counters.result c.none-listing.result c.list_below.new.listing c.short-counters.ensures c.none-listing.ensures c.in_ok-list_below.ensures.lines c.list.new.listing c.in_ok-list.ensures c.list_from.new.listing c.in_ok-list_from.ensures c.none.result c.none.ensures c.list_from-3.new.listing c.in_ok-list_from-2.ensures c.none-2.result c.none-2.ensures

pub returns : goal.returns
returns c =
    rw (← c.self.view_is)
    (λ j. record {
      widths = c.self.inside.widths;
      lines = all_listed c.self.inside.widths c.self.inside.tables c.self.inside.counters (slice_index_or c.self.inside.tables 0 c.index-self-0.result) (slice_index_or c.self.inside.tables 1 c.index-self-1.result) (slice_index_or c.self.inside.tables 2 c.index-self-2.result) c.none-listing.result c.list_below.new.listing c.list.new.listing c.list_from.new.listing c.list_from-3.new.listing c.list_from-5.new.listing
          c.self.invariant.0 c.in_ok-list_below.ensures.none_empty (at_table c.self.inside.tables Ids 0 (slice_index_or c.self.inside.tables 0 c.index-self-0.result) c.self.invariant.1 refl (ap (slice_index_or c.self.inside.tables 0) c.index-self-0.is)) (at_table c.self.inside.tables Names 1 (slice_index_or c.self.inside.tables 1 c.index-self-1.result) c.self.invariant.1 refl (ap (slice_index_or c.self.inside.tables 1) c.index-self-1.is)) (at_table c.self.inside.tables Points 2 (slice_index_or c.self.inside.tables 2 c.index-self-2.result) c.self.invariant.1 refl (ap (slice_index_or c.self.inside.tables 2) c.index-self-2.is))
          c.none-listing.ensures (c.in_ok-list_below.ensures.lines ∙ ap (λ (b : List ℕ). c.none-listing.result ++ lines_in Ids (rows_below b (entries (slice_index_or c.self.inside.tables 0 c.index-self-0.result)))) c.short-counters.ensures) c.in_ok-list.ensures (c.in_ok-list_from.ensures ∙ ap (λ (b : List ℕ). c.list.new.listing ++ lines_in Ids (rows_from b (entries (slice_index_or c.self.inside.tables 0 c.index-self-0.result)))) c.short-counters.ensures) (c.in_ok-list_from-2.ensures ∙ ap (λ (b : List ℕ). c.list_from.new.listing ++ lines_in Names (rows_from b (entries (slice_index_or c.self.inside.tables 1 c.index-self-1.result)))) c.none.ensures) (c.in_ok-list_from-3.ensures ∙ ap (λ (b : List ℕ). c.list_from-3.new.listing ++ lines_in Points (rows_from b (entries (slice_index_or c.self.inside.tables 2 c.index-self-2.result)))) c.none-2.ensures) j;
    })
