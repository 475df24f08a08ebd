-- What a call that may fail made, told of its cells.
use Rattle.std.proofs.Common.{◌≡◌, List, [], ◌++◌, sym, ap, subst, ◌∙◌}
use Rattle.std.specs.Prelude.{Result, Ok, Err, IfOk, Bool, filter}
use Rattle.std.specs.Global.{Vec}
use Rattle.list_lemmas.proofs.ListCuts.{nothing_behind}
use Rattle.row_key.specs.Made.{three}
use Rattle.cell_model.specs.declared.row.ListLine.{ListLine}
use Rattle.cell_model.specs.KindWidths.{Widths}
use Rattle.cell_model.specs.Store.{Store}
use Rattle.cell_model.specs.Counts.{lines_of}
use Rattle.cell_model.specs.Rising.{LinesRise}
use Rattle.cell_listing.specs.ListedLines.{ListingRead, counted_in, others_in}
use Rattle.listing_check.specs.Laws.{store_in}
use Rattle.listing_fix.specs.Fixes.{in_order, with_names}
use Rattle.listing_fix.specs.Steps.{keeps_name, other_cells, reverse_cells}
use Rattle.listing_fix.proofs.FirstChange.{first}
use Rattle.listing_fix.proofs.GivenNames.{third}
use Rattle.listing_fix.proofs.Mending.{lines_rise}
use Rattle.listing_fix.proofs.Told.{filter_rise}
use Rattle.listing_fix.proofs.Unmended.{lines_are}

-- nothing more
pub nothing_more : (w : Widths) (cells more : List ListLine) → LinesRise cells → more ≡ [] → cells ≡ lines_of (store_in w (cells ++ more))
nothing_more w cells more up e =
    sym (ap (λ (ls : List ListLine). lines_of (store_in w (cells ++ ls))) e ∙ ap (λ (ls : List ListLine). lines_of (store_in w ls)) (nothing_behind cells) ∙ lines_are w cells up)

module _ {E : Type 0} where
  -- the lines of a store rise
  pub ordered_rise : (r : Result (Vec ListLine) E) (xs : List ListLine) → IfOk r (λ all. (w : Widths) → all.items ≡ lines_of (store_in w xs)) → IfOk r (λ all. LinesRise all.items)
  ordered_rise (Ok all) xs e = subst LinesRise (sym (e three)) (lines_rise (store_in three xs))
  ordered_rise (Err x) xs e = e

  pub filter_ok : (r : Result (Vec ListLine) E) (f : ListLine → Bool) (xs : List ListLine) → LinesRise xs → IfOk r (λ kept. kept.items ≡ filter f xs) → IfOk r (λ kept. LinesRise kept.items)
  filter_ok (Ok kept) f xs up e = subst LinesRise (sym e) (filter_rise f xs up)
  filter_ok (Err x) f xs up e = e

  pub named_ok : (r : Result (Vec ListLine) E) (w : Widths) (xs more ys : List ListLine) → more ≡ reverse_cells w xs xs → ((v : Widths) → ys ≡ lines_of (store_in v (xs ++ more))) → IfOk r (λ kept. kept.items ≡ filter (keeps_name w ys) ys)
      → IfOk r (λ new. (s : Store) → s.widths ≡ w → xs ≡ lines_of s → new.items ≡ lines_of (with_names s))
  named_ok (Ok kept) w xs more ys given lines e = λ s width is. e ∙ third w s xs ys width is (lines w ∙ ap (λ (ls : List ListLine). lines_of (store_in w (xs ++ ls))) given)
  named_ok (Err x) w xs more ys given lines e = e

  pub listed_ok : (r : Result (Vec ListLine) E) (listed : ListingRead) (xs more : List ListLine) → xs ≡ counted_in listed.lines → more ≡ other_cells (others_in listed.lines) → IfOk r (λ all. (w : Widths) → all.items ≡ lines_of (store_in w (xs ++ more)))
      → IfOk r (λ all. all.items ≡ lines_of (in_order listed))
  listed_ok (Ok all) listed xs more a b e = e listed.widths ∙ (λ t. lines_of (store_in listed.widths (a t ++ b t))) ∙ first listed.widths listed.lines
  listed_ok (Err x) listed xs more a b e = e
