-- A region keeps its own rows alone, and not too many cells.
use Rattle.std.proofs.Common.{◌≡◌, ℕ, ◌+◌, ◌<◌, ◌≤◌, Bool, true, false, List, length, ap, sym, subst, ◌∙◌, refl, arith}
use Rattle.tsd_base.specs.declared.kinds.Kind.{Kind}
use Rattle.cell_model.specs.declared.row.Row.{Row}
use Rattle.cell_model.specs.declared.events.Step.{Step}
use Rattle.cell_model.specs.declared.events.Step.TheVariants.{Bump, Claim, PutMerged, DropCells}
use Rattle.cell_model.specs.KindWidths.{Widths, greatest}
use Rattle.cell_model.specs.Store.{Store, no_cells, value_at, written, stamped}
use Rattle.cell_model.proofs.CallerLemmas.{stamped_widths}
use Rattle.cell_model.specs.Machine.{after, counter_row, counter_of, kind_qual, or_written}
use Rattle.cell_model.specs.Counts.{point_entries}
use Rattle.cell_laws.specs.StoreParts.{is_in, part, is_mine}
use Rattle.cell_laws.proofs.PartLemmas.{part-empty, after-mine, stamped-part, points-none, points-written, points-elsewhere, points-dropped, points-stamped}
use Rattle.cell_region.specs.declared.region.TheConstants.{MOST_CELLS}
use Rattle.std.specs.Prelude.{Option, None, Some, nat_lt, cond}
use Rattle.std.specs.Int.{w64, to_be_bytes}

-- what the ghost fields of a region with this number say of its cells
pub record Fits (D number : ℕ) (s : Store) : Type 0 where
  pub own : part (is_in s.widths D number) s ≡ s
  pub few : length (point_entries s) ≤ MOST_CELLS

pub none_fit : (D number : ℕ) (w : Widths) → Fits D number (no_cells w)
none_fit D number w = let none = points-none w in record { own = part-empty (is_in w D number) w; few = omega (arith, none) }

module _ (D number : ℕ) (s : Store) (fits : Fits D number s) where
  abbrev mine : Row → Bool
  mine = is_in s.widths D number

  still_own : (step : Step) → is_mine mine step ≡ true → part mine (after s 0 step) ≡ after s 0 step
  still_own step is = after-mine mine s 0 step is ∙ ap (λ x. after x 0 step) fits.own

  pub put_fits : (row : Row) (qual value : List ℕ) → is_in s.widths D number row ≡ true → length (point_entries s) < MOST_CELLS → Fits D number (written s row qual value 0)
  put_fits row qual value is room =
      let more = points-written s row qual value 0 in
      record { own = still_own (PutMerged row qual value) is; few = omega (arith, more, room) }

  pub claim_fits : (row : Row) (qual value : List ℕ) → is_in s.widths D number row ≡ true → length (point_entries s) < MOST_CELLS → Fits D number (after s 0 (Claim row qual value))
  claim_fits row qual value is room = record { own = still_own (Claim row qual value) is; few = at (value_at s row qual) }
    where
      at : (o : Option (List ℕ)) → length (point_entries (or_written o (written s row qual value 0) s)) ≤ MOST_CELLS
      at None = let more = points-written s row qual value 0 in omega (arith, more, room)
      at (Some value) = fits.few

  pub bump_fits : (kind : Kind) → is_in s.widths D number counter_row ≡ true → Fits D number (after s 0 (Bump kind))
  bump_fits kind is = record { own = still_own (Bump kind) is; few = at (nat_lt (counter_of s kind) (greatest s.widths kind)) }
    where
      at : (b : Bool) → length (point_entries (cond b (written s counter_row (kind_qual kind) (to_be_bytes w64 (counter_of s kind + 1)) 0) s)) ≤ MOST_CELLS
      at true = let same = points-elsewhere s counter_row (kind_qual kind) (to_be_bytes w64 (counter_of s kind + 1)) 0 refl in let few = fits.few in omega (arith, same, few)
      at false = fits.few

  pub drop_fits : (row : Row) (which : List (List ℕ × ℕ)) → is_in s.widths D number row ≡ true → Fits D number (after s 0 (DropCells row which))
  drop_fits row which is = let less = points-dropped s row which in let few = fits.few in record { own = still_own (DropCells row which) is; few = omega (arith, less, few) }

  pub stamp_fits : (row : Row) (qual : List ℕ) (version : ℕ) → is_in s.widths D number row ≡ true → Fits D number (stamped s row qual version)
  stamp_fits row qual version is =
      let same = points-stamped s row qual version in
      let few = fits.few in
      let own : part mine (stamped s row qual version) ≡ stamped s row qual version = stamped-part mine s row qual version is ∙ ap (λ x. stamped x row qual version) fits.own in
      record { own = subst (λ w. part (is_in w D number) (stamped s row qual version) ≡ stamped s row qual version) (sym (stamped_widths s row qual version)) own; few = omega (arith, same, few) }
