-- The rows that a scan has passed: each that was there when it began was found.
use Rattle.std.proofs.Common.{◌≡◌, ◌⊎◌, inl, inr, ℕ, ◌-◌, ◌<◌, true, false, List, [], ◌∷◌, ◌++◌, refl, sym, subst, arith}
use Rattle.std.specs.Prelude.{Contains, Some, IsTrue}
use Rattle.std.specs.declared.cmp.Ordering.{Ordering}
use Rattle.std.specs.declared.cmp.Ordering.TheVariants.{Less, Equal, Greater}
use Rattle.std.specs.Ordering.{is_lt}
use Rattle.std.proofs.lemmas.List.Elements.{Contains-append_left, Contains-append_right}
use Rattle.row_key.specs.declared.tables.Table.TheVariants.{Points}
use Rattle.row_key.specs.declared.widths.Widths.{Widths}
use Rattle.cell_model.specs.declared.row.Row.{Row}
use Rattle.cell_model.specs.declared.row.Found.{Found}
use Rattle.cell_model.specs.declared.events.Placed.{Placed}
use Rattle.list_lemmas.specs.BytesOrder.{bytes_cmp}
use Rattle.cell_model.specs.Store.{is_between}
use Rattle.cell_model.specs.History.{History, first, store_after, entry_at}
use Rattle.cell_model.specs.Lawful.{IsLawful}
use Rattle.row_scan.specs.Scans.{Left, IsNext, HasCell, IsWanted, Skips, left_at, behind}
use Rattle.metric_scan.specs.Walks.{Picks, StandAfter, FoundBelow, picked_by}
use Rattle.metric_scan.proofs.Lower as lower

pub less_not : (r : Ordering) → r ≡ Less → is_lt r ≡ false → ⊥
less_not Less e n = cc
less_not Equal e n = cc
less_not Greater e n = cc

-- where the scan begins, none is below what is left
pub below_none : (picks : Picks) (begin : Left) → FoundBelow picks begin begin [] []
below_none picks begin = record { widths_are = refl; to = refl; each = λ h n lawful stand row in_range wanted has less. absurd (less_not (bytes_cmp row.bytes begin.from) less (lower.between begin.from begin.to row in_range).from_on) }

-- a row of the scan is below what is left, or is left
below_or_left : (begin left : Left) (row : Row) → left.to ≡ begin.to → IsTrue (is_between Points begin.from begin.to row) → (bytes_cmp row.bytes left.from ≡ Less) ⊎ lower.Between left.from left.to row
below_or_left begin left row to in_range =
    let b = lower.between begin.from begin.to row in_range in
    elim (lower.less_or_not row.bytes left.from) [
      | inl less ↦ inl less
      | inr on ↦ inr (record { in_points = b.in_points; from_on = on; below = subst (λ (x : List ℕ). is_lt (bytes_cmp row.bytes x) ≡ true) (sym to) b.below })
    ]

-- a row that is left and was there is the one that the next row finds, or above it
at_or_above : (h : History) (n : ℕ) (left : Left) (p : Placed) (f : Found) (row : Row) → IsLawful h → entry_at h p.place ≡ Some p.entry → n < p.place → IsNext left (Some f) p → lower.Between left.from left.to row → HasCell (store_after (first n h)) row
    → (row ≡ f.row) ⊎ (bytes_cmp f.row.bytes row.bytes ≡ Less)
at_or_above h n left p f row lawful at low next b has =
    let still = lower.row_stays h n (p.place - 1) row lawful b.in_points (omega (arith, low)) has in
    lower.next_least (store_after (first (p.place - 1) h)) left.from left.to f row still.0 still.1 (lower.placed_next h p left (Some f) lawful at next) b still.2

module _ (picks : Picks) (begin left : Left) (own : List Placed) (founds : List Found) (p : Placed) (f : Found) (so : FoundBelow picks begin left own founds) (next : IsNext left (Some f) p) where
  -- each row below the one that the next row finds was found
  pub found_before : (h : History) (n : ℕ) → IsLawful h → StandAfter h n (own ++ p ∷ []) → (row : Row) → IsTrue (is_between Points begin.from begin.to row) → IsWanted begin.widths (picked_by picks) row → HasCell (store_after (first n h)) row → bytes_cmp row.bytes f.row.bytes ≡ Less
      → (g : Found) × Contains founds g × (g.row ≡ row)
  found_before h n lawful stand row in_range wanted has less = elim (below_or_left begin left row so.to in_range) [
    | inl low ↦ so.each h n lawful (λ q c. stand q (Contains-append_left own (p ∷ []) q c)) row in_range wanted has low
    | inr b ↦
        let at = stand p (Contains-append_right own (p ∷ []) p (lower.here p [])) in
        elim (at_or_above h n left p f row lawful at.0 at.1 next b has) [
          | inl same ↦ absurd (lower.not_itself f.row.bytes (subst (λ (r : Row). bytes_cmp r.bytes f.row.bytes ≡ Less) same less))
          | inr above ↦ absurd (lower.never_both row.bytes f.row.bytes less above)
        ]
  ]

  -- and behind it, each up to it
  pub below_more : (list : List Placed) → FoundBelow picks begin (behind left f.row) ((own ++ p ∷ []) ++ list) (founds ++ f ∷ [])
  below_more list = record {
    widths_are = so.widths_are;
    to = so.to;
    each = λ h n lawful stand row in_range wanted has less. at h n lawful (λ q c. stand q (Contains-append_left (own ++ p ∷ []) list q c)) row in_range wanted has less (below_or_left begin left row so.to in_range);
  }
    where
      at : (h : History) (n : ℕ) → IsLawful h → StandAfter h n (own ++ p ∷ []) → (row : Row) → IsTrue (is_between Points begin.from begin.to row) → IsWanted begin.widths (picked_by picks) row → HasCell (store_after (first n h)) row → bytes_cmp row.bytes (behind left f.row).from ≡ Less
          → (bytes_cmp row.bytes left.from ≡ Less) ⊎ lower.Between left.from left.to row → (g : Found) × Contains (founds ++ f ∷ []) g × (g.row ≡ row)
      at h n lawful stand row in_range wanted has less (inl low) =
          let w = so.each h n lawful (λ q c. stand q (Contains-append_left own (p ∷ []) q c)) row in_range wanted has low in
          (w.0, Contains-append_left founds (f ∷ []) w.0 w.1, w.2)
      at h n lawful stand row in_range wanted has less (inr b) =
          let s = stand p (Contains-append_right own (p ∷ []) p (lower.here p [])) in
          elim (at_or_above h n left p f row lawful s.0 s.1 next b has) [
            | inl same ↦ (f, Contains-append_right founds (f ∷ []) f (lower.here f []), sym same)
            | inr above ↦ absurd (less_not (bytes_cmp row.bytes (behind left f.row).from) less (lower.less_behind f.row.bytes row.bytes above))
          ]

-- where it goes on further, since no row in between is asked for, those below are found still
pub below_skipped : (picks : Picks) (begin left : Left) (from : List ℕ) (own : List Placed) (founds : List Found) → FoundBelow picks begin left own founds → Skips (picked_by picks) left from → FoundBelow picks begin (left_at left from) own founds
below_skipped picks begin left from own founds so skips = record {
  widths_are = so.widths_are;
  to = so.to;
  each = λ h n lawful stand row in_range wanted has less. elim (below_or_left begin left row so.to in_range) [
    | inl low ↦ so.each h n lawful stand row in_range wanted has low
    | inr b ↦ absurd (less_not (bytes_cmp row.bytes from) less (lower.wanted_stays (picked_by picks) left from row skips (subst (λ (w : Widths). IsWanted w (picked_by picks) row) (sym so.widths_are) wanted) b).from_on)
  ];
}
