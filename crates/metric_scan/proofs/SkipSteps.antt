-- Where the scan goes on behind a row that isn't asked for.
use Rattle.std.proofs.Common.{◌≡◌, inl, inr, ℕ, false, List, [], ◌∷◌, ◌++◌, refl, sym, ap, subst, ◌∙◌, append_assoc}
use Rattle.std.specs.Prelude.{IsTrue}
use Rattle.std.specs.Ordering.{is_lt}
use Rattle.std.specs.Int.{to_be_bytes, w32}
use Rattle.std.specs.List.{flat_map}
use Rattle.row_key.specs.declared.widths.Widths.{Widths}
use Rattle.row_key.specs.declared.keys.RowKey.{RowKey}
use Rattle.row_key.specs.declared.tables.Table.TheVariants.{Points}
use Rattle.row_key.specs.Key.{IsKey, hour_bytes, id_bytes, key_bytes, pair_bytes}
use Rattle.cell_model.specs.Ranges.{SameMetric}
use Rattle.cell_model.specs.Readings.{point_row}
use Rattle.cell_model.specs.Store.{is_between}
use Rattle.list_lemmas.specs.BytesOrder.{bytes_cmp}
use Rattle.row_scan.specs.Scans.{Left, Skips, left_at}
use Rattle.metric_scan.specs.Walks.{Picks, GoesOn, picked_by}
use Rattle.metric_scan.specs.KeyJumps.{JumpsOver}
use Rattle.metric_scan.proofs.Lower as lower
use Rattle.metric_scan.proofs.Passing.{less_not}

-- where it was
pub stays_there : (picks : Picks) (left : Left) → GoesOn picks left left
stays_there picks left = (
  left.from,
  record {
    forward = elim (lower.less_or_not left.from left.from) [ inl less ↦ absurd (lower.not_itself left.from less) | inr on ↦ on ];
    over = λ key is in_range.
        let row = key_bytes left.widths key in
        let b = lower.between left.from left.from (point_row row) in_range in
        absurd (less_not (bytes_cmp row left.from) (lower.less_if (bytes_cmp row left.from) b.below) b.from_on);
  },
  refl,
)

-- of one metric
pub same_metric : (widths : Widths) (key target : RowKey) (from : List ℕ) → target.metric ≡ key.metric → from ≡ key_bytes widths key ++ 0 ∷ [] → SameMetric widths (key_bytes widths target) from
same_metric widths key target from metric is = record {
  metric = id_bytes widths.metric key.metric;
  from_rest = to_be_bytes w32 target.base ++ flat_map (pair_bytes widths) target.pairs.items;
  to_rest = to_be_bytes w32 key.base ++ (flat_map (pair_bytes widths) key.pairs.items ++ 0 ∷ []);
  whole = lower.length_bytes widths.metric key.metric;
  from_is = ap (λ m. key_bytes widths (record target { metric = m })) metric ∙ append_assoc (id_bytes widths.metric key.metric) (to_be_bytes w32 target.base) (flat_map (pair_bytes widths) target.pairs.items);
  to_is = is ∙ append_assoc (hour_bytes widths key.metric key.base) (flat_map (pair_bytes widths) key.pairs.items) (0 ∷ []) ∙ append_assoc (id_bytes widths.metric key.metric) (to_be_bytes w32 key.base) (flat_map (pair_bytes widths) key.pairs.items ++ 0 ∷ []);
}

module _ (widths : Widths) (picks : Picks) (key target : RowKey) (from : List ℕ) (is : IsKey widths key) (j : JumpsOver widths picks key target) (behind : from ≡ key_bytes widths key ++ 0 ∷ []) where
  abbrev bytes : RowKey → List ℕ
  bytes k = key_bytes widths k

  pub forward : is_lt (bytes_cmp (bytes target) from) ≡ false
  forward = subst (λ (x : List ℕ). is_lt (bytes_cmp (bytes target) x) ≡ false) (sym behind) (lower.less_behind (bytes key) (bytes target) (lower.keys_compare widths key target is j.is_key ∙ j.later))

  over : (k : RowKey) → IsKey widths k → IsTrue (is_between Points from (bytes target) (point_row (bytes k))) → picks k.pairs.items ≡ false
  over k ik in_range =
      let b = lower.between from (bytes target) (point_row (bytes k)) in_range in
      let on = subst (λ (x : List ℕ). is_lt (bytes_cmp (bytes k) x) ≡ false) behind b.from_on in
      let low = lower.from_on_from_on (bytes key) (bytes key ++ 0 ∷ []) (bytes k) (lower.not_back (bytes key) (bytes key ++ 0 ∷ []) (lower.below_behind (bytes key))) on in
      j.over k ik (ap is_lt (sym (lower.keys_compare widths k key ik is)) ∙ low, sym (lower.keys_compare widths k target ik j.is_key) ∙ lower.less_if (bytes_cmp (bytes k) (bytes target)) b.below)

  pub goes_behind : (left now : Left) → left.widths ≡ widths → left.from ≡ from → now ≡ left_at left (bytes target) → GoesOn picks left now
  goes_behind left now widths_are from_is now_is =
      let skips : Skips (picked_by picks) (record { widths = widths; from = from; to = left.to }) (bytes target) = record { forward = forward; over = over } in
      (bytes target, subst (λ (l : Left). Skips (picked_by picks) l (bytes target)) (λ i. record { widths = (sym widths_are) i; from = (sym from_is) i; to = left.to }) skips, now_is)
