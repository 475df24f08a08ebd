-- Counters fit, and what is counted of a store is counted of its history.
use Rattle.std.proofs.Common.{◌≡◌, ℕ, ◌+◌, ◌^◌, ◌<◌, List, refl, ap, ◌∙◌, arith}
use Rattle.std.specs.Prelude.{Option, None, Some, length, slice_index_or}
use Rattle.std.specs.Option.{option_map_or}
use Rattle.std.specs.Int.{w64, from_be_bytes}
use Rattle.std.proofs.lemmas.Nat.{from_be_bytes-to_be_bytes_8}
use Rattle.tsd_base.specs.declared.kinds.Kind.{Kind}
use Rattle.tsd_base.specs.declared.kinds.Kind.TheVariants.{Metric, TagKey, TagValue}
use Rattle.cell_model.specs.declared.row.Listing.{Listing}
use Rattle.cell_model.specs.Counts.{counters_of, listing_of, point_entries}
use Rattle.cell_model.specs.Store.{Store, value_at}
use Rattle.cell_model.specs.Machine.{counter_of, counter_row, kind_qual}
use Rattle.cell_model.specs.Sound.{CountersRead}
use Rattle.cell_model.proofs.CallerLemmas.{greatest_fits}
use Rattle.weave_rows.specs.WovenHistories.{IsWoven}
use Rattle.weave_script.specs.WovenCounts.{CountsWoven, wasted_in, wasted_of}

-- each counter is a number of 32 bits
pub counter_fits : (s : Store) → CountersRead s → (kind : Kind) → counter_of s kind < 2 ^ 32
counter_fits s read kind = at (value_at s counter_row (kind_qual kind)) refl
  where
    at : (o : Option (List ℕ)) → value_at s counter_row (kind_qual kind) ≡ o → counter_of s kind < 2 ^ 32
    at None is = let none : counter_of s kind ≡ 0 = ap (λ (v : Option (List ℕ)). option_map_or (from_be_bytes w64) v 0) is in omega (arith, none)
    at (Some value) is =
        let c = read (kind_qual kind) value is in
        let most = c.most in
        let fits = greatest_fits s.widths c.kind in
        let number : counter_of s kind ≡ c.number = ap (λ (v : Option (List ℕ)). option_map_or (from_be_bytes w64) v 0) is ∙ ap (from_be_bytes w64) c.value_is ∙ from_be_bytes-to_be_bytes_8 c.number (omega (arith, most, fits)) in
        omega (arith, number, most, fits)

-- the wasted ids of all kinds, by lines and counters
abbrev pub all_wasted : Listing → List ℕ → ℕ
all_wasted l ids = wasted_of l.lines l.widths Metric (slice_index_or ids 0 0) + wasted_of l.lines l.widths TagKey (slice_index_or ids 1 0) + wasted_of l.lines l.widths TagValue (slice_index_or ids 2 0)

-- the numbers of the store that a script left are those of its history
pub counts_woven : (count operations accepted : ℕ) (content : Store) (listing : Listing) (ids : List ℕ) (wasted cells : ℕ) → IsWoven accepted content → operations ≡ count → ids ≡ counters_of content → listing ≡ listing_of content
    → wasted ≡ all_wasted listing ids → cells ≡ length (point_entries content) → CountsWoven count (record { operations = operations; accepted = accepted; ids = ids; wasted = wasted; cells = cells })
counts_woven count operations accepted content listing ids wasted cells w same given listed lost held = record {
  history = w.history;
  of_three = w.of_three;
  operations = same;
  accepted = w.accepted_is;
  ids = given ∙ ap counters_of w.content_is;
  wasted = lost ∙ (λ i. all_wasted (listed i) (given i)) ∙ ap (λ (s : Store). wasted_in s Metric + wasted_in s TagKey + wasted_in s TagValue) w.content_is;
  cells = held ∙ ap (λ (s : Store). length (point_entries s)) w.content_is;
}
