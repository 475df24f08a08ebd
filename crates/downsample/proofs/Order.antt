-- Points in order of time are as their finite map has them.
use Rattle.std.proofs.Common.{◌≡◌, ℕ, ℤ, cond, List, [], ◌∷◌, T, Less, refl, sym, ap, subst, ◌∙◌}
use Rattle.std.specs.Prelude.{Result, Some}
use Rattle.std.specs.FinMap.{from_entries, from_sorted, entries, entries_sorted, same_map, nat_cmp-IsAntisymmetric, get-from_entries, get-from_sorted, entries-from_sorted}
use Rattle.std.specs.FinMap.Entries.{is_sorted, find}
use Rattle.std.specs.Ordering.{nat_cmp}
use Rattle.std.specs.Cmp.{nat_cmp_is, ranked, unsigned_tied}
use Rattle.std.proofs.lemmas.Cmp.{nat_cmp_total}
use Rattle.tsd_base.specs.Dots.{IsRising}
use Rattle.tsd_base.specs.declared.kinds.Fill.{Fill}
use Rattle.tsd_base.specs.declared.kinds.Down.{Down}
use Rattle.lerp_aggregate.specs.Aggregation.{value_at}
use Rattle.lerp_aggregate.specs.Laws.{AreAlike}
use Rattle.downsample.specs.declared.downsampling.DownFault.{DownFault}
use Rattle.downsample.specs.Downsampling.{in_order, valued, buckets_for, downsampled, GivesDown}
use Rattle.list_lemmas.proofs.EntryLemmas.{sorted-rising, sorted_from_rising}

sorted : (points : List (ℕ × ℤ)) → IsRising points → T (is_sorted nat_cmp points)
sorted points rising = sorted_from_rising nat_cmp points (λ i j d before inside. sym (nat_cmp_is _ _ Less (rising i j d before inside)))

pub in_order_is : (points : List (ℕ × ℤ)) → IsRising points → in_order points ≡ points
in_order_is points rising =
    let s = sorted points rising in
    ap entries (same_map nat_cmp_total nat_cmp-IsAntisymmetric (from_entries {R = nat_cmp} points) (from_sorted {R = nat_cmp} points) (λ q. get-from_entries nat_cmp_total points q ∙ sym (get-from_sorted nat_cmp points q s)))
    ∙ entries-from_sorted nat_cmp points s

-- the entries of a map rise
pub in_order_rises : (readings : List (ℕ × ℤ)) → IsRising (in_order readings)
in_order_rises readings i j d before inside = ranked _ _ Less (sym (sorted-rising nat_cmp (in_order readings) (entries_sorted (from_entries {R = nat_cmp} readings)) i j d before inside))

-- what is given of points in order is given of the series
pub given_of : (how : Down) (start end : ℕ) (points list : List (ℕ × ℤ)) (fill : Fill) (result : Result (List (ℕ × ℤ)) DownFault) → list ≡ points → IsRising points → how.fill ≡ fill
    → GivesDown result (valued how.function how.interval list (buckets_for fill how.interval start end list)) → GivesDown result (downsampled how start end points)
given_of how start end points list fill result same rising is given =
    let ordered : list ≡ in_order points = same ∙ sym (in_order_is points rising) in
    subst (GivesDown result) (λ j. valued how.function how.interval (ordered j) (buckets_for (sym is j) how.interval start end (ordered j))) given

find_is : (points : List (ℕ × ℤ)) (time : ℕ) → find nat_cmp time points ≡ value_at points time
find_is [] time = refl
find_is (p ∷ points) time = λ j. cond (unsigned_tied time p.0 j) (Some p.1) (find_is points time j)

pub alike : (how : Down) (start end : ℕ) (xs ys : List (ℕ × ℤ)) → AreAlike xs ys → downsampled how start end xs ≡ downsampled how start end ys
alike how start end xs ys same =
    let one : from_entries {R = nat_cmp} xs ≡ from_entries {R = nat_cmp} ys = same_map nat_cmp_total nat_cmp-IsAntisymmetric (from_entries {R = nat_cmp} xs) (from_entries {R = nat_cmp} ys)
    (λ q. get-from_entries nat_cmp_total xs q ∙ find_is xs q ∙ same q ∙ sym (get-from_entries nat_cmp_total ys q ∙ find_is ys q)) in
    λ j. valued how.function how.interval (entries (one j)) (buckets_for how.fill how.interval start end (entries (one j)))
