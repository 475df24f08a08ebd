-- The tags of a group rise.
use Rattle.std.proofs.Common.{◌≡◌, ℕ, zero, suc, ◌≤◌, Bool, List, [], ◌∷◌, Less, map, length, take, AllPairs, sym, subst, ◌∙◌, arith}
use Rattle.std.specs.Prelude.{filter}
use Rattle.std.proofs.lemmas.List.{take_all}
use Rattle.std.proofs.lemmas.List.Elements.{All-map}
use Rattle.std.proofs.lemmas.List.Kept.{AllPairs-cons, AllPairs-filter}
use Rattle.tsd_base.specs.TagList.{Pair, IsTags, RiseByKey}
use Rattle.list_lemmas.specs.BytesOrder.{bytes_cmp}

map_pairs : {X Y : Type 0} (R : Y → Y → Type 0) (f : X → Y) (xs : List X) → AllPairs (λ x y. R (f x) (f y)) xs → AllPairs R (map f xs)
map_pairs R f [] h = λ i j d below within. absurd (omega arith)
map_pairs R f (x ∷ xs) h =
    AllPairs-cons R (f x) (map f xs)
    (All-map (R (f x)) f xs (λ k d within. h zero (suc k) d (omega arith) (omega arith)))
    (map_pairs R f xs (λ i j d below within. h (suc i) (suc j) d (omega arith) (omega arith)))

-- nothing rises
pub none_rise : {X : Type 0} (R : X → X → Type 0) (kept : List X) → kept ≡ [] → AllPairs R kept
none_rise R kept none = subst (AllPairs R) (sym none) (λ i j d below within. absurd (omega arith))

module _ (passes : Pair → Bool) (tags pairs : List Pair) (end : ℕ) (same : pairs ≡ tags) (are : IsTags tags) (all : length pairs ≤ end) where
  kept_rise : RiseByKey (filter passes (take end pairs))
  kept_rise = AllPairs-filter (λ p q. bytes_cmp p.0 q.0 ≡ Less) passes (take end pairs) (subst RiseByKey (sym (take_all end pairs all ∙ same)) are.rising)

  -- some of the pairs rise, and so do their keys
  pub pairs_rise : (kept : List Pair) → kept ≡ filter passes (take end pairs) → RiseByKey kept
  pairs_rise kept is = subst RiseByKey (sym is) kept_rise

  pub keys_rise : (kept : List (List ℕ)) → kept ≡ map (λ pair. pair.0) (filter passes (take end pairs)) → AllPairs (λ x y. bytes_cmp x y ≡ Less) kept
  keys_rise kept is =
      subst (AllPairs (λ x y. bytes_cmp x y ≡ Less)) (sym is) (map_pairs (λ x y. bytes_cmp x y ≡ Less) (λ (pair : Pair). pair.0) (filter passes (take end pairs)) kept_rise)
