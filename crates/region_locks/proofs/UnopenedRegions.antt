-- Regions that are taken, one after another, to stand under their locks.
use Rattle.std.proofs.Common.{◌≡◌, ℕ, suc, ◌+◌, ◌-◌, ◌<◌, ◌≤◌, Bool, List, [], ◌∷◌, map, length, refl, sym, ap, ◌∙◌, subst, arith}
use Rattle.std.specs.Prelude.{Some, None, All, IsSomeAnd, IsTrue}
use Rattle.std.specs.declared.option.Option.{Option}
use Rattle.std.specs.declared.vec.IntoIter.{IntoIter}
use Rattle.std.specs.Vec.Iter.{into_iter_items, into_iter_steps}
use Rattle.std.proofs.lemmas.List.Elements.{All-head, All-tail}
use Rattle.row_key.specs.declared.regions.TheConstants.{NAME_REGIONS}
use Rattle.atomic_table.specs.Seated.{TableId}
use Rattle.cell_model.specs.declared.row.Row.{Row}
use Rattle.cell_model.specs.Store.{Store}
use Rattle.cell_model.specs.declared.events.Placed.{Placed}
use Rattle.cell_model.specs.Machine.{after}
use Rattle.cell_laws.specs.StoreParts.{is_in, part, replayed}
use Rattle.cell_laws.specs.JoinedParts.{part_at}
use Rattle.cell_region.specs.declared.region.Region.{Region}
use Rattle.cell_region.specs.RegionLists.{cells_in, rows_of, InOrder, AreComplete, HaveParts}
use Rattle.step_count.specs.declared.view.Named.{Named}
use Rattle.step_count.specs.declared.view.View.{View}
use Rattle.step_count.specs.declared.steps.Licence.{Licence}
use Rattle.step_count.specs.CounterRule.{region_count, store_in}
use Rattle.step_count.specs.FirstViews.{named, holding, unused_licences}
use Rattle.step_count.specs.Tokens.{counter_of_licence, view_of_licence}
use Rattle.region_locks.specs.CallerViews.{Replays}
use Rattle.region_locks.specs.SiteStarts.{IsUnopened, AreUnopened, AreToCome, IsHeld}
use Rattle.region_locks.proofs.Lower.{store_told}

-- the numbers of regions and their licences from a number on
from_number : (counter : TableId) (name : Named) (number : ℕ) (rs : List Region) (ls : List Licence) → number + length rs ≡ region_count name → InOrder name.widths name.data_regions number rs
    → ((k : ℕ) → k < length rs → part_at name.widths (map cells_in rs) k ≡ part (is_in name.widths name.data_regions (number + k)) (store_in name))
    → All (λ licence. counter_of_licence licence ≡ counter) ls → map view_of_licence ls ≡ unused_licences (Some name) number (length rs) → AreUnopened counter name number rs ls
from_number counter name number [] [] count order parts own views = omega (arith, count)
from_number counter name number [] (l ∷ ls) count order parts own views = absurd (cc)
from_number counter name number (r ∷ rs) [] count order parts own views = absurd (cc)
from_number counter name number (r ∷ rs) (l ∷ ls) count order parts own views =
    let P : Licence → Type 0 = λ licence. counter_of_licence licence ≡ counter in (
      record {
        among = omega (arith, count);
        cells = let same : number + 0 ≡ number = omega arith in parts 0 (omega arith) ∙ ap (λ n. part (is_in name.widths name.data_regions n) (store_in name)) same;
        rows = order.0;
        counter_is = All-head P l ls own;
        view = ap (head_or (view_of_licence l)) views;
      },
      from_number counter name (number + 1) rs ls (omega (arith, count)) order.2
          (λ k lt. let same : number + suc k ≡ number + 1 + k = omega arith in parts (suc k) (omega (arith, lt)) ∙ ap (λ n. part (is_in name.widths name.data_regions n) (store_in name)) same)
          (All-tail P l ls own) (ap rest views),
    )
  where
    head_or : View → List View → View
    head_or v [] = v
    head_or v (x ∷ xs) = x

    rest : List View → List View
    rest [] = []
    rest (x ∷ xs) = xs

-- all regions of a store that was split, with the licences that were made for them
pub all_unopened : (counter : TableId) (name : Named) (D count : ℕ) (base content : Store) (rs : List Region) (ls : List Licence) → AreComplete content.widths D rs → HaveParts D rs content → base ≡ content → count ≡ length rs → name ≡ named base (count - NAME_REGIONS)
    → All (λ licence. counter_of_licence licence ≡ counter) ls → map view_of_licence ls ≡ unused_licences (Some (named base (count - NAME_REGIONS))) 0 count
    → AreUnopened counter name 0 rs ls × (count - NAME_REGIONS ≡ name.data_regions) × (1 ≤ count - NAME_REGIONS) × (count - NAME_REGIONS ≤ 16)
all_unopened counter name D count base content rs ls complete have same_base len is own views =
    let all = complete.all in
    let regions_are : count - NAME_REGIONS ≡ name.data_regions = sym (ap (λ (n : Named). n.data_regions) is) in
    let D_is : D ≡ name.data_regions = omega (arith, all, len, regions_are) in
    let store : content ≡ store_in name = sym (ap store_in is ∙ store_told base ∙ same_base) in
    let widths : content.widths ≡ name.widths = ap (λ (s : Store). s.widths) store in (
      from_number counter name 0 rs ls (omega (arith, all, D_is)) (subst (λ w. InOrder w name.data_regions 0 rs) widths (subst (λ d. InOrder content.widths d 0 rs) D_is complete.in_order))
          (λ k lt. let same : k ≡ 0 + k = omega arith in subst (λ w. part_at w (map cells_in rs) k ≡ part (is_in w D k) content) widths (have k (omega (arith, all, lt))) ∙ (λ i. part (is_in name.widths (D_is i) (same i)) (store i)))
          own (views ∙ (λ i. unused_licences (Some (sym is i)) 0 (len i))),
      regions_are,
      (let least = complete.least in omega (arith, all, len, least)),
      (let most = complete.most in omega (arith, all, len, most)),
    )

replays_first : (name : Named) (number : ℕ) (cells : Store) (rows : Row → Bool) (v : View) → cells ≡ part (is_in name.widths name.data_regions number) (store_in name) → rows ≡ is_in name.widths name.data_regions number → v ≡ holding (Some name) number 1 → Replays name number cells rows v
replays_first name number cells rows v c r is = record {
  named = ap (λ (x : View). x.named) is;
  nobody = ap (λ (x : View). x.callers) is;
  log = [];
  licence = ap (λ (x : View). x.licences) is;
  content_is = c;
  rows_are = r;
}

module _ {Y Z : Type 0} (counter : TableId) (name : Named) (number : ℕ) (rs rs' : IntoIter Region Y) (ls ls' : IntoIter Licence Z) where
  -- a region comes, and its licence
  pub next_some : (r : Region) (l : Licence) → AreToCome counter name number rs ls → into_iter_steps rs (Some r) rs' → into_iter_steps ls (Some l) ls'
      → IsHeld counter name number (cells_in r) (rows_of r) (Some l) × AreToCome counter name (number + 1) rs' ls'
  next_some r l to one two =
      let a : IsUnopened counter name number r l × AreUnopened counter name (number + 1) (into_iter_items rs') (into_iter_items ls') =
      subst (λ xs. AreUnopened counter name number xs (l ∷ into_iter_items ls')) one.0 (subst (AreUnopened counter name number (into_iter_items rs)) two.0 to.unopened) in (
        (a.0.among, a.0.counter_is, replays_first name number (cells_in r) (rows_of r) (view_of_licence l) a.0.cells a.0.rows a.0.view),
        record {
          unopened = a.1;
          regions_len = (let one_len = one.1 in let len = to.regions_len in let more : length (into_iter_items rs) ≡ suc (length (into_iter_items rs')) = ap length one.0 in omega (arith, one_len, len, more));
          licences_len = (let two_len = two.1 in let len = to.licences_len in let more : length (into_iter_items ls) ≡ suc (length (into_iter_items ls')) = ap length two.0 in omega (arith, two_len, len, more));
        },
      )

  pub next_held : (r : Region) (l : Licence) (o : Option Region) (p : Option Licence) → o ≡ Some r → p ≡ Some l → AreToCome counter name number rs ls → into_iter_steps rs o rs' → into_iter_steps ls p ls'
      → IsHeld counter name number (cells_in r) (rows_of r) (Some l) × AreToCome counter name (number + 1) rs' ls'
  next_held r l o p r_is l_is to one two = next_some r l to (subst (λ (x : Option Region). into_iter_steps rs x rs') r_is one) (subst (λ (x : Option Licence). into_iter_steps ls x ls') l_is two)

  -- while the number is a region's, a region and a licence are left
  pub regions_left : number < region_count name → AreToCome counter name number rs ls → into_iter_steps rs None rs' → ⊥
  regions_left lt to none = at (into_iter_items rs) (into_iter_items ls) refl to.unopened
    where
      at : (xs : List Region) (ys : List Licence) → into_iter_items rs ≡ xs → AreUnopened counter name number xs ys → ⊥
      at [] [] is a = omega (arith, a, lt)
      at [] (y ∷ ys) is a = a
      at (x ∷ xs) ys is a = let len = to.regions_len in let z = none.0 in let more : length (into_iter_items rs) ≡ suc (length xs) = ap length is in omega (arith, len, z, more)

  pub licences_left : number < region_count name → AreToCome counter name number rs ls → into_iter_steps ls None ls' → ⊥
  licences_left lt to none = at (into_iter_items rs) (into_iter_items ls) refl to.unopened
    where
      at : (xs : List Region) (ys : List Licence) → into_iter_items ls ≡ ys → AreUnopened counter name number xs ys → ⊥
      at [] [] is a = omega (arith, a, lt)
      at (x ∷ xs) [] is a = a
      at xs (y ∷ ys) is a = let len = to.licences_len in let z = none.0 in let more : length (into_iter_items ls) ≡ suc (length ys) = ap length is in omega (arith, len, z, more)

  -- past the last region none is left
  pub none_to_come : region_count name ≤ number → AreToCome counter name number rs ls → AreToCome counter name (number + 1) rs ls
  none_to_come le to = record {
    unopened = at (into_iter_items rs) (into_iter_items ls) to.unopened;
    regions_len = to.regions_len;
    licences_len = to.licences_len;
  }
    where
      at : (xs : List Region) (ys : List Licence) → AreUnopened counter name number xs ys → AreUnopened counter name (number + 1) xs ys
      at [] [] a = omega (arith, le)
      at [] (y ∷ ys) a = a
      at (x ∷ xs) [] a = a
      at (x ∷ xs) (y ∷ ys) a = let lt = a.0.among in absurd (omega (arith, le, lt))

-- the numbers of what lies under a lock that the site has
pub held_some : (counter : TableId) (name : Named) (number : ℕ) (cells : Store) (rows : Row → Bool) (o : Option Licence) → number < region_count name → IsHeld counter name number cells rows o
    → IsSomeAnd o (λ l. (counter_of_licence l ≡ counter) × Replays name number cells rows (view_of_licence l))
held_some counter name number cells rows None lt h = absurd (omega (arith, lt, h))
held_some counter name number cells rows (Some l) lt h = (h.1, h.2)

pub held_has : (counter : TableId) (name : Named) (number : ℕ) (cells : Store) (rows : Row → Bool) (o : Option Licence) (l : Licence) → number < region_count name → IsHeld counter name number cells rows o → o ≡ Some l
    → (counter_of_licence l ≡ counter) × Replays name number cells rows (view_of_licence l)
held_has counter name number cells rows o l lt h is = held_some counter name number cells rows (Some l) lt (subst (IsHeld counter name number cells rows) is h)

-- a region that the site has is over its own rows
pub held_rows : (counter : TableId) (name : Named) (number : ℕ) (cells : Store) (rows : Row → Bool) (o : Option Licence) → number < region_count name → IsHeld counter name number cells rows o → (row : Row) → IsTrue (is_in name.widths name.data_regions number row) → IsTrue (rows row)
held_rows counter name number cells rows None lt h row m = absurd (omega (arith, lt, h))
held_rows counter name number cells rows (Some l) lt h row m = subst (λ (f : Row → Bool). IsTrue (f row)) (sym h.2.rows_are) m

-- the widths of a region that the site has are those of the named store
pub held_widths : (counter : TableId) (name : Named) (number : ℕ) (cells : Store) (rows : Row → Bool) (o : Option Licence) → number < region_count name → IsHeld counter name number cells rows o → cells.widths ≡ name.widths
held_widths counter name number cells rows None lt h = absurd (omega (arith, lt, h))
held_widths counter name number cells rows (Some l) lt h = ap (λ (s : Store). s.widths) h.2.content_is ∙ replayed_widths (part (is_in name.widths name.data_regions number) (store_in name)) h.2.log
  where
    replayed_widths : (s : Store) (log : List Placed) → (replayed s log).widths ≡ s.widths
    replayed_widths s [] = refl
    replayed_widths s (p ∷ log) = replayed_widths (after s p.place p.entry.step) log
