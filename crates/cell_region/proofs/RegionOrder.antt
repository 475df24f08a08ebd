-- The lines of the regions, once they rise, are those of the store of all.
use Rattle.std.proofs.Common.{◌≡◌, ℕ, ◌+◌, ◌<◌, true, Bool, List, [], ◌∷◌, ◌++◌, length, refl, ap, sym, subst, ◌∙◌, arith}
use Rattle.std.specs.Prelude.{map, take, slice_index_or, slice_set, AllPairs, Contains, ◌&&◌}
use Rattle.std.specs.List.{flat_map, swap}
use Rattle.std.specs.List.Sorted.{IsPermutation, IsSortedBy}
use Rattle.std.specs.declared.cmp.Ordering.TheVariants.{Less}
use Rattle.std.specs.Ordering.{is_lt}
use Rattle.std.specs.FinMap.{entries_sorted}
use Rattle.cell_model.specs.Store.{entries}
use Rattle.std.proofs.lemmas.List.{length-map, map-set, get_or-map}
use Rattle.std.proofs.lemmas.List.Sorted.{IsPermutation-keeps, IsPermutation-refl, IsPermutation-swap, IsPermutation-trans}
use Rattle.list_lemmas.proofs.ListCuts.{map_join, nothing_behind, take_next}
use Rattle.list_lemmas.proofs.ListCuts as cuts
use Rattle.list_lemmas.proofs.ListMembers.{here, pairs_in, pairs_tail, there}
use Rattle.list_lemmas.proofs.EntryLemmas.{sorted-rising}
use Rattle.cell_model.specs.declared.row.ListLine.{ListLine}
use Rattle.cell_model.specs.declared.events.Place.{Place}
use Rattle.cell_model.specs.declared.events.Content.{Content}
use Rattle.cell_model.specs.PlaceOrder.{place_cmp}
use Rattle.row_key.specs.declared.widths.Widths.{Widths}
use Rattle.cell_model.specs.Counts.{line_of, lines_of}
use Rattle.cell_model.specs.Listed.{entry_of_line}
use Rattle.cell_model.specs.Rising.{LinesRise, is_above, place_of_line}
use Rattle.cell_laws.specs.StoreParts.{region_in}
use Rattle.cell_laws.proofs.PartLemmas.{entries-joined}
use Rattle.cell_region.specs.declared.region.Region.{Region}
use Rattle.cell_region.specs.RegionLists.{cells_in, AreComplete, store_of_all}
use Rattle.cell_region.proofs.RegionSteps.{parts_of}

abbrev pub lines_among : List Region → List ListLine
lines_among rs = flat_map (λ (r : Region). lines_of (cells_in r)) rs

-- in the order of their places
abbrev pub is_before : ListLine → ListLine → Bool
is_before l m = is_lt (place_cmp (place_of_line l) (place_of_line m))

lines_are : (rs : List Region) → lines_among rs ≡ map line_of (flat_map entries (map cells_in rs))
lines_are [] = refl
lines_are (r ∷ rs) = ap (λ (l : List ListLine). lines_of (cells_in r) ++ l) (lines_are rs) ∙ sym (map_join line_of (entries (cells_in r)) (flat_map entries (map cells_in rs)))

-- ---- lines in another order are entries in another order

swapped : (es : List (Place × Content)) (i j : ℕ) → i < length es → j < length es → swap (map line_of es) i j ≡ map line_of (swap es i j)
swapped [] i j p q = refl
swapped (e ∷ es) i j p q = sym (
    map-set line_of (slice_set (e ∷ es) i (slice_index_or (e ∷ es) j e)) j (slice_index_or (e ∷ es) i e)
    ∙ (λ t. slice_set ((map-set line_of (e ∷ es) i (slice_index_or (e ∷ es) j e) ∙ ap (slice_set (map line_of (e ∷ es)) i) (sym (get_or-map line_of (e ∷ es) j e (line_of e) q))) t) j (sym (get_or-map line_of (e ∷ es) i e (line_of e) p) t)))

pub record Moved (es : List (Place × Content)) (lines : List ListLine) : Type 0 where
  pub list : List (Place × Content)
  pub moved : IsPermutation es list
  pub are : lines ≡ map line_of list

moved_once : (es : List (Place × Content)) (l : List ListLine) (i j : ℕ) → i < length l → j < length l → Moved es l → Moved es (swap l i j)
moved_once es l i j p q m =
    let n : length l ≡ length m.list = ap length m.are ∙ length-map m.list line_of in
    let a : i < length m.list = omega (arith, p, n) in
    let b : j < length m.list = omega (arith, q, n) in
    record {
      list = swap m.list i j;
      moved = IsPermutation-trans es m.list (swap m.list i j) m.moved (IsPermutation-swap m.list (swap m.list i j) i j a b refl);
      are = ap (λ (x : List ListLine). swap x i j) m.are ∙ swapped m.list i j a b;
    }

moved_lines : (es : List (Place × Content)) (lines : List ListLine) → IsPermutation (map line_of es) lines → Moved es lines
moved_lines es lines p = IsPermutation-keeps (map line_of es) (Moved es) (record { list = es; moved = IsPermutation-refl es; are = refl }) (moved_once es) lines p

-- ---- the lines in order

sorted_entries : (es : List (Place × Content)) → IsSortedBy is_before (map line_of es) → IsSortedBy (λ (a b : Place × Content). is_lt (place_cmp a.0 b.0)) es
sorted_entries es up k d low lt =
    let n = length-map es line_of in
    (λ i. is_lt (place_cmp (place_of_line (sym (get_or-map line_of es (k + 1) d (line_of d) lt) i)) (place_of_line (sym (get_or-map line_of es k d (line_of d) (omega (arith, lt))) i))))
    ∙ up k (line_of d) low (omega (arith, lt, n))

module _ (w : Widths) (D : ℕ) (rs : List Region) (complete : AreComplete w D rs) (lines : List ListLine) (moved : IsPermutation (lines_among rs) lines) (up : IsSortedBy is_before lines) where
  way : Moved (flat_map entries (map cells_in rs)) lines
  way = moved_lines (flat_map entries (map cells_in rs)) lines (subst (λ (l : List ListLine). IsPermutation l lines) (lines_are rs) moved)

  pub lines_of_all : lines ≡ lines_of (store_of_all w rs)
  lines_of_all = way.are ∙ ap (map line_of) (sym (entries-joined w (region_in w D) (map cells_in rs) way.list (parts_of w D 0 rs complete.in_order) way.moved (sorted_entries way.list (subst (IsSortedBy is_before) way.are up))))

  pub lines_rise : LinesRise lines
  lines_rise = subst LinesRise (sym lines_of_all) (each (entries (store_of_all w rs)) (sorted-rising place_cmp (entries (store_of_all w rs)) (entries_sorted (store_of_all w rs).cells)))
    where
      each : (es : List (Place × Content)) → AllPairs (λ (p q : Place × Content). place_cmp p.0 q.0 ≡ Less) es → LinesRise (map line_of es)
      each es up i j d lt within =
          let n = length-map es line_of in
          let e = entry_of_line d in
          let inside : j < length es = omega (arith, within, n) in
          (λ t. place_cmp (place_of_line (get_or-map line_of es i e d (omega (arith, lt, inside)) t)) (place_of_line (get_or-map line_of es j e d inside t))) ∙ up i j e lt inside

-- ---- a listing of lines that rise

behind : (done : List ListLine) (line : ListLine) (more : List ListLine) → Contains (done ++ line ∷ more) line
behind [] line more = here line more
behind (x ∷ done) line more = there x line (done ++ line ∷ more) (behind done line more)

-- the next line is above those before it
pub above_next : (done : List ListLine) (line : ListLine) (more : List ListLine) → LinesRise (done ++ line ∷ more) → is_above done (place_of_line line) ≡ true
above_next [] line more up = refl
above_next (x ∷ done) line more up =
    let low : place_cmp (place_of_line x) (place_of_line line) ≡ Less = pairs_in (λ l m. place_cmp (place_of_line l) (place_of_line m) ≡ Less) x line (done ++ line ∷ more) up (behind done line more) in
    let rest = above_next done line more (pairs_tail (λ l m. place_cmp (place_of_line l) (place_of_line m) ≡ Less) x (done ++ line ∷ more) up) in
    λ i. is_lt (low i) && rest i

-- the lines of one region more
pub lines_next : (rs : List Region) (i : ℕ) (d : Region) → i < length rs → lines_among (take (i + 1) rs) ≡ lines_among (take i rs) ++ lines_of (cells_in (slice_index_or rs i d))
lines_next rs i d lt = ap lines_among (take_next rs i d lt) ∙ each (take i rs) (slice_index_or rs i d)
  where
    each : (xs : List Region) (r : Region) → lines_among (xs ++ r ∷ []) ≡ lines_among xs ++ lines_of (cells_in r)
    each [] r = nothing_behind (lines_of (cells_in r))
    each (x ∷ xs) r = ap (λ (l : List ListLine). lines_of (cells_in x) ++ l) (each xs r) ∙ sym (cuts.joined (lines_of (cells_in x)) (lines_among xs) (lines_of (cells_in r)))
