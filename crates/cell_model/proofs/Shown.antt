-- What a read showed holds in each later history.
use Rattle.std.proofs.Common.{◌≡◌, ℕ, Bool, true, false, cond, List, [], ◌∷◌, refl, ap, ◌∙◌}
use Rattle.std.specs.Prelude.{Option, Some, option_map, map, filter, find, ◌&&◌}
use Rattle.std.specs.declared.cmp.Ordering.{Ordering}
use Rattle.std.specs.declared.cmp.Ordering.TheVariants.{Less, Equal, Greater}
use Rattle.std.specs.Ordering.{ordering_then, eq_by_cmp, is_eq}
use Rattle.std.specs.Cmp.Lexicographic.{texts_ties, nat_list_cmp_total}
use Rattle.std.specs.Cmp.{eq_by_cmp_equiv}
use Rattle.std.specs.FinMap.{get-entries}
use Rattle.std.specs.FinMap as map
use Rattle.cell_model.specs.declared.row.Row.{Row}
use Rattle.qual_codec.specs.declared.cells.Cell.{Cell}
use Rattle.cell_model.specs.declared.events.Place.{Place}
use Rattle.cell_model.specs.declared.events.Content.{Content}
use Rattle.cell_model.specs.Store.{Store, entries, place_cmp, row_cmp, place_of, value_at, cells_of, cell_of, same_bytes, value_among}
use Rattle.list_lemmas.specs.BytesOrder.{bytes_cmp}

then_both : (a b : Ordering) → is_eq (ordering_then a b) ≡ (is_eq a && is_eq b)
then_both Less b = refl
then_both Equal b = refl
then_both Greater b = refl

one_place : (qual : List ℕ) (e : Place × Content) (t u : Bool) (o : Option Content) (tail : List Cell) → same_bytes e.0.qual qual ≡ t → t ≡ u → option_map (λ (c : Content). c.value) o ≡ value_among tail qual
    → option_map (λ (c : Content). c.value) (cond u (Some e.1) o) ≡ option_map (λ (c : Cell). c.value) (cond t (Some (cell_of e)) (find (λ (c : Cell). same_bytes c.qual qual) tail))
one_place qual e true true o tail same tu go = refl
one_place qual e false false o tail same tu go = go
one_place qual e true false o tail same tu go = cc
one_place qual e false true o tail same tu go = cc

one_entry : (qual : List ℕ) (e : Place × Content) (a b : Ordering) (o : Option Content) (tail : List (Place × Content)) → same_bytes e.0.qual qual ≡ is_eq b → option_map (λ (c : Content). c.value) o ≡ value_among (map cell_of tail) qual
    → option_map (λ (c : Content). c.value) (cond (is_eq (ordering_then a b)) (Some e.1) o) ≡ value_among (map cell_of (cond (is_eq a) (e ∷ tail) tail)) qual
one_entry qual e Less b o tail same go = go
one_entry qual e Equal b o tail same go = one_place qual e (same_bytes e.0.qual qual) (is_eq b) o (map cell_of tail) refl same go
one_entry qual e Greater b o tail same go = go

list_value : (row : Row) (qual : List ℕ) (es : List (Place × Content))
    → option_map (λ (c : Content). c.value) (map.find place_cmp (place_of row qual) es) ≡ value_among (map cell_of (filter (λ (e : Place × Content). eq_by_cmp row_cmp row e.0.row) es)) qual
list_value row qual [] = refl
list_value row qual (e ∷ es) =
    one_entry qual e (row_cmp row e.0.row) (bytes_cmp qual e.0.qual) (map.find place_cmp (place_of row qual) es) (filter (λ (x : Place × Content). eq_by_cmp row_cmp row x.0.row) es)
    (texts_ties e.0.qual qual ∙ (eq_by_cmp_equiv nat_list_cmp_total).symm e.0.qual qual) (list_value row qual es)

-- what the cells of a row have is what the store has
pub value_among-cells_of : (s : Store) (row : Row) (qual : List ℕ) → value_at s row qual ≡ value_among (cells_of s row) qual
value_among-cells_of s row qual = ap (option_map (λ (c : Content). c.value)) (get-entries s.cells (place_of row qual)) ∙ list_value row qual (entries s)
