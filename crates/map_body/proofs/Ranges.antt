-- The first row in a range.
use Rattle.std.proofs.Common.{◌≡◌, ℕ, Bool, true, false, cond, T, List, [], ◌∷◌, refl, sym, ap, subst, ◌∙◌}
use Rattle.std.specs.Prelude.{Option, None, Some, not, ◌&&◌}
use Rattle.std.specs.Prelude as std
use Rattle.std.specs.declared.cmp.Ordering.{Ordering}
use Rattle.std.specs.declared.cmp.Ordering.TheVariants.{Less, Equal, Greater}
use Rattle.std.specs.Ordering.{is_lt, is_le, ordering_reverse}
use Rattle.std.specs.Cmp.Lexicographic.{nat_list_cmp_total}
use Rattle.std.specs.FinMap.{is_sorted}
use Rattle.std.specs.FinMap.Entries.{below_all, is_sorted-where_key}
use Rattle.list_lemmas.specs.BytesOrder.{bytes_cmp}
use Rattle.list_lemmas.proofs.BoolTests.{T_left, T_right, T_less}
use Rattle.list_lemmas.proofs.OrderedBytes.{from_on_from_on, not_back}
use Rattle.packed_cells.specs.Keyed.{CellMap}
use Rattle.map_body.specs.TableRows.{is_within}
use Rattle.row_pages.specs.RowMaps.{rows_from}

turned : (r : Ordering) → not (is_lt (ordering_reverse r)) ≡ is_le r
turned Less = refl
turned Equal = refl
turned Greater = refl

not_below : (from q : List ℕ) → not (is_lt (bytes_cmp q from)) ≡ is_le (bytes_cmp from q)
not_below from q = ap (λ r. not (is_lt r)) (nat_list_cmp_total.antisymm q from) ∙ turned (bytes_cmp from q)

-- the first row in a range is the first below its end of those from its beginning on
pub first_of_part : (from to : List ℕ) (es : List (List ℕ × CellMap)) → std.find (λ (r : List ℕ × CellMap). is_within from to r.0) es ≡ std.find (λ (r : List ℕ × CellMap). is_lt (bytes_cmp r.0 to)) (rows_from from es)
first_of_part from to [] = refl
first_of_part from to (e ∷ es) =
    ap (λ b. cond (b && is_lt (bytes_cmp e.0 to)) (Some e) (std.find (λ (r : List ℕ × CellMap). is_within from to r.0) es)) (not_below from e.0)
    ∙ at (is_le (bytes_cmp from e.0)) (first_of_part from to es)
  where
    at : (b : Bool) → std.find (λ (r : List ℕ × CellMap). is_within from to r.0) es ≡ std.find (λ (r : List ℕ × CellMap). is_lt (bytes_cmp r.0 to)) (rows_from from es)
        → cond (b && is_lt (bytes_cmp e.0 to)) (Some e) (std.find (λ (r : List ℕ × CellMap). is_within from to r.0) es) ≡ std.find (λ (r : List ℕ × CellMap). is_lt (bytes_cmp r.0 to)) (cond b (e ∷ rows_from from es) (rows_from from es))
    at true go = ap (cond (is_lt (bytes_cmp e.0 to)) (Some e)) go
    at false go = go

-- the first of them is the one, if it is below the end
pub first_within : (from to : List ℕ) (es : List (List ℕ × CellMap)) (r : List ℕ × CellMap) (rest : List (List ℕ × CellMap)) → rows_from from es ≡ r ∷ rest → is_lt (bytes_cmp r.0 to) ≡ true → Some r ≡ std.find (λ (x : List ℕ × CellMap). is_within from to x.0) es
first_within from to es r rest is below =
    sym (first_of_part from to es ∙ ap (std.find (λ (x : List ℕ × CellMap). is_lt (bytes_cmp x.0 to))) is ∙ ap (λ b. cond b (Some r) (std.find (λ (x : List ℕ × CellMap). is_lt (bytes_cmp x.0 to)) rest)) below)

-- and else there is none
none_behind : (to : List ℕ) (r : List ℕ) (rest : List (List ℕ × CellMap)) → is_lt (bytes_cmp r to) ≡ false → T (below_all bytes_cmp r rest) → std.find (λ (x : List ℕ × CellMap). is_lt (bytes_cmp x.0 to)) rest ≡ None
none_behind to r [] behind all = refl
none_behind to r (e ∷ rest) behind all =
    ap (λ b. cond b (Some e) (std.find (λ (x : List ℕ × CellMap). is_lt (bytes_cmp x.0 to)) rest)) (from_on_from_on to r e.0 behind (not_back r e.0 (T_less _ (T_left _ _ all)))) ∙ none_behind to r rest behind (T_right _ _ all)

pub first_behind : (from to : List ℕ) (es : List (List ℕ × CellMap)) (r : List ℕ × CellMap) (rest : List (List ℕ × CellMap)) → T (is_sorted bytes_cmp es) → rows_from from es ≡ r ∷ rest → is_lt (bytes_cmp r.0 to) ≡ false → None ≡ std.find (λ (x : List ℕ × CellMap). is_within from to x.0) es
first_behind from to es r rest sorted is behind =
    let part : T (is_sorted bytes_cmp (r ∷ rest)) = subst (λ (l : List (List ℕ × CellMap)). T (is_sorted bytes_cmp l)) is (is_sorted-where_key bytes_cmp (λ k. is_le (bytes_cmp from k)) es sorted) in
    sym (first_of_part from to es ∙ ap (std.find (λ (x : List ℕ × CellMap). is_lt (bytes_cmp x.0 to))) is ∙ ap (λ b. cond b (Some r) (std.find (λ (x : List ℕ × CellMap). is_lt (bytes_cmp x.0 to)) rest)) behind ∙ none_behind to r.0 rest behind (T_left _ _ part))

pub none_within : (from to : List ℕ) (es : List (List ℕ × CellMap)) → rows_from from es ≡ [] → None ≡ std.find (λ (x : List ℕ × CellMap). is_within from to x.0) es
none_within from to es is = sym (first_of_part from to es ∙ ap (std.find (λ (x : List ℕ × CellMap). is_lt (bytes_cmp x.0 to))) is)
