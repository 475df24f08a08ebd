-- The lines of a store from a row on: one row's, and then those behind it.
use Rattle.std.proofs.Common.{◌≡◌, ◌⊎◌, inl, inr, ℕ, Bool, true, false, cond, T, List, [], ◌∷◌, ◌++◌, map, refl, sym, ap, subst, ◌∙◌}
use Rattle.std.specs.Prelude.{Option, Some, not, ◌||◌, option_map, filter, AllPairs, Contains}
use Rattle.std.specs.declared.cmp.Ordering.{Ordering}
use Rattle.std.specs.declared.cmp.Ordering.TheVariants.{Less, Equal, Greater}
use Rattle.std.specs.Ordering.{ordering_then, ordering_reverse, eq_by_cmp, is_eq, is_lt}
use Rattle.std.specs.Cmp.{tied_itself}
use Rattle.std.specs.FinMap.{get-entries, entries_sorted, is_sorted}
use Rattle.std.specs.FinMap as fin
use Rattle.std.specs.FinMap.Entries.{below_all}
use Rattle.row_key.specs.declared.tables.Table.{Table}
use Rattle.row_key.specs.declared.tables.Table.TheVariants.{Ids, Names, Points}
use Rattle.cell_model.specs.declared.row.Row.{Row}
use Rattle.cell_model.specs.declared.row.ListLine.{ListLine}
use Rattle.cell_model.specs.declared.events.Place.{Place}
use Rattle.cell_model.specs.declared.events.Content.{Content}
use Rattle.cell_model.specs.Store.{Store, entries, place_cmp, row_cmp, value_at, cells_of, cell_of}
use Rattle.cell_model.specs.Counts.{line_of, lines_of}
use Rattle.cell_model.proofs.CallerLemmas.{rows_total, places_total, exact_rows}
use Rattle.list_lemmas.specs.BytesOrder.{bytes_cmp}
use Rattle.list_lemmas.proofs.BoolTests.{T_left, T_right, T_less, is_equal}
use Rattle.list_lemmas.proofs.EntryLemmas.{sorted-rising}
use Rattle.list_lemmas.proofs.ListCuts.{map_join}
use Rattle.list_lemmas.proofs.ListMembers.{here, there, split, not_in, pairs_in, pairs_tail}
use Rattle.list_lemmas.proofs.ListParts.{in_filter}
use Rattle.list_lemmas.proofs.OrderedBytes.{not_below_none}
use Rattle.listing_print.specs.StoreRows.{line_in, lines_from, row_lines}
use Rattle.listing_print.proofs.RowOrder.{above_behind, behind_row, below_then_on, lt_is, not_less, on_then_below, on_then_on, row_behind, turned_less}

-- ---- lists and tests

-- tests that answer alike for each element keep the same
filter_same : {A : Type 0} (p q : A → Bool) (xs : List A) → ((x : A) → Contains xs x → p x ≡ q x) → filter p xs ≡ filter q xs
filter_same p q [] e = refl
filter_same {A = A} p q (x ∷ xs) e = let rest = filter_same p q xs (λ y c. e y (there x y xs c)) in λ i. cond (e x (here x xs) i) (x ∷ rest i) (rest i)

filter_none : {A : Type 0} (p : A → Bool) (xs : List A) → ((x : A) → Contains xs x → p x ≡ false) → filter p xs ≡ []
filter_none p [] e = refl
filter_none {A = A} p (x ∷ xs) e = let rest = filter_none p xs (λ y c. e y (there x y xs c)) in ap (λ b. cond b (x ∷ filter p xs) (filter p xs)) (e x (here x xs)) ∙ rest

filter_all : {A : Type 0} (p : A → Bool) (xs : List A) → ((x : A) → Contains xs x → p x ≡ true) → filter p xs ≡ xs
filter_all p [] e = refl
filter_all {A = A} p (x ∷ xs) e = let rest = filter_all p xs (λ y c. e y (there x y xs c)) in ap (λ b. cond b (x ∷ filter p xs) (filter p xs)) (e x (here x xs)) ∙ ap (λ (l : List A). x ∷ l) rest

-- what passes the first test passes exactly one of two others, and none that passes the second stands before one that passes the first
filter_split : {A : Type 0} (R : A → A → Type 0) (p q r : A → Bool) (xs : List A) → AllPairs R xs → ((x : A) → Contains xs x → p x ≡ (q x || r x)) → ((x : A) → Contains xs x → q x ≡ true → r x ≡ true → ⊥)
    → ((x y : A) → R x y → r x ≡ true → q y ≡ true → ⊥) → filter p xs ≡ filter q xs ++ filter r xs
filter_split R p q r [] up one both order = refl
filter_split {A = A} R p q r (x ∷ xs) up one both order =
    at (q x) refl (r x) refl (one x (here x xs)) (filter_split R p q r xs (pairs_tail R x xs up) (λ y c. one y (there x y xs c)) (λ y c. both y (there x y xs c)) order)
  where
    none : r x ≡ true → filter q xs ≡ []
    none is = filter_none q xs (λ y c. off (q y) refl y c)
      where
        off : (b : Bool) → b ≡ b → (y : A) → Contains xs y → q y ≡ false
        off b e y c = by (q y) refl
          where
            by : (t : Bool) → q y ≡ t → t ≡ false
            by true f = absurd (order x y (pairs_in R x y xs up c) is f)
            by false f = refl

    at : (b : Bool) → q x ≡ b → (c : Bool) → r x ≡ c → p x ≡ (q x || r x) → filter p xs ≡ filter q xs ++ filter r xs → cond (p x) (x ∷ filter p xs) (filter p xs) ≡ cond (q x) (x ∷ filter q xs) (filter q xs) ++ cond (r x) (x ∷ filter r xs) (filter r xs)
    at true eq true er ep go = absurd (both x (here x xs) eq er)
    at true eq false er ep go =
        ap (λ b. cond b (x ∷ filter p xs) (filter p xs)) (ep ∙ ap (λ b. b || r x) eq) ∙ ap (λ (l : List A). x ∷ l) go
        ∙ (λ i. cond (sym eq i) (x ∷ filter q xs) (filter q xs) ++ cond (sym er i) (x ∷ filter r xs) (filter r xs))
    at false eq true er ep go =
        ap (λ b. cond b (x ∷ filter p xs) (filter p xs)) (ep ∙ (λ i. eq i || er i)) ∙ ap (λ (l : List A). x ∷ l) (go ∙ ap (λ (l : List A). l ++ filter r xs) (none er)) ∙ ap (λ (l : List A). l ++ x ∷ filter r xs) (sym (none er))
        ∙ (λ i. cond (sym eq i) (x ∷ filter q xs) (filter q xs) ++ cond (sym er i) (x ∷ filter r xs) (filter r xs))
    at false eq false er ep go =
        ap (λ b. cond b (x ∷ filter p xs) (filter p xs)) (ep ∙ (λ i. eq i || er i)) ∙ go
        ∙ (λ i. cond (sym eq i) (x ∷ filter q xs) (filter q xs) ++ cond (sym er i) (x ∷ filter r xs) (filter r xs))

-- ---- entries of a store

below_in : (x : Place) (e : Place × Content) (es : List (Place × Content)) → T (below_all place_cmp x es) → Contains es e → place_cmp x e.0 ≡ Less
below_in x e [] b c = absurd (not_in e c)
below_in x e (y ∷ es) b c = at (split y e es c) (λ c. below_in x e es (T_right _ _ b) c)
  where
    at : (y ≡ e) ⊎ Contains es e → (Contains es e → place_cmp x e.0 ≡ Less) → place_cmp x e.0 ≡ Less
    at (inl same) go = subst (λ (z : Place × Content). place_cmp x z.0 ≡ Less) same (T_less _ (T_left _ _ b))
    at (inr c) go = go c

found_there : (e : Place × Content) (es : List (Place × Content)) → T (is_sorted place_cmp es) → Contains es e → fin.find place_cmp e.0 es ≡ Some e.1
found_there e [] s c = absurd (not_in e c)
found_there e (x ∷ es) s c = at (split x e es c) (λ c. found_there e es (T_right _ _ s) c)
  where
    greater : (r : Ordering) → r ≡ Less → is_eq (ordering_reverse r) ≡ false
    greater Less e = refl
    greater Equal e = cc
    greater Greater e = refl

    at : (x ≡ e) ⊎ Contains es e → (Contains es e → fin.find place_cmp e.0 es ≡ Some e.1) → fin.find place_cmp e.0 (x ∷ es) ≡ Some e.1
    at (inl same) go = subst (λ (z : Place × Content). fin.find place_cmp z.0 (x ∷ es) ≡ Some z.1) same (ap (λ r. cond (is_eq r) (Some x.1) (fin.find place_cmp x.0 es)) (tied_itself places_total x.0))
    at (inr c) go =
        ap (λ b. cond b (Some x.1) (fin.find place_cmp e.0 es)) (ap is_eq (places_total.antisymm e.0 x.0) ∙ greater (place_cmp x.0 e.0) (below_in x.0 e es (T_left _ _ s) c)) ∙ go c

-- an entry is what the store has at its place
pub entry_value : (s : Store) (e : Place × Content) → Contains (entries s) e → value_at s e.0.row e.0.qual ≡ Some e.1.value
entry_value s e c = ap (λ (o : Option Content). option_map (λ (c : Content). c.value) o) (get-entries s.cells e.0 ∙ found_there e (entries s) (entries_sorted s.cells) c)

-- ---- gaps

-- no row from one on and before another has a cell
abbrev pub Gap : Store → Row → Row → Type 0
Gap s from to = (row : Row) (qual value : List ℕ) → value_at s row qual ≡ Some value → is_lt (row_cmp row from) ≡ false → is_lt (row_cmp row to) ≡ true → ⊥

-- no row from this one on has a cell
abbrev pub NoneFrom : Store → Row → Type 0
NoneFrom s from = (row : Row) (qual value : List ℕ) → value_at s row qual ≡ Some value → is_lt (row_cmp row from) ≡ false → ⊥

passed : (s : Store) (from to : Row) → is_lt (row_cmp to from) ≡ false → Gap s from to → (e : Place × Content) → Contains (entries s) e → not (is_lt (row_cmp e.0.row from)) ≡ not (is_lt (row_cmp e.0.row to))
passed s from to forward gap e c = at (row_cmp e.0.row from) refl (row_cmp e.0.row to) refl
  where
    at : (a : Ordering) → row_cmp e.0.row from ≡ a → (b : Ordering) → row_cmp e.0.row to ≡ b → not (is_lt a) ≡ not (is_lt b)
    at Less ea Less eb = refl
    at Less ea Equal eb = absurd (not_less _ (below_then_on rows_total e.0.row from to ea forward) (ap is_lt eb))
    at Less ea Greater eb = absurd (not_less _ (below_then_on rows_total e.0.row from to ea forward) (ap is_lt eb))
    at Equal ea Less eb = absurd (gap e.0.row e.0.qual e.1.value (entry_value s e c) (ap is_lt ea) (ap is_lt eb))
    at Greater ea Less eb = absurd (gap e.0.row e.0.qual e.1.value (entry_value s e c) (ap is_lt ea) (ap is_lt eb))
    at Equal ea Equal eb = refl
    at Equal ea Greater eb = refl
    at Greater ea Equal eb = refl
    at Greater ea Greater eb = refl

-- over a gap the lines are the same
pub lines_over : (s : Store) (from to : Row) → is_lt (row_cmp to from) ≡ false → Gap s from to → lines_from s from ≡ lines_from s to
unfolding lines_from
lines_over s from to forward gap = ap (map line_of) (filter_same _ _ (entries s) (passed s from to forward gap))

-- where no row is left there are no lines
pub lines_none : (s : Store) (from : Row) → NoneFrom s from → lines_from s from ≡ []
unfolding lines_from
lines_none s from none = ap (map line_of) (filter_none _ (entries s) (λ e c. at (row_cmp e.0.row from) refl e c))
  where
    at : (a : Ordering) → a ≡ a → (e : Place × Content) → Contains (entries s) e → not (is_lt (row_cmp e.0.row from)) ≡ false
    at a same e c = by (is_lt (row_cmp e.0.row from)) refl
      where
        by : (b : Bool) → is_lt (row_cmp e.0.row from) ≡ b → not b ≡ false
        by true f = refl
        by false f = absurd (none e.0.row e.0.qual e.1.value (entry_value s e c) f)

-- no row is below the first one
abbrev pub first_row : Row
first_row = record { table = Ids; bytes = [] }

pub on_first : (row : Row) → is_lt (row_cmp row first_row) ≡ false
on_first row = at row.table row.bytes
  where
    at : (t : Table) (bytes : List ℕ) → is_lt (row_cmp (record { table = t; bytes = bytes }) first_row) ≡ false
    at Ids bytes = not_below_none bytes
    at Names bytes = refl
    at Points bytes = refl

pub lines_all : (s : Store) → lines_from s first_row ≡ lines_of s
unfolding lines_from
lines_all s = ap (map line_of) (filter_all _ (entries s) (λ e c. ap not (on_first e.0.row)))

-- ---- one row

same_rows : (row : Row) (es : List (Place × Content)) → ((e : Place × Content) → Contains es e → row ≡ e.0.row) → map line_of es ≡ map (line_in row) (map cell_of es)
same_rows row [] all = refl
same_rows row (e ∷ es) all =
    let rest = same_rows row es (λ x c. all x (there e x es c)) in
    let is = all e (here e es) in
    λ i. record { table = (sym is i).table; row = (sym is i).bytes; qual = e.0.qual; value = e.1.value } ∷ rest i

-- where no row before this one is left, its cells come first
module _ (s : Store) (from row : Row) (forward : is_lt (row_cmp row from) ≡ false) (gap : Gap s from row) where
  one_of : (e : Place × Content) → Contains (entries s) e → not (is_lt (row_cmp e.0.row from)) ≡ (eq_by_cmp row_cmp row e.0.row || not (is_lt (row_cmp e.0.row (behind_row row))))
  one_of e c = at (row_cmp row e.0.row) refl
    where
      from_on : (b : Bool) → is_lt (row_cmp e.0.row from) ≡ b → b ≡ false → not (is_lt (row_cmp e.0.row from)) ≡ true
      from_on b e f = ap not (e ∙ f)

      at : (a : Ordering) → row_cmp row e.0.row ≡ a → not (is_lt (row_cmp e.0.row from)) ≡ (is_eq a || not (is_lt (row_cmp e.0.row (behind_row row))))
      at Less ea =
          ap not (on_then_on rows_total from row e.0.row forward (ap is_lt (turned_less rows_total row e.0.row ea))) ∙ sym (ap not (above_behind row e.0.row ea))
      at Equal ea = ap not (subst (λ (r : Row). is_lt (row_cmp r from) ≡ false) (exact_rows row e.0.row ea) forward)
      at Greater ea =
          let less : row_cmp e.0.row row ≡ Less = rows_total.antisymm e.0.row row ∙ ap ordering_reverse ea in
          by (is_lt (row_cmp e.0.row from)) refl less
        where
          by : (b : Bool) → is_lt (row_cmp e.0.row from) ≡ b → row_cmp e.0.row row ≡ Less → not (is_lt (row_cmp e.0.row from)) ≡ not (is_lt (row_cmp e.0.row (behind_row row)))
          by true f less = ap not f ∙ sym (ap not (lt_is _ (rows_total.trans e.0.row row (behind_row row) less (row_behind row))))
          by false f less = absurd (gap e.0.row e.0.qual e.1.value (entry_value s e c) f (lt_is _ less))

  not_both : (e : Place × Content) → Contains (entries s) e → eq_by_cmp row_cmp row e.0.row ≡ true → not (is_lt (row_cmp e.0.row (behind_row row))) ≡ true → ⊥
  not_both e c same on =
      let is = exact_rows row e.0.row (is_equal _ same) in
      let low : is_lt (row_cmp e.0.row (behind_row row)) ≡ true = subst (λ (r : Row). is_lt (row_cmp r (behind_row row)) ≡ true) is (lt_is _ (row_behind row)) in
      by (is_lt (row_cmp e.0.row (behind_row row))) low on
    where
      by : (b : Bool) → b ≡ true → not b ≡ true → ⊥
      by true e f = cc
      by false e f = cc

  in_order : (e f : Place × Content) → place_cmp e.0 f.0 ≡ Less → not (is_lt (row_cmp e.0.row (behind_row row))) ≡ true → eq_by_cmp row_cmp row f.0.row ≡ true → ⊥
  in_order e f less on same =
      let is = exact_rows row f.0.row (is_equal _ same) in
      let not_up : is_lt (row_cmp row e.0.row) ≡ false = at (row_cmp e.0.row f.0.row) refl less is in
      by (is_lt (row_cmp e.0.row (behind_row row))) refl on (on_then_below rows_total e.0.row row (behind_row row) not_up (row_behind row))
    where
      at : (a : Ordering) → row_cmp e.0.row f.0.row ≡ a → ordering_then a (bytes_cmp e.0.qual f.0.qual) ≡ Less → row ≡ f.0.row → is_lt (row_cmp row e.0.row) ≡ false
      at Less ea l is = ap is_lt (ap (λ (r : Row). row_cmp r e.0.row) is ∙ turned_less rows_total e.0.row f.0.row ea)
      at Equal ea l is = ap is_lt (ap (λ (r : Row). row_cmp r e.0.row) is ∙ rows_total.antisymm f.0.row e.0.row ∙ ap ordering_reverse ea)
      at Greater ea l is = cc

      by : (b : Bool) → is_lt (row_cmp e.0.row (behind_row row)) ≡ b → not b ≡ true → row_cmp e.0.row (behind_row row) ≡ Less → ⊥
      by true f g l = cc
      by false f g l = not_less _ l f

  rows_split : filter (λ (e : Place × Content). not (is_lt (row_cmp e.0.row from))) (entries s)
      ≡ filter (λ (e : Place × Content). eq_by_cmp row_cmp row e.0.row) (entries s) ++ filter (λ (e : Place × Content). not (is_lt (row_cmp e.0.row (behind_row row)))) (entries s)
  rows_split = filter_split (λ (e f : Place × Content). place_cmp e.0 f.0 ≡ Less) _ _ _ (entries s) (sorted-rising place_cmp (entries s) (entries_sorted s.cells)) one_of not_both in_order

pub lines_row : (s : Store) (from row : Row) → is_lt (row_cmp row from) ≡ false → Gap s from row → lines_from s from ≡ row_lines row (cells_of s row) ++ lines_from s (behind_row row)
unfolding lines_from row_lines
lines_row s from row forward gap =
    let es = filter (λ (e : Place × Content). eq_by_cmp row_cmp row e.0.row) (entries s) in
    let rest = filter (λ (e : Place × Content). not (is_lt (row_cmp e.0.row (behind_row row)))) (entries s) in
    let own : map line_of es ≡ map (line_in row) (cells_of s row) = same_rows row es (λ e c. exact_rows row e.0.row (is_equal _ (in_filter (λ (x : Place × Content). eq_by_cmp row_cmp row x.0.row) (entries s) e c).1)) in
    ap (map line_of) (rows_split s from row forward gap) ∙ map_join line_of es rest ∙ ap (λ (l : List ListLine). l ++ map line_of rest) own
