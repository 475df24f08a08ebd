-- The rows of a metric, compacted one after the other.
use Rattle.std.proofs.Common.{◌≡◌, ◌≢◌, ◌⊎◌, inl, inr, ⊎_elim, ℕ, ◌<◌, ◌≤◌, Bool, true, false, List, [], ◌∷◌, ◌++◌, length, refl, sym, ap, subst, ◌∙◌, arith}
use Rattle.std.specs.Prelude.{Option, None, Some, option_map, Contains, find, if◌then◌else◌}
use Rattle.std.specs.Ordering.{is_lt}
use Rattle.std.specs.declared.cmp.Ordering.TheVariants.{Less}
use Rattle.std.specs.FinMap.{get-entries}
use Rattle.std.proofs.lemmas.Bool.{false≢true, true≢false}
use Rattle.list_lemmas.specs.BytesOrder.{bytes_cmp}
use Rattle.list_lemmas.proofs.BoolTests.{less_if}
use Rattle.list_lemmas.proofs.ListMembers.{not_in, split}
use Rattle.list_lemmas.proofs.OrderedBytes.{below_behind, below_from_on, from_on_below, less_behind, less_or_not, not_back, not_itself}
use Rattle.row_key.specs.declared.tables.Table.TheVariants.{Points}
use Rattle.row_key.specs.declared.keys.RowKey.{RowKey}
use Rattle.row_key.specs.Key.{IsKey, key_bytes}
use Rattle.row_hours.specs.declared.hours.TheConstants.{LAST_OFFSET}
use Rattle.qual_codec.specs.declared.cells.Cell.{Cell}
use Rattle.qual_codec.specs.declared.cells.MergeFault.TheVariants.{Conflict}
use Rattle.qual_codec.specs.CellDots.{column_qual}
use Rattle.qual_codec.specs.Merge.{IsMerged, TellsConflict}
use Rattle.cell_model.specs.declared.row.Row.{Row}
use Rattle.cell_model.specs.declared.row.Found.{Found}
use Rattle.cell_model.specs.declared.events.Place.{Place}
use Rattle.cell_model.specs.declared.events.Content.{Content}
use Rattle.cell_model.specs.History.{History, first, store_after}
use Rattle.cell_model.specs.KindWidths.{Widths}
use Rattle.cell_model.specs.Lawful.{IsLawful}
use Rattle.cell_model.specs.Readings.{point_row}
use Rattle.cell_model.specs.Store.{Store, cells_of, content_at, entries, is_between, next_row_of, place_of, value_at}
use Rattle.cell_laws.proofs.CallerLemmas.{first_lawful, sound_after}
use Rattle.row_scan.specs.Scans.{IsStart, Left}
use Rattle.row_scan.proofs.CallerLemmas.{Between, between, between_is, found_key, next_least}
use Rattle.import_job.specs.Changes.{CompactsMetric, CompactsRow, IsOfMetric, LacksColumn}
use Rattle.import_job.specs.Compactions.{HasSame, IsRowLeft}
use Rattle.import_job.specs.Compactions.IsRowLeft.{merged, few, conflict}
use Rattle.import_job.proofs.IdCells.{bytes_or}
use Rattle.import_job.proofs.RowStores.{found_entry, none_cells, same_cells}

-- ---- a row that is the same in two stores
pub same_values : (s t : Store) (row : Row) → ((qual : List ℕ) → content_at t row qual ≡ content_at s row qual) → HasSame s t row
same_values s t row same qual = ap (option_map (λ (c : Content). c.value)) (same qual)

-- what was left of it before is left of it, and what is left of it later
pub left_after : (s t u : Store) (row : Row) → IsRowLeft s t row → HasSame t u row → IsRowLeft s u row
left_after s t u row (merged {qual} {value} several is left) same = merged several is (λ q v. ((λ has. (left q v).0 (sym (same q) ∙ has)), λ e. same q ∙ (left q v).1 e))
left_after s t u row (few fewer left) same = few fewer (λ q. same q ∙ left q)
left_after s t u row (conflict offset a b several is left) same = conflict offset a b several is (λ q. same q ∙ left q)

pub left_before : (s t u : Store) (row : Row) → t.widths ≡ s.widths → ((qual : List ℕ) → content_at t row qual ≡ content_at s row qual) → IsRowLeft t u row → IsRowLeft s u row
left_before s t u row widths same left = at left (same_cells s t row widths same)
  where
    values : HasSame s t row
    values = same_values s t row same

    at : IsRowLeft t u row → cells_of t row ≡ cells_of s row → IsRowLeft s u row
    at (merged {qual} {value} several is left) cells = merged (subst (λ (cs : List Cell). 2 ≤ length cs) cells several) (subst (λ cs. IsMerged cs qual value) cells is) left
    at (few fewer left) cells = few (subst (λ (cs : List Cell). length cs < 2) cells fewer) (λ q. left q ∙ values q)
    at (conflict offset a b several is left) cells = conflict offset a b (subst (λ (cs : List Cell). 2 ≤ length cs) cells several) (subst (λ cs. TellsConflict cs 0 LAST_OFFSET (Conflict offset a b)) cells is) (λ q. left q ∙ values q)

-- a row that has no cell is left as it is
pub none_left : (s t : Store) (row : Row) → ((qual value : List ℕ) → value_at s row qual ≡ Some value → ⊥) → HasSame s t row → IsRowLeft s t row
none_left s t row none same = few (let l = ap length (none_cells s row none) in omega (arith, l)) same

-- ---- the next row
no_found : {f : Found} → ◌≡◌ {A = Option Found} None (Some f) → ⊥
no_found e = cc

no_value : {v : List ℕ} → ◌≡◌ {A = Option (List ℕ)} None (Some v) → ⊥
no_value e = cc

find_none : (test : Row → Bool) (es : List (Place × Content)) (e : Place × Content) → find (λ (x : Place × Content). test x.0.row) es ≡ None → Contains es e → test e.0.row ≡ true → ⊥
find_none test [] e none c is = not_in e c
find_none test (x ∷ es) e none c is = at (test x.0.row) refl none (split x e es c) (λ n i. find_none test es e n i is)
  where
    none_some : {y : Place × Content} → ◌≡◌ {A = Option (Place × Content)} (Some y) None → ⊥
    none_some e = cc

    at : (b : Bool) → test x.0.row ≡ b → (if b then Some x else find (λ (y : Place × Content). test y.0.row) es) ≡ None → (x ≡ e) ⊎ Contains es e → (find (λ (y : Place × Content). test y.0.row) es ≡ None → Contains es e → ⊥) → ⊥
    at true t n i go = none_some n
    at false t n (inl same) go = false≢true (sym t ∙ ap (λ (y : Place × Content). test y.0.row) same ∙ is)
    at false t n (inr later) go = go n later

-- where no next row is found, no row of the range has a cell
none_next : (s : Store) (from to : List ℕ) (row : Row) (qual value : List ℕ) → next_row_of s Points from to ≡ None → Between from to row → value_at s row qual ≡ Some value → ⊥
none_next s from to row qual value none b is = at (content_at s row qual) refl is
  where
    found_none : (o : Option (Place × Content)) → option_map {U = Found} (λ (e : Place × Content). record { row = e.0.row; cells = cells_of s e.0.row }) o ≡ None → o ≡ None
    found_none None e = refl
    found_none (Some x) e = cc

    at : (o : Option Content) → content_at s row qual ≡ o → option_map (λ (c : Content). c.value) o ≡ Some value → ⊥
    at None e is = no_value is
    at (Some c) e is =
        find_none (is_between Points from to) (entries s) (place_of row qual, c) (found_none (find (λ (e : Place × Content). is_between Points from to e.0.row) (entries s)) none)
        (found_entry (place_of row qual) c (entries s) (sym (get-entries s.cells (place_of row qual)) ∙ e)) (between_is from to row b)

-- ---- a walk over rows of points
-- the row is one of the walk, and was passed
pub record IsPassed (start to from : List ℕ) (row : Row) : Type 0 where
  pub within : Between start to row
  pub passed : is_lt (bytes_cmp row.bytes from) ≡ true

pub record WalkedTo (s t : Store) (start to from : List ℕ) : Type 0 where
  pub widths : t.widths ≡ s.widths
  pub low : is_lt (bytes_cmp from start) ≡ false
  pub others : (row : Row) (qual : List ℕ) → (IsPassed start to from row → ⊥) → content_at t row qual ≡ content_at s row qual
  pub rows : (row : Row) → IsPassed start to from row → LacksColumn s row → IsRowLeft s t row

pub walk_begins : (s : Store) (start to : List ℕ) → WalkedTo s s start to start
walk_begins s start to = record {
  widths = refl;
  low = ⊎_elim (λ less. absurd (not_itself start less)) (λ on. on) (less_or_not start start);
  others = λ row qual not_. refl;
  rows = λ row p lacks. absurd (true≢false (sym p.passed ∙ p.within.from_on));
}

module _ (h : History) (n : ℕ) (s : Store) (start to from : List ℕ) (lawful : IsLawful h) (walked : WalkedTo s (store_after (first n h)) start to from) where
  abbrev t : Store
  t = store_after (first n h)

  module _ (f : Found) (next : next_row_of t Points from to ≡ Some f) (u : Store) (one : CompactsRow f.row t u) where
    abbrev behind : List ℕ
    behind = f.row.bytes ++ 0 ∷ []

    range : Between from to f.row
    range = (found_key h n from to f lawful next).between

    not_passed : IsPassed start to from f.row → ⊥
    not_passed p = true≢false (sym p.passed ∙ range.from_on)

    from_start : is_lt (bytes_cmp f.row.bytes start) ≡ false
    from_start = ⊎_elim (λ less. absurd (false≢true (sym walked.low ∙ ap is_lt (from_on_less less)))) (λ on. on) (less_or_not f.row.bytes start)
      where
        from_on_less : bytes_cmp f.row.bytes start ≡ Less → bytes_cmp from start ≡ Less
        from_on_less less = from_on_below from f.row.bytes start range.from_on less

    here_ : IsPassed start to behind f.row
    here_ = record { within = record { in_points = range.in_points; from_on = from_start; below = range.below }; passed = ap is_lt (below_behind f.row.bytes) }

    was_before : (row : Row) → IsPassed start to from row → IsPassed start to behind row
    was_before row p = record {
      within = p.within;
      passed = ap is_lt (below_from_on row.bytes f.row.bytes behind (from_on_here row p) (not_back f.row.bytes behind (below_behind f.row.bytes)));
    }
      where
        from_on_here : (row : Row) → IsPassed start to from row → bytes_cmp row.bytes f.row.bytes ≡ Less
        from_on_here row p = below_from_on row.bytes from f.row.bytes (less_if _ p.passed) range.from_on

    walk_row : (row : Row) → IsPassed start to behind row → LacksColumn s row → IsRowLeft s u row
    walk_row row p lacks = ⊎_elim
        (λ (less : bytes_cmp row.bytes from ≡ Less).
        let before : IsPassed start to from row = record { within = p.within; passed = ap is_lt less } in
        left_after s t u row (walked.rows row before lacks) (λ q. ap (option_map (λ (c : Content). c.value)) (one.others row q (λ same. not_passed (subst (IsPassed start to from) same before)))))
        (λ (on : is_lt (bytes_cmp row.bytes from) ≡ false). from_here on)
        (less_or_not row.bytes from)
      where
        same_before : is_lt (bytes_cmp row.bytes from) ≡ false → (qual : List ℕ) → content_at t row qual ≡ content_at s row qual
        same_before on qual = walked.others row qual (λ b. true≢false (sym b.passed ∙ on))

        from_here : is_lt (bytes_cmp row.bytes from) ≡ false → IsRowLeft s u row
        from_here on = ⊎_elim
            (λ (same : row.bytes ≡ f.row.bytes).
            let is : f.row ≡ row = λ i. record { table = (range.in_points ∙ sym p.within.in_points) i; bytes = sym same i } in
            left_before s t u row walked.widths (same_before on)
            (subst (λ (r : Row). IsRowLeft t u r) is (one.left (λ value v. lacks value (sym (same_values s t row (same_before on) column_qual) ∙ ap (λ (r : Row). value_at t r column_qual) (sym is) ∙ v)))))
            (λ (other : row.bytes ≢ f.row.bytes).
            let none : (qual value : List ℕ) → value_at t row qual ≡ Some value → ⊥ = λ qual value v. ⊎_elim
            (λ (same : row ≡ f.row). other (ap (λ (r : Row). r.bytes) same))
            (λ (less : bytes_cmp f.row.bytes row.bytes ≡ Less). true≢false (sym p.passed ∙ less_behind f.row.bytes row.bytes less))
            (next_least t from to f row qual value next (record { in_points = p.within.in_points; from_on = on; below = p.within.below }) v) in
            left_before s t u row walked.widths (same_before on)
            (none_left t u row none (λ q. ap (option_map (λ (c : Content). c.value)) (one.others row q (λ same. other (ap (λ (r : Row). r.bytes) same))))))
            (bytes_or row.bytes f.row.bytes)

    pub walk_on : WalkedTo s u start to behind
    walk_on = record {
      widths = one.widths ∙ walked.widths;
      low = ⊎_elim
          (λ (less : bytes_cmp behind start ≡ Less). absurd (false≢true (sym from_start ∙ ap is_lt (below_start less))))
          (λ (on : is_lt (bytes_cmp behind start) ≡ false). on)
          (less_or_not behind start);
      others = λ row qual out.
          one.others row qual (λ same. out (subst (IsPassed start to behind) (sym same) here_)) ∙ walked.others row qual (λ p. out (was_before row p));
      rows = walk_row;
    }
      where
        below_start : bytes_cmp behind start ≡ Less → bytes_cmp f.row.bytes start ≡ Less
        below_start less = below_from_on f.row.bytes behind start (below_behind f.row.bytes) (not_back behind start less)

  -- the walk is over
  module _ (metric : ℕ) (left : Left) (before : History) (m : ℕ) (lawful_before : IsLawful before) (s_is : s ≡ store_after (first m before)) (is_start : IsStart s.widths metric 0 4294967295 left) (start_is : left.from ≡ start) (to_is : left.to ≡ to)
      (none : next_row_of t Points from to ≡ None) where
    of_metric : (row : Row) → IsOfMetric s metric row → Between start to row
    of_metric row (key, is_key, metric_is, row_is) =
        let small = is_key.base in
        let in_range = is_start.all row (record { key = key; is_key = is_key; row_is = row_is; metric_is = metric_is; from_on = omega arith; up_to = omega (arith, small) }) in
        between start to row ((λ i. is_between Points (sym start_is i) (sym to_is i) row) ∙ in_range)

    row_of : (row : Row) (key : RowKey) → IsKey s.widths key → row ≡ point_row (key_bytes s.widths key) → Between start to row → IsOfMetric s metric row
    row_of row key is_key row_is b =
        let r = is_start.only key is_key ((λ i. is_between Points (start_is i) (to_is i) (sym row_is i)) ∙ between_is start to row b) in
        (r.key, r.is_key, r.metric_is, row_is ∙ r.row_is)

    points_is : (row : Row) (bytes : List ℕ) → row.table ≡ Points → row.bytes ≡ bytes → row ≡ point_row bytes
    points_is row bytes a b = λ i. record { table = a i; bytes = b i }

    -- a row of the walk that has a cell is of the metric
    has_now : (row : Row) (qual value : List ℕ) → Between start to row → value_at t row qual ≡ Some value → IsOfMetric s metric row
    has_now row qual value b is =
        let r = (sound_after (first n h) (first_lawful h n lawful)).rows row qual value b.in_points is in
        row_of row r.key (subst (λ (w : Widths). IsKey w r.key) walked.widths r.is_key) (points_is row (key_bytes s.widths r.key) b.in_points (r.row_is ∙ ap (λ (w : Widths). key_bytes w r.key) walked.widths)) b

    had_before : (row : Row) (qual value : List ℕ) → Between start to row → value_at s row qual ≡ Some value → IsOfMetric s metric row
    had_before row qual value b is =
        let wide : (store_after (first m before)).widths ≡ s.widths = ap (λ (x : Store). x.widths) (sym s_is) in
        let r = (sound_after (first m before) (first_lawful before m lawful_before)).rows row qual value b.in_points (ap (λ (x : Store). value_at x row qual) (sym s_is) ∙ is) in
        row_of row r.key (subst (λ (w : Widths). IsKey w r.key) wide r.is_key) (points_is row (key_bytes s.widths r.key) b.in_points (r.row_is ∙ ap (λ (w : Widths). key_bytes w r.key) wide)) b

    no_content : {c : Content} → ◌≡◌ {A = Option Content} None (Some c) → ⊥
    no_content e = cc

    others_stay : (row : Row) (qual : List ℕ) → (IsOfMetric s metric row → ⊥) → content_at t row qual ≡ content_at s row qual
    others_stay row qual out = at (content_at t row qual) refl (content_at s row qual) refl
      where
        at : (o : Option Content) → content_at t row qual ≡ o → (p : Option Content) → content_at s row qual ≡ p → content_at t row qual ≡ content_at s row qual
        at None a None b = a ∙ sym b
        at (Some c) a p b = walked.others row qual (λ q. out (has_now row qual c.value q.within (ap (option_map (λ (x : Content). x.value)) a)))
        at None a (Some c) b = walked.others row qual (λ q. out (had_before row qual c.value q.within (ap (option_map (λ (x : Content). x.value)) b)))

    walk_rows : (row : Row) → IsOfMetric s metric row → LacksColumn s row → IsRowLeft s t row
    walk_rows row of lacks = ⊎_elim
        (λ (less : bytes_cmp row.bytes from ≡ Less). walked.rows row (record { within = of_metric row of; passed = ap is_lt less }) lacks)
        (λ (on : is_lt (bytes_cmp row.bytes from) ≡ false).
        let b = of_metric row of in
        let same : (qual : List ℕ) → content_at t row qual ≡ content_at s row qual = λ qual. walked.others row qual (λ p. true≢false (sym p.passed ∙ on)) in
        let nothing : (qual value : List ℕ) → value_at s row qual ≡ Some value → ⊥ = λ qual value v. none_next t from to row qual value none (record { in_points = b.in_points; from_on = on; below = b.below }) (same_values s t row same qual ∙ v) in
        none_left s t row nothing (same_values s t row same))
        (less_or_not row.bytes from)

    pub walk_ends : CompactsMetric metric s t
    walk_ends = record { widths = walked.widths; others = others_stay; rows = walk_rows }
