-- The notes of cells that rise, one after the other.
use Rattle.std.proofs.Common.{◌≡◌, ◌⊎◌, inl, inr, ℕ, zero, suc, ◌+◌, ◌<◌, ◌≤◌, Bool, true, false, cond, List, [], ◌∷◌, ◌++◌, length, take, refl, sym, ap, subst, ◌∙◌, arith}
use Rattle.std.specs.Prelude.{MatchBool, Option, None, Some, Contains, not}
use Rattle.std.specs.Ordering.{ordering_reverse, ordering_then}
use Rattle.std.specs.declared.cmp.Ordering.{Ordering}
use Rattle.std.specs.declared.cmp.Ordering.TheVariants.{Less, Equal, Greater}
use Rattle.std.proofs.lemmas.Bool.{cases_lt}
use Rattle.std.proofs.lemmas.List.{get_or_read_under}
use Rattle.std.proofs.lemmas.List.Elements.{Contains-append_left, Contains-append_right, Contains-append_cases}
use Rattle.list_lemmas.specs.BytesOrder.{bytes_cmp}
use Rattle.list_lemmas.proofs.BoolTests.{not_Some}
use Rattle.list_lemmas.proofs.ListCuts.{take_next}
use Rattle.list_lemmas.proofs.ListMembers.{here, split, not_in}
use Rattle.short_bytes.specs.Alike.{same_list}
use Rattle.qual_codec.specs.declared.cells.Dot.{Dot}
use Rattle.qual_codec.specs.CellDots.{HoldsDots, Reads}
use Rattle.qual_codec.proofs.CallerLemmas.{one_dots}
use Rattle.row_key.specs.declared.tables.Table.{Table}
use Rattle.row_key.specs.declared.tables.Table.TheVariants.{Ids, Names, Points}
use Rattle.cell_model.specs.declared.row.Row.{Row}
use Rattle.cell_model.specs.declared.row.ListLine.{ListLine}
use Rattle.cell_model.specs.PlaceOrder.{place_cmp, row_cmp}
use Rattle.cell_model.specs.Rising.{LinesRise, place_of_line}
use Rattle.cell_model.specs.KindWidths.{Widths}
use Rattle.cell_model.specs.Store.{same_bytes}
use Rattle.cell_model.proofs.CallerLemmas.{exact_rows, rows_total}
use Rattle.tsd_base.specs.declared.kinds.Kind.{Kind}
use Rattle.listing_check.specs.UidCells.{UidCell, counter_by, counter_spelled, counter_with, forward_by, forward_with, id_spelled, kind_named, name_spelled, uid_cell, uid_in}
use Rattle.listing_check.specs.UidCells.UidCell.{Counter, Forward, Reverse}
use Rattle.listing_check.specs.Flaws.{FlawIn, FlawOf, has_id}
use Rattle.listing_check.specs.Faults.{HasHint, IsWasted, NoteOf}
use Rattle.listing_check.specs.RowValues.{AddsDots, HasClash, Keeps}
use Rattle.listing_check.specs.RowNotes.{AreOneRow, DotIn, IsAt, IsNoted, IsRowKept, SeenIn, is_wasted}
use Rattle.listing_check.specs.declared.report.Flaw.{Flaw}
use Rattle.listing_check.specs.declared.report.Hint.{Hint}
use Rattle.listing_check.specs.declared.report.Hint.TheVariants.{Wasted, Clash}
use Rattle.listing_check.specs.declared.row_values.RowValues.{RowValues}
use Rattle.listing_check.proofs.OneFlaw.{flaw_once}
use Rattle.listing_check.proofs.Spelled.{same_as}

-- ---- cells by place

pub at_one : (cells : List ListLine) (at : ℕ) (a b : ListLine) → IsAt cells at a → IsAt cells at b → a ≡ b
at_one cells at a b x y = get_or_read_under cells at (length cells) a b x.is x.within refl ∙ sym y.is

in_take : (cells : List ListLine) (at : ℕ) (x : ListLine) → Contains (take at cells) x → (i : ℕ) × (i < at) × IsAt cells i x
in_take cells zero x c = absurd (not_in x c)
in_take [] (suc n) x c = absurd (not_in x c)
in_take (y ∷ ys) (suc n) x c = elim (split y x (take n ys) c) [
  | inl same ↦ (0, omega arith, record { within = omega arith; is = sym same })
  | inr later ↦ (let r = in_take ys n x later in let low = r.1 in let within = r.2.within in (suc r.0, omega (arith, low), record { within = omega (arith, within); is = r.2.is }))
]

has_at : (cells : List ListLine) (k : ℕ) → k < length cells → (p : ListLine) × IsAt cells k p
has_at [] k lt = absurd (omega (arith, lt))
has_at (y ∷ ys) zero lt = (y, record { within = lt; is = refl })
has_at (y ∷ ys) (suc k) lt = let r = has_at ys k (omega (arith, lt)) in (r.0, record { within = lt; is = r.1.is })

pub one_row : (cells : List ListLine) (at : ℕ) (row : List ℕ) (l : ListLine) (b : Bool) → (before : ℕ) → at ≡ before + 1 → IsAt cells before l → b ≡ same_bytes l.row row → MatchBool b (AreOneRow cells at row) (AreOneRow cells at row → ⊥)
one_row cells at row l true before next is e = record { before = before; last = l; next = next; is = is; row_is = same_list l.row row (sym e) }
one_row cells at row l false before next is e = λ r.
    (let a = r.next in
    let k : r.before ≡ before = omega (arith, a, next) in
    let same : r.last ≡ l = at_one cells before r.last l (subst (λ n. IsAt cells n r.last) k r.is) is in
    let no : false ≡ true = e ∙ same_as l.row row (ap (λ (x : ListLine). x.row) (sym same) ∙ r.row_is) in
    cc)

-- ---- a row stands together

then_less : (a b : Ordering) → ordering_then a b ≡ Less → (a ≡ Less) ⊎ (a ≡ Equal)
then_less Less b e = inl refl
then_less Equal b e = inr refl
then_less Greater b e = absurd cc

-- between two rows that are one no other stands
rows_between : (a b c : Row) → (row_cmp a b ≡ Less) ⊎ (row_cmp a b ≡ Equal) → (row_cmp b c ≡ Less) ⊎ (row_cmp b c ≡ Equal) → a ≡ c → a ≡ b
rows_between a b c (inr e) y same = exact_rows a b e
rows_between a b c (inl lt) (inr e) same = same ∙ sym (exact_rows b c e)
rows_between a b c (inl lt) (inl more) same =
    let back : row_cmp b c ≡ Greater = ap (row_cmp b) (sym same) ∙ rows_total.antisymm b a ∙ ap ordering_reverse lt in
    let no : Less ≡ Greater = sym more ∙ back in
    cc

row_of : ListLine → Row
row_of l = record { table = l.table; bytes = l.row }

between : (a b c : ListLine) → place_cmp (place_of_line a) (place_of_line b) ≡ Less → place_cmp (place_of_line b) (place_of_line c) ≡ Less → a.table ≡ c.table → a.row ≡ c.row → a.row ≡ b.row
unfolding row_of
between a b c lt more table row =
    ap (λ (r : Row). r.bytes) (rows_between (row_of a) (row_of b) (row_of c) (then_less (row_cmp (row_of a) (row_of b)) (bytes_cmp a.qual b.qual) lt) (then_less (row_cmp (row_of b) (row_of c)) (bytes_cmp b.qual c.qual) more) (λ i. record { table = table i; bytes = row i }))

-- behind points there are points alone
points_behind : (a c : Table) (x y : List ℕ) (p q : List ℕ) → a ≡ Points → place_cmp (record { row = record { table = a; bytes = x }; qual = p }) (record { row = record { table = c; bytes = y }; qual = q }) ≡ Less → a ≡ c
points_behind Points Points x y p q is lt = refl
points_behind Points Ids x y p q is lt = absurd cc
points_behind Points Names x y p q is lt = absurd cc
points_behind Ids c x y p q is lt = absurd cc
points_behind Names c x y p q is lt = absurd cc

module _ (w : Widths) (cells : List ListLine) (at : ℕ) (l : ListLine) (is : IsAt cells at l) where
  next_cells : take (at + 1) cells ≡ take at cells ++ l ∷ []
  next_cells = take_next cells at l is.within ∙ ap (λ (x : ListLine). take at cells ++ x ∷ []) (sym is.is)

  module _ (up : LinesRise cells) where
    rise : (i j : ℕ) (a b : ListLine) → i < j → IsAt cells i a → IsAt cells j b → place_cmp (place_of_line a) (place_of_line b) ≡ Less
    rise i j a b lt x y =
        subst (λ (p : ListLine × ListLine). place_cmp (place_of_line p.0) (place_of_line p.1) ≡ Less) (λ k. (sym (get_or_read_under cells i (length cells) a l x.is x.within refl) k, sym (get_or_read_under cells j (length cells) b l y.is y.within refl) k)) (up i j l lt y.within)

    -- where the cell before has another row, no cell of points before has this one
    no_earlier : (AreOneRow cells at l.row → ⊥) → (d : Dot) → DotIn w cells (take at cells) l.row d → ⊥
    no_earlier other d h = by at refl
      where
        m : (i : ℕ) × (i < at) × IsAt cells i h.cell
        m = in_take cells at h.cell h.is_in

        same_table : h.cell.table ≡ l.table
        same_table = points_behind h.cell.table l.table h.cell.row l.row h.cell.qual l.qual h.points (rise m.0 at h.cell l m.1 m.2 is)

        row_same : (k : ℕ) (p : ListLine) → suc k ≡ at → IsAt cells k p → (m.0 < k) ⊎ (k ≤ m.0) → h.cell.row ≡ p.row
        row_same k p next p_is (inl low) = between h.cell p l (rise m.0 k h.cell p low m.2 p_is) (rise k at p l (omega (arith, next)) p_is is) same_table h.row_is
        row_same k p next p_is (inr high) =
            let low = m.1 in
            let one : m.0 ≡ k = omega (arith, next, low, high) in
            ap (λ (x : ListLine). x.row) (at_one cells k h.cell p (subst (λ n. IsAt cells n h.cell) one m.2) p_is)

        by : (n : ℕ) → n ≡ at → ⊥
        by zero next = let low = m.1 in absurd (omega (arith, low, next))
        by (suc k) next =
            let within = is.within in
            let p = has_at cells k (omega (arith, within, next)) in
            other (record { before = k; last = p.0; next = omega (arith, next); is = p.1; row_is = sym (row_same k p.0 next p.1 (cases_lt m.0 k)) ∙ h.row_is })

    -- what is kept where the row begins, and where it goes on
    pub begun : (values : RowValues) (row : List ℕ) → row ≡ l.row → (AreOneRow cells at row → ⊥) → Keeps [] values → SeenIn w cells (take at cells) l.row values
    begun values row same other k = record { dots = []; known = λ d. (λ c. absurd (not_in d c), λ h. absurd (no_earlier (subst (λ (r : List ℕ). AreOneRow cells at r → ⊥) same other) d h)); kept = k }

  pub goes_on : (values : RowValues) → AreOneRow cells at l.row → IsRowKept w cells at values → SeenIn w cells (take at cells) l.row values
  goes_on values r k = subst (λ (row : List ℕ). SeenIn w cells (take at cells) row values) r.row_is (k r.before r.last r.next r.is)

  -- ---- one more cell

  pub kept_next : (values : RowValues) → SeenIn w cells (take at cells ++ l ∷ []) l.row values → IsRowKept w cells (at + 1) values
  kept_next values s before last next last_is =
      let k : before ≡ at = omega (arith, next) in
      let same : l ≡ last = at_one cells at l last is (subst (λ n. IsAt cells n last) k last_is) in
      subst (λ (x : ListLine). SeenIn w cells (take (at + 1) cells) x.row values) same (subst (λ (cs : List ListLine). SeenIn w cells cs l.row values) (sym next_cells) s)

  dot_earlier : (row : List ℕ) (d : Dot) → DotIn w cells (take at cells) row d → DotIn w cells (take at cells ++ l ∷ []) row d
  dot_earlier row d h = record { cell = h.cell; is_in = Contains-append_left (take at cells) (l ∷ []) h.cell h.is_in; points = h.points; row_is = h.row_is; free = h.free; dots = h.dots; reads = h.reads; has = h.has }

  last_or_earlier : (row : List ℕ) (d : Dot) (h : DotIn w cells (take at cells ++ l ∷ []) row d) → DotIn w cells (take at cells) row d ⊎ (l ≡ h.cell)
  last_or_earlier row d h = elim (Contains-append_cases (take at cells) (l ∷ []) h.cell h.is_in) [
    | inl before ↦ inl (record { cell = h.cell; is_in = before; points = h.points; row_is = h.row_is; free = h.free; dots = h.dots; reads = h.reads; has = h.has })
    | inr last ↦ elim (split l h.cell [] last) [ inl same ↦ inr same | inr none ↦ absurd (not_in h.cell none) ]
  ]

  -- a cell that has no dots leaves the values
  pub nothing_seen : (values : RowValues) → (l.table ≡ Points → FlawOf w cells l None → ⊥) → SeenIn w cells (take at cells) l.row values → IsRowKept w cells (at + 1) values
  nothing_seen values none s = kept_next values (record {
    dots = s.dots;
    known = λ d. (
      λ c. dot_earlier l.row d ((s.known d).0 c),
      λ h. elim (last_or_earlier l.row d h) [
        | inl before ↦ (s.known d).1 before
        | inr same ↦ absurd (none (ap (λ (x : ListLine). x.table) same ∙ h.points) (subst (λ (x : ListLine). FlawOf w cells x None) (sym same) h.free))
      ],
    );
    kept = s.kept;
  })

  -- ---- notes

  -- a cell with a flaw has none
  pub flawed : (f : Flaw) (values : RowValues) → FlawOf w cells l (Some f) → SeenIn w cells (take at cells) l.row values → IsNoted w cells at l None values
  flawed f values is s = record {
    note_is = λ hint h. free_not hint h;
    kept = nothing_seen values (λ points free. not_Some f (flaw_once w cells l (Some f) None is free)) s;
  }
    where
      free_not : (hint : Hint) → HasHint w cells (take at cells) l hint → ⊥
      free_not Wasted h = not_Some f (flaw_once w cells l (Some f) None is h.0)
      free_not Clash h = not_Some f (flaw_once w cells l (Some f) None is h.0)

  pub flawed_by : (o : Option Flaw) (f : Flaw) (values : RowValues) → o ≡ Some f → FlawOf w cells l o → SeenIn w cells (take at cells) l.row values → IsNoted w cells at l None values
  flawed_by o f values is fact s = flawed f values (subst (λ (x : Option Flaw). FlawOf w cells l x) is fact) s

  wasted_is : (u : Option UidCell) → is_wasted w cells u ≡ true → IsWasted w cells u
  wasted_is None e = absurd cc
  wasted_is (Some (Counter kind number)) e = absurd cc
  wasted_is (Some (Forward kind name id)) e = absurd cc
  wasted_is (Some (Reverse kind id name)) e = go (has_id w cells kind name id) e
    where
      go : (b : Bool) → not b ≡ true → b ≡ false
      go true e = cc
      go false e = refl

  wasted_not : (u : Option UidCell) → is_wasted w cells u ≡ false → IsWasted w cells u → ⊥
  wasted_not None e h = h
  wasted_not (Some (Counter kind number)) e h = h
  wasted_not (Some (Forward kind name id)) e h = h
  wasted_not (Some (Reverse kind id name)) e h = (let no : true ≡ false = ap not (sym h) ∙ e in cc)

  -- what a note says of a cell of this table
  only_wasted : (l.table ≡ Points → ⊥) → (note : Option Hint) → (note ≡ None → IsWasted w cells (uid_cell w l) → ⊥) → (note ≡ Some Wasted → IsWasted w cells (uid_cell w l)) → (note ≡ Some Clash → ⊥) → FlawOf w cells l None → NoteOf w cells (take at cells) l note
  only_wasted none (Some Wasted) not is clash free = (free, is refl)
  only_wasted none (Some Clash) not is clash free = absurd (clash refl)
  only_wasted none None not is clash free = λ hint h. no hint h
    where
      no : (hint : Hint) → HasHint w cells (take at cells) l hint → ⊥
      no Wasted h = not refl h.1
      no Clash h = none h.1

  counter_not : (k : Option Kind) (value : List ℕ) → IsWasted w cells (counter_by w k value) → ⊥
  counter_not None value h = h
  counter_not (Some kind) value h = go (counter_spelled w kind value) h
    where
      go : (n : Option ℕ) → IsWasted w cells (counter_with kind n) → ⊥
      go None h = h
      go (Some n) h = h

  forward_not : (k : Option Kind) (name value : List ℕ) → IsWasted w cells (forward_by w k name value) → ⊥
  forward_not None name value h = h
  forward_not (Some kind) name value h = go (name_spelled name) (id_spelled w kind value) h
    where
      go : (m : Option (List ℕ)) (i : Option ℕ) → IsWasted w cells (forward_with kind m i) → ⊥
      go (Some m) (Some i) h = h
      go (Some m) None h = h
      go None i h = h

  ids_not : (row qual value : List ℕ) → IsWasted w cells (uid_in w Ids row qual value) → ⊥
  ids_not row qual value h = go (same_bytes row (0 ∷ [])) h
    where
      go : (b : Bool) → IsWasted w cells (cond b (counter_by w (kind_named qual) value) (forward_by w (kind_named qual) row value)) → ⊥
      go true h = counter_not (kind_named qual) value h
      go false h = forward_not (kind_named qual) row value h

  ids_points : Ids ≡ Points → ⊥
  ids_points e = cc

  names_points : Names ≡ Points → ⊥
  names_points e = cc

  pub ids_noted : (values : RowValues) → l.table ≡ Ids → FlawOf w cells l None → SeenIn w cells (take at cells) l.row values → IsNoted w cells at l None values
  ids_noted values t free s = record {
    note_is = only_wasted (λ p. ids_points (sym t ∙ p)) None (λ e h. ids_not l.row l.qual l.value (subst (λ (x : Table). IsWasted w cells (uid_in w x l.row l.qual l.value)) t h)) (λ e. absurd (not_Some Wasted (sym e))) (λ e. not_Some Clash (sym e)) free;
    kept = nothing_seen values (λ p f. ids_points (sym t ∙ p)) s;
  }

  pub names_noted : (values : RowValues) (b : Bool) (hint : Option Hint) → l.table ≡ Names → b ≡ is_wasted w cells (uid_in w Names l.row l.qual l.value) → hint ≡ cond b (Some Wasted) None → FlawOf w cells l None → SeenIn w cells (take at cells) l.row values → IsNoted w cells at l hint values
  names_noted values b hint t told note_is free s = record {
    note_is = subst (λ (o : Option Hint). NoteOf w cells (take at cells) l o) (sym note_is) (by b told);
    kept = nothing_seen values (λ p f. names_points (sym t ∙ p)) s;
  }
    where
      cell_is : is_wasted w cells (uid_in w Names l.row l.qual l.value) ≡ is_wasted w cells (uid_cell w l)
      cell_is = ap (λ (x : Table). is_wasted w cells (uid_in w x l.row l.qual l.value)) (sym t)

      by : (b : Bool) → b ≡ is_wasted w cells (uid_in w Names l.row l.qual l.value) → NoteOf w cells (take at cells) l (cond b (Some Wasted) None)
      by true e = (free, wasted_is (uid_cell w l) (sym cell_is ∙ sym e))
      by false e = only_wasted (λ p. names_points (sym t ∙ p)) None (λ n h. wasted_not (uid_cell w l) (sym cell_is ∙ sym e) h) (λ n. absurd (not_Some Wasted (sym n))) (λ n. not_Some Clash (sym n)) free

  points_not : l.table ≡ Points → IsWasted w cells (uid_cell w l) → ⊥
  points_not t h = subst (λ (x : Table). IsWasted w cells (uid_in w x l.row l.qual l.value)) t h

  reads_of : (t : Table) → t ≡ Points → FlawIn w cells t l.row l.qual l.value None → Reads l.qual l.value
  reads_of Points t p = p.3
  reads_of Ids t p = absurd (ids_points t)
  reads_of Names t p = absurd (names_points t)

  -- a cell of points: its dots come behind those of the row
  module _ (t : l.table ≡ Points) (free : FlawOf w cells l None) (old : RowValues) (s : SeenIn w cells (take at cells) l.row old) where
    pub own : List Dot
    own = (reads_of l.table t free).0

    pub own_are : HoldsDots l.qual l.value own
    unfolding own
    own_are = (reads_of l.table t free).1

    cell_of_one : (b : Bool) (values : RowValues) → AddsDots s.dots own b values → (h : HasClash (s.dots ++ own) own) → HasHint w cells (take at cells) l Clash
    cell_of_one b values a h = elim (Contains-append_cases s.dots own h.one h.in_all) [
      | inl before ↦
          (let e = (s.known h.one).0 before in (
            free,
            t,
            (
              e.cell,
              Contains-append_left (take at cells) (l ∷ []) e.cell e.is_in,
              e.points,
              e.free,
              record { row = e.row_is; before = e.dots; reads_before = e.reads; after = own; reads_after = own_are; one = h.one; in_before = e.has; other = h.other; in_after = h.in_own; offset = h.offset; values = h.values },
            ),
          ))
      | inr mine ↦ (
        free,
        t,
        (
          l,
          Contains-append_right (take at cells) (l ∷ []) l (here l []),
          t,
          free,
          record { row = refl; before = own; reads_before = own_are; after = own; reads_after = own_are; one = h.one; in_before = mine; other = h.other; in_after = h.in_own; offset = h.offset; values = h.values },
        ),
      )
    ]

    clash_of : HasHint w cells (take at cells) l Clash → HasClash (s.dots ++ own) own
    clash_of (f, p, (m, c, points, mfree, k)) =
        let after : k.after ≡ own = one_dots l.qual l.value k.after own k.reads_after own_are in
        let in_own : Contains own k.other = subst (λ (ds : List Dot). Contains ds k.other) after k.in_after in
        record {
          one = k.one;
          in_all = elim (Contains-append_cases (take at cells) (l ∷ []) m c) [
            | inl before ↦ Contains-append_left s.dots own k.one ((s.known k.one).1 (record { cell = m; is_in = before; points = points; row_is = k.row; free = mfree; dots = k.before; reads = k.reads_before; has = k.in_before }))
            | inr last ↦ elim (split l m [] last) [
              | inl same ↦ Contains-append_right s.dots own k.one (subst (λ (ds : List Dot). Contains ds k.one) (one_dots l.qual l.value k.before own (subst (λ (x : ListLine). HoldsDots x.qual x.value k.before) (sym same) k.reads_before) own_are) k.in_before)
              | inr none ↦ absurd (not_in m none)
            ]
          ];
          other = k.other;
          in_own = in_own;
          offset = k.offset;
          values = k.values;
        }

    note_by : (b : Bool) (values : RowValues) → AddsDots s.dots own b values → NoteOf w cells (take at cells) l (cond b (Some Clash) None)
    note_by true values a = cell_of_one true values a a.told
    note_by false values a = λ hint h. no hint h
      where
        no : (hint : Hint) → HasHint w cells (take at cells) l hint → ⊥
        no Wasted h = points_not t h.1
        no Clash h = a.told (clash_of h)

    seen_more : (b : Bool) (values : RowValues) → AddsDots s.dots own b values → SeenIn w cells (take at cells ++ l ∷ []) l.row values
    seen_more b values a = record {
      dots = s.dots ++ own;
      known = λ d. (
        λ c. elim (Contains-append_cases s.dots own d c) [
          | inl before ↦ dot_earlier l.row d ((s.known d).0 before)
          | inr mine ↦ record { cell = l; is_in = Contains-append_right (take at cells) (l ∷ []) l (here l []); points = t; row_is = refl; free = free; dots = own; reads = own_are; has = mine }
        ],
        λ h. elim (last_or_earlier l.row d h) [
          | inl before ↦ Contains-append_left s.dots own d ((s.known d).1 before)
          | inr same ↦ Contains-append_right s.dots own d (subst (λ (ds : List Dot). Contains ds d) (one_dots l.qual l.value h.dots own (subst (λ (x : ListLine). HoldsDots x.qual x.value h.dots) (sym same) h.reads) own_are) h.has)
        ],
      );
      kept = a.kept;
    }

    pub points_noted : (values : RowValues) (b : Bool) (hint : Option Hint) (qual value : List ℕ) → qual ≡ l.qual → value ≡ l.value → ((dots own : List Dot) → HoldsDots qual value own → Keeps dots old → AddsDots dots own b values) → hint ≡ cond b (Some Clash) None → IsNoted w cells at l hint values
    points_noted values b hint qual value qual_is value_is adds note_is =
        let a = adds s.dots own (subst (λ (p : List ℕ × List ℕ). HoldsDots p.0 p.1 own) (λ i. (sym qual_is i, sym value_is i)) own_are) s.kept in
        record {
          note_is = subst (λ (o : Option Hint). NoteOf w cells (take at cells) l o) (sym note_is) (note_by b values a);
          kept = kept_next values (seen_more b values a);
        }

-- the dots of a cell are one list
pub held_added : (qual value : List ℕ) (mine : List Dot) (b : Bool) (old new : RowValues) → HoldsDots qual value mine → ((dots : List Dot) → Keeps dots old → AddsDots dots mine b new)
    → (dots own : List Dot) → HoldsDots qual value own → Keeps dots old → AddsDots dots own b new
held_added qual value mine b old new is adds dots own own_is k = subst (λ (ds : List Dot). AddsDots dots ds b new) (one_dots qual value mine own is own_is) (adds dots k)
