-- The part of a store, by what it has at each place.
use Rattle.std.proofs.Common.{◌≡◌, ◌≢◌, ◌⊎◌, inl, inr, ℕ, ◌+◌, ◌%◌, ◌^◌, Bool, true, false, cond, List, [], ◌∷◌, ◌++◌, refl, sym, ap, ◌∙◌, append-nil}
use Rattle.std.proofs.Math.Dec.{T}
use Rattle.std.specs.Prelude.{Option, None, Some, option_map, map, filter, find, nat_lt, if◌then◌else◌}
use Rattle.std.specs.Int.{w64, to_be_bytes, from_be_bytes}
use Rattle.std.specs.Option.{option_map_or}
use Rattle.std.specs.Ordering.{eq_by_cmp}
use Rattle.std.specs.FinMap.{get-empty, entries_sorted, entries-from_sorted, get-from_sorted, get-entries, get-insert, get-remove}
use Rattle.row_key.specs.declared.widths.Widths.{Widths}
use Rattle.std.specs.FinMap.Entries.{is_sorted-where_key, find-where_key}
use Rattle.std.specs.FinMap.Entries as fe
use Rattle.list_lemmas.proofs.BoolTests.{is_equal}
use Rattle.cell_model.specs.declared.row.Row.{Row}
use Rattle.qual_codec.specs.declared.cells.Cell.{Cell}
use Rattle.qual_codec.specs.CellDots.{column_qual}
use Rattle.cell_model.specs.declared.row.Found.{Found}
use Rattle.tsd_base.specs.declared.kinds.Kind.{Kind}
use Rattle.row_key.specs.declared.tables.Table.{Table}
use Rattle.cell_model.specs.declared.events.Step.{Step}
use Rattle.cell_model.specs.declared.events.Step.TheVariants.{Open, Read, NextRow, Bump, Claim, PutPoint, AppendPoint, PutMerged, DropCells}
use Rattle.cell_model.specs.declared.answers.Bumped.TheVariants.{Given, Full}
use Rattle.cell_model.specs.declared.events.Place.{Place}
use Rattle.cell_model.specs.declared.events.Content.{Content}
use Rattle.cell_model.specs.Store.{Store, entries, get, insert, no_cells, remove, with_cells, row_cmp, place_cmp, place_of, content_at, value_at, written, or_nothing, stamped, stamped_over, is_dropped, dropped, drop_count, cells_of, cell_of, is_between, next_row_of}
use Rattle.cell_model.specs.Machine.{after, stepped, reply_of, counter_row, kind_qual, counter_of, or_written, greatest, claim_reply}
use Rattle.cell_model.specs.declared.events.Reply.TheVariants.{Next, Shown, BumpReply, ClaimReply, Removed}
use Rattle.cell_model.specs.History.{History, store_after, len, base_of}
use Rattle.cell_model.specs.History.History.{Base, Then}
use Rattle.cell_model.proofs.CallerLemmas.{places_total, exact_places, exact_rows, same_or_not, same_store}
use Rattle.cell_laws.proofs.PlaceTests.{tied, untied}
use Rattle.cell_model.specs.declared.events.Placed.{Placed}
use Rattle.cell_model.specs.Deeds.{placed}
use Rattle.cell_laws.specs.StoreParts.{part, is_mine, StaysWithin, part_after, picked, replayed}
use Rattle.cell_laws.specs.PartLaws.{HistoryApart}

pub replayed-snoc : (s : Store) (xs : List Placed) (p : Placed) → replayed s (xs ++ p ∷ []) ≡ after (replayed s xs) p.place p.entry.step
replayed-snoc s [] p = refl
replayed-snoc s (x ∷ xs) p = replayed-snoc (after s x.place x.entry.step) xs p

abbrev the_none : Option Content
the_none = None

none_either : (b : Bool) → cond b (the_none) the_none ≡ the_none
none_either true = refl
none_either false = refl

clash : {A : Type 0} (b : Bool) → b ≡ true → b ≡ false → A
clash b p q = let t : true ≡ false = sym p ∙ q in absurd (cc)

abbrev found_of : Row → List Cell → Found
found_of row cells = record { row = row; cells = cells }

abbrev shown : Store → Option (Place × Content) → Option Found
shown s o = option_map (λ e. found_of e.0.row (cells_of s e.0.row)) o

module _ (mine : Row → Bool) where
  kept : Store → List (Place × Content)
  kept s = filter (λ e. mine e.0.row) (entries s)

  kept_sorted : (s : Store) → T (fe.is_sorted place_cmp (filter (λ e. mine e.0.row) (entries s)))
  kept_sorted s = is_sorted-where_key place_cmp (λ p. mine p.row) (entries s) (entries_sorted s.cells)

  pub entries-part : (s : Store) → entries (part mine s) ≡ filter (λ e. mine e.0.row) (entries s)
  entries-part s = entries-from_sorted place_cmp _ (kept_sorted s)

  pub get-part : (s : Store) (p : Place) → get (part mine s) p ≡ cond (mine p.row) (get s p) None
  get-part s p =
      get-from_sorted place_cmp _ p (kept_sorted s)
      ∙ find-where_key place_cmp (λ x. mine x.row) p (λ x e. ap (λ (y : Place). mine y.row) (sym (exact_places p x e))) (entries s)
      ∙ ap (λ o. cond (mine p.row) o None) (sym (get-entries s.cells p))

  pub get-mine : (s : Store) (p : Place) → mine p.row ≡ true → get (part mine s) p ≡ get s p
  get-mine s p is = get-part s p ∙ ap (λ b. cond b (get s p) None) is

  -- of a store without a cell
  pub part-empty : (w : Widths) → part mine (no_cells w) ≡ no_cells w
  part-empty w = same_store _ _ refl (λ q. get-part (no_cells w) q ∙ ap (λ o. cond (mine q.row) o None) (get-empty place_cmp q) ∙ none_either (mine q.row) ∙ sym (get-empty place_cmp q))

  pub part-insert_mine : (s : Store) (p : Place) (c : Content) → mine p.row ≡ true → part mine (insert s p c) ≡ insert (part mine s) p c
  part-insert_mine s p c is = same_store _ _ refl (λ q. at q (same_or_not q p))
    where
      at : (q : Place) → (q ≡ p) ⊎ (q ≢ p) → get (part mine (insert s p c)) q ≡ get (insert (part mine s) p c) q
      at q (inl same) =
          let there : mine q.row ≡ true = ap (λ (x : Place). mine x.row) same ∙ is in
          let hit : eq_by_cmp place_cmp q p ≡ true = ap (λ x. eq_by_cmp place_cmp x p) same ∙ tied p in
          get-mine (insert s p c) q there ∙ get-insert places_total s.cells p c q ∙ ap (λ b. cond b (Some c) (get s q)) hit
          ∙ sym (get-insert places_total (part mine s).cells p c q ∙ ap (λ b. cond b (Some c) (get (part mine s) q)) hit)
      at q (inr other) =
          let miss : eq_by_cmp place_cmp q p ≡ false = untied q p other in
          get-part (insert s p c) q ∙ ap (λ o. cond (mine q.row) o None) (get-insert places_total s.cells p c q ∙ ap (λ b. cond b (Some c) (get s q)) miss)
          ∙ sym (get-insert places_total (part mine s).cells p c q ∙ ap (λ b. cond b (Some c) (get (part mine s) q)) miss ∙ get-part s q)

  pub part-insert_other : (s : Store) (p : Place) (c : Content) → mine p.row ≡ false → part mine (insert s p c) ≡ part mine s
  part-insert_other s p c is = same_store _ _ refl (λ q. at q (same_or_not q p))
    where
      at : (q : Place) → (q ≡ p) ⊎ (q ≢ p) → get (part mine (insert s p c)) q ≡ get (part mine s) q
      at q (inl same) =
          let gone : mine q.row ≡ false = ap (λ (x : Place). mine x.row) same ∙ is in
          get-part (insert s p c) q ∙ ap (λ b. cond b (get (insert s p c) q) None) gone ∙ sym (get-part s q ∙ ap (λ b. cond b (get s q) None) gone)
      at q (inr other) =
          get-part (insert s p c) q ∙ ap (λ o. cond (mine q.row) o None) (get-insert places_total s.cells p c q ∙ ap (λ b. cond b (Some c) (get s q)) (untied q p other)) ∙ sym (get-part s q)

  pub part-remove_mine : (s : Store) (p : Place) → part mine (remove s p) ≡ remove (part mine s) p
  part-remove_mine s p = same_store _ _ refl (λ q. at q (eq_by_cmp place_cmp q p) refl)
    where
      at : (q : Place) (b : Bool) → eq_by_cmp place_cmp q p ≡ b → get (part mine (remove s p)) q ≡ get (remove (part mine s) p) q
      at q true e =
          get-part (remove s p) q ∙ ap (λ o. cond (mine q.row) o None) (get-remove places_total s.cells p q ∙ ap (λ b. cond b None (get s q)) e)
          ∙ none_either (mine q.row)
          ∙ sym (get-remove places_total (part mine s).cells p q ∙ ap (λ b. cond b None (get (part mine s) q)) e)
      at q false e =
          get-part (remove s p) q ∙ ap (λ o. cond (mine q.row) o None) (get-remove places_total s.cells p q ∙ ap (λ b. cond b None (get s q)) e)
          ∙ sym (get-remove places_total (part mine s).cells p q ∙ ap (λ b. cond b None (get (part mine s) q)) e ∙ get-part s q)

  pub part-remove_other : (s : Store) (p : Place) → mine p.row ≡ false → part mine (remove s p) ≡ part mine s
  part-remove_other s p is = same_store _ _ refl (λ q. at q (same_or_not q p))
    where
      at : (q : Place) → (q ≡ p) ⊎ (q ≢ p) → get (part mine (remove s p)) q ≡ get (part mine s) q
      at q (inl same) =
          let gone : mine q.row ≡ false = ap (λ (x : Place). mine x.row) same ∙ is in
          get-part (remove s p) q ∙ ap (λ b. cond b (get (remove s p) q) None) gone ∙ sym (get-part s q ∙ ap (λ b. cond b (get s q) None) gone)
      at q (inr other) =
          get-part (remove s p) q ∙ ap (λ o. cond (mine q.row) o None) (get-remove places_total s.cells p q ∙ ap (λ b. cond b None (get s q)) (untied q p other)) ∙ sym (get-part s q)

  -- the cells of a row, and the rows of a scan
  filter_twice : (row : Row) → mine row ≡ true → (es : List (Place × Content)) → filter (λ e. eq_by_cmp row_cmp row e.0.row) (filter (λ e. mine e.0.row) es) ≡ filter (λ e. eq_by_cmp row_cmp row e.0.row) es
  filter_twice row is [] = refl
  filter_twice row is (e ∷ es) = at (filter_twice row is es) (mine e.0.row) refl (eq_by_cmp row_cmp row e.0.row) refl
    where
      at : filter (λ e. eq_by_cmp row_cmp row e.0.row) (filter (λ e. mine e.0.row) es) ≡ filter (λ e. eq_by_cmp row_cmp row e.0.row) es → (b : Bool) → mine e.0.row ≡ b → (t : Bool) → eq_by_cmp row_cmp row e.0.row ≡ t
          → filter (λ e. eq_by_cmp row_cmp row e.0.row) (cond b (e ∷ filter (λ e. mine e.0.row) es) (filter (λ e. mine e.0.row) es)) ≡ cond t (e ∷ filter (λ e. eq_by_cmp row_cmp row e.0.row) es) (filter (λ e. eq_by_cmp row_cmp row e.0.row) es)
      at rest true p true q = ap (λ t. cond t (e ∷ filter (λ e. eq_by_cmp row_cmp row e.0.row) (filter (λ e. mine e.0.row) es)) (filter (λ e. eq_by_cmp row_cmp row e.0.row) (filter (λ e. mine e.0.row) es))) q ∙ ap (λ xs. e ∷ xs) rest
      at rest true p false q = ap (λ t. cond t (e ∷ filter (λ e. eq_by_cmp row_cmp row e.0.row) (filter (λ e. mine e.0.row) es)) (filter (λ e. eq_by_cmp row_cmp row e.0.row) (filter (λ e. mine e.0.row) es))) q ∙ rest
      at rest false p true q = clash (mine e.0.row) (ap mine (sym (exact_rows row e.0.row (is_equal _ q))) ∙ is) p
      at rest false p false q = rest

  pub cells-part : (s : Store) (row : Row) → mine row ≡ true → cells_of (part mine s) row ≡ cells_of s row
  cells-part s row is = ap (λ es. map cell_of (filter (λ e. eq_by_cmp row_cmp row e.0.row) es)) (entries-part s) ∙ ap (map cell_of) (filter_twice row is (entries s))

  -- where each entry that passes a test is mine, the first that passes it is the same
  module _ (test : Row → Bool) (stays : (row : Row) → test row ≡ true → mine row ≡ true) where
    find_kept : (es : List (Place × Content)) → find (λ e. test e.0.row) (filter (λ e. mine e.0.row) es) ≡ find (λ e. test e.0.row) es
    find_kept [] = refl
    find_kept (e ∷ es) = at (find_kept es) (mine e.0.row) refl (test e.0.row) refl
      where
        at : find (λ e. test e.0.row) (filter (λ e. mine e.0.row) es) ≡ find (λ e. test e.0.row) es → (b : Bool) → mine e.0.row ≡ b → (t : Bool) → test e.0.row ≡ t → find (λ e. test e.0.row) (cond b (e ∷ filter (λ e. mine e.0.row) es) (filter (λ e. mine e.0.row) es)) ≡ cond t (Some e) (find (λ e. test e.0.row) es)
        at rest true p true q = ap (λ t. cond t (Some e) (find (λ e. test e.0.row) (filter (λ e. mine e.0.row) es))) q
        at rest true p false q = ap (λ t. cond t (Some e) (find (λ e. test e.0.row) (filter (λ e. mine e.0.row) es))) q ∙ rest
        at rest false p true q = clash (mine e.0.row) (stays e.0.row q) p
        at rest false p false q = rest

    found_cells : (s : Store) (es : List (Place × Content)) → shown (part mine s) (find (λ e. test e.0.row) es) ≡ shown s (find (λ e. test e.0.row) es)
    found_cells s [] = refl
    found_cells s (e ∷ es) = at (found_cells s es) (test e.0.row) refl
      where
        at : shown (part mine s) (find (λ e. test e.0.row) es) ≡ shown s (find (λ e. test e.0.row) es) → (t : Bool) → test e.0.row ≡ t → shown (part mine s) (cond t (Some e) (find (λ e. test e.0.row) es)) ≡ shown s (cond t (Some e) (find (λ e. test e.0.row) es))
        at rest true q = ap (λ cs. Some (found_of e.0.row cs)) (cells-part s e.0.row (stays e.0.row q))
        at rest false q = rest

  pub next-part : (s : Store) (table : Table) (from to : List ℕ) → StaysWithin mine (NextRow table from to) → next_row_of (part mine s) table from to ≡ next_row_of s table from to
  next-part s table from to stays =
      ap (λ es. shown (part mine s) (find (λ e. is_between table from to e.0.row) es)) (entries-part s)
      ∙ ap (shown (part mine s)) (find_kept (is_between table from to) stays (entries s))
      ∙ found_cells (is_between table from to) stays s (entries s)

  pub content-part : (s : Store) (row : Row) (qual : List ℕ) → mine row ≡ true → content_at (part mine s) row qual ≡ content_at s row qual
  content-part s row qual is = get-mine s (place_of row qual) is

  pub value-part : (s : Store) (row : Row) (qual : List ℕ) → mine row ≡ true → value_at (part mine s) row qual ≡ value_at s row qual
  value-part s row qual is = ap (option_map (λ c. c.value)) (content-part s row qual is)

  pub counter-part : (s : Store) (kind : Kind) → mine counter_row ≡ true → counter_of (part mine s) kind ≡ counter_of s kind
  counter-part s kind is = ap (λ v. option_map_or (from_be_bytes w64) v 0) (value-part s counter_row (kind_qual kind) is)

  pub dropped-part : (s : Store) (row : Row) (which : List (List ℕ × ℕ)) → mine row ≡ true → part mine (dropped s row which) ≡ dropped (part mine s) row which
  dropped-part s row [] is = refl
  dropped-part s row (d ∷ which) is =
      elim (is_dropped (content_at s row d.0) d.1) as (λ b. part mine (dropped (if b then remove s (place_of row d.0) else s) row which) ≡ dropped (if b then remove (part mine s) (place_of row d.0) else part mine s) row which) [
        | true ↦ dropped-part (remove s (place_of row d.0)) row which is ∙ ap (λ x. dropped x row which) (part-remove_mine s (place_of row d.0))
        | false ↦ dropped-part s row which is
      ]
      ∙ ap (λ o. dropped (if is_dropped o d.1 then remove (part mine s) (place_of row d.0) else part mine s) row which) (sym (content-part s row d.0 is))

  pub dropped-other : (s : Store) (row : Row) (which : List (List ℕ × ℕ)) → mine row ≡ false → part mine (dropped s row which) ≡ part mine s
  dropped-other s row [] is = refl
  dropped-other s row (d ∷ which) is =
      elim (is_dropped (content_at s row d.0) d.1) as (λ b. part mine (dropped (if b then remove s (place_of row d.0) else s) row which) ≡ part mine s) [
        | true ↦ dropped-other (remove s (place_of row d.0)) row which is ∙ part-remove_other s (place_of row d.0) is
        | false ↦ dropped-other s row which is
      ]

  pub stamped-part : (s : Store) (row : Row) (qual : List ℕ) (version : ℕ) → mine row ≡ true → part mine (stamped s row qual version) ≡ stamped (part mine s) row qual version
  stamped-part s row qual version is =
      elim (content_at s row qual) as (λ o. part mine (stamped_over o s row qual version) ≡ stamped_over o (part mine s) row qual version) [
        | None ↦ refl
        | Some c ↦ part-insert_mine s _ _ is
      ]
      ∙ ap (λ o. stamped_over o (part mine s) row qual version) (sym (content-part s row qual is))

  pub stamped-other : (s : Store) (row : Row) (qual : List ℕ) (version : ℕ) → mine row ≡ false → part mine (stamped s row qual version) ≡ part mine s
  stamped-other s row qual version is =
      elim (content_at s row qual) as (λ o. part mine (stamped_over o s row qual version) ≡ part mine s) [
        | None ↦ refl
        | Some c ↦ part-insert_other s _ _ is
      ]

  pub drop_count-part : (s : Store) (row : Row) (which : List (List ℕ × ℕ)) → mine row ≡ true → drop_count (part mine s) row which ≡ drop_count s row which
  drop_count-part s row [] is = refl
  drop_count-part s row (d ∷ which) is =
      ap (λ o. if is_dropped o d.1 then drop_count (remove (part mine s) (place_of row d.0)) row which + 1 else drop_count (part mine s) row which) (content-part s row d.0 is)
      ∙ elim (is_dropped (content_at s row d.0) d.1) as (λ b. (if b then drop_count (remove (part mine s) (place_of row d.0)) row which + 1 else drop_count (part mine s) row which) ≡ (if b then drop_count (remove s (place_of row d.0)) row which + 1 else drop_count s row which)) [
        | true ↦ ap (λ n. n + 1) (ap (λ x. drop_count x row which) (sym (part-remove_mine s (place_of row d.0))) ∙ drop_count-part (remove s (place_of row d.0)) row which is)
        | false ↦ drop_count-part s row which is
      ]

  stepped-mine : (s : Store) (place : ℕ) (step : Step) → is_mine mine step ≡ true → part mine (stepped s place step) ≡ stepped (part mine s) place step
  stepped-mine s place Open is = refl
  stepped-mine s place (Read row) is = refl
  stepped-mine s place (NextRow table from to) is = refl
  stepped-mine s place (Bump kind) is =
      elim (nat_lt (counter_of s kind) (greatest s.widths kind)) as (λ b. part mine (if b then written s counter_row (kind_qual kind) (to_be_bytes w64 (counter_of s kind + 1)) (place % 2 ^ 64) else s) ≡ (if b then written (part mine s) counter_row (kind_qual kind) (to_be_bytes w64 (counter_of s kind + 1)) (place % 2 ^ 64) else part mine s)) [
        | true ↦ part-insert_mine s _ _ is
        | false ↦ refl
      ]
      ∙ ap (λ n. if nat_lt n (greatest s.widths kind) then written (part mine s) counter_row (kind_qual kind) (to_be_bytes w64 (n + 1)) (place % 2 ^ 64) else part mine s) (sym (counter-part s kind is))
  stepped-mine s place (Claim row qual value) is =
      elim (value_at s row qual) as (λ o. part mine (or_written o (written s row qual value (place % 2 ^ 64)) s) ≡ or_written o (written (part mine s) row qual value (place % 2 ^ 64)) (part mine s)) [
        | None ↦ part-insert_mine s _ _ is
        | Some v ↦ refl
      ]
      ∙ ap (λ o. or_written o (written (part mine s) row qual value (place % 2 ^ 64)) (part mine s)) (sym (value-part s row qual is))
  stepped-mine s place (PutPoint point row qual value) is = part-insert_mine s _ _ is
  stepped-mine s place (AppendPoint point row piece) is =
      part-insert_mine s _ _ is ∙ ap (λ o. written (part mine s) row column_qual (or_nothing o ++ piece) (place % 2 ^ 64)) (sym (value-part s row column_qual is))
  stepped-mine s place (PutMerged row qual value) is = part-insert_mine s _ _ is
  stepped-mine s place (DropCells row which) is = dropped-part s row which is

  stepped-other : (s : Store) (place : ℕ) (step : Step) → is_mine mine step ≡ false → part mine (stepped s place step) ≡ part mine s
  stepped-other s place Open is = refl
  stepped-other s place (Read row) is = refl
  stepped-other s place (NextRow table from to) is = refl
  stepped-other s place (Bump kind) is =
      elim (nat_lt (counter_of s kind) (greatest s.widths kind)) as (λ b. part mine (if b then written s counter_row (kind_qual kind) (to_be_bytes w64 (counter_of s kind + 1)) (place % 2 ^ 64) else s) ≡ part mine s) [
        | true ↦ part-insert_other s _ _ is
        | false ↦ refl
      ]
  stepped-other s place (Claim row qual value) is =
      elim (value_at s row qual) as (λ o. part mine (or_written o (written s row qual value (place % 2 ^ 64)) s) ≡ part mine s) [
        | None ↦ part-insert_other s _ _ is
        | Some v ↦ refl
      ]
  stepped-other s place (PutPoint point row qual value) is = part-insert_other s _ _ is
  stepped-other s place (AppendPoint point row piece) is = part-insert_other s _ _ is
  stepped-other s place (PutMerged row qual value) is = part-insert_other s _ _ is
  stepped-other s place (DropCells row which) is = dropped-other s row which is

  pub after-mine : (s : Store) (place : ℕ) (step : Step) → is_mine mine step ≡ true → part mine (after s place step) ≡ after (part mine s) place step
  after-mine s place step is = ap (with_cells s) (stepped-mine s place step is)

  pub after-other : (s : Store) (place : ℕ) (step : Step) → is_mine mine step ≡ false → part mine (after s place step) ≡ part mine s
  after-other s place step is = ap (with_cells s) (stepped-other s place step is)

  pub reply-part : (s : Store) (place : ℕ) (step : Step) → is_mine mine step ≡ true → StaysWithin mine step → reply_of (part mine s) place step ≡ reply_of s place step
  reply-part s place Open is stays = refl
  reply-part s place (Read row) is stays = ap Shown (cells-part s row is)
  reply-part s place (NextRow table from to) is stays = ap Next (next-part s table from to stays)
  reply-part s place (Bump kind) is stays = ap (λ n. BumpReply (if nat_lt n (greatest s.widths kind) then Given (n + 1) else Full)) (counter-part s kind is)
  reply-part s place (Claim row qual value) is stays = ap (λ o. ClaimReply (claim_reply o)) (value-part s row qual is)
  reply-part s place (PutPoint point row qual value) is stays = refl
  reply-part s place (AppendPoint point row piece) is stays = refl
  reply-part s place (PutMerged row qual value) is stays = refl
  reply-part s place (DropCells row which) is stays = ap Removed (drop_count-part s row which is)

  pub history-part : (h : History) → part mine (store_after h) ≡ part_after mine h
  history-part (Base base) = refl
  history-part (Then h e) = at (history-part h) (is_mine mine e.step) refl
    where
      at : part mine (store_after h) ≡ part_after mine h → (b : Bool) → is_mine mine e.step ≡ b → part mine (after (store_after h) (len h + 1) e.step) ≡ (if b then after (part_after mine h) (len h + 1) e.step else part_after mine h)
      at rest true is = after-mine (store_after h) (len h + 1) e.step is ∙ ap (λ s. after s (len h + 1) e.step) rest
      at rest false is = after-other (store_after h) (len h + 1) e.step is ∙ rest

  pub part_after-replayed : (h : History) → part_after mine h ≡ replayed (part mine (base_of h)) (picked (λ e. is_mine mine e.step) h)
  part_after-replayed (Base base) = refl
  part_after-replayed (Then h e) =
      elim (is_mine mine e.step) as (λ b. (if b then after (part_after mine h) (len h + 1) e.step else part_after mine h) ≡ replayed (part mine (base_of h)) (picked (λ x. is_mine mine x.step) h ++ cond b (placed (len h + 1) e ∷ []) [])) [
        | true ↦ ap (λ s. after s (len h + 1) e.step) (part_after-replayed h) ∙ sym (replayed-snoc (part mine (base_of h)) (picked (λ x. is_mine mine x.step) h) (placed (len h + 1) e))
        | false ↦ part_after-replayed h ∙ ap (replayed (part mine (base_of h))) (sym (append-nil (picked (λ x. is_mine mine x.step) h)))
      ]

pub history_apart : HistoryApart
history_apart mine h = history-part mine h ∙ part_after-replayed mine h
