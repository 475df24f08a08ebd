-- One row that a caller compacts that steps alone.
use Rattle.std.proofs.Common.{◌≡◌, ◌≢◌, ⊎_elim, ℕ, ℤ, ◌+◌, ◌%◌, ◌^◌, ◌<◌, ◌≤◌, true, List, length, refl, sym, ap, subst, ◌∙◌, arith}
use Rattle.std.specs.Prelude.{◌↔◌, Option, None, Some, option_map, Result, Ok, Err, Contains}
use Rattle.row_hours.specs.declared.hours.TheConstants.{LAST_OFFSET}
use Rattle.qual_codec.specs.declared.cells.Cell.{Cell}
use Rattle.qual_codec.specs.declared.cells.MergeFault.TheVariants as merge
use Rattle.qual_codec.specs.Merge.{IsMerged, TellsConflict}
use Rattle.cell_model.specs.declared.row.Row.{Row}
use Rattle.cell_model.specs.declared.events.Place.{Place}
use Rattle.cell_model.specs.declared.events.Content.{Content}
use Rattle.cell_model.specs.declared.events.Placed.{Placed}
use Rattle.cell_model.specs.declared.events.Reply.TheVariants.{Shown}
use Rattle.cell_model.specs.Deeds.{Made, MadeSo}
use Rattle.cell_model.specs.History.{History, first, len, store_after}
use Rattle.cell_model.specs.History.History.{Then}
use Rattle.cell_model.specs.Lawful.{IsLawful}
use Rattle.cell_model.specs.Machine.{after, reply_of}
use Rattle.cell_model.specs.Seen.{Seen, Fits}
use Rattle.cell_model.specs.Store.{Store, cells_of, content_at, dropped, place_of, value_at, with_cells, written}
use Rattle.cell_model.proofs.CallerLemmas.{content-written, content-written_other, get-dropped, get-dropped_other}
use Rattle.cell_laws.proofs.CallerLemmas.{first_lawful}
use Rattle.compactor.specs.declared.compaction.Compacted.{Compacted}
use Rattle.compactor.specs.declared.compaction.Compacted.TheVariants.{Nothing, Merged}
use Rattle.compactor.specs.declared.compaction.CompactFault.{CompactFault}
use Rattle.compactor.specs.declared.compaction.CompactFault.TheVariants.{Conflict, OutOfMemory, Stopped}
use Rattle.compactor.specs.Compaction.{CompactMade, DidRead, HadConflict, HadFew, WasMerged, by_items, others}
use Rattle.point_lines.proofs.CallerLemmas.{follow, follows, read_keeps}
use Rattle.import_job.specs.Changes.{AllButRow, Changes, CompactsRow, LacksColumn}
use Rattle.import_job.specs.Compactions.{HasSame}
use Rattle.import_job.specs.Compactions.IsRowLeft.{merged, few, conflict}
use Rattle.import_job.proofs.IdCells.{bytes_or}
use Rattle.import_job.proofs.RowStores.{all_by_items, cell_there, gone, is_named, named_other, one_content, stays}

-- ---- a caller that is alone
pub alone_follows : (old new : Seen) (list : List Placed) (h : History) → Made old list new → old.alone ≡ true → Fits new h → first new.length h ≡ follow (first old.length h) list
alone_follows old new list h made alone fits =
    follows h old.caller old.length new.length made.since.extends.length (made.since.only alone h fits) ∙ ap (follow (first old.length h)) (made.made h fits)

-- ---- the stores before and behind
unchanged : (s t : Store) (row : Row) → t ≡ s → AllButRow s t row
unchanged s t row same other qual apart = ap (λ (x : Store). content_at x other qual) same

same_there : (s t : Store) (row : Row) → t ≡ s → HasSame s t row
same_there s t row same qual = ap (λ (x : Store). value_at x row qual) same

module _ (s : Store) (row : Row) (qual value : List ℕ) (place : ℕ) (lacks : LacksColumn s row) where
  abbrev put : Store
  put = written s row qual value place

  abbrev left : Store
  left = dropped put row (others qual (by_items (cells_of s row)))

  now : content_at left row qual ≡ Some (record { value = value; version = place })
  now = stays put row (others qual (by_items (cells_of s row))) qual (named_other qual (by_items (cells_of s row))) ∙ content-written s row qual value place

  before : (q : List ℕ) (c : Content) → q ≢ qual → content_at put row q ≡ Some c → content_at s row q ≡ Some c
  before q c other is = sym (content-written_other s row qual value place (place_of row q) (λ e. other (ap (λ (p : Place). p.qual) e))) ∙ is

  no_other : (q : List ℕ) (c : Content) → q ≢ qual → content_at left row q ≡ Some c → ⊥
  no_other q c other is =
      let there_ : content_at put row q ≡ Some c = get-dropped put row (others qual (by_items (cells_of s row))) (place_of row q) c is in
      let cell : Cell = record { qual = q; value = c.value; version = c.version } in
      let has : Contains (by_items (cells_of s row)) cell = subst (λ (cs : List Cell). Contains cs cell) (sym (all_by_items s row lacks)) (cell_there s row q c (before q c other there_)) in
      gone put row (others qual (by_items (cells_of s row))) (q, c.version) (is_named qual (by_items (cells_of s row)) cell has other)
      (λ d at_. let same = one_content d c (sym at_ ∙ there_) in let v = ap (λ (x : Content). x.version) same in omega (arith, v)) c is

  one_value : (a b : List ℕ) → ◌≡◌ {A = Option (List ℕ)} (Some a) (Some b) → a ≡ b
  one_value a b e = cc

  no_value : {a : List ℕ} → ◌≡◌ {A = Option (List ℕ)} None (Some a) → ⊥
  no_value e = cc

  pub one_left : (q v : List ℕ) → value_at left row q ≡ Some v ↔ ((q ≡ qual) × (v ≡ value))
  one_left q v = (to, from)
    where
      here_ : value_at left row qual ≡ Some value
      here_ = ap (option_map (λ (c : Content). c.value)) now

      to : value_at left row q ≡ Some v → (q ≡ qual) × (v ≡ value)
      to is = ⊎_elim
          (λ (same : q ≡ qual). (same, one_value v value (sym is ∙ ap (value_at left row) same ∙ here_)))
          (λ (other : q ≢ qual). absurd (at other (content_at left row q) refl is))
          (bytes_or q qual)
        where
          at : q ≢ qual → (o : Option Content) → content_at left row q ≡ o → option_map (λ (c : Content). c.value) o ≡ Some v → ⊥
          at other None e is = no_value is
          at other (Some c) e is = no_other q c other e

      from : (q ≡ qual) × (v ≡ value) → value_at left row q ≡ Some v
      from (a, b) = ap (value_at left row) a ∙ here_ ∙ ap Some (sym b)

other_rows : (s : Store) (row : Row) (qual value : List ℕ) (place : ℕ) (which : List (List ℕ × ℕ)) → AllButRow s (dropped (written s row qual value place) row which) row
other_rows s row qual value place which other q apart =
    get-dropped_other (written s row qual value place) row which (place_of other q) apart
    ∙ content-written_other s row qual value place (place_of other q) (λ e. apart (ap (λ (p : Place). p.row) e))

-- ---- what the entries make
cells_are : (a b : List Cell) → Shown a ≡ Shown b → a ≡ b
cells_are a b e = cc

shown_cells : (g : History) (d : Placed) (row : Row) (cells : List Cell) → IsLawful (Then g d.entry) → DidRead d row cells → cells ≡ cells_of (store_after g) row
shown_cells g d row cells lawful did = cells_are _ _ (sym did.1 ∙ lawful.2 ∙ ap (reply_of (store_after g) (len g + 1)) did.0)

-- the compaction came to its end, or found a conflict
abbrev pub IsOver : Result Compacted CompactFault → Type 0
IsOver (Ok answer) = Unit {0}
IsOver (Err (Conflict offset a b)) = Unit {0}
IsOver (Err OutOfMemory) = ⊥
IsOver (Err Stopped) = ⊥

module _ (g : History) (row : Row) where
  had_few : (list : List Placed) → HadFew row list → IsLawful (follow g list) → CompactsRow row (store_after g) (store_after (follow g list))
  had_few list f lawful =
      let same : store_after (follow g list) ≡ store_after g = ap (λ xs. store_after (follow g xs)) f.list_is ∙ read_keeps g f.read.entry row f.did.0 in
      let cells = shown_cells g f.read row f.cells (subst (λ xs. IsLawful (follow g xs)) f.list_is lawful) f.did in
      record {
        widths = ap (λ (x : Store). x.widths) same;
        others = unchanged (store_after g) (store_after (follow g list)) row same;
        left = λ lacks.
            let fewer : length (cells_of (store_after g) row) < 2 = subst (λ (cs : List Cell). length cs < 2) (ap by_items cells ∙ all_by_items (store_after g) row lacks) f.few in
            few fewer (same_there (store_after g) (store_after (follow g list)) row same);
      }

  had_conflict : (offset : ℕ) (a b : ℤ) (list : List Placed) → HadConflict row offset a b list → IsLawful (follow g list) → CompactsRow row (store_after g) (store_after (follow g list))
  had_conflict offset a b list f lawful =
      let same : store_after (follow g list) ≡ store_after g = ap (λ xs. store_after (follow g xs)) f.list_is ∙ read_keeps g f.read.entry row f.did.0 in
      let cells = shown_cells g f.read row f.cells (subst (λ xs. IsLawful (follow g xs)) f.list_is lawful) f.did in
      record {
        widths = ap (λ (x : Store). x.widths) same;
        others = unchanged (store_after g) (store_after (follow g list)) row same;
        left = λ lacks.
            let all = ap by_items cells ∙ all_by_items (store_after g) row lacks in
            conflict offset a b (subst (λ (cs : List Cell). 2 ≤ length cs) all f.several) (subst (λ (cs : List Cell). TellsConflict cs 0 LAST_OFFSET (merge.Conflict offset a b)) all f.conflict) (same_there (store_after g) (store_after (follow g list)) row same);
      }

  was_merged : (count dropped_ : ℕ) (list : List Placed) → WasMerged row count dropped_ list → IsLawful (follow g list) → CompactsRow row (store_after g) (store_after (follow g list))
  was_merged count dropped_ list m lawful =
      let s : Store = store_after g in
      let three : IsLawful (Then (Then (Then g m.read.entry) m.put.entry) m.drop.entry) = subst (λ xs. IsLawful (follow g xs)) m.list_is lawful in
      let cells = shown_cells g m.read row m.cells three.0.0 m.merges.did in
      let read : store_after (Then g m.read.entry) ≡ s = read_keeps g m.read.entry row m.merges.did.0 in
      let place : ℕ = (len g + 1 + 1) % 2 ^ 64 in
      let which : List (List ℕ × ℕ) = others m.qual (by_items (cells_of s row)) in
      let made : store_after (follow g list) ≡ with_cells (written s row m.qual m.value place) (dropped (written s row m.qual m.value place) row which) =
      ap (λ xs. store_after (follow g xs)) m.list_is
      ∙ (λ i. after (after (read i) (len g + 1 + 1) (m.did_put.0 i)) (len g + 1 + 1 + 1) (m.did_drop.0 i))
      ∙ ap (λ (cs : List Cell). with_cells (written s row m.qual m.value place) (dropped (written s row m.qual m.value place) row (others m.qual (by_items cs)))) cells in
      record {
        widths = ap (λ (x : Store). x.widths) made;
        others = λ other q apart. ap (λ (x : Store). content_at x other q) made ∙ other_rows s row m.qual m.value place which other q apart;
        left = λ lacks.
            let all = ap by_items cells ∙ all_by_items s row lacks in
            merged (subst (λ (cs : List Cell). 2 ≤ length cs) all m.merges.several) (subst (λ (cs : List Cell). IsMerged cs m.qual m.value) all m.merges.merged)
            (λ q v. subst (λ (x : Store). value_at x row q ≡ Some v ↔ ((q ≡ m.qual) × (v ≡ m.value))) (sym made) (one_left s row m.qual m.value place lacks q v));
      }

-- one row was compacted
pub row_compacted : (row : Row) (old new : Seen) (r : Result Compacted CompactFault) → old.alone ≡ true → IsOver r → MadeSo old (CompactMade row r) new → Changes (CompactsRow row) old new
row_compacted row old new r alone over (list, made, so) = record {
  since = made.since;
  so = λ h lawful fits.
      let whole = alone_follows old new list h made alone fits in
      subst (λ (x : History). CompactsRow row (store_after (first old.length h)) (store_after x)) (sym whole) (by h r over so (subst IsLawful whole (first_lawful h new.length lawful)));
}
  where
    by : (h : History) (r : Result Compacted CompactFault) → IsOver r → CompactMade row r list → IsLawful (follow (first old.length h) list) → CompactsRow row (store_after (first old.length h)) (store_after (follow (first old.length h) list))
    by h (Ok Nothing) over so lawful = had_few (first old.length h) row list so lawful
    by h (Ok (Merged count dropped_)) over so lawful = was_merged (first old.length h) row count dropped_ list so lawful
    by h (Err (Conflict offset a b)) over so lawful = had_conflict (first old.length h) row offset a b list so lawful
    by h (Err OutOfMemory) over so lawful = absurd over
    by h (Err Stopped) over so lawful = absurd over
