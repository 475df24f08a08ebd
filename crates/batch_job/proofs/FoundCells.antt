-- The cells of a row that a query over stored points finds.
use Rattle.std.proofs.Common.{◌≡◌, ⊎_elim, ℕ, ℤ, ◌-◌, ◌≤◌, Bool, true, false, List, [], ◌∷◌, ◌++◌, refl, sym, ap, subst, ◌∙◌, arith}
use Rattle.std.specs.Prelude.{Option, None, Some, Contains, find, not, if◌then◌else◌, option_map}
use Rattle.std.specs.Ordering.{int_eq}
use Rattle.std.proofs.lemmas.List.Elements.{Contains-append_cases, Contains-append_left}
use Rattle.row_key.specs.declared.tables.Table.TheVariants.{Points}
use Rattle.qual_codec.specs.declared.cells.Cell.{Cell}
use Rattle.qual_codec.specs.declared.cells.Dot.{Dot}
use Rattle.qual_codec.specs.CellDots.{HoldsDots}
use Rattle.tsd_base.specs.Points.{DataPoint}
use Rattle.cell_model.specs.declared.row.Found.{Found}
use Rattle.cell_model.specs.declared.events.Content.{Content}
use Rattle.cell_model.specs.declared.events.Place.{Place}
use Rattle.cell_model.specs.declared.events.Placed.{Placed}
use Rattle.cell_model.specs.declared.events.Reply.TheVariants.{Next, Shown}
use Rattle.cell_model.specs.declared.events.Step.{Step}
use Rattle.cell_model.specs.declared.events.Step.TheVariants.{Open, Read, NextRow, Bump, Claim, PutPoint, AppendPoint, PutMerged, DropCells}
use Rattle.cell_model.specs.Deeds.{Made, deeds}
use Rattle.cell_model.specs.History.{History, first, store_after}
use Rattle.cell_model.specs.IdRows.{name_of}
use Rattle.cell_model.specs.Lawful.{IsLawful}
use Rattle.cell_model.specs.Machine.{reply_of}
use Rattle.cell_model.specs.Readings.{Reading}
use Rattle.cell_model.specs.Seen.{Seen, Fits}
use Rattle.cell_model.specs.Store.{Store, cells_of, value_at}
use Rattle.metric_scan.specs.Parts.{AreQuerySteps, IsQueryStep}
use Rattle.qual_codec.specs.Merge.{AreDots, first_conflict}
use Rattle.row_scan.specs.RowReadings.{RowReads}
use Rattle.batch_job.specs.Storing.{IsStored}
use Rattle.batch_job.proofs.Asking.{query_keeps, three_wide}
use Rattle.point_lines.proofs.CallerLemmas.{follows}
use Rattle.batch_job.proofs.Lower.{cell_at, deeds_each, deeds_joined, each_entry, sound_after, first_lawful, there, here, not_in}
use Rattle.batch_job.proofs.PointRows.{in_points}

-- ---- what a next row shows
not_shown : {f : Found} {cells : List Cell} → Next (Some f) ≡ Shown cells → ⊥
not_shown e = cc

cells_found : (s : Store) (o : Option (Place × Content)) (f : Found) → Next (Some f) ≡ Next (option_map (λ (e : Place × Content). record { row = e.0.row; cells = cells_of s e.0.row }) o) → f.cells ≡ cells_of s f.row
cells_found s None f e = absurd cc
cells_found s (Some x) f e =
    let is : f ≡ record { row = x.0.row; cells = cells_of s x.0.row } = cc in
    ap (λ (g : Found). g.cells) is ∙ ap (λ (g : Found). cells_of s g.row) (sym is)

found_cells : (s : Store) (place : ℕ) (step : Step) (f : Found) → IsQueryStep step → Next (Some f) ≡ reply_of s place step → f.cells ≡ cells_of s f.row
found_cells s place Open f q e = absurd q
found_cells s place (Read row) f q e = absurd (not_shown e)
found_cells s place (NextRow table from to) f q e = cells_found s _ f e
found_cells s place (Bump kind) f q e = absurd q
found_cells s place (Claim row qual value) f q e = absurd q
found_cells s place (PutPoint point row qual value) f q e = absurd q
found_cells s place (AppendPoint point row piece) f q e = absurd q
found_cells s place (PutMerged row qual value) f q e = absurd q
found_cells s place (DropCells row which) f q e = absurd q

-- ---- the cell of a dot
pub record CellOf (cells : List Cell) (x : Dot) : Type 0 where
  pub cell : Cell
  pub among : Contains cells cell
  pub dots : List Dot
  pub reads : HoldsDots cell.qual cell.value dots
  pub has : Contains dots x

pub cell_of_dot : (cells : List Cell) (all : List Dot) (x : Dot) → AreDots cells all → Contains all x → CellOf cells x
cell_of_dot [] all x are has = absurd (not_in x (subst (λ (ds : List Dot). Contains ds x) are has))
cell_of_dot (c ∷ cells) all x (dots, rest, reads, are, is) has = ⊎_elim
    (λ (first_ : Contains dots x). record { cell = c; among = here c cells; dots = dots; reads = reads; has = first_ })
    (λ (later : Contains rest x). let o = cell_of_dot cells rest x are later in record { cell = o.cell; among = there c o.cell cells o.among; dots = o.dots; reads = o.reads; has = o.has })
    (Contains-append_cases dots rest x (subst (λ (ds : List Dot). Contains ds x) is has))

-- ---- two values
pub record Differ (values : List ℤ) (a b : ℤ) : Type 0 where
  pub first_ : Contains values a
  pub second : Contains values b
  pub apart : int_eq a b ≡ false

find_has : (p : ℤ → Bool) (vs : List ℤ) (b : ℤ) → find p vs ≡ Some b → Contains vs b × (p b ≡ true)
find_has p [] b e = absurd cc
find_has p (v ∷ vs) b e = at (p v) refl (λ e. find_has p vs b e) e
  where
    at : (t : Bool) → p v ≡ t → (find p vs ≡ Some b → Contains vs b × (p b ≡ true)) → (if t then Some v else find p vs) ≡ Some b → Contains (v ∷ vs) b × (p b ≡ true)
    at true t rest e = let same : v ≡ b = cc in (subst (Contains (v ∷ vs)) same (here v vs), subst (λ x. p x ≡ true) same t)
    at false t rest e = let r = rest e in (there v b vs r.0, r.1)

pub not_true : (t : Bool) → not t ≡ true → t ≡ false
not_true true e = absurd cc
not_true false e = refl

pub differ : (vs : List ℤ) (a b : ℤ) → first_conflict vs ≡ Some (a, b) → Differ vs a b
differ [] a b e = absurd cc
differ (v ∷ vs) a b e = at (find (λ x. not (int_eq v x)) vs) refl e
  where
    at : (o : Option ℤ) → find (λ x. not (int_eq v x)) vs ≡ o → option_map {U = ℤ × ℤ} (λ x. (v, x)) o ≡ Some (a, b) → Differ (v ∷ vs) a b
    at None is e = absurd cc
    at (Some x) is e =
        let pair : ◌≡◌ {A = ℤ × ℤ} (v, x) (a, b) = cc in
        let f = find_has (λ y. not (int_eq v y)) vs x is in
        record {
          first_ = subst (Contains (v ∷ vs)) (ap (λ (p : ℤ × ℤ). p.0) pair) (here v vs);
          second = subst (Contains (v ∷ vs)) (ap (λ (p : ℤ × ℤ). p.1) pair) (there v x vs f.0);
          apart = subst (λ (p : ℤ × ℤ). int_eq p.0 p.1 ≡ false) pair (not_true (int_eq v x) f.1);
        }

module _ (points : List DataPoint) (old new : Seen) (list : List Placed) (stored : IsStored points old) (made : Made old list new) (steps : AreQuerySteps list) (h : History) (lawful : IsLawful h) (fits : Fits new h) where
  -- the store stays what it was
  pub same_store : (m : ℕ) → old.length ≤ m → m ≤ new.length → store_after (first m h) ≡ store_after (first old.length h)
  same_store m low up =
      let only = made.since.only stored.by.alone h fits in
      let go = follows h old.caller old.length m low (λ place e a b is. only place e a (omega (arith, b, up)) is) in
      let part = deeds h old.caller old.length m in
      let joined : list ≡ part ++ deeds h old.caller m new.length = sym (made.made h fits) ∙ deeds_joined h old.caller old.length m new.length low up in
      ap store_after go ∙ query_keeps (first old.length h) part (λ d has. steps d (subst (λ (xs : List Placed). Contains xs d) (sym joined) (Contains-append_left part (deeds h old.caller m new.length) d has)))

  module _ (at : Placed) (among : Contains list at) (found : Found) (reply : at.entry.reply ≡ Next (Some found)) where
    -- its cells are those of its row at the end
    pub cells_row : found.cells ≡ cells_of (store_after (first new.length h)) found.row
    cells_row =
        let own = deeds_each h old.caller old.length new.length at (subst (λ (xs : List Placed). Contains xs at) (sym (made.made h fits)) among) in
        let legal = each_entry h at.place at.entry lawful own.stands in
        let above = own.above in
        let within = own.within in
        let cells = found_cells (store_after (first (at.place - 1) h)) at.place at.entry.step found (steps at among) (sym reply ∙ legal.reply) in
        let same = same_store (at.place - 1) (omega (arith, above)) (omega (arith, within)) ∙ sym (same_store new.length (made.since.extends.length) (omega arith)) in
        cells ∙ ap (λ (s : Store). cells_of s found.row) same

    -- and stand there
    pub cells_stand : (c : Cell) → Contains found.cells c → value_at (store_after (first new.length h)) found.row c.qual ≡ Some c.value
    cells_stand c has = cell_at (store_after (first new.length h)) found.row c (subst (λ (cs : List Cell). Contains cs c) cells_row has)

    -- a row that reads is a point row
    pub found_table : (r : Reading) → RowReads (store_after (first new.length h)).widths (name_of (first new.length h)) found r → found.row.table ≡ Points
    found_table r reads =
        in_points (store_after (first new.length h)) found.row reads.cell.qual reads.cell.value reads.reads.dots reads.reads.dot_reads.key (sound_after (first new.length h) (first_lawful h new.length lawful)) (cells_stand reads.cell reads.among)
        reads.reads.reads reads.reads.dot_reads.row_is (three_wide points old new list stored made steps h lawful fits new.length)
