-- A whole scan without a conflict covers what is asked for.
use Rattle.std.proofs.Common.{◌≡◌, ◌⊎◌, inl, inr, ℕ, ◌≤◌, Bool, List, [], ◌∷◌, sym, ap, subst, ◌∙◌, arith}
use Rattle.std.specs.Prelude.{AllPairs, Contains, IsTrue}
use Rattle.std.specs.declared.cmp.Ordering.TheVariants.{Less}
use Rattle.cell_model.specs.declared.row.Found.{Found}
use Rattle.cell_model.specs.declared.events.Placed.{Placed}
use Rattle.list_lemmas.specs.BytesOrder.{bytes_cmp}
use Rattle.cell_model.specs.History.{History, first, store_after}
use Rattle.cell_model.specs.IdRows.{name_of}
use Rattle.cell_model.specs.Lawful.{IsLawful}
use Rattle.cell_model.specs.Readings.{Reading, Meets, OneValued, Accepted}
use Rattle.cell_model.specs.Deeds.{InOrder, before_first}
use Rattle.row_scan.specs.Scans.{Wanting}
use Rattle.row_scan.specs.RowReadings.{ShowsRow, RowReads, ShowsReading, Chosen, BySeries, AsksWithin, AsksOfWanted, NoConflict}
use Rattle.row_scan.specs.Laws.{ScanGives, ScanCovers}
use Rattle.list_lemmas.proofs.OrderedBytes.{not_itself}
use Rattle.row_scan.proofs.Names.{row_stood}
use Rattle.row_scan.proofs.Offsets.{dot_offset}
use Rattle.row_scan.proofs.OneRow.{one_row}
use Rattle.row_scan.proofs.Accepted.{shown_cell, shown_accepted}
use Rattle.row_scan.proofs.Covering.{stood, asked_shown}
use Rattle.row_scan.proofs.Whole.{scan_whole}
use Rattle.row_scan.proofs.Counting.{scan_shows}
use Rattle.row_scan.proofs.Lower.{split, not_in, here, pairs_in, pairs_tail}

-- rows that rise are found once
once : (founds : List Found) (f g : Found) → AllPairs (λ (f g : Found). bytes_cmp f.row.bytes g.row.bytes ≡ Less) founds → Contains founds f → Contains founds g → f.row.bytes ≡ g.row.bytes → f ≡ g
once [] f g up cf cg same = absurd (not_in f cf)
once (x ∷ founds) f g up cf cg same = at (split x f founds cf) (split x g founds cg) (λ i j. once founds f g (pairs_tail (λ (f g : Found). bytes_cmp f.row.bytes g.row.bytes ≡ Less) x founds up) i j same)
  where
    below : (y : Found) → Contains founds y → x.row.bytes ≡ y.row.bytes → ⊥
    below y c e = not_itself y.row.bytes (subst (λ b. bytes_cmp b y.row.bytes ≡ Less) e (pairs_in (λ (f g : Found). bytes_cmp f.row.bytes g.row.bytes ≡ Less) x y founds up c))

    at : (x ≡ f) ⊎ Contains founds f → (x ≡ g) ⊎ Contains founds g → (Contains founds f → Contains founds g → f ≡ g) → f ≡ g
    at (inl a) (inl b) go = sym a ∙ b
    at (inl a) (inr c) go = absurd (below g c (ap (λ (y : Found). y.row.bytes) a ∙ same))
    at (inr c) (inl b) go = absurd (below f c (ap (λ (y : Found). y.row.bytes) b ∙ sym same))
    at (inr c) (inr d) go = go c d

-- a whole scan in a lawful history, by the rows that it gives and that its entries show
record Whole (wants : Wanting) (h : History) (start end metric first_base last_base : ℕ) (own : List Placed) (founds : List Found) : Type 0 where
  lawful : IsLawful h
  order : start ≤ end
  gives : ScanGives wants h start end metric first_base last_base founds
  shown : (f : Found) → ShowsRow own f → Contains founds f
  shows : (f : Found) → Contains founds f → ShowsRow own f

one_value : (wants : Wanting) (h : History) (start end metric first_base last_base : ℕ) (own : List Placed) (founds : List Found) (asked : Reading → Bool) → Whole wants h start end metric first_base last_base own founds → NoConflict (store_after (first end h)).widths (name_of (first end h)) asked own
    → OneValued (Chosen asked (ShowsReading (store_after (first end h)).widths (name_of (first end h)) own))
one_value wants h start end metric first_base last_base own founds asked w conflict_free r s ((f, fs, fr), yr) ((g, gs, gr), ys) m =
    let cf = shown_cell wants h start end metric first_base last_base founds w.gives f (w.shown f fs) fr.cell fr.among in
    let cg = shown_cell wants h start end metric first_base last_base founds w.gives g (w.shown g gs) gr.cell gr.among in
    let a = fr.reads in
    let b = gr.reads in
    let same = one_row (first end h) f.row.bytes g.row.bytes a.dot b.dot r s
    (row_stood h cf.when end f.row.bytes fr.cell.qual fr.cell.value w.lawful cf.up_to cf.stands) (row_stood h cg.when end g.row.bytes gr.cell.qual gr.cell.value w.lawful cg.up_to cg.stands)
    (dot_offset fr.cell.qual fr.cell.value a.dots a.dot a.reads a.among) (dot_offset gr.cell.qual gr.cell.value b.dots b.dot b.reads b.among) a.dot_reads b.dot_reads m in
    let is : f ≡ g = once founds f g w.gives.rising (w.shown f fs) (w.shown g gs) same in
    conflict_free g gs r s (subst (λ (x : Found). RowReads (store_after (first end h)).widths (name_of (first end h)) x r) is fr, yr) (gr, ys) m

within_accepted : (wants : Wanting) (h : History) (start end metric first_base last_base : ℕ) (own : List Placed) (founds : List Found) (asked : Reading → Bool) → Whole wants h start end metric first_base last_base own founds
    → (r : Reading) → Chosen asked (ShowsReading (store_after (first end h)).widths (name_of (first end h)) own) r → Chosen asked (Accepted (first end h)) r
within_accepted wants h start end metric first_base last_base own founds asked w r ((f, fs, fr), yr) =
    (shown_accepted h end f r w.lawful fr (shown_cell wants h start end metric first_base last_base founds w.gives f (w.shown f fs) fr.cell fr.among), yr)

each_covered : (wants : Wanting) (h : History) (start end metric first_base last_base : ℕ) (own : List Placed) (founds : List Found) (asked : Reading → Bool) → Whole wants h start end metric first_base last_base own founds
    → BySeries asked → AsksWithin asked (first end h) metric first_base last_base → AsksOfWanted wants asked (first end h)
    → (r : Reading) → Chosen asked (Accepted (first start h)) r → (q : Reading) × Chosen asked (ShowsReading (store_after (first end h)).widths (name_of (first end h)) own) q × Meets r q
each_covered wants h start end metric first_base last_base own founds asked w by within only r (accepted, asks) =
    let st = stood h start end r w.lawful w.order accepted in
    let s = st.0 in
    let at_s : IsTrue (asked s) = sym (by r s st.2) ∙ asks in
    let x = asked_shown wants h start end metric first_base last_base founds asked s w.lawful w.order w.gives within only at_s st.1 in
    let a = st.2 in
    let b = x.meets in
    (x.reading, ((x.found, w.shows x.found x.given, x.reads), sym (by s x.reading b) ∙ at_s), record { metric = a.metric ∙ b.metric; tags = a.tags ∙ b.tags; time = a.time ∙ b.time })

start_low : (h : History) (end : ℕ) (own : List Placed) → InOrder h end own → before_first own end ≤ end
start_low h end [] o = omega arith
start_low h end (p ∷ own) o = let low = (o.each p (here p own)).0 in omega (arith, low)

pub scan_covers : ScanCovers
scan_covers wants h end metric first_base last_base left own founds asked l o start sc by within only conflict_free =
    let from = before_first own end in
    let w : Whole wants h from end metric first_base last_base own founds = record {
      lawful = l;
      order = start_low h end own o;
      gives = scan_whole wants h end metric first_base last_base left own founds l o start sc;
      shown = λ f. (scan_shows wants h end left own founds l o sc f).0;
      shows = λ f. (scan_shows wants h end left own founds l o sc f).1;
    } in
    record {
      one = one_value wants h from end metric first_base last_base own founds asked w conflict_free;
      within = within_accepted wants h from end metric first_base last_base own founds asked w;
      each = each_covered wants h from end metric first_base last_base own founds asked w by within only;
    }
