-- A scan finds no more rows than there are, and its entries show those that it found.
use Rattle.std.proofs.Common.{◌≡◌, ◌≢◌, ◌⊎◌, inl, inr, ℕ, ◌-◌, List, [], ◌∷◌, sym, ap, subst, ◌∙◌, arith}
use Rattle.std.specs.Prelude.{None, Some, AllPairs, Contains, map}
use Rattle.std.specs.declared.cmp.Ordering.TheVariants.{Less}
use Rattle.std.proofs.lemmas.List.{length-map}
use Rattle.list_lemmas.proofs.ListCuts.{fewer}
use Rattle.list_lemmas.proofs.ListParts.{pairs_cons}
use Rattle.row_key.specs.declared.tables.Table.TheVariants.{Points}
use Rattle.row_key.specs.declared.widths.Widths.{Widths}
use Rattle.cell_model.specs.declared.row.Row.{Row}
use Rattle.cell_model.specs.declared.row.Found.{Found}
use Rattle.cell_model.specs.declared.events.Step.{Step}
use Rattle.cell_model.specs.declared.events.Step.TheVariants.{Open, Read, NextRow, Bump, Claim, PutPoint, AppendPoint, PutMerged, DropCells}
use Rattle.cell_model.specs.declared.events.Reply.TheVariants.{Next}
use Rattle.cell_model.specs.declared.events.Placed.{Placed}
use Rattle.cell_model.specs.Store.{Store}
use Rattle.list_lemmas.specs.BytesOrder.{bytes_cmp}
use Rattle.cell_model.specs.Machine.{reply_of}
use Rattle.cell_model.specs.History.{History, first, store_after, entry_at}
use Rattle.cell_model.specs.Lawful.{IsLawful}
use Rattle.cell_model.specs.Deeds.{before_first}
use Rattle.row_scan.specs.Scans.{Left, IsOther, IsRowOf, Wanting, Scanned}
use Rattle.row_scan.specs.Scans.Scanned.{ended, found, other, skipped}
use Rattle.row_scan.specs.Laws.{ScanCounts, ScanShows}
use Rattle.list_lemmas.proofs.OrderedBytes.{not_itself}
use Rattle.row_scan.proofs.Lower.{each_entry, here, there, split, pairs_in, pairs_tail, map_in}
use Rattle.row_scan.proofs.Whole.{StandAbove, stand_tail, own_stands, some_scanned, scan_found, scan_whole, row_stays}

-- ---- how many

-- rows that rise are of no row twice
pub rows_differ : (founds : List Found) → AllPairs (λ (f g : Found). bytes_cmp f.row.bytes g.row.bytes ≡ Less) founds → AllPairs (λ (a b : Row). a ≢ b) (map (λ (f : Found). f.row) founds)
rows_differ [] up = λ i j d lt within. absurd (omega (arith, within))
rows_differ (f ∷ founds) up =
    pairs_cons (λ (a b : Row). a ≢ b) f.row (map (λ (f : Found). f.row) founds)
    (λ y c same.
    let w = map_in (λ (f : Found). f.row) founds y c in
    let less = pairs_in (λ (f g : Found). bytes_cmp f.row.bytes g.row.bytes ≡ Less) f w.0 founds up w.1 in
    not_itself f.row.bytes (subst (λ (r : Row). bytes_cmp f.row.bytes r.bytes ≡ Less) (w.2 ∙ sym same) less))
    (rows_differ founds (pairs_tail (λ (f g : Found). bytes_cmp f.row.bytes g.row.bytes ≡ Less) f founds up))

points_of : (w : Widths) (metric first last : ℕ) (row : Row) → IsRowOf w metric first last row → row.table ≡ Points
points_of w metric first last row r = ap (λ (x : Row). x.table) r.row_is

pub scan_counts : ScanCounts
scan_counts wants h end metric first_base last_base left own founds l o start sc rows all =
    let w = scan_whole wants h end metric first_base last_base left own founds l o start sc in
    let in_rows : (f : Found) → Contains founds f → Contains rows f.row = λ f c.
    let x = w.only f c in
    all f.row x.0 (row_stays h x.1.when end f.row l (points_of (store_after h).widths metric first_base last_base f.row x.0) x.1.up_to x.1.there) in
    let few = fewer (map (λ (f : Found). f.row) founds) rows (rows_differ founds w.rising) (λ row c. let f = map_in (λ (f : Found). f.row) founds row c in subst (Contains rows) f.2 (in_rows f.0 f.1)) in
    let same = length-map founds (λ (f : Found). f.row) in
    omega (arith, same, few)

-- ---- what is shown

other_shows : (s : Store) (place : ℕ) (step : Step) (f : Found) → IsOther step → Next (Some f) ≡ reply_of s place step → ⊥
other_shows s place Open f o e = cc
other_shows s place (Read row) f o e = cc
other_shows s place (NextRow table from to) f o e = o
other_shows s place (Bump kind) f o e = cc
other_shows s place (Claim row qual value) f o e = cc
other_shows s place (PutPoint point row qual value) f o e = cc
other_shows s place (AppendPoint point row piece) f o e = cc
other_shows s place (PutMerged row qual value) f o e = cc
other_shows s place (DropCells row which) f o e = cc

no_row : (h : History) (p : Placed) (f : Found) → IsLawful h → entry_at h p.place ≡ Some p.entry → IsOther p.entry.step → p.entry.reply ≡ Next (Some f) → ⊥
no_row h p f l at o is = other_shows (store_after (first (p.place - 1) h)) p.place p.entry.step f o (sym is ∙ (each_entry h p.place p.entry l at).reply)

-- each row shown was found
pub given_of : (wants : Wanting) (h : History) (start end : ℕ) → IsLawful h → {left : Left} {own : List Placed} {founds : List Found} → Scanned wants left own founds → StandAbove h start end own → (f : Found) (q : Placed) → Contains own q → q.entry.reply ≡ Next (Some f) → Contains founds f
given_of wants h start end l (ended {left} {p} {own} n others) s f q c r = go (split p q own c)
  where
    go : (p ≡ q) ⊎ Contains own q → Contains [] f
    go (inl same) = let e : Next (Some f) ≡ Next None = sym r ∙ ap (λ (x : Placed). x.entry.reply) (sym same) ∙ n.1 in cc
    go (inr later) = absurd (no_row h q f l (s.each q c).0 (others q later) r)
given_of wants h start end l (found {left = left} {p = p} {own = own} {f = g} {founds = founds} n more) s f q c r = go (split p q own c) (λ i. given_of wants h start end l more (stand_tail h start end p own s) f q i r)
  where
    go : (p ≡ q) ⊎ Contains own q → (Contains own q → Contains founds f) → Contains (g ∷ founds) f
    go (inl same) more = let e : Next (Some g) ≡ Next (Some f) = sym n.1 ∙ ap (λ (x : Placed). x.entry.reply) same ∙ r in let is : g ≡ f = cc in subst (Contains (g ∷ founds)) is (here g founds)
    go (inr later) more = there g f founds (more later)
given_of wants h start end l (other {left} {p} {own} {founds} o more) s f q c r = go (split p q own c) (λ i. given_of wants h start end l more (stand_tail h start end p own s) f q i r)
  where
    go : (p ≡ q) ⊎ Contains own q → (Contains own q → Contains founds f) → Contains founds f
    go (inl same) more = absurd (no_row h q f l (s.each q c).0 (subst (λ (x : Placed). IsOther x.entry.step) same o) r)
    go (inr later) more = more later
given_of wants h start end l (skipped skips more) s f q c r = given_of wants h start end l more s f q c r

pub scan_shows : ScanShows
scan_shows wants h end left own founds l o sc f =
    let s = own_stands h end own l o (some_scanned sc) in (
      λ w. given_of wants h (before_first own end) end l sc s f w.placed w.among w.reply,
      λ c. let w = scan_found wants h (before_first own end) end l sc s f c in record { placed = w.placed; among = w.among; reply = w.reply },
    )
