-- A whole scan gives every row that was there when it began.
use Rattle.std.proofs.Common.{◌≡◌, ◌⊎◌, inl, inr, ℕ, ◌-◌, ◌≤◌, ◌<◌, false, List, [], ◌∷◌, length, refl, sym, ap, subst, ◌∙◌, arith}
use Rattle.std.specs.Prelude.{Option, None, Some, AllPairs, Contains, IsTrue}
use Rattle.std.specs.declared.cmp.Ordering.{Ordering}
use Rattle.std.specs.declared.cmp.Ordering.TheVariants.{Less, Equal, Greater}
use Rattle.std.specs.Ordering.{is_lt, ordering_reverse}
use Rattle.std.specs.Cmp.Lexicographic.{nat_list_cmp_total}
use Rattle.std.proofs.lemmas.List.Kept.{AllPairs-cons}
use Rattle.std.proofs.lemmas.Bool.{false≢true}
use Rattle.row_key.specs.declared.tables.Table.TheVariants.{Points}
use Rattle.row_key.specs.declared.widths.Widths.{Widths}
use Rattle.cell_model.specs.declared.row.Row.{Row}
use Rattle.cell_model.specs.declared.row.Found.{Found}
use Rattle.cell_model.specs.declared.events.Reply.TheVariants.{Next}
use Rattle.cell_model.specs.declared.events.Placed.{Placed}
use Rattle.list_lemmas.specs.BytesOrder.{bytes_cmp}
use Rattle.cell_model.specs.Store.{is_between, value_at, cells_of, next_row_of}
use Rattle.cell_model.specs.Machine.{reply_of}
use Rattle.cell_model.specs.History.{History, first, store_after, entry_at}
use Rattle.cell_model.specs.Lawful.{IsLawful}
use Rattle.cell_laws.specs.Laws.{Kept}
use Rattle.cell_model.specs.Deeds.{InOrder, before_first}
use Rattle.row_scan.specs.Scans.{Left, IsNext, IsRowOf, behind, Wanting, IsWanted, Skips, Scanned, HasCell}
use Rattle.row_scan.specs.Scans.Scanned.{ended, found, other, skipped}
use Rattle.row_scan.specs.Laws.{ScanIsWhole}
use Rattle.list_lemmas.proofs.OrderedBytes.{less_behind, less_or_not, from_on_from_on, below_from_on, below_behind, not_back}
use Rattle.row_scan.proofs.Lower.{first_first, all_of, first_lawful, each_entry, Begins, carry, here, there, split, not_in, pairs_in, kept_later, begins_first}
use Rattle.row_scan.proofs.NextRow.{Between, between, between_is, next_cells, next_none, next_least, next_has}
use Rattle.row_scan.proofs.Turning.{HasKey, found_key}

-- ---- rows are kept

pub begins_firsts : (n m : ℕ) (h : History) → n ≤ m → Begins (first n h) (first m h)
begins_firsts n m h le = subst (λ x. Begins x (first m h)) (first_first n m h le) (begins_first n (first m h))

-- what stood at one length stands at a later one, or something above it
pub stays : (h : History) (n m : ℕ) (row : Row) (qual value : List ℕ) → IsLawful h → row.table ≡ Points → n ≤ m → value_at (store_after (first n h)) row qual ≡ Some value → Kept (store_after (first m h)) row qual
stays h n m row qual value l t le is = kept_later row qual value (begins_firsts n m h le) (first_lawful h m l) t is

pub row_stays : (h : History) (n m : ℕ) (row : Row) → IsLawful h → row.table ≡ Points → n ≤ m → HasCell (store_after (first n h)) row → HasCell (store_after (first m h)) row
row_stays h n m row l t le c = let k = stays h n m row c.0 c.1 l t le c.2 in (k.other, k.value, k.stands)

-- ---- entries at their places

-- the entries stand in the history, behind this length and up to that one
pub record StandAbove (h : History) (start end : ℕ) (own : List Placed) : Type 0 where
  pub each : (p : Placed) → Contains own p → (entry_at h p.place ≡ Some p.entry) × (start < p.place) × (p.place ≤ end)

pub stand_tail : (h : History) (start end : ℕ) (p : Placed) (own : List Placed) → StandAbove h start end (p ∷ own) → StandAbove h start end own
stand_tail h start end p own s = record { each = λ q c. s.each q (there p q own c) }

-- what the step found
pub placed_next : (h : History) (p : Placed) (left : Left) (o : Option Found) → IsLawful h → entry_at h p.place ≡ Some p.entry → IsNext left o p → next_row_of (store_after (first (p.place - 1) h)) Points left.from left.to ≡ o
placed_next h p left o l at n =
    let s = store_after (first (p.place - 1) h) in
    let legal : Next o ≡ Next (next_row_of s Points left.from left.to) = sym n.1 ∙ (each_entry h p.place p.entry l at).reply ∙ ap (reply_of s p.place) n.0 in cc

pub own_stands : (h : History) (end : ℕ) (own : List Placed) → IsLawful h → InOrder h end own → 0 < length own → StandAbove h (before_first own end) end own
own_stands h end [] l o some = absurd (omega (arith, some))
own_stands h end (p ∷ own) l o some = record { each = λ q c. ((o.each q c).1, above q (split p q own c), (o.each q c).0) }
  where
    low : 1 ≤ p.place
    low = (each_entry h p.place p.entry l (o.each p (here p own)).1).least

    above : (q : Placed) → (p ≡ q) ⊎ Contains own q → p.place - 1 < q.place
    above q (inl same) = let least = low in let e = ap (λ (x : Placed). x.place) same in omega (arith, least, e)
    above q (inr later) = let least = low in let up = pairs_in (λ (x y : Placed). x.place < y.place) p q own o.rising later in omega (arith, least, up)

pub some_scanned : {wants : Wanting} {left : Left} {own : List Placed} {founds : List Found} → Scanned wants left own founds → 0 < length own
some_scanned (ended n others) = omega arith
some_scanned (found n more) = omega arith
some_scanned (other o more) = omega arith
some_scanned (skipped skips more) = some_scanned more

-- ---- each row that was there is found

between_behind : (left : Left) (a row : Row) → Between left.from left.to row → bytes_cmp a.bytes row.bytes ≡ Less → Between (behind left a).from (behind left a).to row
between_behind left a row b less = record { in_points = b.in_points; from_on = less_behind a.bytes row.bytes less; below = b.below }

-- a wanted row that is left is left where the scan goes on, too
pub wanted_stays : (wants : Wanting) (left : Left) (from : List ℕ) (row : Row) → Skips wants left from → IsWanted left.widths wants row → Between left.from left.to row → Between from left.to row
wanted_stays wants left from row skips w b = elim (less_or_not row.bytes from) [
  | inl less ↦
      let in_range = between_is left.from from row (record { in_points = b.in_points; from_on = b.from_on; below = ap is_lt less }) in
      let none = skips.over w.key w.is_key (subst (λ (r : Row). IsTrue (is_between Points left.from from r)) w.row_is in_range) in
      absurd (false≢true (sym none ∙ w.wanted))
  | inr on ↦ record { in_points = b.in_points; from_on = on; below = b.below }
]

pub scan_each : (wants : Wanting) (h : History) (start end : ℕ) → IsLawful h → {left : Left} {own : List Placed} {founds : List Found} → Scanned wants left own founds → StandAbove h start end own
    → (row : Row) → IsWanted left.widths wants row → Between left.from left.to row → HasCell (store_after (first start h)) row → (f : Found) × Contains founds f × (f.row ≡ row)
scan_each wants h start end l (ended {left} {p} {own} n others) s row w b c =
    let at = s.each p (here p own) in
    let lower = at.1 in
    let still = row_stays h start (p.place - 1) row l b.in_points (omega (arith, lower)) c in
    absurd (next_none (store_after (first (p.place - 1) h)) left.from left.to row still.0 still.1 (placed_next h p left None l at.0 n) b still.2)
scan_each wants h start end l (found {left} {p} {own} {f} {founds} n more) s row w b c =
    let at = s.each p (here p own) in
    let lower = at.1 in
    let still = row_stays h start (p.place - 1) row l b.in_points (omega (arith, lower)) c in
    elim (next_least (store_after (first (p.place - 1) h)) left.from left.to f row still.0 still.1 (placed_next h p left (Some f) l at.0 n) b still.2) [
      | inl same ↦ (f, here f founds, sym same)
      | inr below ↦
          let rest = scan_each wants h start end l more (stand_tail h start end p own s) row w (between_behind left f.row row b below) c in
          (rest.0, there f rest.0 founds rest.1, rest.2)
    ]
scan_each wants h start end l (other {left} {p} {own} {founds} o more) s row w b c = scan_each wants h start end l more (stand_tail h start end p own s) row w b c
scan_each wants h start end l (skipped {left} {from} {own} {founds} skips more) s row w b c = scan_each wants h start end l more s row w (wanted_stays wants left from row skips w b) c

-- ---- each row that is found was there

-- a row was found in the range of what was left, with the cells that it had, by one of the entries
pub record FoundAt (h : History) (start end : ℕ) (from to : List ℕ) (own : List Placed) (f : Found) : Type 0 where
  pub placed : Placed
  pub among : Contains own placed
  pub reply : placed.entry.reply ≡ Next (Some f)
  pub above : start < placed.place
  pub up_to : placed.place ≤ end
  pub key : HasKey (store_after h).widths from to f.row
  pub has : HasCell (store_after (first (placed.place - 1) h)) f.row
  pub cells : f.cells ≡ cells_of (store_after (first (placed.place - 1) h)) f.row

-- what is found in less of the range is found in the range
found_from : (h : History) (start end : ℕ) (from from' to : List ℕ) (own : List Placed) (f : Found) → is_lt (bytes_cmp from' from) ≡ false → FoundAt h start end from' to own f → FoundAt h start end from to own f
found_from h start end from from' to own f low w =
    let k = w.key in
    let b = k.between in
    record {
      placed = w.placed;
      among = w.among;
      reply = w.reply;
      above = w.above;
      up_to = w.up_to;
      has = w.has;
      cells = w.cells;
      key = record { key = k.key; is_key = k.is_key; row_is = k.row_is; between = record { in_points = b.in_points; from_on = from_on_from_on from from' f.row.bytes low b.from_on; below = b.below } };
    }

found_later : (h : History) (start end : ℕ) (from from' to : List ℕ) (p : Placed) (own : List Placed) (f : Found) → is_lt (bytes_cmp from' from) ≡ false → FoundAt h start end from' to own f → FoundAt h start end from to (p ∷ own) f
found_later h start end from from' to p own f low w =
    let x = found_from h start end from from' to own f low w in
    record { placed = x.placed; among = there p x.placed own x.among; reply = x.reply; above = x.above; up_to = x.up_to; has = x.has; cells = x.cells; key = x.key }

not_below_itself : (a : List ℕ) → is_lt (bytes_cmp a a) ≡ false
not_below_itself a = at (bytes_cmp a a) (nat_list_cmp_total.antisymm a a)
  where
    at : (r : Ordering) → r ≡ ordering_reverse r → is_lt r ≡ false
    at Less e = cc
    at Equal e = refl
    at Greater e = refl

pub scan_found : (wants : Wanting) (h : History) (start end : ℕ) → IsLawful h → {left : Left} {own : List Placed} {founds : List Found} → Scanned wants left own founds → StandAbove h start end own
    → (f : Found) → Contains founds f → FoundAt h start end left.from left.to own f
scan_found wants h start end l (ended n others) s f c = absurd (not_in f c)
scan_found wants h start end l (found {left = left} {p = p} {own = own} {f = g} {founds = founds} n more) s f c = go (split g f founds c) (scan_found wants h start end l more (stand_tail h start end p own s) f)
  where
    at : (entry_at h p.place ≡ Some p.entry) × (start < p.place) × (p.place ≤ end)
    at = s.each p (here p own)

    is : next_row_of (store_after (first (p.place - 1) h)) Points left.from left.to ≡ Some g
    is = placed_next h p left (Some g) l at.0 n

    mine : FoundAt h start end left.from left.to (p ∷ own) g
    mine = record {
      placed = p;
      among = here p own;
      reply = n.1;
      above = at.1;
      up_to = at.2;
      key = carry (begins_first (p.place - 1) h) (λ (w : Widths). HasKey w left.from left.to g.row) (found_key h (p.place - 1) left.from left.to g l is);
      has = next_has (store_after (first (p.place - 1) h)) left.from left.to g is;
      cells = next_cells (store_after (first (p.place - 1) h)) left.from left.to g is;
    }

    low : is_lt (bytes_cmp (behind left g.row).from left.from) ≡ false
    low = from_on_from_on left.from g.row.bytes (behind left g.row).from mine.key.between.from_on (not_back g.row.bytes (behind left g.row).from (below_behind g.row.bytes))

    go : (g ≡ f) ⊎ Contains founds f → (Contains founds f → FoundAt h start end (behind left g.row).from left.to own f) → FoundAt h start end left.from left.to (p ∷ own) f
    go (inl same) more = subst (λ (x : Found). FoundAt h start end left.from left.to (p ∷ own) x) same mine
    go (inr later) more = found_later h start end left.from (behind left g.row).from left.to p own f low (more later)
scan_found wants h start end l (other {left} {p} {own} {founds} o more) s f c =
    found_later h start end left.from left.from left.to p own f (not_below_itself left.from) (scan_found wants h start end l more (stand_tail h start end p own s) f c)
scan_found wants h start end l (skipped {left} {from} {own} {founds} skips more) s f c = found_from h start end left.from from left.to own f skips.forward (scan_found wants h start end l more s f c)

-- ---- the found rows rise

above_all : (wants : Wanting) (h : History) (start end : ℕ) (a : Row) → IsLawful h → {left : Left} {own : List Placed} {founds : List Found} → left.from ≡ (behind left a).from → Scanned wants left own founds → StandAbove h start end own
    → (f : Found) → Contains founds f → bytes_cmp a.bytes f.row.bytes ≡ Less
above_all wants h start end a l {left} {own} {founds} from_is sc s f c =
    let w = scan_found wants h start end l sc s f c in
    below_from_on a.bytes (behind left a).from f.row.bytes (below_behind a.bytes) (subst (λ (x : List ℕ). is_lt (bytes_cmp f.row.bytes x) ≡ false) from_is w.key.between.from_on)

pub scan_rises : (wants : Wanting) (h : History) (start end : ℕ) → IsLawful h → {left : Left} {own : List Placed} {founds : List Found} → Scanned wants left own founds → StandAbove h start end own
    → AllPairs (λ (f g : Found). bytes_cmp f.row.bytes g.row.bytes ≡ Less) founds
scan_rises wants h start end l (ended n others) s = λ i j d lt within. absurd (omega (arith, within))
scan_rises wants h start end l (found {left} {p} {own} {f} {founds} n more) s =
    let tail = stand_tail h start end p own s in
    AllPairs-cons (λ (a b : Found). bytes_cmp a.row.bytes b.row.bytes ≡ Less) f founds
    (all_of (λ (g : Found). bytes_cmp f.row.bytes g.row.bytes ≡ Less) founds (above_all wants h start end f.row l refl more tail))
    (scan_rises wants h start end l more tail)
scan_rises wants h start end l (other {left} {p} {own} {founds} o more) s = scan_rises wants h start end l more (stand_tail h start end p own s)
scan_rises wants h start end l (skipped skips more) s = scan_rises wants h start end l more s

-- ---- the whole

pub scan_whole : ScanIsWhole
scan_whole wants h end metric first_base last_base left own founds l o start sc =
    let s = own_stands h end own l o (some_scanned sc) in
    record {
      rising = scan_rises wants h (before_first own end) end l sc s;
      only = λ f c.
          let w = scan_found wants h (before_first own end) end l sc s f c in
          let k = w.key in
          let low = w.above in
          let high = w.up_to in
          let in_range = subst (λ (r : Row). IsTrue (is_between Points left.from left.to r)) k.row_is (between_is left.from left.to f.row k.between) in (
            subst (IsRowOf (store_after h).widths metric first_base last_base) (sym k.row_is) (start.only k.key k.is_key in_range),
            record { when = w.placed.place - 1; from_on = omega (arith, low); up_to = omega (arith, low, high); there = w.has; cells = w.cells },
          );
      all = λ row r w c. scan_each wants h (before_first own end) end l sc s row (subst (λ (x : Widths). IsWanted x wants row) (sym start.widths_are) w) (between left.from left.to row (start.all row r)) c;
    }
