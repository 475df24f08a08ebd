-- Pages that begin, are split, lose a row, and go.
use Rattle.std.proofs.Common.{◌≡◌, inl, inr, ℕ, suc, ◌+◌, ◌≤◌, false, T, List, [], ◌∷◌, ◌++◌, length, get_or, refl, sym, ap, subst, ◌∙◌, arith}
use Rattle.std.specs.Prelude.{All, AllPairs, Contains}
use Rattle.std.specs.declared.cmp.Ordering.TheVariants.{Less, Greater}
use Rattle.std.specs.List.{AllByRecursion}
use Rattle.std.specs.Ordering.{is_lt, ordering_reverse}
use Rattle.std.specs.Cmp.{tied_itself}
use Rattle.std.specs.Cmp.Lexicographic.{nat_list_cmp_total}
use Rattle.std.specs.FinMap.{is_sorted, put}
use Rattle.std.specs.FinMap.Entries.{below_all as below_each}
use Rattle.std.proofs.lemmas.List.{append-nil, length-append}
use Rattle.std.proofs.lemmas.List.Elements.{All-nil, All-cons, All-head, All-tail, All-same, All-append, All-from_recursion}
use Rattle.list_lemmas.specs.BytesOrder.{bytes_cmp}
use Rattle.list_lemmas.proofs.BoolTests.{T_left, T_right, T_both}
use Rattle.list_lemmas.proofs.EntryLemmas.{Each-append}
use Rattle.list_lemmas.proofs.ListCuts.{joined}
use Rattle.list_lemmas.proofs.ListMembers.{split, pairs_in, pairs_tail}
use Rattle.list_lemmas.proofs.ListParts.{pairs_push, pairs_cons}
use Rattle.list_lemmas.proofs.OrderedBytes.{below_from_on, not_below_none, not_back}
use Rattle.packed_cells.specs.Keyed.{CellMap}
use Rattle.row_pages.specs.Pages.{rows_in, IsPage, IsBefore, BeginsEmpty, ArePages}
use Rattle.row_pages.specs.PagePlaces.{AllBelow, IsLeastBehind, without}
use Rattle.row_pages.specs.declared.page.Page.{Page}
use Rattle.row_pages.proofs.RowLists.{put_sorted, one_more, before_row, behind_row, taken_out, without_sorted, sorted_front, sorted_back}
use Rattle.row_pages.proofs.PageLists.{rows_of_both, rows_around, rows_cut, all_front, all_back, all_around, pairs_split, pairs_without, begins_still, page_changed, GapParts}

-- the order the other way round
back_less : (x k : List ℕ) → bytes_cmp k x ≡ Greater → bytes_cmp x k ≡ Less
back_less x k e = nat_list_cmp_total.antisymm x k ∙ ap ordering_reverse e

not_itself_less : (k : List ℕ) → is_lt (bytes_cmp k k) ≡ false
not_itself_less k = ap is_lt (tied_itself nat_list_cmp_total k)

below_all : (k : List ℕ) (rows : List (List ℕ × CellMap)) → AllBelow k rows → All (λ e. bytes_cmp e.0 k ≡ Less) rows
below_all k rows below i d lt = back_less (get_or rows i d).0 k (All-from_recursion (λ e. bytes_cmp k e.0 ≡ Greater) rows below i d lt)

-- what holds of all rows holds of those of one page
each_front : (P : List ℕ × CellMap → Type 0) (xs ys : List (List ℕ × CellMap)) → AllByRecursion P (xs ++ ys) → AllByRecursion P xs
each_front P [] ys all = tt
each_front P (x ∷ xs) ys all = (all.0, each_front P xs ys all.1)

each_back : (P : List ℕ × CellMap → Type 0) (xs ys : List (List ℕ × CellMap)) → AllByRecursion P (xs ++ ys) → AllByRecursion P ys
each_back P [] ys all = all
each_back P (x ∷ xs) ys all = each_back P xs ys all.1

each_page : (P : List ℕ × CellMap → Type 0) (pages : List Page) (p : Page) → AllByRecursion P (rows_in pages) → Contains pages p → AllByRecursion P p.rows.items
each_page P [] p all c = absurd (omega (arith, c.1))
each_page P (q ∷ pages) p all c = elim (split q p pages c) [
  | inl same ↦ subst (λ (x : Page). AllByRecursion P x.rows.items) same (each_front P q.rows.items (rows_in pages) all)
  | inr later ↦ each_page P pages p (each_back P q.rows.items (rows_in pages) all) later
]

-- ---- a page that begins

begin_least : (least k : List ℕ) (pages : List Page) → IsLeastBehind least k pages → is_lt (bytes_cmp k least) ≡ false
begin_least least k [] is = ap (λ (l : List ℕ). is_lt (bytes_cmp k l)) is ∙ not_below_none k
begin_least least k (p ∷ pages) is = ap (λ (l : List ℕ). is_lt (bytes_cmp k l)) is ∙ not_itself_less k

begin_behind : (least k : List ℕ) (pages : List Page) (p : Page) → IsLeastBehind least k pages → Contains pages p → least ≡ k
begin_behind least k [] p is c = absurd (omega (arith, c.1))
begin_behind least k (q ∷ pages) p is c = is

begins_pushed : (least k : List ℕ) (pages : List Page) (q : Page) → q.least ≡ least → IsLeastBehind least k pages → BeginsEmpty pages → BeginsEmpty (pages ++ q ∷ [])
begins_pushed least k [] q same is begins = same ∙ is
begins_pushed least k (p ∷ pages) q same is begins = begins

module _ (k : List ℕ) (cells : CellMap) (pages : List Page) (are : ArePages pages) (behind : AllBelow k (rows_in pages)) (least : List ℕ) (is : IsLeastBehind least k pages) (q : Page) (same : q.least ≡ least) (rows : q.rows.items ≡ (k, cells) ∷ []) where
  pub rows_begun : rows_in (pages ++ q ∷ []) ≡ put bytes_cmp k cells (rows_in pages)
  rows_begun =
      rows_of_both pages (q ∷ []) ∙ ap (λ (es : List (List ℕ × CellMap)). rows_in pages ++ (es ++ [])) rows
      ∙ sym (one_more k cells (rows_in pages) [] behind tt) ∙ ap (put bytes_cmp k cells) (append-nil (rows_in pages))

  pub pages_begun : ArePages (pages ++ q ∷ [])
  pages_begun = record {
    rising = subst (λ (es : List (List ℕ × CellMap)). T (is_sorted bytes_cmp es)) (sym rows_begun) (put_sorted k cells (rows_in pages) are.rising);
    each = All-append IsPage pages (q ∷ []) are.each (All-cons IsPage q [] page (All-nil IsPage));
    apart = pairs_push IsBefore pages q are.apart (λ p c.
        subst (λ (l : List ℕ). All (λ e. bytes_cmp e.0 l ≡ Less) p.rows.items) (sym (same ∙ begin_behind least k pages p is c))
        (below_all k p.rows.items (each_page (λ e. bytes_cmp k e.0 ≡ Greater) pages p behind c)));
    begins = begins_pushed least k pages q same is are.begins;
  }
    where
      page : IsPage q
      page = record {
        some = omega (arith, ap length rows);
        most = omega (arith, ap length rows);
        least = All-same (λ e. is_lt (bytes_cmp e.0 q.least) ≡ false) _ _ rows
            (All-cons (λ e. is_lt (bytes_cmp e.0 q.least) ≡ false) (k, cells) [] (ap (λ (l : List ℕ). is_lt (bytes_cmp k l)) same ∙ begin_least least k pages is) (All-nil (λ e. is_lt (bytes_cmp e.0 q.least) ≡ false)));
      }

-- ---- a page that is split

module _ (xs : List Page) (p : Page) (ys : List Page) (are : ArePages (xs ++ p ∷ ys)) (front : List (List ℕ × CellMap)) (e : List ℕ × CellMap) (back : List (List ℕ × CellMap)) (cut : p.rows.items ≡ front ++ e ∷ back)
    (a b : Page) (least-a : a.least ≡ p.least) (rows-a : a.rows.items ≡ front) (least-b : b.least ≡ e.0) (rows-b : b.rows.items ≡ e ∷ back) where
  pub rows_split : rows_in (xs ++ a ∷ b ∷ ys) ≡ rows_in (xs ++ p ∷ ys)
  rows_split =
      rows_around xs a (b ∷ ys) ∙ (λ i. rows_in xs ++ (rows-a i ++ (rows-b i ++ rows_in ys)))
      ∙ ap (λ (es : List (List ℕ × CellMap)). rows_in xs ++ es) (sym (joined front (e ∷ back) (rows_in ys)))
      ∙ ap (λ (es : List (List ℕ × CellMap)). rows_in xs ++ (es ++ rows_in ys)) (sym cut) ∙ sym (rows_around xs p ys)

  each : All IsPage xs × IsPage p × All IsPage ys
  each = all_around IsPage xs p ys are.each

  own : T (is_sorted bytes_cmp (front ++ e ∷ back))
  own = subst (λ (es : List (List ℕ × CellMap)). T (is_sorted bytes_cmp es)) cut (sorted_front p.rows.items (rows_in ys) (sorted_back (rows_in xs) (p.rows.items ++ rows_in ys) (subst (λ (es : List (List ℕ × CellMap)). T (is_sorted bytes_cmp es)) (rows_around xs p ys) are.rising)))

  halves : (P : List ℕ × CellMap → Type 0) → All P p.rows.items → All P a.rows.items × All P b.rows.items
  halves P all =
      let both : All P (front ++ e ∷ back) = All-same P _ _ (sym cut) all in
      (All-same P _ _ rows-a (all_front P front (e ∷ back) both), All-same P _ _ rows-b (all_back P front (e ∷ back) both))

  first_least : is_lt (bytes_cmp e.0 p.least) ≡ false
  first_least = (all_around (λ x. is_lt (bytes_cmp x.0 p.least) ≡ false) front e back (All-same (λ x. is_lt (bytes_cmp x.0 p.least) ≡ false) _ _ (sym cut) each.1.least)).1

  a_before_b : IsBefore a b
  a_before_b = subst (λ (l : List ℕ). All (λ x. bytes_cmp x.0 l ≡ Less) a.rows.items) (sym least-b)
      (All-same (λ x. bytes_cmp x.0 e.0 ≡ Less) _ _ rows-a (below_all e.0 front (before_row front e back own)))

  b_least : All (λ x. is_lt (bytes_cmp x.0 b.least) ≡ false) b.rows.items
  b_least = subst (λ (l : List ℕ). All (λ x. is_lt (bytes_cmp x.0 l) ≡ false) b.rows.items) (sym least-b)
      (All-same (λ x. is_lt (bytes_cmp x.0 e.0) ≡ false) _ _ rows-b (All-cons (λ x. is_lt (bytes_cmp x.0 e.0) ≡ false) e back (not_itself_less e.0)
      (λ i d lt. not_back e.0 (get_or back i d).0 (All-from_recursion (λ x. bytes_cmp e.0 x.0 ≡ Less) back (behind_row front e back own) i d lt))))

  pub pages_split : 1 ≤ length front → length front ≤ 64 → length back ≤ 63 → ArePages (xs ++ a ∷ b ∷ ys)
  pages_split some most fewer = record {
    rising = subst (λ (es : List (List ℕ × CellMap)). T (is_sorted bytes_cmp es)) (sym rows_split) are.rising;
    each = All-append IsPage xs (a ∷ b ∷ ys) each.0 (All-cons IsPage a (b ∷ ys) page-a (All-cons IsPage b ys page-b each.2));
    apart = pairs_split IsBefore xs p a b ys a_before_b
        (λ x before. (
          subst (λ (l : List ℕ). All (λ z. bytes_cmp z.0 l ≡ Less) x.rows.items) (sym least-a) before,
          subst (λ (l : List ℕ). All (λ z. bytes_cmp z.0 l ≡ Less) x.rows.items) (sym least-b) (λ i d lt. below_from_on (get_or x.rows.items i d).0 p.least e.0 (before i d lt) first_least),
        ))
        (λ y before. halves (λ x. bytes_cmp x.0 y.least ≡ Less) before) are.apart;
    begins = begins_still xs p a ys (b ∷ ys) least-a are.begins;
  }
    where
      page-a : IsPage a
      page-a = record {
        some = omega (arith, ap length rows-a, some);
        most = omega (arith, ap length rows-a, most);
        least = subst (λ (l : List ℕ). All (λ x. is_lt (bytes_cmp x.0 l) ≡ false) a.rows.items) (sym least-a) (halves (λ x. is_lt (bytes_cmp x.0 p.least) ≡ false) each.1.least).0;
      }

      page-b : IsPage b
      page-b = record {
        some = omega (arith, ap length rows-b);
        most = omega (arith, ap length rows-b, fewer);
        least = b_least;
      }

-- a gap in the first half, and one in the second
pub gap_first : (k : List ℕ) (xs : List Page) (p : Page) (ys : List Page) (f g : List (List ℕ × CellMap)) (e : List ℕ × CellMap) (back : List (List ℕ × CellMap)) (a b : Page) → GapParts k xs p ys f (g ++ e ∷ back) → a.least ≡ p.least → a.rows.items ≡ f ++ g → b.least ≡ e.0 → GapParts k xs a (b ∷ ys) f g
gap_first k xs p ys f g e back a b parts least-a rows-a least-b = record {
  rows = rows-a;
  before = parts.before;
  least = ap (λ (l : List ℕ). is_lt (bytes_cmp k l)) least-a ∙ parts.least;
  behind = (ap (bytes_cmp k) least-b ∙ (each_back (λ x. bytes_cmp k x.0 ≡ Less) g (e ∷ back) parts.above).0, parts.behind);
  below = parts.below;
  above = each_front (λ x. bytes_cmp k x.0 ≡ Less) g (e ∷ back) parts.above;
}

pub gap_second : (k : List ℕ) (xs : List Page) (p : Page) (ys : List Page) (front : List (List ℕ × CellMap)) (e : List ℕ × CellMap) (f g : List (List ℕ × CellMap)) (a b : Page) → GapParts k xs p ys (front ++ e ∷ f) g → a.rows.items ≡ front → b.least ≡ e.0 → b.rows.items ≡ e ∷ (f ++ g) → GapParts k (xs ++ a ∷ []) b ys (e ∷ f) g
gap_second k xs p ys front e f g a b parts rows-a least-b rows-b =
    let first = each_back (λ x. bytes_cmp k x.0 ≡ Greater) front (e ∷ f) parts.below in
    record {
      rows = rows-b;
      before = subst (AllBelow k) (sym (rows_of_both xs (a ∷ []) ∙ ap (λ (es : List (List ℕ × CellMap)). rows_in xs ++ (es ++ [])) rows-a ∙ ap (λ (es : List (List ℕ × CellMap)). rows_in xs ++ es) (append-nil front)))
          (Each-append (λ x. bytes_cmp k x.0 ≡ Greater) (rows_in xs) front parts.before (each_front (λ x. bytes_cmp k x.0 ≡ Greater) front (e ∷ f) parts.below));
      least = ap (λ (l : List ℕ). is_lt (bytes_cmp k l)) least-b ∙ ap is_lt first.0;
      behind = parts.behind;
      below = first;
      above = parts.above;
    }

-- ---- a page that loses a row

module _ (xs : List Page) (p : Page) (ys : List Page) (are : ArePages (xs ++ p ∷ ys)) (front : List (List ℕ × CellMap)) (e : List ℕ × CellMap) (back : List (List ℕ × CellMap)) (cut : p.rows.items ≡ front ++ e ∷ back) where
  around : rows_in (xs ++ p ∷ ys) ≡ (rows_in xs ++ front) ++ e ∷ (back ++ rows_in ys)
  around = rows_cut xs p ys front (e ∷ back) cut

  in_order : T (is_sorted bytes_cmp ((rows_in xs ++ front) ++ e ∷ (back ++ rows_in ys)))
  in_order = subst (λ (es : List (List ℕ × CellMap)). T (is_sorted bytes_cmp es)) around are.rising

  less : (rows_in xs ++ front) ++ (back ++ rows_in ys) ≡ without e.0 (rows_in (xs ++ p ∷ ys))
  less = sym (taken_out (rows_in xs ++ front) e (back ++ rows_in ys) (before_row (rows_in xs ++ front) e (back ++ rows_in ys) in_order) (behind_row (rows_in xs ++ front) e (back ++ rows_in ys) in_order)) ∙ ap (without e.0) (sym around)

  pub rows_less : (q : Page) → q.rows.items ≡ front ++ back → rows_in (xs ++ q ∷ ys) ≡ without e.0 (rows_in (xs ++ p ∷ ys))
  rows_less q rows = rows_cut xs q ys front back rows ∙ less

  pub pages_less : (q : Page) → q.least ≡ p.least → q.rows.items ≡ front ++ back → 2 ≤ length p.rows.items → ArePages (xs ++ q ∷ ys)
  pages_less q least rows two =
      let each = all_around IsPage xs p ys are.each in
      let count : length q.rows.items + 1 ≡ length p.rows.items = ap (λ n. n + 1) (ap length rows ∙ length-append front back) ∙ more (length front) (length back) ∙ sym (ap length cut ∙ length-append front (e ∷ back)) in
      page_changed xs p q ys are least
      (record {
        some = omega (arith, count, two);
        most = omega (arith, count, each.1.most);
        least = all_less (λ x. is_lt (bytes_cmp x.0 q.least) ≡ false) (subst (λ (l : List ℕ). All (λ x. is_lt (bytes_cmp x.0 l) ≡ false) p.rows.items) (sym least) each.1.least);
      })
      (λ y c before. all_less (λ x. bytes_cmp x.0 y.least ≡ Less) before)
      (subst (λ (es : List (List ℕ × CellMap)). T (is_sorted bytes_cmp es)) (sym (rows_less q rows)) (without_sorted e.0 (rows_in (xs ++ p ∷ ys)) are.rising))
    where
      more : (m n : ℕ) → (m + n) + 1 ≡ m + suc n
      more m n = omega arith

      all_less : (P : List ℕ × CellMap → Type 0) → All P p.rows.items → All P q.rows.items
      all_less P all =
          let parts = all_around P front e back (All-same P _ _ (sym cut) all) in
          All-same P _ _ rows (All-append P front back parts.0 parts.2)

-- ---- a page that goes

-- nothing is below the first page's least bytes any more
abbrev pub lowered : List Page → List Page
lowered [] = []
lowered (p ∷ pages) = record p { least = [] } ∷ pages

pages_lowered : (pages : List Page) → T (is_sorted bytes_cmp (rows_in pages)) → All IsPage pages → AllPairs IsBefore pages → ArePages (lowered pages)
pages_lowered [] rising all apart = record { rising = rising; each = all; apart = apart; begins = tt }
pages_lowered (p ∷ pages) rising all apart =
    let page = All-head IsPage p pages all in
    record {
      rising = rising;
      each = All-cons IsPage (record p { least = [] }) pages (record { some = page.some; most = page.most; least = λ i d lt. not_below_none (get_or p.rows.items i d).0 }) (All-tail IsPage p pages all);
      apart = pairs_cons IsBefore (record p { least = [] }) pages (λ y c. pairs_in IsBefore p y pages apart c) (pairs_tail IsBefore p pages apart);
      begins = refl;
    }

below_around : (k : List ℕ) (xs ms ys : List (List ℕ × CellMap)) → T (below_each bytes_cmp k (xs ++ (ms ++ ys))) → T (below_each bytes_cmp k (xs ++ ys))
below_around k [] [] ys h = h
below_around k [] (m ∷ ms) ys h = below_around k [] ms ys (T_right _ _ h)
below_around k (x ∷ xs) ms ys h = T_both _ _ (T_left _ _ h) (below_around k xs ms ys (T_right _ _ h))

sorted_around : (xs ms ys : List (List ℕ × CellMap)) → T (is_sorted bytes_cmp (xs ++ (ms ++ ys))) → T (is_sorted bytes_cmp (xs ++ ys))
sorted_around [] ms ys h = sorted_back ms ys h
sorted_around (x ∷ xs) ms ys h = T_both _ _ (below_around x.0 xs ms ys (T_left _ _ h)) (sorted_around xs ms ys (T_right _ _ h))

pub pages_gone : (xs : List Page) (p : Page) (ys : List Page) → ArePages (xs ++ p ∷ ys) → ArePages (lowered (xs ++ ys))
pages_gone xs p ys are =
    let each = all_around IsPage xs p ys are.each in
    pages_lowered (xs ++ ys)
    (subst (λ (es : List (List ℕ × CellMap)). T (is_sorted bytes_cmp es)) (sym (rows_of_both xs ys)) (sorted_around (rows_in xs) p.rows.items (rows_in ys) (subst (λ (es : List (List ℕ × CellMap)). T (is_sorted bytes_cmp es)) (rows_around xs p ys) are.rising)))
    (All-append IsPage xs ys each.0 each.2) (pairs_without IsBefore xs p ys are.apart)

-- a page of one row goes
pub one_gone : (xs : List Page) (p : Page) (ys : List Page) → ArePages (xs ++ p ∷ ys) → (e : List ℕ × CellMap) → p.rows.items ≡ e ∷ [] → rows_in xs ++ rows_in ys ≡ without e.0 (rows_in (xs ++ p ∷ ys))
one_gone xs p ys are e cut = ap (λ (es : List (List ℕ × CellMap)). es ++ rows_in ys) (sym (append-nil (rows_in xs))) ∙ less xs p ys are [] e [] cut
