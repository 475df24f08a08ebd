-- Lists of pages: a page among others, one that is changed, one more, and one less.
use Rattle.std.proofs.Common.{◌≡◌, ◌⊎◌, inl, inr, ℕ, suc, ◌+◌, ◌<◌, ◌≤◌, false, T, List, [], ◌∷◌, ◌++◌, length, take, drop, get_or, refl, sym, ap, subst, ◌∙◌, arith}
use Rattle.std.specs.Prelude.{All, AllPairs, Contains}
use Rattle.std.specs.declared.cmp.Ordering.TheVariants.{Less, Greater}
use Rattle.std.specs.List.{AllByRecursion}
use Rattle.std.specs.Ordering.{is_lt}
use Rattle.std.specs.FinMap.{is_sorted, put}
use Rattle.std.proofs.lemmas.List.{take-append-drop, take_at, drop_at, get_or_at, length-append}
use Rattle.std.proofs.lemmas.List.Concat.{flat_map-append}
use Rattle.std.proofs.lemmas.List.Elements.{All-nil, All-cons, All-same, All-head, All-tail, All-append, Contains-append_left, Contains-append_right, Contains-append_cases, recursion_from_All, All-from_recursion}
use Rattle.std.proofs.Math.Seq.{drop-cons}
use Rattle.list_lemmas.specs.BytesOrder.{bytes_cmp}
use Rattle.list_lemmas.proofs.EntryLemmas.{Each-append}
use Rattle.list_lemmas.proofs.ListCuts.{joined}
use Rattle.list_lemmas.proofs.ListMembers.{here, there, split, pairs_in, pairs_tail}
use Rattle.list_lemmas.proofs.ListParts.{pairs_cons}
use Rattle.list_lemmas.proofs.OrderedBytes.{below_from_on, from_on_below}
use Rattle.packed_cells.specs.Keyed.{CellMap}
use Rattle.row_pages.specs.Pages.{rows_in, IsPage, IsBefore, BeginsEmpty, ArePages}
use Rattle.row_pages.specs.PagePlaces.{AllBelow, AllAbove, IsRowGap, IsGap}
use Rattle.row_pages.specs.declared.page.Page.{Page}
use Rattle.row_pages.proofs.RowLists.{put_sorted, one_more, put_over, before_row}

-- ---- a page among others

pub at_page : (pages : List Page) (p : ℕ) (d : Page) → p < length pages → pages ≡ take p pages ++ get_or pages p d ∷ drop (suc p) pages
at_page pages p d lt = sym (take-append-drop p pages) ∙ ap (λ (ps : List Page). take p pages ++ ps) (drop-cons pages p d lt)

pub rows_of_both : (xs ys : List Page) → rows_in (xs ++ ys) ≡ rows_in xs ++ rows_in ys
rows_of_both xs ys = flat_map-append (λ (p : Page). p.rows.items) xs ys

pub rows_around : (xs : List Page) (p : Page) (ys : List Page) → rows_in (xs ++ p ∷ ys) ≡ rows_in xs ++ (p.rows.items ++ rows_in ys)
rows_around xs p ys = rows_of_both xs (p ∷ ys)

-- rows before a place, and from it on
pub rows_cut : (xs : List Page) (p : Page) (ys : List Page) (f b : List (List ℕ × CellMap)) → p.rows.items ≡ f ++ b → rows_in (xs ++ p ∷ ys) ≡ (rows_in xs ++ f) ++ (b ++ rows_in ys)
rows_cut xs p ys f b is =
    rows_around xs p ys ∙ ap (λ (rows : List (List ℕ × CellMap)). rows_in xs ++ (rows ++ rows_in ys)) is
    ∙ ap (λ (rows : List (List ℕ × CellMap)). rows_in xs ++ rows) (joined f b (rows_in ys)) ∙ sym (joined (rows_in xs) f (b ++ rows_in ys))

-- what holds of each row of each page
pub rows_all : (P : List ℕ × CellMap → Type 0) (pages : List Page) → ((p : Page) → Contains pages p → All P p.rows.items) → AllByRecursion P (rows_in pages)
rows_all P [] all = tt
rows_all P (p ∷ pages) all = Each-append P p.rows.items (rows_in pages) (recursion_from_All P p.rows.items (all p (here p pages))) (rows_all P pages (λ q c. all q (there p q pages c)))

pub all_in : {X : Type 0} (P : X → Type 0) (xs : List X) (x : X) → All P xs → Contains xs x → P x
all_in P xs x all c = subst P c.2 (all c.0 x c.1)

-- all rows of pages whose least bytes are above a row are above it
pub above_pages : (k : List ℕ) (pages : List Page) → All IsPage pages → AllByRecursion (λ q. bytes_cmp k q.least ≡ Less) pages → AllAbove k (rows_in pages)
above_pages k pages each above =
    rows_all (λ e. bytes_cmp k e.0 ≡ Less) pages (λ p c i d lt.
    below_from_on k p.least (get_or p.rows.items i d).0 (all_in (λ q. bytes_cmp k q.least ≡ Less) pages p (All-from_recursion (λ q. bytes_cmp k q.least ≡ Less) pages above) c) ((all_in IsPage pages p each c).least i d lt))

-- least bytes rise
pub least_rises : (p q : Page) → IsPage p → IsBefore p q → bytes_cmp p.least q.least ≡ Less
least_rises p q page before = at p.rows.items page.some page.least before
  where
    at : (rows : List (List ℕ × CellMap)) → 1 ≤ length rows → All (λ e. is_lt (bytes_cmp e.0 p.least) ≡ false) rows → All (λ e. bytes_cmp e.0 q.least ≡ Less) rows → bytes_cmp p.least q.least ≡ Less
    at [] some least before = absurd (omega (arith, some))
    at (e ∷ rows) some least before = from_on_below p.least e.0 q.least (least 0 e (omega arith)) (before 0 e (omega arith))

-- ---- pairs of a list in which one element is replaced, is split, or goes

module _ {X : Type 0} (R : X → X → Type 0) where
  pub pairs_replace : (xs : List X) (p q : X) (ys : List X) → ((x : X) → R x p → R x q) → ((y : X) → Contains ys y → R p y → R q y) → AllPairs R (xs ++ p ∷ ys) → AllPairs R (xs ++ q ∷ ys)
  pairs_replace [] p q ys before behind pairs = pairs_cons R q ys (λ y c. behind y c (pairs_in R p y ys pairs c)) (pairs_tail R p ys pairs)
  pairs_replace (x ∷ xs) p q ys before behind pairs =
      pairs_cons R x (xs ++ q ∷ ys) (λ y c. at y (Contains-append_cases xs (q ∷ ys) y c))
      (pairs_replace xs p q ys before behind (pairs_tail R x (xs ++ p ∷ ys) pairs))
    where
      has : (y : X) → Contains (xs ++ p ∷ ys) y → R x y
      has y c = pairs_in R x y (xs ++ p ∷ ys) pairs c

      at : (y : X) → Contains xs y ⊎ Contains (q ∷ ys) y → R x y
      at y (inl c) = has y (Contains-append_left xs (p ∷ ys) y c)
      at y (inr c) = elim (split q y ys c) [
        | inl same ↦ subst (R x) same (before x (has p (Contains-append_right xs (p ∷ ys) p (here p ys))))
        | inr later ↦ has y (Contains-append_right xs (p ∷ ys) y (there p y ys later))
      ]

  pub pairs_split : (xs : List X) (p a b : X) (ys : List X) → R a b → ((x : X) → R x p → R x a × R x b) → ((y : X) → R p y → R a y × R b y) → AllPairs R (xs ++ p ∷ ys) → AllPairs R (xs ++ a ∷ b ∷ ys)
  pairs_split [] p a b ys both before behind pairs =
      pairs_cons R a (b ∷ ys) (λ y c. elim (split b y ys c) [ inl same ↦ subst (R a) same both | inr later ↦ (behind y (pairs_in R p y ys pairs later)).0 ])
      (pairs_cons R b ys (λ y c. (behind y (pairs_in R p y ys pairs c)).1) (pairs_tail R p ys pairs))
  pairs_split (x ∷ xs) p a b ys both before behind pairs =
      pairs_cons R x (xs ++ a ∷ b ∷ ys) (λ y c. at y (Contains-append_cases xs (a ∷ b ∷ ys) y c))
      (pairs_split xs p a b ys both before behind (pairs_tail R x (xs ++ p ∷ ys) pairs))
    where
      has : (y : X) → Contains (xs ++ p ∷ ys) y → R x y
      has y c = pairs_in R x y (xs ++ p ∷ ys) pairs c

      ends : R x a × R x b
      ends = before x (has p (Contains-append_right xs (p ∷ ys) p (here p ys)))

      later : (y : X) → Contains (b ∷ ys) y → R x y
      later y c = elim (split b y ys c) [ inl same ↦ subst (R x) same ends.1 | inr rest ↦ has y (Contains-append_right xs (p ∷ ys) y (there p y ys rest)) ]

      at : (y : X) → Contains xs y ⊎ Contains (a ∷ b ∷ ys) y → R x y
      at y (inl c) = has y (Contains-append_left xs (p ∷ ys) y c)
      at y (inr c) = elim (split a y (b ∷ ys) c) [ inl same ↦ subst (R x) same ends.0 | inr rest ↦ later y rest ]

  pub pairs_without : (xs : List X) (p : X) (ys : List X) → AllPairs R (xs ++ p ∷ ys) → AllPairs R (xs ++ ys)
  pairs_without [] p ys pairs = pairs_tail R p ys pairs
  pairs_without (x ∷ xs) p ys pairs =
      pairs_cons R x (xs ++ ys) (λ y c. pairs_in R x y (xs ++ p ∷ ys) pairs (at y (Contains-append_cases xs ys y c))) (pairs_without xs p ys (pairs_tail R x (xs ++ p ∷ ys) pairs))
    where
      at : (y : X) → Contains xs y ⊎ Contains ys y → Contains (xs ++ p ∷ ys) y
      at y (inl c) = Contains-append_left xs (p ∷ ys) y c
      at y (inr c) = Contains-append_right xs (p ∷ ys) y (there p y ys c)

-- what holds of all elements, of those before and behind one and of it
module _ {X : Type 0} (P : X → Type 0) where
  pub all_front : (xs ys : List X) → All P (xs ++ ys) → All P xs
  all_front [] ys all = All-nil P
  all_front (x ∷ xs) ys all = All-cons P x xs (All-head P x (xs ++ ys) all) (all_front xs ys (All-tail P x (xs ++ ys) all))

  pub all_back : (xs ys : List X) → All P (xs ++ ys) → All P ys
  all_back [] ys all = all
  all_back (x ∷ xs) ys all = all_back xs ys (All-tail P x (xs ++ ys) all)

  pub all_around : (xs : List X) (p : X) (ys : List X) → All P (xs ++ p ∷ ys) → All P xs × P p × All P ys
  all_around xs p ys all = let back = all_back xs (p ∷ ys) all in (all_front xs (p ∷ ys) all, All-head P p ys back, All-tail P p ys back)

-- the first page stays, or has the same least bytes
pub begins_still : (xs : List Page) (p q : Page) (ys zs : List Page) → q.least ≡ p.least → BeginsEmpty (xs ++ p ∷ ys) → BeginsEmpty (xs ++ q ∷ zs)
begins_still [] p q ys zs same begins = same ∙ begins
begins_still (x ∷ xs) p q ys zs same begins = begins

-- ---- where a row would go

-- a row is above all pages before one and all rows before a gap in it, and below all behind
pub record GapParts (k : List ℕ) (xs : List Page) (p : Page) (ys : List Page) (front back : List (List ℕ × CellMap)) : Type 0 where
  pub rows : p.rows.items ≡ front ++ back
  pub before : AllBelow k (rows_in xs)
  pub least : is_lt (bytes_cmp k p.least) ≡ false
  pub behind : AllByRecursion (λ q. bytes_cmp k q.least ≡ Less) ys
  pub below : AllBelow k front
  pub above : AllAbove k back

take_one : (p : Page) (ys : List Page) → take 1 (p ∷ ys) ≡ p ∷ []
take_one p [] = refl
take_one p (y ∷ ys) = refl

pub gap_parts : (k : List ℕ) (pages : List Page) (p r : ℕ) (d : Page) → IsGap k pages p r → GapParts k (take p pages) (get_or pages p d) (drop (suc p) pages) (take r (get_or pages p d).rows.items) (drop r (get_or pages p d).rows.items)
gap_parts k pages p r d gap =
    let one : take 1 (drop p pages) ≡ get_or pages p d ∷ [] = ap (take 1) (drop-cons pages p d gap.in_range) ∙ take_one (get_or pages p d) (drop (suc p) pages) in
    record {
      rows = sym (take-append-drop r (get_or pages p d).rows.items);
      before = gap.page.before;
      least = (subst (λ (ps : List Page). AllByRecursion (λ q. is_lt (bytes_cmp k q.least) ≡ false) ps) one gap.page.least).0;
      behind = gap.page.behind;
      below = (gap.here d).before;
      above = (gap.here d).behind;
    }

drop_next : (xs : List Page) (p : Page) (ys : List Page) (n : ℕ) → length xs ≡ n → drop (suc n) (xs ++ p ∷ ys) ≡ ys
drop_next [] p ys n is = ap (λ (m : ℕ). drop (suc m) (p ∷ ys)) (sym is)
drop_next (x ∷ xs) p ys n is = ap (λ (m : ℕ). drop (suc m) (x ∷ (xs ++ p ∷ ys))) (sym is) ∙ drop_next xs p ys (length xs) refl

-- and that is a gap
pub gap_at : (k : List ℕ) (xs : List Page) (p : Page) (ys : List Page) (front back : List (List ℕ × CellMap)) (n r : ℕ) → length xs ≡ n → length front ≡ r → GapParts k xs p ys front back → IsGap k (xs ++ p ∷ ys) n r
gap_at k xs p ys front back n r xs-is front-is parts =
    let longer : length (xs ++ p ∷ ys) ≡ length xs + suc (length ys) = length-append xs (p ∷ ys) in
    let lt : n < length (xs ++ p ∷ ys) = omega (arith, longer, xs-is) in
    let from : drop n (xs ++ p ∷ ys) ≡ p ∷ ys = drop_at xs (p ∷ ys) n xs-is in
    record {
      in_range = lt;
      page = record {
        in_range = λ some. lt;
        before = subst (λ (ps : List Page). AllBelow k (rows_in ps)) (sym (take_at xs (p ∷ ys) n xs-is)) parts.before;
        least = subst (λ (ps : List Page). AllByRecursion (λ q. is_lt (bytes_cmp k q.least) ≡ false) ps) (sym (ap (take 1) from ∙ take_one p ys)) (parts.least, tt);
        behind = subst (λ (ps : List Page). AllByRecursion (λ q. bytes_cmp k q.least ≡ Less) ps) (sym (drop_next xs p ys n xs-is)) parts.behind;
      };
      here = λ d. subst (λ (q : Page). IsRowGap k q.rows.items r) (sym (get_or_at xs p ys d n xs-is)) (subst (λ (rows : List (List ℕ × CellMap)). IsRowGap k rows r) (sym parts.rows) inside);
    }
  where
    inside : IsRowGap k (front ++ back) r
    inside = record {
      in_range = omega (arith, length-append front back, front-is);
      before = subst (AllBelow k) (sym (take_at front back r front-is)) parts.below;
      behind = subst (AllAbove k) (sym (drop_at front back r front-is)) parts.above;
    }

-- ---- changed pages are pages

same_before : (x p q : Page) → q.least ≡ p.least → IsBefore x p → IsBefore x q
same_before x p q same before = subst (λ (least : List ℕ). All (λ e. bytes_cmp e.0 least ≡ Less) x.rows.items) (sym same) before

-- a page with the same least bytes and other rows
pub page_changed : (xs : List Page) (p q : Page) (ys : List Page) → ArePages (xs ++ p ∷ ys) → q.least ≡ p.least → IsPage q → ((y : Page) → Contains ys y → IsBefore p y → IsBefore q y)
    → T (is_sorted bytes_cmp (rows_in (xs ++ q ∷ ys))) → ArePages (xs ++ q ∷ ys)
page_changed xs p q ys pages same page behind rising =
    let each = all_around IsPage xs p ys pages.each in
    record {
      rising = rising;
      each = All-append IsPage xs (q ∷ ys) each.0 (All-cons IsPage q ys page each.2);
      apart = pairs_replace IsBefore xs p q ys (λ x before. same_before x p q same before) behind pages.apart;
      begins = begins_still xs p q ys ys same pages.begins;
    }

-- a row more
module _ (k : List ℕ) (cells : CellMap) (xs : List Page) (p : Page) (ys : List Page) (front back : List (List ℕ × CellMap)) (parts : GapParts k xs p ys front back) (pages : ArePages (xs ++ p ∷ ys)) (q : Page) (least : q.least ≡ p.least) (rows : q.rows.items ≡ front ++ (k, cells) ∷ back) where
  all_put : (P : List ℕ × CellMap → Type 0) → P (k, cells) → All P p.rows.items → All P q.rows.items
  all_put P here all =
      let both : All P (front ++ back) = All-same P _ _ (sym parts.rows) all in
      All-same P _ _ rows (All-append P front ((k, cells) ∷ back) (all_front P front back both) (All-cons P (k, cells) back here (all_back P front back both)))

  pub rows_put : rows_in (xs ++ q ∷ ys) ≡ put bytes_cmp k cells (rows_in (xs ++ p ∷ ys))
  rows_put =
      let each = all_around IsPage xs p ys pages.each in
      rows_cut xs q ys front ((k, cells) ∷ back) rows
      ∙ sym (one_more k cells (rows_in xs ++ front) (back ++ rows_in ys) (Each-append (λ e. bytes_cmp k e.0 ≡ Greater) (rows_in xs) front parts.before parts.below)
      (Each-append (λ e. bytes_cmp k e.0 ≡ Less) back (rows_in ys) parts.above (above_pages k ys each.2 parts.behind)))
      ∙ ap (put bytes_cmp k cells) (sym (rows_cut xs p ys front back parts.rows))

  pub pages_put : length p.rows.items < 64 → ArePages (xs ++ q ∷ ys)
  pages_put room =
      let each = all_around IsPage xs p ys pages.each in
      let count : length q.rows.items ≡ length p.rows.items + 1 = ap length rows ∙ length-append front ((k, cells) ∷ back) ∙ more (length front) (length back) ∙ ap (λ n. n + 1) (sym (length-append front back) ∙ sym (ap length parts.rows)) in
      page_changed xs p q ys pages least
      (record {
        some = omega (arith, count, each.1.some);
        most = omega (arith, count, room);
        least = all_put (λ e. is_lt (bytes_cmp e.0 q.least) ≡ false) (ap (λ (l : List ℕ). is_lt (bytes_cmp k l)) least ∙ parts.least) (subst (λ (l : List ℕ). All (λ e. is_lt (bytes_cmp e.0 l) ≡ false) p.rows.items) (sym least) each.1.least);
      })
      (λ y c before. all_put (λ e. bytes_cmp e.0 y.least ≡ Less) (all_in (λ z. bytes_cmp k z.least ≡ Less) ys y (All-from_recursion (λ z. bytes_cmp k z.least ≡ Less) ys parts.behind) c) before)
      (subst (λ (es : List (List ℕ × CellMap)). T (is_sorted bytes_cmp es)) (sym rows_put) (put_sorted k cells (rows_in (xs ++ p ∷ ys)) pages.rising))
    where
      more : (m n : ℕ) → m + suc n ≡ (m + n) + 1
      more m n = omega arith

-- a row with other cells
pub pages_set : (xs : List Page) (p q : Page) (ys : List Page) (front back : List (List ℕ × CellMap)) (k : List ℕ) (old new : CellMap) → ArePages (xs ++ p ∷ ys) → p.rows.items ≡ front ++ (k, old) ∷ back → q.least ≡ p.least → q.rows.items ≡ front ++ (k, new) ∷ back
    → ArePages (xs ++ q ∷ ys) × (rows_in (xs ++ q ∷ ys) ≡ put bytes_cmp k new (rows_in (xs ++ p ∷ ys)))
pages_set xs p q ys front back k old new pages was least is = (
  page_changed xs p q ys pages least
      (record {
        some = omega (arith, count, each.1.some);
        most = omega (arith, count, each.1.most);
        least = all_set (λ (x : List ℕ). is_lt (bytes_cmp x q.least) ≡ false) (subst (λ (l : List ℕ). All (λ e. is_lt (bytes_cmp e.0 l) ≡ false) p.rows.items) (sym least) each.1.least);
      })
      (λ y c before. all_set (λ (x : List ℕ). bytes_cmp x y.least ≡ Less) before)
      (subst (λ (es : List (List ℕ × CellMap)). T (is_sorted bytes_cmp es)) (sym rows) (put_sorted k new (rows_in (xs ++ p ∷ ys)) pages.rising)),
  rows,
)
  where
    each : All IsPage xs × IsPage p × All IsPage ys
    each = all_around IsPage xs p ys pages.each

    count : length q.rows.items ≡ length p.rows.items
    count = ap length is ∙ length-append front ((k, new) ∷ back) ∙ sym (ap length was ∙ length-append front ((k, old) ∷ back))

    all_set : (P : List ℕ → Type 0) → All (λ e. P e.0) p.rows.items → All (λ e. P e.0) q.rows.items
    all_set P all =
        let parts = all_around (λ e. P e.0) front (k, old) back (All-same (λ e. P e.0) _ _ (sym was) all) in
        All-same (λ e. P e.0) _ _ is (All-append (λ e. P e.0) front ((k, new) ∷ back) parts.0 (All-cons (λ e. P e.0) (k, new) back parts.1 parts.2))

    before : rows_in (xs ++ p ∷ ys) ≡ (rows_in xs ++ front) ++ (k, old) ∷ (back ++ rows_in ys)
    before = rows_cut xs p ys front ((k, old) ∷ back) was

    rows : rows_in (xs ++ q ∷ ys) ≡ put bytes_cmp k new (rows_in (xs ++ p ∷ ys))
    rows =
        rows_cut xs q ys front ((k, new) ∷ back) is
        ∙ sym (put_over (rows_in xs ++ front) k old new (back ++ rows_in ys) (before_row (rows_in xs ++ front) (k, old) (back ++ rows_in ys) (subst (λ (es : List (List ℕ × CellMap)). T (is_sorted bytes_cmp es)) before pages.rising)))
        ∙ ap (put bytes_cmp k new) (sym before)
