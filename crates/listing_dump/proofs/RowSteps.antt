-- The points of the first rows, and of all: what was given of them.
use Rattle.std.proofs.Common.{◌≡◌, ◌⊎◌, inl, inr, ℕ, ◌+◌, ◌<◌, ◌≤◌, true, List, [], ◌∷◌, ◌++◌, length, refl, sym, ap, subst, ◌∙◌, arith}
use Rattle.std.specs.Prelude.{AllPairs, Contains, Option, Some, filter, take}
use Rattle.std.specs.List.{slice_get}
use Rattle.std.specs.Ordering.{eq_by_cmp, ordering_reverse}
use Rattle.std.specs.declared.cmp.Ordering.TheVariants.{Less}
use Rattle.std.specs.Cmp.{IsTotalOrder, nat_cmp_total, on_total, then_total}
use Rattle.std.specs.Cmp.Lexicographic.{nat_list_cmp_total}
use Rattle.std.specs.Io.KnownBytes.{Appends}
use Rattle.std.proofs.lemmas.Bool.{cases_lt}
use Rattle.std.proofs.lemmas.List.Concat.{flat_map-append}
use Rattle.std.proofs.lemmas.List.Elements.{Contains-append_cases, Contains-append_left, Contains-append_right}
use Rattle.list_lemmas.proofs.BoolTests.{same_Some}
use Rattle.list_lemmas.proofs.ListCuts.{joined, nothing_behind, take_whole}
use Rattle.std.proofs.lemmas.Option.{slice_get_within}
use Rattle.list_lemmas.proofs.ListMembers.{here, map_in, not_in, pairs_in, pairs_tail, split, there}
use Rattle.list_lemmas.proofs.ListParts.{in_filter, pairs_cons}
use Rattle.tsd_base.specs.TagOrder.{tags_cmp_total}
use Rattle.qual_codec.proofs.CallerLemmas.{dot_in}
use Rattle.cell_model.specs.declared.row.ListLine.{ListLine}
use Rattle.cell_model.specs.declared.row.Listing.{Listing}
use Rattle.cell_model.specs.declared.events.Place.{Place}
use Rattle.cell_model.specs.declared.events.Content.{Content}
use Rattle.cell_model.specs.Readings.{point_row}
use Rattle.cell_model.specs.Store.{Store, cell_of, cells_of, entries, row_cmp}
use Rattle.cell_model.specs.Rising.{LinesRise}
use Rattle.cell_model.specs.Listed.{entry_of_line, store_of}
use Rattle.cell_model.specs.Sound.{IsBase}
use Rattle.listing_dump.specs.Dumps.{AreDumped, GivesDump, GivesFront, IsPointOf, IsPointOfRow, PlacedPoint, dump_text, placed_cmp}
use Rattle.listing_dump.specs.Gifts.{Gives, GivesSome}
use Rattle.listing_dump.specs.RowLines.{is_of_row}
use Rattle.listing_dump.specs.RowPlaces.{AreRowPlaces, row_place_cmp}
use Rattle.listing_dump.specs.RowPoints.{AreOfRow, AreOfRows, GivesRows, IsTextOfRow, row_at}
use Rattle.listing_dump.specs.declared.row_places.RowPlace.{RowPlace}
use Rattle.listing_dump.proofs.Filters.{in_place, pairs_get, place_in, place_take, take_place}
use Rattle.listing_dump.proofs.Giving.{gave_none, gave_then, gave_with}
use Rattle.listing_dump.proofs.LineStores.{entries_are}
use Rattle.listing_dump.proofs.RowCells.{row_begins, tested}
use Rattle.listing_dump.proofs.RowOrders.{rows_order}
use Rattle.listing_dump.proofs.SoundLines.{row_value}

-- two rising lists, each of whose elements stands before those of the other, rise together
pairs_append : {X : Type 0} (R : X → X → Type 0) (xs ys : List X) → AllPairs R xs → AllPairs R ys → ((x y : X) → Contains xs x → Contains ys y → R x y) → AllPairs R (xs ++ ys)
pairs_append R [] ys ux uy cross = uy
pairs_append {X} R (x ∷ xs) ys ux uy cross =
    pairs_cons R x (xs ++ ys) (λ z c. at z (Contains-append_cases xs ys z c)) (pairs_append R xs ys (pairs_tail R x xs ux) uy (λ a b ca cb. cross a b (there x a xs ca) cb))
  where
    at : (z : X) → Contains xs z ⊎ Contains ys z → R x z
    at z (inl c) = pairs_in R x z xs ux c
    at z (inr c) = cross x z (here x xs) c

-- ---- a front of a rising list

placed_total : IsTotalOrder placed_cmp
placed_total =
    then_total (on_total (λ (p : PlacedPoint). p.point.metric) nat_list_cmp_total)
    (then_total (on_total (λ (p : PlacedPoint). p.point.tags) tags_cmp_total) (then_total (on_total (λ (p : PlacedPoint). p.point.time) nat_cmp_total) (on_total (λ (p : PlacedPoint). p.place) nat_cmp_total)))

abbrev pub Up : PlacedPoint → PlacedPoint → Type 0
Up p q = placed_cmp p q ≡ Less

never_back : (p q : PlacedPoint) → Up p q → Up q p → ⊥
never_back p q lt gt = let e : Less ≡ ordering_reverse Less = sym lt ∙ placed_total.antisymm p q ∙ ap ordering_reverse gt in cc

-- what rises, is among the points, and has all that stands before its own, is a front of them
front : (xs ys : List PlacedPoint) → AllPairs Up xs → AllPairs Up ys → ((x : PlacedPoint) → Contains xs x → Contains ys x) → ((x y : PlacedPoint) → Contains xs x → Contains ys y → Up y x → Contains xs y) → (rest : List PlacedPoint) × (ys ≡ xs ++ rest)
front [] ys ux uy among down = (ys, refl)
front (x ∷ xs) [] ux uy among down = absurd (not_in x (among x (here x xs)))
front (x ∷ xs) (y ∷ ys) ux uy among down =
    let same = heads (split y x ys (among x (here x xs))) in
    let more = front xs ys (pairs_tail Up x xs ux) (pairs_tail Up y ys uy) (λ z c. inner same z c (split y z ys (among z (there x z xs c)))) (λ z t cz ct lt. lower same z t cz ct lt (split x t xs (down z t (there x z xs cz) (there y t ys ct) lt))) in
    (more.0, λ i. (sym same) i ∷ more.1 i)
  where
    heads : (y ≡ x) ⊎ Contains ys x → x ≡ y
    heads (inl e) = sym e
    heads (inr c) =
        let lt = pairs_in Up y x ys uy c in
        at lt (split x y xs (down x y (here x xs) (here y ys) lt))
      where
        at : Up y x → (x ≡ y) ⊎ Contains xs y → x ≡ y
        at lt (inl e) = e
        at lt (inr d) = absurd (never_back x y (pairs_in Up x y xs ux d) lt)

    inner : x ≡ y → (z : PlacedPoint) → Contains xs z → (y ≡ z) ⊎ Contains ys z → Contains ys z
    inner same z c (inl e) = let lt = pairs_in Up x z xs ux c in let me = subst (λ p. Up p z) (same ∙ e) lt in absurd (never_back z z me me)
    inner same z c (inr d) = d

    lower : x ≡ y → (z t : PlacedPoint) → Contains xs z → Contains ys t → Up t z → (x ≡ t) ⊎ Contains xs t → Contains xs t
    lower same z t cz ct lt (inl e) = let l = pairs_in Up y t ys uy ct in let me = subst (λ p. Up p t) (sym same ∙ e) l in absurd (never_back t t me me)
    lower same z t cz ct lt (inr d) = d

dump_append : (xs ys : List PlacedPoint) → dump_text (xs ++ ys) ≡ dump_text xs ++ dump_text ys
dump_append xs ys = flat_map-append _ xs ys

module _ (l : Listing) (up : LinesRise l.lines) (base : IsBase (store_of l)) (rows : List RowPlace) (are : AreRowPlaces l.widths l.lines rows) where
  abbrev pub cells : List ListLine
  cells = l.lines

  abbrev pub s : Store
  s = store_of l

  abbrev pub First : ℕ → List PlacedPoint → Type 0
  First i points = AreOfRows s cells (take i rows) points

  -- no rows have no points
  pub none_first : First 0 []
  none_first = record {
    rising = λ i j d low lt. absurd (omega (arith, lt));
    each = λ p c. absurd (not_in p c);
    all = λ r p c. let w = take_place rows 0 r c in absurd (let lt = w.1 in omega (arith, lt));
  }

  -- the points of one more row stand behind those of the rows before it
  pub more_first : (i : ℕ) (r : RowPlace) (points own : List PlacedPoint) → slice_get rows i ≡ Some r → First i points → AreOfRow s (row_at cells r.line) own → First (i + 1) (points ++ own)
  more_first i r points own isr first of = record {
    rising = pairs_append Up points own first.rising of.rising cross;
    each = λ p c. at p (Contains-append_cases points own p c);
    all = λ q p c x. back q p (take_place rows (i + 1) q c) x;
  }
    where
      cross : (p x : PlacedPoint) → Contains points p → Contains own x → Up p x
      cross p x cp cx =
          let q = first.each p cp in
          let w = take_place rows i q.0 q.1 in
          rows_order l up base q.0 r (are.each q.0 (in_place rows w.0 q.0 w.2)) (are.each r (in_place rows i r isr)) (pairs_get (λ (a b : RowPlace). row_place_cmp a b ≡ Less) rows are.rising w.0 i q.0 r w.2 isr w.1) p x q.2 (of.each x cx)

      at : (p : PlacedPoint) → Contains points p ⊎ Contains own p → (q : RowPlace) × Contains (take (i + 1) rows) q × IsPointOfRow s (row_at cells q.line) p
      at p (inl c) = let q = first.each p c in let w = take_place rows i q.0 q.1 in (q.0, place_take rows (i + 1) w.0 q.0 w.2 (let lt = w.1 in omega (arith, lt)), q.2)
      at p (inr c) = (r, place_take rows (i + 1) i r isr (omega (arith)), of.each p c)

      back : (q : RowPlace) (p : PlacedPoint) → (j : ℕ) × (j < i + 1) × (slice_get rows j ≡ Some q) → IsPointOfRow s (row_at cells q.line) p → Contains (points ++ own) p
      back q p w x = by (cases_lt w.0 i)
        where
          by : (w.0 < i) ⊎ (i ≤ w.0) → Contains (points ++ own) p
          by (inl lt) = Contains-append_left points own p (first.all q p (place_take rows i w.0 q w.2 lt) x)
          by (inr ge) =
              let last : w.0 ≡ i = let lt = w.1 in omega (arith, lt, ge) in
              let same : q ≡ r = same_Some q r (sym w.2 ∙ ap (slice_get rows) last ∙ isr) in
              Contains-append_right points own p (of.all p (subst (λ (z : RowPlace). IsPointOfRow s (row_at cells z.line) p) same x))

  -- each point of the store is one of a row
  row_of_point : (p : PlacedPoint) → IsPointOf s p → (r : RowPlace) × Contains rows r × IsPointOfRow s (row_at cells r.line) p
  row_of_point p of =
      let x = of.1 in
      let d = dot_in (cells_of s (point_row of.0)) x.dots x.dot x.dots_are (in_place x.dots p.place x.dot x.stays.there) in
      let m = map_in cell_of (filter (λ (e : Place × Content). eq_by_cmp row_cmp (point_row of.0) e.0.row) (entries s)) d.cell d.among in
      let f = in_filter (λ (e : Place × Content). eq_by_cmp row_cmp (point_row of.0) e.0.row) (entries s) m.0 m.1 in
      let e = map_in entry_of_line cells m.0 (subst (λ (es : List (Place × Content)). Contains es m.0) (entries_are l up) f.0) in
      let line = e.0 in
      let same : is_of_row of.0 line ≡ true = sym (tested of.0 line) ∙ ap (λ (y : Place × Content). eq_by_cmp row_cmp (point_row of.0) y.0.row) e.2 ∙ f.1 in
      let at = place_in cells line e.1 in
      let b = row_begins cells of.0 at.0 line at.1 same in
      let r = are.all b.0 b.1 b.2 b.4 in
      let row : row_at cells r.0.line ≡ of.0 = ap (row_at cells) r.2 ∙ row_value cells b.0 b.1 b.2 ∙ b.3 in
      (r.0, r.1, subst (λ (bytes : List ℕ). IsPointOfRow s bytes p) (sym row) x)

  -- the points of all rows are dumped
  pub all_dumped : (points : List PlacedPoint) → First (length rows) points → AreDumped s points
  all_dumped points first = record {
    rising = first.rising;
    each = λ p. (λ c. let q = first.each p c in (row_at cells q.0.line, q.2), λ of. let r = row_of_point p of in let w = place_in rows r.0 r.1 in first.all r.0 p (place_take rows (length rows) w.0 r.0 w.1 (slice_get_within rows w.0 r.0 w.1)) r.2);
  }

  -- those of the first rows are a front of what is dumped
  pub first_front : (i : ℕ) (points all : List PlacedPoint) → First i points → AreDumped s all → (rest : List PlacedPoint) × (all ≡ points ++ rest)
  first_front i points all first dumped = front points all first.rising dumped.rising (λ p c. (dumped.each p).1 (let q = first.each p c in (row_at cells q.0.line, q.2))) down
    where
      down : (p x : PlacedPoint) → Contains points p → Contains all x → Up x p → Contains points x
      down p x cp cx lt =
          let q = first.each p cp in
          let w = take_place rows i q.0 q.1 in
          let r = row_of_point x ((dumped.each x).0 cx) in
          let v = place_in rows r.0 r.1 in
          by q w r v (cases_lt v.0 i)
        where
          by : (q : (q : RowPlace) × Contains (take i rows) q × IsPointOfRow s (row_at cells q.line) p) (w : (j : ℕ) × (j < i) × (slice_get rows j ≡ Some q.0)) (r : (r : RowPlace) × Contains rows r × IsPointOfRow s (row_at cells r.line) x) (v : (k : ℕ) × (slice_get rows k ≡ Some r.0))
              → (v.0 < i) ⊎ (i ≤ v.0) → Contains points x
          by q w r v (inl low) = first.all r.0 x (place_take rows i v.0 r.0 v.1 low) r.2
          by q w r v (inr high) =
              absurd (never_back p x
              (rows_order l up base q.0 r.0 (are.each q.0 (in_place rows w.0 q.0 w.2)) (are.each r.0 r.1) (pairs_get (λ (a b : RowPlace). row_place_cmp a b ≡ Less) rows are.rising w.0 v.0 q.0 r.0 w.2 v.1 (let lt = w.1 in omega (arith, lt, high))) p x q.2 r.2) lt)

  -- what is given of the first rows is a front of the dump
  pub given_front : (i : ℕ) (points : List PlacedPoint) (held held' : Option (List ℕ)) → First i points → GivesSome held held' (dump_text points) → GivesFront s held held'
  given_front i points held held' first some = record {
    given = some.1.given;
    gives = some.1.appends;
    front = λ all dumped.
        let f = first_front i points all first dumped in
        (some.0 ++ dump_text f.0, ap dump_text f.1 ∙ dump_append points f.0 ∙ ap (λ t. t ++ dump_text f.0) some.1.parts ∙ joined some.1.given some.0 (dump_text f.0));
  }

  -- one more row: its text is given behind what waits
  pub more_given : (i : ℕ) (r : RowPlace) (held mid held' : Option (List ℕ)) (waiting waiting' text : List ℕ) → slice_get rows i ≡ Some r → GivesRows s cells (take i rows) held mid waiting → IsTextOfRow s (row_at cells r.line) text → Gives mid held' (waiting ++ text) waiting'
      → GivesRows s cells (take (i + 1) rows) held held' waiting'
  more_given i r held mid held' waiting waiting' text isr g t gives = record {
    points = g.points ++ t.points;
    are = more_first i r g.points t.points isr g.are t.are;
    gives = subst (λ (all : List ℕ). Gives held held' all waiting') (both g t) (gave_then held mid held' (dump_text g.points ++ text) (waiting ++ text) waiting' (gave_with held mid (dump_text g.points) waiting text g.gives) gives);
  }
    where
      both : (g : GivesRows s cells (take i rows) held mid waiting) (t : IsTextOfRow s (row_at cells r.line) text) → dump_text g.points ++ text ≡ dump_text (g.points ++ t.points)
      both g t = ap (λ x. dump_text g.points ++ x) t.text_is ∙ sym (dump_append g.points t.points)

  -- one more row, within whose text the sink failed or memory ran out
  pub some_given : (i : ℕ) (r : RowPlace) (held mid held' : Option (List ℕ)) (waiting text : List ℕ) → slice_get rows i ≡ Some r → GivesRows s cells (take i rows) held mid waiting → IsTextOfRow s (row_at cells r.line) text → GivesSome mid held' (waiting ++ text) → GivesFront s held held'
  some_given i r held mid held' waiting text isr g t some = let all = more_given i r held mid held' waiting some.0 text isr g t some.1 in given_front (i + 1) all.points held held' all.are (some.0, all.gives)

  -- before a row nothing more was given
  pub no_more_given : (i : ℕ) (held held' : Option (List ℕ)) (waiting : List ℕ) → GivesRows s cells (take i rows) held held' waiting → GivesFront s held held'
  no_more_given i held held' waiting g = given_front i g.points held held' g.are (waiting, g.gives)

  -- all rows, and what waits of them
  pub all_given : (i : ℕ) (held mid held' : Option (List ℕ)) (waiting : List ℕ) → length rows ≤ i → GivesRows s cells (take i rows) held mid waiting → Gives mid held' waiting [] → GivesDump s held held'
  all_given i held mid held' waiting le g gives =
      let last = gave_then held mid held' (dump_text g.points) waiting [] g.gives gives in
      let all = subst (λ (rs : List RowPlace). AreOfRows s cells rs g.points) (take_whole rows i le ∙ sym (take_whole rows (length rows) (omega (arith)))) g.are in
      record { points = g.points; are = all_dumped g.points all; gives = subst (Appends held held') (sym (last.parts ∙ nothing_behind last.given)) last.appends }

  pub last_given : (i : ℕ) (held mid held' : Option (List ℕ)) (waiting : List ℕ) → GivesRows s cells (take i rows) held mid waiting → GivesSome mid held' waiting → GivesFront s held held'
  last_given i held mid held' waiting g some = given_front i g.points held held' g.are (some.0, gave_then held mid held' (dump_text g.points) waiting some.0 g.gives some.1)

  -- before the first row nothing was given
  pub none_given : (held : Option (List ℕ)) (waiting : List ℕ) → waiting ≡ [] → GivesRows s cells (take 0 rows) held held waiting
  none_given held waiting e = record { points = []; are = none_first; gives = subst (λ (w : List ℕ). Gives held held [] w) (sym e) (gave_none held []) }
