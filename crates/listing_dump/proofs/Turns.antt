-- Turns of loops over dots, cells, tags and rows.
use Rattle.std.proofs.Common.{◌≡◌, ◌≢◌, ◌⊎◌, inl, inr, ℕ, zero, suc, ℤ, ◌+◌, ◌-◌, ◌<◌, ◌≤◌, Bool, true, false, List, [], ◌∷◌, ◌++◌, length, get_or, take, drop, refl, sym, ap, subst, ◌∙◌, arith}
use Rattle.std.specs.Prelude.{All, Option, None, Some, OnOk, Result, Ok, Err, cond, filter, is_ok, map, replicate}
use Rattle.std.specs.List.{slice_get}
use Rattle.std.specs.BTreeMap.{BTreeMap, get}
use Rattle.std.specs.Ordering.{nat_cmp}
use Rattle.std.proofs.lemmas.List.{drop_more, get_or-map, length-map, length-take-le, take_more}
use Rattle.std.proofs.lemmas.List.Concat.{flat_map-append}
use Rattle.std.proofs.lemmas.Option.{slice_get-get_or, slice_get_within}
use Rattle.std.proofs.lemmas.Bool.{cases_lt}
use Rattle.list_lemmas.proofs.BoolTests.{same_Some}
use Rattle.list_lemmas.proofs.ListCuts.{filter_join, joined, map_join, nothing_behind, take_none, take_whole}
use Rattle.tsd_base.specs.TagList.{Pair}
use Rattle.qual_codec.specs.declared.cells.Cell.{Cell}
use Rattle.qual_codec.specs.declared.cells.Dot.{Dot}
use Rattle.qual_codec.specs.CellDots.{Reads}
use Rattle.qual_codec.specs.Merge.{AreDots}
use Rattle.qual_codec.specs.MergeSteps.{AddsDots}
use Rattle.qual_codec.proofs.CallerLemmas.{RiseBelow, are_next, rise_push}
use Rattle.cell_model.specs.declared.row.ListLine.{ListLine}
use Rattle.listing_dump.specs.declared.best_dots.PlacedDot.{PlacedDot}
use Rattle.listing_dump.specs.declared.name_ranks.NameRanks.{NameRanks}
use Rattle.listing_dump.specs.BestDots.{AreBest, numbered}
use Rattle.listing_dump.specs.Gifts.{Gives, GivesSome}
use Rattle.listing_dump.specs.NameRanks.{is_ids}
use Rattle.tsd_hooks.specs.PointText.{tags_text}
use Rattle.listing_dump.specs.RowLines.{EndsRow, cell_of_line, has_row, is_of_row, is_points}
use Rattle.listing_dump.specs.RowPlaces.{AreRanked, HasTagRank, TagsHaveRanks}
use Rattle.listing_dump.specs.RowPoints.{dot_text, row_at, row_text, tags_at}
use Rattle.listing_dump.proofs.Giving.{gave_then, gave_with, some_then, some_with}
use Rattle.listing_dump.proofs.RowCells.{is_row, points_is}

-- ---- dots

pub rise_at : (dots : List Dot) (i : ℕ) (d : Dot) (least next : ℕ) → RiseBelow (take i dots) least → i < length dots → least ≤ (get_or dots i d).item.offset → next ≡ (get_or dots i d).item.offset + 1 → RiseBelow (take (i + 1) dots) next
rise_at dots i d least next r lt low n = subst (λ (ds : List Dot). RiseBelow ds next) (sym (take_more dots i d lt)) (rise_push (take i dots) (get_or dots i d) least next r low n)

numbered_push : (n : ℕ) (dots : List Dot) (d : Dot) (at : ℕ) → at ≡ n + length dots → numbered n (dots ++ d ∷ []) ≡ numbered n dots ++ (record { place = at; dot = d }) ∷ []
numbered_push n [] d at e = λ i. (record { place = (let s : n ≡ at = omega (arith, e) in s) i; dot = d }) ∷ []
numbered_push n (x ∷ dots) d at e = ap (λ (ps : List PlacedDot). (record { place = n; dot = x }) ∷ ps) (numbered_push (n + 1) dots d at (omega (arith, e)))

pub numbered_more : (dots : List Dot) (at : ℕ) (d : Dot) (old new : List PlacedDot) → at < length dots → old ≡ numbered 0 (take at dots) → new ≡ old ++ (record { place = at; dot = get_or dots at d }) ∷ [] → new ≡ numbered 0 (take (at + 1) dots)
numbered_more dots at d old new lt was e =
    e ∙ ap (λ (ps : List PlacedDot). ps ++ (record { place = at; dot = get_or dots at d }) ∷ []) was
    ∙ sym (numbered_push 0 (take at dots) (get_or dots at d) at (let n = length-take-le at dots (omega (arith, lt)) in omega (arith, n)))
    ∙ ap (numbered 0) (sym (take_more dots at d lt))

-- the best of one more, as of the first ones with it behind
pub best_more : (dots : List Dot) (at : ℕ) (d : Dot) (best : BTreeMap (ℕ × ℤ) PlacedDot) → at < length dots → AreBest (take at dots ++ get_or dots at d ∷ []) best → AreBest (take (at + 1) dots) best
best_more dots at d best lt are = subst (λ (ds : List Dot). AreBest ds best) (sym (take_more dots at d lt)) are

-- of one more that is kept, and of one that isn't
pub kept_more : (p : PlacedDot → Bool) (placed : List PlacedDot) (i : ℕ) (d : PlacedDot) (start old new : List Dot) → i < length placed → p (get_or placed i d) ≡ true → old ≡ start ++ map (λ (x : PlacedDot). x.dot) (filter p (take i placed))
    → new ≡ old ++ (get_or placed i d).dot ∷ [] → new ≡ start ++ map (λ (x : PlacedDot). x.dot) (filter p (take (i + 1) placed))
kept_more p placed i d start old new lt so was e =
    let one : filter p (get_or placed i d ∷ []) ≡ get_or placed i d ∷ [] = ap (λ (b : Bool). cond b (get_or placed i d ∷ []) []) so in
    e ∙ ap (λ (ds : List Dot). ds ++ (get_or placed i d).dot ∷ []) was ∙ joined start (map (λ (x : PlacedDot). x.dot) (filter p (take i placed))) ((get_or placed i d).dot ∷ [])
    ∙ ap (λ (ds : List Dot). start ++ ds)
    (sym (ap (λ (ps : List PlacedDot). map (λ (x : PlacedDot). x.dot) (filter p ps)) (take_more placed i d lt) ∙ ap (map (λ (x : PlacedDot). x.dot)) (filter_join p (take i placed) (get_or placed i d ∷ []) ∙ ap (λ (ps : List PlacedDot). filter p (take i placed) ++ ps) one)
    ∙ map_join (λ (x : PlacedDot). x.dot) (filter p (take i placed)) (get_or placed i d ∷ [])))

pub kept_less : (p : PlacedDot → Bool) (placed : List PlacedDot) (i : ℕ) (d : PlacedDot) (start old : List Dot) → i < length placed → p (get_or placed i d) ≡ false → old ≡ start ++ map (λ (x : PlacedDot). x.dot) (filter p (take i placed))
    → old ≡ start ++ map (λ (x : PlacedDot). x.dot) (filter p (take (i + 1) placed))
kept_less p placed i d start old lt nay was =
    let one : filter p (get_or placed i d ∷ []) ≡ [] = ap (λ (b : Bool). cond b (get_or placed i d ∷ []) []) nay in
    was ∙ ap (λ (ps : List PlacedDot). start ++ map (λ (x : PlacedDot). x.dot) ps)
    (sym (ap (filter p) (take_more placed i d lt) ∙ filter_join p (take i placed) (get_or placed i d ∷ []) ∙ ap (λ (ps : List PlacedDot). filter p (take i placed) ++ ps) one ∙ nothing_behind (filter p (take i placed))))

-- ---- cells

pub cells_next : (cells : List ListLine) (i : ℕ) (l : ListLine) (qual value : List ℕ) (old new : List Dot) → AreDots (take i (map cell_of_line cells)) old → i < length cells → l ≡ get_or cells i l → qual ≡ l.qual → value ≡ l.value → AddsDots qual value old new
    → AreDots (take (i + 1) (map cell_of_line cells)) new
cells_next cells i l qual value old new are lt is q v adds =
    let long = length-map cells cell_of_line in
    are_next (map cell_of_line cells) i (cell_of_line l) qual value old new are (omega (arith, lt, long)) (ap cell_of_line is ∙ sym (get_or-map cell_of_line cells i l (cell_of_line l) lt)) q v adds

pub cell_reads : (cells : List ListLine) (i : ℕ) (l : ListLine) (qual value : List ℕ) → All (λ (x : ListLine). Reads x.qual x.value) cells → i < length cells → l ≡ get_or cells i l → qual ≡ l.qual → value ≡ l.value → Reads qual value
cell_reads cells i l qual value all lt is q v =
    let w = subst (λ (x : ListLine). Reads x.qual x.value) (sym is) (all i l lt) in
    subst (λ (p : List ℕ × List ℕ). Reads p.0 p.1) (λ k. ((sym q) k, (sym v) k)) w

-- ---- tags

pub ranked_more : (ranks : NameRanks) (ps : List (ℕ × ℕ)) (i : ℕ) (d r : ℕ × ℕ) (old new : List (ℕ × ℕ)) → i < length ps → AreRanked ranks (take i ps) old → HasTagRank ranks (get_or ps i d) r → new ≡ old ++ r ∷ [] → AreRanked ranks (take (i + 1) ps) new
ranked_more ranks ps i d r old new lt was h e =
    subst (λ (x : List (ℕ × ℕ) × List (ℕ × ℕ)). AreRanked ranks x.0 x.1) (λ k. ((sym (take_more ps i d lt)) k, (sym e) k)) (push (take i ps) old was)
  where
    push : (qs rs : List (ℕ × ℕ)) → AreRanked ranks qs rs → AreRanked ranks (qs ++ get_or ps i d ∷ []) (rs ++ r ∷ [])
    push [] rs a = (r, [], ap (λ (xs : List (ℕ × ℕ)). xs ++ r ∷ []) a, h, refl)
    push (q ∷ qs) rs a = (a.0, a.1 ++ r ∷ [], ap (λ (xs : List (ℕ × ℕ)). xs ++ r ∷ []) a.2, a.3, push qs a.1 a.4)

pub ranked_whole : (ranks : NameRanks) (ps : List (ℕ × ℕ)) (i : ℕ) (rs : List (ℕ × ℕ)) → length ps ≤ i → AreRanked ranks (take i ps) rs → AreRanked ranks ps rs
ranked_whole ranks ps i rs le a = subst (λ (xs : List (ℕ × ℕ)). AreRanked ranks xs rs) (take_whole ps i le) a

pub tags_more : (cells : List ListLine) (tags : List (ℕ × ℕ)) (i : ℕ) (d : ℕ × ℕ) (start old new key value : List ℕ) → i < length tags → key ≡ row_at cells (get_or tags i d).0 → value ≡ row_at cells (get_or tags i d).1
    → old ≡ start ++ tags_text (tags_at cells (take i tags)) → new ≡ old ++ 32 ∷ (key ++ 61 ∷ value) → new ≡ start ++ tags_text (tags_at cells (take (i + 1) tags))
tags_more cells tags i d start old new key value lt k v was e =
    let r = get_or tags i d in
    let one : 32 ∷ (key ++ 61 ∷ value) ≡ tags_text (tags_at cells (r ∷ [])) = (λ j. 32 ∷ (k j ++ 61 ∷ v j)) ∙ sym (nothing_behind (32 ∷ (row_at cells r.0 ++ 61 ∷ row_at cells r.1))) in
    e ∙ (λ j. was j ++ one j) ∙ joined start (tags_text (tags_at cells (take i tags))) (tags_text (tags_at cells (r ∷ [])))
    ∙ ap (λ (t : List ℕ). start ++ t)
    (sym (ap (λ (rs : List (ℕ × ℕ)). tags_text (tags_at cells rs)) (take_more tags i d lt) ∙ ap tags_text (map_join (λ (x : ℕ × ℕ). (row_at cells x.0, row_at cells x.1)) (take i tags) (r ∷ []))
    ∙ flat_map-append (λ (t : Pair). 32 ∷ (t.0 ++ 61 ∷ t.1)) (tags_at cells (take i tags)) (tags_at cells (r ∷ []))))

-- ---- the end of a row

-- so far the lines are of the row that begins here
abbrev pub IsRowTo : List ListLine → ℕ → ℕ → Type 0
IsRowTo cells from to = (l : ListLine) → slice_get cells from ≡ Some l → is_points l.table ≡ true → (at : ℕ) (x : ListLine) → from ≤ at → at < to → slice_get cells at ≡ Some x → is_of_row l.row x ≡ true

pub row_first : (cells : List ListLine) (from : ℕ) → IsRowTo cells from (from + 1)
row_first cells from l isl points at x low lt isx =
    let here : at ≡ from = omega (arith, low, lt) in
    let same : x ≡ l = same_Some x l (sym isx ∙ ap (slice_get cells) here ∙ isl) in
    ap (is_of_row l.row) same ∙ is_row l.row l (points_is l.table points) refl

pub row_more : (cells : List ListLine) (from to : ℕ) (c m : ListLine) → from < length cells → to < length cells → c ≡ get_or cells from c → m ≡ get_or cells to m → is_of_row c.row m ≡ true → IsRowTo cells from to → IsRowTo cells from (to + 1)
row_more cells from to c m lf lt isc ism so was l isl points at x low less isx = by (cases_lt at to)
  where
    by : (at < to) ⊎ (to ≤ at) → is_of_row l.row x ≡ true
    by (inl below) = was l isl points at x low below isx
    by (inr above) =
        let here : at ≡ to = omega (arith, less, above) in
        let first : c ≡ l = same_Some c l (sym (slice_get-get_or cells from c lf ∙ ap Some (sym isc)) ∙ isl) in
        let next : m ≡ x = same_Some m x (sym (slice_get-get_or cells to m lt ∙ ap Some (sym ism)) ∙ ap (slice_get cells) (sym here) ∙ isx) in
        (λ i. is_of_row ((sym first) i).row ((sym next) i)) ∙ so

pub row_ends : (cells : List ListLine) (from to : ℕ) (c : ListLine) → from < length cells → c ≡ get_or cells from c → from < to → to ≤ length cells → IsRowTo cells from to → ((m : ListLine) → slice_get cells to ≡ Some m → is_of_row c.row m ≡ false)
    → (l : ListLine) → slice_get cells from ≡ Some l → is_points l.table ≡ true → EndsRow cells from to l.row
row_ends cells from to c lf isc later within is nay l isl points = record {
  within = within;
  later = later;
  each = is l isl points;
  end = by (slice_get cells to) refl;
}
  where
    first : c ≡ l
    first = same_Some c l (sym (slice_get-get_or cells from c lf ∙ ap Some (sym isc)) ∙ isl)

    by : (o : Option ListLine) → slice_get cells to ≡ o → has_row l.row (slice_get cells to) ≡ false
    by None e = ap (has_row l.row) e
    by (Some m) e = ap (has_row l.row) e ∙ ap (λ (x : ListLine). is_of_row x.row m) (sym first) ∙ nay m e

-- ---- lines that are given

drop_none : (dots : List Dot) (i : ℕ) → length dots ≤ i → drop i dots ≡ []
drop_none [] zero le = refl
drop_none [] (suc i) le = refl
drop_none (d ∷ dots) zero le = absurd (omega (arith, le))
drop_none (d ∷ dots) (suc i) le = drop_none dots i (omega (arith, le))

-- the line of the next dot, and then the others
text_cut : (metric : List ℕ) (base : ℕ) (tail : List ℕ) (dots : List Dot) (i : ℕ) (d : Dot) (old : List ℕ) → i < length dots
    → (old ++ dot_text metric base tail (get_or dots i d)) ++ row_text metric base tail (drop (i + 1) dots) ≡ old ++ row_text metric base tail (drop i dots)
text_cut metric base tail dots i d old lt =
    joined old (dot_text metric base tail (get_or dots i d)) (row_text metric base tail (drop (i + 1) dots))
    ∙ ap (λ (ds : List Dot). old ++ row_text metric base tail ds) (sym (drop_more dots i d lt))

-- a front was given, and what waits comes before the lines of the other dots
pub dots_more : (metric : List ℕ) (base : ℕ) (tail : List ℕ) (dots : List Dot) (i : ℕ) (d : Dot) (a b c : Option (List ℕ)) (all old new : List ℕ) → i < length dots
    → Gives a b all (old ++ row_text metric base tail (drop i dots)) → Gives b c (old ++ dot_text metric base tail (get_or dots i d)) new → Gives a c all (new ++ row_text metric base tail (drop (i + 1) dots))
dots_more metric base tail dots i d a b c all old new lt was gives =
    let rest = row_text metric base tail (drop (i + 1) dots) in
    gave_then a b c all (old ++ row_text metric base tail (drop i dots)) (new ++ rest) was
    (subst (λ (t : List ℕ). Gives b c t (new ++ rest)) (text_cut metric base tail dots i d old lt) (gave_with b c (old ++ dot_text metric base tail (get_or dots i d)) new rest gives))

pub dots_some : (metric : List ℕ) (base : ℕ) (tail : List ℕ) (dots : List Dot) (i : ℕ) (d : Dot) (a b c : Option (List ℕ)) (all old : List ℕ) → i < length dots
    → Gives a b all (old ++ row_text metric base tail (drop i dots)) → GivesSome b c (old ++ dot_text metric base tail (get_or dots i d)) → GivesSome a c all
dots_some metric base tail dots i d a b c all old lt was gives =
    let rest = row_text metric base tail (drop (i + 1) dots) in
    some_then a b c all (old ++ row_text metric base tail (drop i dots)) was
    (subst (GivesSome b c) (text_cut metric base tail dots i d old lt) (some_with b c (old ++ dot_text metric base tail (get_or dots i d)) rest gives))

pub dots_done : (metric : List ℕ) (base : ℕ) (tail : List ℕ) (dots : List Dot) (i : ℕ) (a b : Option (List ℕ)) (all old : List ℕ) → length dots ≤ i → Gives a b all (old ++ row_text metric base tail (drop i dots)) → Gives a b all old
dots_done metric base tail dots i a b all old le was =
    subst (Gives a b all) (ap (λ (ds : List Dot). old ++ row_text metric base tail ds) (drop_none dots i le) ∙ nothing_behind old) was

pub take_long : (dots : List Dot) (i : ℕ) → i < length dots → length (take i dots) ≡ i
take_long dots i lt = length-take-le i dots (omega (arith, lt))

-- the next of tags that have ranks
pub tag_here : (ranks : NameRanks) (ps : List (ℕ × ℕ)) (i : ℕ) (d : ℕ × ℕ) → TagsHaveRanks ranks ps → i < length ps → (get nat_cmp ranks.tag_keys (get_or ps i d).0 ≢ None) × (get nat_cmp ranks.tag_values (get_or ps i d).1 ≢ None)
tag_here ranks ps i d all lt = all (get_or ps i d) (i, lt, same_place ps i d (get_or ps i d) lt)
  where
    same_place : (xs : List (ℕ × ℕ)) (i : ℕ) (d e : ℕ × ℕ) → i < length xs → get_or xs i e ≡ get_or xs i d
    same_place xs i d e lt = same_Some (get_or xs i e) (get_or xs i d) (sym (slice_get-get_or xs i e lt) ∙ slice_get-get_or xs i d lt)

-- zeros behind bytes
pub zeros_behind : {E : Type 0} (r : Result (Unit {0}) E) (old new : List ℕ) (n m count : ℕ) → new ≡ cond (is_ok r) (take n old ++ replicate (n - m) 48) old → n ≡ m + count → m ≡ length old → OnOk r (new ≡ old ++ replicate count 48)
zeros_behind (Ok x) old new n m count e is len =
    e ∙ (λ i. take_whole old n (let w = is in omega (arith, w, len)) i ++ replicate ((let c : n - m ≡ count = omega (arith, is) in c) i) 48)
zeros_behind (Err x) old new n m count e is len = tt

-- a line that is none of ids, and none behind the last one
pub no_ids : (cells : List ListLine) (at : ℕ) (x : ListLine) → at < length cells → x ≡ get_or cells at x → is_ids x.table ≡ false → (l : ListLine) → slice_get cells at ≡ Some l → is_ids l.table ≡ false
no_ids cells at x lt is nay l isl =
    ap (λ (c : ListLine). is_ids c.table) (sym (same_Some x l (ap Some is ∙ sym (slice_get-get_or cells at x lt) ∙ isl))) ∙ nay

pub none_past : (P : ListLine → Type 0) (cells : List ListLine) (at : ℕ) → length cells ≤ at → (l : ListLine) → slice_get cells at ≡ Some l → P l
none_past P cells at le l isl = absurd (let lt = slice_get_within cells at l isl in omega (arith, lt, le))

-- a line that is of another row
pub other_row : (cells : List ListLine) (at : ℕ) (row : List ℕ) (x : ListLine) → at < length cells → x ≡ get_or cells at x → is_of_row row x ≡ false → (l : ListLine) → slice_get cells at ≡ Some l → is_of_row row l ≡ false
other_row cells at row x lt is nay l isl =
    ap (is_of_row row) (sym (same_Some x l (ap Some is ∙ sym (slice_get-get_or cells at x lt) ∙ isl))) ∙ nay

pub line_at : {X : Type 0} (cells : List X) (at : ℕ) (x : X) → at < length cells → x ≡ get_or cells at x → slice_get cells at ≡ Some x
line_at cells at x lt is = slice_get-get_or cells at x lt ∙ ap Some (sym is)

-- the dots of a cell that are taken behind all
pub cells_done : (cells : List ListLine) (i : ℕ) (dots : List Dot) → length cells ≤ i → AreDots (take i (map cell_of_line cells)) dots → AreDots (map cell_of_line cells) dots
cells_done cells i dots le are =
    subst (λ (cs : List Cell). AreDots cs dots) (take_whole (map cell_of_line cells) i (let n = length-map cells cell_of_line in omega (arith, n, le))) are

pub no_cells : (cells : List ListLine) (dots : List Dot) → dots ≡ [] → AreDots (take 0 (map cell_of_line cells)) dots
no_cells cells dots e = subst (λ (cs : List Cell). AreDots cs dots) (sym (take_none (map cell_of_line cells))) e

-- what reads so has one key
pub same_ok : {K F : Type 0} (a b : K) (r : Result K F) → ◌≡◌ {A = Result K F} (Ok a) r → r ≡ Ok b → a ≡ b
same_ok {K} {F} a b r e f = let w : ◌≡◌ {A = Result K F} (Ok a) (Ok b) = e ∙ f in cc

pub never_err : {K F : Type 0} (a : K) (f : F) (r : Result K F) → ◌≡◌ {A = Result K F} (Ok a) r → r ≡ Err f → ⊥
never_err {K} {F} a f r e g = let w : ◌≡◌ {A = Result K F} (Ok a) (Err f) = e ∙ g in cc
