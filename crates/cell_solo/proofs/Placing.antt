-- Names and rows are read back of places.
use Rattle.std.proofs.Common.{◌≡◌, ◌⊎◌, inl, inr, ℕ, zero, suc, ◌+◌, ◌/◌, ◌≤◌, ◌<◌, List, [], ◌∷◌, ◌++◌, length, take, drop, refl, sym, ap, subst, ◌∙◌, arith, append_assoc}
use Rattle.std.specs.Prelude.{Some, slice_get, slice_index_or}
use Rattle.std.specs.Option.{option_map}
use Rattle.std.proofs.Math.Seq.{take-append_seam, drop-append_seam, take-length}
use Rattle.std.proofs.lemmas.List.{append-nil, take-append-le, drop-append-le, length-append, length-drop, length-map}
use Rattle.std.proofs.lemmas.List.Elements.{All-push}
use Rattle.std.proofs.lemmas.Option.{slice_get_read, slice_get-map}
use Rattle.list_lemmas.proofs.BoolTests.{same_Some}
use Rattle.row_hours.specs.declared.hours.TheConstants.{HOUR_MILLIS}
use Rattle.row_key.specs.declared.tables.Table.{Table}
use Rattle.tsd_base.specs.TagList.{Pair}
use Rattle.tsd_base.specs.Points.{DataPoint}
use Rattle.cell_model.specs.declared.row.Row.{Row}
use Rattle.cell_solo.specs.declared.turn_places.Place.{Place}
use Rattle.cell_solo.specs.TurnNames.{told, told_tags, told_names, first_name, behind_name, tags_in}
use Rattle.cell_solo.specs.TurnPlaces.{NamedRow, named_row_of, names_at, row_at, named_row_at, places_in, IsWithin, AreWithin, HasRow, IsOnlyOfRow}

-- one part and then another
pub written_twice : (old middle new a b x y : List ℕ) → middle ≡ old ++ x → new ≡ middle ++ y → x ≡ a → y ≡ b → new ≡ old ++ (a ++ b)
written_twice old middle new a b x y m n e f = n ∙ (λ i. m i ++ f i) ∙ ap (λ (z : List ℕ). (old ++ z) ++ b) e ∙ append_assoc old a b

-- names are read back
read_first : (name more : List ℕ) → first_name (told name ++ more) ≡ name
read_first name more = take-append_seam name more

read_behind : (name more : List ℕ) → behind_name (told name ++ more) ≡ more
read_behind name more = drop-append_seam name more

pub tags_back : (tags : List Pair) (more : List ℕ) → tags_in (length tags) (told_tags tags ++ more) ≡ tags
tags_back [] more = refl
tags_back (t ∷ tags) more =
    let spread : told_tags (t ∷ tags) ++ more ≡ told t.0 ++ (told t.1 ++ (told_tags tags ++ more)) =
    append_assoc (told t.0) (told t.1 ++ told_tags tags) more ∙ ap (λ (xs : List ℕ). told t.0 ++ xs) (append_assoc (told t.1) (told_tags tags) more) in
    let behind : behind_name (told_tags (t ∷ tags) ++ more) ≡ told t.1 ++ (told_tags tags ++ more) = ap behind_name spread ∙ read_behind t.0 _ in
    let one : first_name (told_tags (t ∷ tags) ++ more) ≡ t.0 = ap first_name spread ∙ read_first t.0 _ in
    let two : first_name (behind_name (told_tags (t ∷ tags) ++ more)) ≡ t.1 = ap first_name behind ∙ read_first t.1 _ in
    let rest : behind_name (behind_name (told_tags (t ∷ tags) ++ more)) ≡ told_tags tags ++ more = ap behind_name behind ∙ read_behind t.1 _ in
    λ i. (one i, two i) ∷ (ap (tags_in (length tags)) rest ∙ tags_back tags more) i

told_more : (pairs : List Pair) (i : ℕ) (p : Pair) → i < length pairs → p ≡ slice_index_or pairs i p → told_tags (take (suc i) pairs) ≡ told_tags (take i pairs) ++ (told p.0 ++ told p.1)
told_more [] i p lt e = absurd (omega (arith, lt))
told_more (t ∷ pairs) zero p lt e = ap (λ (xs : List ℕ). told t.0 ++ xs) (append-nil (told t.1)) ∙ ap (λ (q : Pair). told q.0 ++ told q.1) (sym e)
told_more (t ∷ pairs) (suc i) p lt e =
    ap (λ (xs : List ℕ). told t.0 ++ (told t.1 ++ xs)) (told_more pairs i p (omega (arith, lt)) e)
    ∙ ap (λ (xs : List ℕ). told t.0 ++ xs) (sym (append_assoc (told t.1) (told_tags (take i pairs)) (told p.0 ++ told p.1)))
    ∙ sym (append_assoc (told t.0) (told t.1 ++ told_tags (take i pairs)) (told p.0 ++ told p.1))

-- one more pair of names
pub told_next : (pairs : List Pair) (i : ℕ) (p : Pair) (old before middle new : List ℕ) → i < length pairs → p ≡ slice_index_or pairs i p
    → before ≡ old ++ told_tags (take i pairs) → middle ≡ before ++ told p.0 → new ≡ middle ++ told p.1 → new ≡ old ++ told_tags (take (i + 1) pairs)
told_next pairs i p old before middle new lt e b m n =
    let next : i + 1 ≡ suc i = omega arith in
    written_twice before middle new (told p.0) (told p.1) (told p.0) (told p.1) m n refl refl
    ∙ ap (λ (xs : List ℕ). xs ++ (told p.0 ++ told p.1)) b ∙ append_assoc old (told_tags (take i pairs)) (told p.0 ++ told p.1)
    ∙ ap (λ (xs : List ℕ). old ++ xs) (sym (told_more pairs i p lt e)) ∙ ap (λ (k : ℕ). old ++ told_tags (take k pairs)) (sym next)

-- names and row are read back
pub named_row_back : (point : DataPoint) (row : Row) (hour : ℕ) (table : Table) (n : ℕ) (names bytes : List ℕ) → hour ≡ point.time / HOUR_MILLIS → table ≡ row.table → n ≡ length point.tags
    → names ≡ told_names point.metric point.tags → bytes ≡ row.bytes
    → ◌≡◌ {A = NamedRow} (record { metric = first_name names; tags = tags_in n (behind_name names); hour = hour; row = record { table = table; bytes = bytes } }) (named_row_of point row)
named_row_back point row hour table n names bytes h t m e b =
    let metric : first_name names ≡ point.metric = ap first_name e ∙ read_first point.metric (told_tags point.tags) in
    let behind : behind_name names ≡ told_tags point.tags ++ [] = ap behind_name e ∙ read_behind point.metric (told_tags point.tags) ∙ sym (append-nil (told_tags point.tags)) in
    let tags : tags_in n (behind_name names) ≡ point.tags = (λ i. tags_in (m i) (behind i)) ∙ tags_back point.tags [] in
    λ i. record { metric = metric i; tags = tags i; hour = h i; row = record { table = t i; bytes = b i } }

-- bytes stay where more are put behind
piece_kept : (at n : ℕ) (block more : List ℕ) → at + n ≤ length block → take n (drop at (block ++ more)) ≡ take n (drop at block)
piece_kept at n block more within =
    let starts : at ≤ length block = omega (arith, within) in
    let lies : n ≤ length (drop at block) = omega (arith, within, length-drop at block) in
    ap (take n) (drop-append-le at block more starts) ∙ take-append-le n (drop at block) more lies

-- a place keeps its bytes
place_kept : (p : Place) (block more : List ℕ) → IsWithin block p → named_row_at (block ++ more) p ≡ named_row_at block p
place_kept p block more within =
    let names : names_at (block ++ more) p ≡ names_at block p = piece_kept p.start p.names block more (omega (arith, within)) in
    let row : row_at (block ++ more) p ≡ row_at block p = piece_kept (p.start + p.names) p.row block more (omega (arith, within)) in
    λ i. record { metric = first_name (names i); tags = tags_in p.tags (behind_name (names i)); hour = p.hour; row = record { table = p.table; bytes = row i } }

places-push : (places : List Place) (block more : List ℕ) (p : Place) → AreWithin places block → places_in (places ++ p ∷ []) (block ++ more) ≡ places_in places block ++ named_row_at (block ++ more) p ∷ []
places-push [] block more p within = refl
places-push (x ∷ places) block more p within =
    let first : IsWithin block x = within zero x (omega arith) in
    let rest : AreWithin places block = λ k d lt. within (suc k) d (omega (arith, lt)) in
    λ i. place_kept x block more first i ∷ places-push places block more p rest i

-- what a place that is added makes of places
pub record Added (places : List Place) (block : List ℕ) (was : List NamedRow) (place : NamedRow) : Type 0 where
  pub within : AreWithin places block
  pub list : places_in places block ≡ was ++ place ∷ []

pub added : (places : List Place) (block : List ℕ) (point : DataPoint) (row : Row) (p : Place) (places' : List Place) (middle block' : List ℕ)
    → AreWithin places block → middle ≡ block ++ told_names point.metric point.tags → block' ≡ middle ++ row.bytes → places' ≡ places ++ p ∷ []
    → p.start ≡ length block → p.names ≡ length (told_names point.metric point.tags) → p.row ≡ length row.bytes → p.hour ≡ point.time / HOUR_MILLIS → p.table ≡ row.table → p.tags ≡ length point.tags
    → Added places' block' (places_in places block) (named_row_of point row)
added places block point row p places' middle block' within em eb ep start names len hour table tags =
    let told = told_names point.metric point.tags in
    let part = told ++ row.bytes in
    let whole : block' ≡ block ++ part = written_twice block middle block' told row.bytes told row.bytes em eb refl refl in
    let own : names_at (block ++ part) p ≡ told =
    (λ i. take (names i) (drop (start i) (block ++ part))) ∙ ap (take (length told)) (drop-append_seam block part) ∙ take-append_seam told row.bytes in
    let ends : p.start + p.names ≡ length (block ++ told) = omega (arith, start, names, length-append block told) in
    let row_own : row_at (block ++ part) p ≡ row.bytes =
    (λ i. take (len i) (drop (ends i) (sym (append_assoc block told row.bytes) i))) ∙ ap (take (length row.bytes)) (drop-append_seam (block ++ told) row.bytes) ∙ take-length row.bytes in
    let here : IsWithin (block ++ part) p = omega (arith, start, names, len, length-append block part, length-append told row.bytes) in
    let there : AreWithin places (block ++ part) = λ k d lt. (let w = within k d lt in omega (arith, w, length-append block part)) in
    let both : AreWithin (places ++ p ∷ []) (block ++ part) = All-push (IsWithin (block ++ part)) places p there here in
    record {
      within = subst (λ (ps : List Place). AreWithin ps block') (sym ep) (subst (AreWithin (places ++ p ∷ [])) (sym whole) both);
      list = (λ i. places_in (ep i) (whole i)) ∙ places-push places block part p within
          ∙ ap (λ (r : NamedRow). places_in places block ++ r ∷ []) (named_row_back point row p.hour p.table p.tags (names_at (block ++ part) p) (row_at (block ++ part) p) hour table tags own row_own);
    }

-- the last element that was put behind
pub slice_get-push : {A : Type 0} (xs : List A) (y : A) → slice_get (xs ++ y ∷ []) (length xs) ≡ Some y
slice_get-push [] y = refl
slice_get-push (x ∷ xs) y = slice_get-push xs y

-- elements stay where more is put behind
pub slice_get-append_left : {A : Type 0} (xs ys : List A) (k : ℕ) → k < length xs → slice_get (xs ++ ys) k ≡ slice_get xs k
slice_get-append_left [] ys k lt = absurd (omega (arith, lt))
slice_get-append_left (x ∷ xs) ys zero lt = refl
slice_get-append_left (x ∷ xs) ys (suc k) lt = slice_get-append_left xs ys k (omega (arith, lt))

-- the place that was added has the number that was told
pub number_added : (places : List Place) (block : List ℕ) (place : NamedRow) (new : List NamedRow) (number : ℕ) → number ≡ length places → new ≡ places_in places block ++ place ∷ [] → slice_get new number ≡ Some place
number_added places block place new number n e =
    (λ i. slice_get (e i) ((n ∙ sym (length-map places (named_row_at block))) i)) ∙ slice_get-push (places_in places block) place

-- the place that was found is of the row
pub row_found : (places : List Place) (block : List ℕ) (number : ℕ) (p : Place) (row : Row) → number < length places → p ≡ slice_index_or places number p → p.table ≡ row.table → row_at block p ≡ row.bytes
    → HasRow (places_in places block) number row
row_found places block number p row lt is t b = record {
  place = named_row_at block p;
  stands = slice_get-map (named_row_at block) places number ∙ ap (option_map (named_row_at block)) (slice_get_read places (length places) number p refl lt is);
  row_is = λ i. record { table = t i; bytes = b i };
}

-- so it is the one of the names and the hour that the row has alone
pub only_found : (list : List NamedRow) (named : NamedRow) (number : ℕ) → IsOnlyOfRow list named → HasRow list number named.row → slice_get list number ≡ Some named
only_found list named number only has = has.stands ∙ ap Some (only.each number has.place has.stands has.row_is)

-- an element of a list with one more is the last one, or was there before
pub got_push : {A : Type 0} (xs : List A) (y z : A) (k : ℕ) → slice_get (xs ++ y ∷ []) k ≡ Some z → (y ≡ z) ⊎ (slice_get xs k ≡ Some z)
got_push [] y z zero e = inl (same_Some y z e)
got_push [] y z (suc k) e = inr e
got_push (x ∷ xs) y z zero e = inr e
got_push (x ∷ xs) y z (suc k) e = got_push xs y z k e
