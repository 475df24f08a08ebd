-- What was packed last is unpacked last.
use Rattle.std.proofs.Common.{◌≡◌, ◌⊎◌, inl, inr, ℕ, zero, suc, ◌+◌, ◌*◌, ◌/◌, ◌%◌, ◌^◌, ◌≤◌, ◌<◌, cond, List, [], ◌∷◌, ◌++◌, length, take, drop, refl, sym, ap, subst, ◌∙◌, arith}
use Rattle.std.specs.Prelude.{sum_by, count_by, nat_eq, ℤ, Bool, true, false, if◌then◌else◌, All, Some, slice_get}
use mir.Val.{bits}
use Rattle.std.specs.Int.{to_be_bytes, from_be_bytes, cast_unsigned, cast_signed}
use Rattle.std.proofs.lemmas.Nat.{from_be_bytes-to_be_bytes_2, from_be_bytes-to_be_bytes_4, from_be_bytes-to_be_bytes_8}
use Rattle.std.proofs.Math.Facts.{Fits-of_z}
use Rattle.std.proofs.lemmas.Int.{to_z-of_z}
use Rattle.std.proofs.Math.Seq.{take-append_seam, drop-append_seam, take-length}
use Rattle.std.proofs.lemmas.List.{append-nil, take-append-le, drop-append-le, length-append, length-drop}
use Rattle.std.proofs.lemmas.List.Elements.{All-push}
use Rattle.std.proofs.lemmas.Option.{slice_get_within}
use Rattle.std.proofs.lemmas.List.Sums.{sum_by-cons, sum_by_push}
use Rattle.row_hours.specs.declared.hours.TheConstants.{HOUR_MILLIS}
use Rattle.tsd_base.specs.Points.{DataPoint}
use Rattle.qual_codec.specs.Items.{IsLength, item_bytes}
use Rattle.qual_codec.specs.Items.IsLength.{one, two, four, eight}
use Rattle.qual_codec.specs.CellDots.{width_of}
use Rattle.qual_codec.specs.Spelling.{IsShortest}
use Rattle.tsd_base.specs.declared.kinds.Kind.{Kind}
use Rattle.cell_model.specs.declared.row.Row.{Row}
use Rattle.cell_model.specs.KindWidths.{Widths}
use Rattle.cell_model.specs.Layout.{IsLayout}
use Rattle.row_key.specs.declared.tables.Table.{Table}
use Rattle.cell_model.specs.declared.events.Step.{Step}
use Rattle.cell_model.specs.declared.events.Step.TheVariants.{NextRow, PutPoint, AppendPoint}
use Rattle.cell_model.specs.Readings.{store_step}
use Rattle.cell_solo.specs.declared.turns.Head.{Head}
use Rattle.cell_solo.specs.declared.turns.Head.TheVariants as head
use Rattle.cell_solo.specs.declared.turns.Dropped.{Dropped}
use Rattle.cell_solo.specs.Turns.{Turn}
use Rattle.cell_solo.specs.declared.turn_bytes.CellLengths.{CellLengths}
use Rattle.cell_solo.specs.TurnPlaces.{NamedRow, named_row_of, HasAlso, IsOnlyOfRow}
use Rattle.cell_solo.specs.PackedTurns.{row_in, qual_in, value_in, number_in, put_at, cell_size, caller_of, step_in, size_of, drops_of, places_of, unpacked, IsPutAmong, IsOnlyPut, Fills}
use Rattle.cell_solo.proofs.Placing.{slice_get-append_left, slice_get-push, got_push}

none : {A : Type 0} (xs : List A) → 0 ≡ length xs → xs ≡ []
none [] e = refl
none (x ∷ xs) e = absurd (omega (arith, e))

-- the head's turn, of these parts
abbrev pub turn_in : List NamedRow → Head → List ℕ → List Dropped → Turn
turn_in places h bytes drops = record { caller = caller_of h; step = step_in h bytes drops places }

-- the parts are as many as the head says
pub record HasParts (h : Head) (bytes : List ℕ) (drops : List Dropped) : Type 0 where
  pub bytes_are : size_of h ≡ length bytes
  pub drops_are : drops_of h ≡ length drops

whole : {A : Type 0} (n : ℕ) (xs : List A) → n ≡ length xs → take n xs ≡ xs
whole n xs e = ap (λ (m : ℕ). take m xs) e ∙ take-length xs

pub unpacked-push : (heads : List Head) (bytes : List ℕ) (drops : List Dropped) (places : List NamedRow) (h : Head) (b : List ℕ) (d : List Dropped)
    → sum_by size_of heads ≡ length bytes → sum_by drops_of heads ≡ length drops → HasParts h b d
    → unpacked (heads ++ h ∷ []) (bytes ++ b) (drops ++ d) places ≡ unpacked heads bytes drops places ++ turn_in places h b d ∷ []
unpacked-push [] bytes drops ps h b d bytes_fit drops_fit parts =
    let no_bytes : bytes ≡ [] = none bytes bytes_fit in
    let no_drops : drops ≡ [] = none drops drops_fit in
    let own : turn_in ps h (take (size_of h) (bytes ++ b)) (take (drops_of h) (drops ++ d)) ≡ turn_in ps h b d =
    (λ i. turn_in ps h (take (size_of h) (no_bytes i ++ b)) (take (drops_of h) (no_drops i ++ d)))
    ∙ (λ i. turn_in ps h (whole _ b parts.bytes_are i) (whole _ d parts.drops_are i)) in
    ap (λ (t : Turn). t ∷ []) own
unpacked-push (x ∷ heads) bytes drops ps h b d bytes_fit drops_fit parts =
    let bytes_sum : size_of x + sum_by size_of heads ≡ length bytes = sym (sum_by-cons size_of x heads) ∙ bytes_fit in
    let bytes_in : size_of x ≤ length bytes = omega arith in
    let drops_sum : drops_of x + sum_by drops_of heads ≡ length drops = sym (sum_by-cons drops_of x heads) ∙ drops_fit in
    let drops_in : drops_of x ≤ length drops = omega arith in
    let bytes_rest : sum_by size_of heads ≡ length (drop (size_of x) bytes) = omega (arith, length-drop (size_of x) bytes) in
    let drops_rest : sum_by drops_of heads ≡ length (drop (drops_of x) drops) = omega (arith, length-drop (drops_of x) drops) in
    (λ i. turn_in ps x (take-append-le (size_of x) bytes b bytes_in i) (take-append-le (drops_of x) drops d drops_in i)
    ∷ unpacked (heads ++ h ∷ []) (drop-append-le (size_of x) bytes b bytes_in i) (drop-append-le (drops_of x) drops d drops_in i) ps)
    ∙ ap (λ (ts : List Turn). turn_in ps x (take (size_of x) bytes) (take (drops_of x) drops) ∷ ts)
    (unpacked-push heads (drop (size_of x) bytes) (drop (drops_of x) drops) ps h b d bytes_rest drops_rest parts)

-- steps keep their places where more places are put behind
step-kept : (h : Head) (bytes : List ℕ) (drops : List Dropped) (places more : List NamedRow) → places_of h ≤ length places
    → step_in h bytes drops (places ++ more) ≡ step_in h bytes drops places
step-kept (head.Open caller) bytes drops places more le = refl
step-kept (head.Read caller table row) bytes drops places more le = refl
step-kept (head.NextRow caller table from to) bytes drops places more le = refl
step-kept (head.Bump caller kind) bytes drops places more le = refl
step-kept (head.Claim caller table cell) bytes drops places more le = refl
step-kept (head.PutPoint caller appends fine value place offset) bytes drops places more le = ap (put_at appends fine offset bytes) (slice_get-append_left places more place (omega (arith, le)))
step-kept (head.PutMerged caller table cell) bytes drops places more le = refl
step-kept (head.DropCells caller) bytes [] places more le = refl
step-kept (head.DropCells caller) bytes (d ∷ drops) places more le = refl

unpacked-kept : (heads : List Head) (bytes : List ℕ) (drops : List Dropped) (places more : List NamedRow) → All (λ (h : Head). places_of h ≤ length places) heads
    → unpacked heads bytes drops (places ++ more) ≡ unpacked heads bytes drops places
unpacked-kept [] bytes drops places more there = refl
unpacked-kept (h ∷ heads) bytes drops places more there =
    let first : places_of h ≤ length places = there zero h (omega arith) in
    let rest : All (λ (h : Head). places_of h ≤ length places) heads = λ k d lt. there (suc k) d (omega (arith, lt)) in
    let step = step-kept h (take (size_of h) bytes) (take (drops_of h) drops) places more first in
    let others = unpacked-kept heads (drop (size_of h) bytes) (drop (drops_of h) drops) places more rest in
    λ i. record { caller = caller_of h; step = step i } ∷ others i

-- what a head, its parts and its place make of packed turns
pub record Pushed (heads : List Head) (bytes : List ℕ) (drops : List Dropped) (places : List NamedRow) (was : List Turn) (turn : Turn) : Type 0 where
  pub fills : Fills heads bytes drops places
  pub list : unpacked heads bytes drops places ≡ was ++ turn ∷ []

-- a put stays among turns, and one that comes behind them is among them
put_still : (turns : List Turn) (turn : Turn) (p : NamedRow) → IsPutAmong turns p → IsPutAmong (turns ++ turn ∷ []) p
put_still turns turn p put =
    let within : put.at < length turns = slice_get_within turns put.at _ put.stands in
    record { at = put.at; caller = put.caller; appends = put.appends; point = put.point; qual = put.qual; value = put.value; stands = slice_get-append_left turns (turn ∷ []) put.at within ∙ put.stands; named = put.named }

put_last : (turns : List Turn) (caller : ℕ) (appends : Bool) (point : DataPoint) (row : Row) (qual value : List ℕ) → IsPutAmong (turns ++ record { caller = caller; step = store_step appends point row qual value } ∷ []) (named_row_of point row)
put_last turns caller appends point row qual value = record { at = length turns; caller = caller; appends = appends; point = point; qual = qual; value = value; stands = slice_get-push turns _; named = refl }

-- each place was there, or is that of a put among these turns
abbrev pub ArePut : List NamedRow → List NamedRow → List Turn → Type 0
ArePut places places' turns = (k : ℕ) (p : NamedRow) → slice_get places' k ≡ Some p → (slice_get places k ≡ Some p) ⊎ IsPutAmong turns p

pub pushed : (heads : List Head) (bytes : List ℕ) (drops : List Dropped) (places : List NamedRow) (h : Head) (b : List ℕ) (d : List Dropped) (more : List NamedRow) (step : Step)
    (heads' : List Head) (bytes' : List ℕ) (drops' : List Dropped) (places' : List NamedRow)
    → Fills heads bytes drops places → HasParts h b d → places_of h ≤ length places' → step_in h b d places' ≡ step
    → heads' ≡ heads ++ h ∷ [] → bytes' ≡ bytes ++ b → drops' ≡ drops ++ d → places' ≡ places ++ more
    → ArePut places places' (unpacked heads bytes drops places ++ record { caller = caller_of h; step = step } ∷ [])
    → Pushed heads' bytes' drops' places' (unpacked heads bytes drops places) (record { caller = caller_of h; step = step })
pushed heads bytes drops places h b d more step heads' bytes' drops' places' fills parts there is eh eb ed ep put =
    let longer : length places ≤ length places' = omega (arith, ap length ep, length-append places more) in
    let all : All (λ (x : Head). places_of x ≤ length places') heads = λ k x lt. (let le = fills.places_there k x lt in omega (arith, le, longer)) in
    let was = unpacked heads bytes drops places in
    let turn : Turn = record { caller = caller_of h; step = step } in
    let list : unpacked heads' bytes' drops' places' ≡ was ++ turn ∷ [] =
    (λ i. unpacked (eh i) (eb i) (ed i) places') ∙ unpacked-push heads bytes drops places' h b d fills.bytes_fit fills.drops_fit parts
    ∙ ap (λ (ts : List Turn). ts ++ turn_in places' h b d ∷ []) (ap (unpacked heads bytes drops) ep ∙ unpacked-kept heads bytes drops places more fills.places_there)
    ∙ ap (λ (s : Step). was ++ record { caller = caller_of h; step = s } ∷ []) is in
    record {
      fills = record {
        bytes_fit = ap (sum_by size_of) eh ∙ sum_by_push size_of heads h ∙ (let f = fills.bytes_fit in let p = parts.bytes_are in omega (arith, f, p, length-append bytes b)) ∙ ap length (sym eb);
        drops_fit = ap (sum_by drops_of) eh ∙ sum_by_push drops_of heads h ∙ (let f = fills.drops_fit in let p = parts.drops_are in omega (arith, f, p, length-append drops d)) ∙ ap length (sym ed);
        places_there = subst (All (λ (x : Head). places_of x ≤ length places')) (sym eh) (All-push (λ (x : Head). places_of x ≤ length places') heads h all there);
        places_put = λ k p s. subst (λ (ts : List Turn). IsPutAmong ts p) (sym list) (elim (put k p s) [ inl old ↦ put_still was turn p (fills.places_put k p old) | inr new ↦ new ]);
      };
      list = list;
    }

-- the same of a step that has no place
pub pushed_alone : (heads : List Head) (bytes : List ℕ) (drops : List Dropped) (places : List NamedRow) (h : Head) (b : List ℕ) (d : List Dropped) (step : Step)
    (heads' : List Head) (bytes' : List ℕ) (drops' : List Dropped)
    → Fills heads bytes drops places → HasParts h b d → places_of h ≡ 0 → step_in h b d places ≡ step
    → heads' ≡ heads ++ h ∷ [] → bytes' ≡ bytes ++ b → drops' ≡ drops ++ d
    → Pushed heads' bytes' drops' places (unpacked heads bytes drops places) (record { caller = caller_of h; step = step })
pushed_alone heads bytes drops places h b d step heads' bytes' drops' fills parts placeless is eh eb ed =
    pushed heads bytes drops places h b d [] step heads' bytes' drops' places fills parts (omega (arith, placeless)) is eh eb ed (sym (append-nil places)) (λ k p s. inl s)

-- nothing is put behind
pub same : {A : Type 0} (xs ys : List A) → ys ≡ xs → ys ≡ xs ++ []
same xs ys e = e ∙ sym (append-nil xs)

pub length-unpacked : (heads : List Head) (bytes : List ℕ) (drops : List Dropped) (places : List NamedRow) → length (unpacked heads bytes drops places) ≡ length heads
length-unpacked [] bytes drops places = refl
length-unpacked (h ∷ heads) bytes drops places = ap suc (length-unpacked heads _ _ places)

pub count-unpacked : (caller : ℕ) (heads : List Head) (bytes : List ℕ) (drops : List Dropped) (ps : List NamedRow)
    → count_by (λ (t : Turn). nat_eq t.caller caller) (unpacked heads bytes drops ps) ≡ count_by (λ (h : Head). nat_eq (caller_of h) caller) heads
count-unpacked caller [] bytes drops ps = refl
count-unpacked caller (h ∷ heads) bytes drops ps =
    sum_by-cons (λ (t : Turn). cond (nat_eq t.caller caller) 1 0) (turn_in ps h (take (size_of h) bytes) (take (drops_of h) drops)) (unpacked heads (drop (size_of h) bytes) (drop (drops_of h) drops) ps)
    ∙ ap (λ (n : ℕ). cond (nat_eq (caller_of h) caller) 1 0 + n) (count-unpacked caller heads (drop (size_of h) bytes) (drop (drops_of h) drops) ps)
    ∙ sym (sum_by-cons (λ (x : Head). cond (nat_eq (caller_of x) caller) 1 0) h heads)

-- the parts of a cell are read back
abbrev pub lengths_of : List ℕ → List ℕ → List ℕ → CellLengths
lengths_of row qual value = record { row = length row; qual = length qual; value = length value }

abbrev pub cell_bytes : List ℕ → List ℕ → List ℕ → List ℕ
cell_bytes row qual value = row ++ (qual ++ value)

pub cell_length : (cell : CellLengths) (row qual value : List ℕ) → cell ≡ lengths_of row qual value → cell_size cell ≡ length (cell_bytes row qual value)
cell_length cell row qual value e = ap cell_size e ∙ omega (arith, length-append row (qual ++ value), length-append qual value)

pub cell_back : (make : List ℕ → List ℕ → List ℕ → Step) (cell : CellLengths) (row qual value bytes : List ℕ) → cell ≡ lengths_of row qual value → bytes ≡ cell_bytes row qual value
    → make (take cell.row bytes) (qual_in cell bytes) (value_in cell bytes) ≡ make row qual value
cell_back make cell row qual value bytes e same =
    let one : take (length row) (cell_bytes row qual value) ≡ row = take-append_seam row (qual ++ value) in
    let rest : drop (length row) (cell_bytes row qual value) ≡ qual ++ value = drop-append_seam row (qual ++ value) in
    let two : take (length qual) (drop (length row) (cell_bytes row qual value)) ≡ qual = ap (take (length qual)) rest ∙ take-append_seam qual value in
    let three : take (length value) (drop (length qual) (drop (length row) (cell_bytes row qual value))) ≡ value =
    ap (λ (xs : List ℕ). take (length value) (drop (length qual) xs)) rest ∙ ap (take (length value)) (drop-append_seam qual value) ∙ take-length value in
    (λ i. make (take (e i).row (same i)) (qual_in (e i) (same i)) (value_in (e i) (same i))) ∙ (λ i. make (one i) (two i) (three i))

pub row_back : (row : Row) (bytes : List ℕ) → bytes ≡ row.bytes → row_in row.table (length bytes) bytes ≡ row
row_back row bytes e = λ i. record { table = row.table; bytes = (take-length bytes ∙ e) i }

pub range_length : (from to from' to' : List ℕ) → from' ≡ from → to' ≡ to → length from' + length to' ≡ length (from ++ to)
range_length from to from' to' e f = (λ i. length (e i) + length (f i)) ∙ sym (length-append from to)

pub range_back : (table : Table) (from to from' to' : List ℕ) → from' ≡ from → to' ≡ to
    → ◌≡◌ {A = Step} (NextRow table (take (length from') (from ++ to)) (take (length to') (drop (length from') (from ++ to)))) (NextRow table from to)
range_back table from to from' to' e f =
    (λ i. NextRow table (take (length (e i)) (from ++ to)) (take (length (f i)) (drop (length (e i)) (from ++ to))))
    ∙ (λ i. NextRow table (take-append_seam from to i) ((ap (take (length to)) (drop-append_seam from to) ∙ take-length to) i))

-- a number is read back of its bytes
number_again : (len n : ℕ) → IsLength len → n < 2 ^ bits (width_of len) → from_be_bytes (width_of len) (to_be_bytes (width_of len) n) ≡ n
number_again _ n one lt = omega (arith, lt)
number_again _ n two lt = from_be_bytes-to_be_bytes_2 n lt
number_again _ n four lt = from_be_bytes-to_be_bytes_4 n lt
number_again _ n eight lt = from_be_bytes-to_be_bytes_8 n lt

pub number_back : (value : ℤ) (bytes : List ℕ) → IsShortest value bytes → number_in bytes ≡ value
number_back value bytes shortest =
    let w = width_of (length bytes) in
    let lt : cast_unsigned w value < 2 ^ bits w = (Fits-of_z shortest.fits).fits in
    ap (λ (bs : List ℕ). cast_signed w (from_be_bytes w bs)) shortest.bytes_are ∙ ap (cast_signed w) (number_again (length bytes) (cast_unsigned w value) shortest.len lt) ∙ to_z-of_z w value shortest.fits

pub short_value : (value : ℤ) (bytes : List ℕ) → IsShortest value bytes → length bytes ≤ 8
short_value value bytes shortest = at (length bytes) shortest.len
  where
    at : (n : ℕ) → IsLength n → n ≤ 8
    at _ one = omega arith
    at _ two = omega arith
    at _ four = omega arith
    at _ eight = omega arith

-- the one item of a point with this value
abbrev pub item_of : DataPoint → List ℕ → List ℕ
item_of point value = item_bytes (record { offset = point.time % HOUR_MILLIS; fine = point.fine; len = length value })

-- the put or the append of a point with this value, whose qualifier is one item
abbrev pub item_step : Bool → DataPoint → Row → List ℕ → Step
item_step appends point row value = store_step appends point row (item_of point value) value

-- a layout's qualifier is that item
layout_qual : {w : Widths} (ids : Kind → List ℕ → ℕ) (point : DataPoint) (row : Row) (qual value : List ℕ) → IsLayout w ids point row.bytes qual value → qual ≡ item_of point value
layout_qual ids point row qual value layout = layout.dot.items.qual_is ∙ append-nil (item_of point value)

-- a put of a point's layout is that of its one item
pub put_of_layout : {w : Widths} (ids : Kind → List ℕ → ℕ) (turns new : List Turn) (caller : ℕ) (point : DataPoint) (row : Row) (qual value value' : List ℕ) → IsLayout w ids point row.bytes qual value → value' ≡ value
    → new ≡ turns ++ record { caller = caller; step = item_step false point row value' } ∷ [] → new ≡ turns ++ record { caller = caller; step = PutPoint point row qual value } ∷ []
put_of_layout ids turns new caller point row qual value value' layout same is =
    is ∙ (λ i. turns ++ record { caller = caller; step = item_step false point row (same i) } ∷ [])
    ∙ ap (λ (q : List ℕ). turns ++ record { caller = caller; step = PutPoint point row q value } ∷ []) (sym (layout_qual ids point row qual value layout))

-- an item has 4 bytes where it is fine, else 2
item_length : (point : DataPoint) (value : List ℕ) → length (item_of point value) ≡ (if point.fine then 4 else 2)
item_length point value = at point.fine
  where
    at : (fine : Bool) → length (item_bytes (record { offset = point.time % HOUR_MILLIS; fine = fine; len = length value })) ≡ (if fine then 4 else 2)
    at true = refl
    at false = refl

-- what is known of the piece of an append: it is a point's one item, and then its value
pub record IsPieceOf (point : DataPoint) (piece value : List ℕ) : Type 0 where
  pub long : (if point.fine then 4 else 2) ≤ length piece
  pub value_is : drop (if point.fine then 4 else 2) piece ≡ value
  pub piece_is : piece ≡ item_of point value ++ value

pub piece_of : {w : Widths} (ids : Kind → List ℕ → ℕ) (point : DataPoint) (row : Row) (piece qual value : List ℕ) → IsLayout w ids point row.bytes qual value → piece ≡ qual ++ value → IsPieceOf point piece value
piece_of ids point row piece qual value layout is =
    let item = item_of point value in
    let whole_is : piece ≡ item ++ value = is ∙ ap (λ (q : List ℕ). q ++ value) (layout_qual ids point row qual value layout) in
    let len = item_length point value in
    record {
      long = omega (arith, ap length whole_is, length-append item value, len);
      value_is = (λ i. drop (sym len i) (whole_is i)) ∙ drop-append_seam item value;
      piece_is = whole_is;
    }

-- an append of that value is one of the piece
pub append_of_piece : (turns new : List Turn) (caller : ℕ) (point : DataPoint) (row : Row) (piece value value' : List ℕ) → IsPieceOf point piece value → value' ≡ drop (if point.fine then 4 else 2) piece
    → new ≡ turns ++ record { caller = caller; step = item_step true point row value' } ∷ [] → new ≡ turns ++ record { caller = caller; step = AppendPoint point row piece } ∷ []
append_of_piece turns new caller point row piece value value' of_point v is =
    let value_is : value' ≡ value = v ∙ of_point.value_is in
    is ∙ ap (λ (bs : List ℕ). turns ++ record { caller = caller; step = AppendPoint point row bs } ∷ []) (ap (λ (xs : List ℕ). item_of point xs ++ xs) value_is ∙ sym of_point.piece_is)

-- a put or an append is read back of its place, of its time within the hour, and of its value
pub put_back : (appends : Bool) (point : DataPoint) (row : Row) (value : List ℕ) (place : ℕ) (places : List NamedRow) → IsShortest point.value value → slice_get places place ≡ Some (named_row_of point row)
    → put_at appends point.fine (point.time % HOUR_MILLIS) value (slice_get places place) ≡ item_step appends point row value
put_back appends point row value place places shortest e =
    let time : point.time / HOUR_MILLIS * HOUR_MILLIS + point.time % HOUR_MILLIS ≡ point.time = omega arith in
    ap (put_at appends point.fine (point.time % HOUR_MILLIS) value) e
    ∙ (λ i. store_step appends (record { metric = point.metric; tags = point.tags; time = time i; fine = point.fine; value = number_back point.value value shortest i }) row (item_of point value) value)

-- a place that is there, or comes behind the others, is that of the put or the append
put_also : (places places' : List NamedRow) (turns : List Turn) (caller : ℕ) (appends : Bool) (point : DataPoint) (row : Row) (qual value : List ℕ) → HasAlso places (named_row_of point row) places'
    → ArePut places places' (turns ++ record { caller = caller; step = store_step appends point row qual value } ∷ [])
put_also places places' turns caller appends point row qual value (inl same) k p s = inl (subst (λ (ps : List NamedRow). slice_get ps k ≡ Some p) same s)
put_also places places' turns caller appends point row qual value (inr more) k p s =
    elim (got_push places (named_row_of point row) p k (subst (λ (ps : List NamedRow). slice_get ps k ≡ Some p) more s)) [
      | inl last ↦ inr (subst (IsPutAmong (turns ++ record { caller = caller; step = store_step appends point row qual value } ∷ [])) last (put_last turns caller appends point row qual value))
      | inr old ↦ inl old
    ]

goes_on : (places places' : List NamedRow) (named : NamedRow) → HasAlso places named places' → (more : List NamedRow) × (places' ≡ places ++ more)
goes_on places places' named (inl e) = ([], same places places' e)
goes_on places places' named (inr e) = (named ∷ [], e)

-- what was put among the turns is what is known of the places
pub only_there : (heads : List Head) (bytes : List ℕ) (drops : List Dropped) (places : List NamedRow) (named : NamedRow) → Fills heads bytes drops places → IsOnlyPut (unpacked heads bytes drops places) named
    → IsOnlyOfRow places named
only_there heads bytes drops places named fills only = record { each = λ k p s. only.each p (fills.places_put k p s) }

-- what a put or an append of a point makes of packed turns
pub put_pushed : (heads : List Head) (bytes : List ℕ) (drops : List Dropped) (places : List NamedRow) (caller : ℕ) (appends : Bool) (point : DataPoint) (row : Row) (value : List ℕ) (place : ℕ)
    (heads' : List Head) (bytes' : List ℕ) (places' : List NamedRow)
    → Fills heads bytes drops places → IsShortest point.value value → slice_get places' place ≡ Some (named_row_of point row) → HasAlso places (named_row_of point row) places'
    → heads' ≡ heads ++ head.PutPoint caller appends point.fine (length value) place (point.time % HOUR_MILLIS) ∷ [] → bytes' ≡ bytes ++ value
    → Pushed heads' bytes' drops places' (unpacked heads bytes drops places) (record { caller = caller; step = item_step appends point row value })
put_pushed heads bytes drops places caller appends point row value place heads' bytes' places' fills shortest stands also eh eb =
    let within : place < length places' = slice_get_within places' place (named_row_of point row) stands in
    let there : place + 1 ≤ length places' = omega (arith, within) in
    let more = goes_on places places' (named_row_of point row) also in
    pushed heads bytes drops places (head.PutPoint caller appends point.fine (length value) place (point.time % HOUR_MILLIS)) value [] more.0 (item_step appends point row value)
    heads' bytes' drops places' fills (record { bytes_are = refl; drops_are = refl }) there
    (put_back appends point row value place places' shortest stands) eh eb (same drops drops refl) more.1
    (put_also places places' (unpacked heads bytes drops places) caller appends point row _ value also)
