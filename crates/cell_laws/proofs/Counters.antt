-- Counters only grow, each id of a kind is given once, and its reverse cell is claimed by none but the caller to whom it was given.
use Rattle.std.proofs.Common.{◌≡◌, ◌≢◌, ◌⊎◌, inl, inr, ℕ, ◌+◌, ◌%◌, ◌^◌, ◌≤◌, ◌<◌, Bool, true, false, List, [], ◌∷◌, refl, sym, ap, subst, ◌∙◌, arith, rules}
use Rattle.std.specs.Prelude.{Option, None, Some, option_map, nat_lt, if◌then◌else◌}
use Rattle.std.specs.Option.{option_map_or}
use Rattle.std.specs.Int.{w64, to_be_bytes, from_be_bytes}
use Rattle.std.proofs.lemmas.Nat.{from_be_bytes-to_be_bytes_8}
use Rattle.row_key.specs.declared.tables.Table.{Table}
use Rattle.row_key.specs.declared.tables.Table.TheVariants.{Ids, Names, Points}
use Rattle.qual_codec.specs.CellDots.{column_qual}
use Rattle.cell_model.specs.declared.row.Row.{Row}
use Rattle.tsd_base.specs.declared.kinds.Kind.{Kind}
use Rattle.cell_model.specs.declared.events.Step.{Step}
use Rattle.cell_model.specs.declared.events.Step.TheVariants.{Open, Read, NextRow, Bump, Claim, PutPoint, AppendPoint, PutMerged, DropCells}
use Rattle.cell_model.specs.declared.answers.Bumped.TheVariants.{Given, Full}
use Rattle.cell_model.specs.declared.answers.Claimed.TheVariants.{Held}
use Rattle.cell_model.specs.declared.events.Place.{Place}
use Rattle.cell_model.specs.declared.events.Content.{Content}
use Rattle.cell_model.specs.Store.{Store, place_of, value_at, written, get}
use Rattle.cell_model.specs.Machine.{after, claim_reply, or_written, counter_row, counter_of, kind_qual, greatest}
use Rattle.cell_model.specs.declared.events.Reply.TheVariants.{BumpReply, ClaimReply}
use Rattle.cell_model.specs.declared.events.Entry.{Entry}
use Rattle.cell_model.specs.History.{History, len, store_after, base_of, Had}
use Rattle.cell_laws.proofs.Beginnings.{Begins}
use Rattle.cell_model.specs.History.History.{Base, Then}
use Rattle.cell_laws.proofs.Beginnings.Begins.{whole, longer}
use Rattle.cell_model.specs.KindWidths.{Widths, kind_bytes}
use Rattle.cell_model.specs.IdRows.{id_number}
use Rattle.cell_model.specs.Lawful.{IsLawful, MayStep, ClaimBasis, given}
use Rattle.cell_model.proofs.CallerLemmas.{greatest_fits, content-written, content-written_other, get-dropped_other, same_or_not}
use Rattle.cell_laws.proofs.Keeps.{lawful_begins}
use Rattle.cell_laws.proofs.Ids.{same_kind, claimed_name, not_zero, Names_Ids}
use Rattle.cell_laws.proofs.LawsHold.{number-bytes}

counter_value : (o : Option Content) → ℕ
counter_value o = option_map_or (from_be_bytes w64) (option_map (λ (c : Content). c.value) o) 0

-- a place that the step leaves
counter_same : (s s' : Store) (kind : Kind) → get s' (place_of counter_row (kind_qual kind)) ≡ get s (place_of counter_row (kind_qual kind)) → counter_of s kind ≤ counter_of s' kind
counter_same s s' kind e = let same : counter_of s' kind ≡ counter_of s kind = ap (λ (o : Option Content). option_map_or (from_be_bytes w64) (option_map (λ (c : Content). c.value) o) 0) e in omega (arith, same)

pub counter_written : (s : Store) (kind : Kind) (n version : ℕ) → n < greatest s.widths kind → counter_of (written s counter_row (kind_qual kind) (to_be_bytes w64 (n + 1)) version) kind ≡ n + 1
counter_written s kind n version lt =
    ap (λ (o : Option Content). option_map_or (from_be_bytes w64) (option_map (λ (c : Content). c.value) o) 0) (content-written s counter_row (kind_qual kind) (to_be_bytes w64 (n + 1)) version)
    ∙ from_be_bytes-to_be_bytes_8 (n + 1) (let most = greatest_fits s.widths kind in omega (arith, lt, most))

pub row_differs : (row : Row) (qual q : List ℕ) → counter_row ≢ row → place_of counter_row q ≢ place_of row qual
row_differs row qual q ne e = ne (ap (λ (p : Place). p.row) e)

pub point_differs : (row : Row) → row.table ≡ Points → counter_row ≢ row
point_differs row e same = let t : Ids ≡ Points = ap (λ (r : Row). r.table) same ∙ e in cc

pub claim_differs : (h : History) (caller : ℕ) (row : Row) (qual value : List ℕ) → IsLawful h → MayStep h caller (Claim row qual value) → counter_row ≢ row
claim_differs h caller row qual value l may e = at row.table row.bytes may (ap (λ (r : Row). r.table) e) (ap (λ (r : Row). r.bytes) e)
  where
    at : (table : Table) (bytes : List ℕ) → ClaimBasis (store_after h).widths (Had h) caller table bytes qual value → Ids ≡ table → 0 ∷ [] ≡ bytes → ⊥
    at Names bytes basis t b = Names_Ids (sym t)
    at Points bytes basis t b = absurd basis
    at Ids bytes basis t b = not_zero bytes (claimed_name h basis.who _ qual bytes l basis.reversed) (sym b)

claim_counter : (s : Store) (row : Row) (qual value : List ℕ) (version : ℕ) (kind : Kind) (o : Option (List ℕ)) → counter_row ≢ row → counter_of s kind ≤ counter_of (or_written o (written s row qual value version) s) kind
claim_counter s row qual value version kind None ne = counter_same s (written s row qual value version) kind (content-written_other s row qual value version (place_of counter_row (kind_qual kind)) (row_differs row qual (kind_qual kind) ne))
claim_counter s row qual value version kind (Some v) ne = omega arith

-- no step lowers a counter
counter_grows : (h : History) (caller : ℕ) (step : Step) (place : ℕ) (kind : Kind) → IsLawful h → MayStep h caller step → counter_of (store_after h) kind ≤ counter_of (after (store_after h) place step) kind
counter_grows h caller Open place kind l may = omega arith
counter_grows h caller (Read row) place kind l may = omega arith
counter_grows h caller (NextRow table from to) place kind l may = omega arith
counter_grows h caller (Bump other) place kind l may = at (nat_lt (counter_of (store_after h) other) (greatest (store_after h).widths other)) refl (same_or_not (place_of counter_row (kind_qual kind)) (place_of counter_row (kind_qual other)))
  where
    s : Store
    s = store_after h

    at : (b : Bool) → nat_lt (counter_of (store_after h) other) (greatest (store_after h).widths other) ≡ b → (place_of counter_row (kind_qual kind) ≡ place_of counter_row (kind_qual other)) ⊎ (place_of counter_row (kind_qual kind) ≢ place_of counter_row (kind_qual other))
        → counter_of (store_after h) kind ≤ counter_of (if b then written (store_after h) counter_row (kind_qual other) (to_be_bytes w64 (counter_of (store_after h) other + 1)) (place % 2 ^ 64) else store_after h) kind
    at false t d = omega arith
    at true t (inr ne) = counter_same (store_after h) (written (store_after h) counter_row (kind_qual other) (to_be_bytes w64 (counter_of (store_after h) other + 1)) (place % 2 ^ 64)) kind (content-written_other (store_after h) counter_row (kind_qual other) _ _ (place_of counter_row (kind_qual kind)) ne)
    at true t (inl e) =
        let one : other ≡ kind = same_kind other kind (ap (λ (p : Place). p.qual) (sym e)) in
        let below : counter_of (store_after h) other < greatest (store_after h).widths other = search (rules, t) in
        subst (λ (k : Kind). counter_of (store_after h) k ≤ counter_of (written (store_after h) counter_row (kind_qual other) (to_be_bytes w64 (counter_of (store_after h) other + 1)) (place % 2 ^ 64)) k) one
        (let n = counter_written (store_after h) other (counter_of (store_after h) other) (place % 2 ^ 64) below in omega (arith, n))
counter_grows h caller (Claim row qual value) place kind l may = claim_counter (store_after h) row qual value _ kind (value_at (store_after h) row qual) (claim_differs h caller row qual value l may)
counter_grows h caller (PutPoint point row qual value) place kind l may = counter_same (store_after h) (after (store_after h) place (PutPoint point row qual value)) kind (content-written_other (store_after h) row qual value _ (place_of counter_row (kind_qual kind)) (row_differs row qual (kind_qual kind) (point_differs row may.in_points)))
counter_grows h caller (AppendPoint point row piece) place kind l may = counter_same (store_after h) (after (store_after h) place (AppendPoint point row piece)) kind (content-written_other (store_after h) row column_qual _ _ (place_of counter_row (kind_qual kind)) (row_differs row column_qual (kind_qual kind) (point_differs row may.put.in_points)))
counter_grows h caller (PutMerged row qual value) place kind l may = counter_same (store_after h) (after (store_after h) place (PutMerged row qual value)) kind (content-written_other (store_after h) row qual value _ (place_of counter_row (kind_qual kind)) (row_differs row qual (kind_qual kind) (point_differs row may.in_points)))
counter_grows h caller (DropCells row which) place kind l may = counter_same (store_after h) (after (store_after h) place (DropCells row which)) kind (get-dropped_other (store_after h) row which (place_of counter_row (kind_qual kind)) (point_differs row may.in_points))

pub counter_keeps : {h0 h : History} (kind : Kind) → Begins h0 h → IsLawful h → counter_of (store_after h0) kind ≤ counter_of (store_after h) kind
counter_keeps kind whole l = omega arith
counter_keeps kind (longer {h0} {h} {e} b) l =
    let low = counter_keeps kind b l.0 in let step = counter_grows h e.caller e.step (len h + 1) kind l.0 l.1.may in omega (arith, low, step)

-- what a given id says of the counter
pub record Counted (h : History) (caller : ℕ) (kind : Kind) (id : ℕ) : Type 0 where
  pub above : id ≡ counter_of (store_after h) kind + 1
  pub now : counter_of (store_after (Then h (given caller kind id))) kind ≡ id

pub given_counts : (h : History) (caller : ℕ) (kind : Kind) (id : ℕ) → IsLawful (Then h (given caller kind id)) → Counted h caller kind id
given_counts h caller kind id l = at (nat_lt (counter_of (store_after h) kind) (greatest (store_after h).widths kind)) refl l.2
  where
    at : (b : Bool) → nat_lt (counter_of (store_after h) kind) (greatest (store_after h).widths kind) ≡ b → BumpReply (Given id) ≡ BumpReply (if b then Given (counter_of (store_after h) kind + 1) else Full) → Counted h caller kind id
    at false t e = cc
    at true t e =
        let is : id ≡ counter_of (store_after h) kind + 1 = cc in
        let below : counter_of (store_after h) kind < greatest (store_after h).widths kind = search (rules, t) in
        let n = counter_written (store_after h) kind (counter_of (store_after h) kind) ((len h + 1) % 2 ^ 64) below in
        record {
          above = is;
          now = ap (λ (b : Bool). counter_of (if b then written (store_after h) counter_row (kind_qual kind) (to_be_bytes w64 (counter_of (store_after h) kind + 1)) ((len h + 1) % 2 ^ 64) else store_after h) kind) t ∙ n ∙ sym is;
        }

pub same_number : (w : Widths) (kind : Kind) (a b : ℕ) → a ≤ greatest w kind → b ≤ greatest w kind → kind_bytes w kind a ≡ kind_bytes w kind b → a ≡ b
same_number w kind a b la lb e = let s : Some a ≡ Some b = sym (number-bytes w kind a la) ∙ ap id_number e ∙ number-bytes w kind b lb in cc

pub len_begins : {h0 h : History} → Begins h0 h → len h0 ≤ len h
len_begins whole = omega arith
len_begins (longer b) = let low = len_begins b in omega (arith, low)

-- of two entries of one history, one stands before the other, or they are one
pub data Order (a b : History) (x y : Entry) : Type 0 where
  first_before : Begins (Then a x) b → Order a b x y
  same_place : (Then a x ≡ Then b y) → Order a b x y
  second_before : Begins (Then b y) a → Order a b x y

pub order : {h a b : History} {x y : Entry} → Begins (Then a x) h → Begins (Then b y) h → Order a b x y
order whole whole = same_place refl
order whole (longer b) = second_before b
order (longer a) whole = first_before a
order (longer a) (longer b) = order a b

abbrev pub shorter : (h : History) → History
shorter (Base base) = Base base
shorter (Then h e) = h

abbrev pub last_caller : (h : History) → ℕ
last_caller (Base base) = 0
last_caller (Then h e) = e.caller

-- an id of a kind is given once
pub given_once : {h a b : History} (kind : Kind) (x y id : ℕ) → IsLawful h → Begins (Then a (given x kind id)) h → Begins (Then b (given y kind id)) h → Then a (given x kind id) ≡ Then b (given y kind id)
given_once {h} {a} {b} kind x y id l ba bb = at (order ba bb)
  where
    la : IsLawful (Then a (given x kind id))
    la = lawful_begins ba l

    lb : IsLawful (Then b (given y kind id))
    lb = lawful_begins bb l

    at : Order a b (given x kind id) (given y kind id) → Then a (given x kind id) ≡ Then b (given y kind id)
    at (same_place e) = e
    at (first_before w) =
        let one = given_counts a x kind id la in let two = given_counts b y kind id lb in let grows = counter_keeps kind w lb.0 in absurd (omega (arith, one.now, two.above, grows))
    at (second_before w) =
        let one = given_counts a x kind id la in let two = given_counts b y kind id lb in let grows = counter_keeps kind w la.0 in absurd (omega (arith, two.now, one.above, grows))

pub held_there : (o : Option (List ℕ)) (held : List ℕ) → ClaimReply (Held held) ≡ ClaimReply (claim_reply o) → o ≡ Some held
held_there None held e = cc
held_there (Some v) held e = let is : held ≡ v = cc in ap Some (sym is)

pub base_of_begins : {a b : History} → Begins a b → base_of a ≡ base_of b
base_of_begins whole = refl
base_of_begins (longer w) = base_of_begins w
