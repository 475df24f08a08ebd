-- What a caller knows holds in each lawful history that fits.
use Rattle.std.proofs.Common.{◌≡◌, ◌≢◌, ◌⊎◌, inl, inr, ℕ, ◌+◌, ◌%◌, ◌^◌, ◌≤◌, Bool, true, false, List, sym, ap, ◌∙◌}
use Rattle.std.specs.Prelude.{Option, None, Some, option_map, option_and_then, find, nat_lt, if◌then◌else◌}
use Rattle.std.specs.Int.{w64, to_be_bytes}
use Rattle.row_key.specs.declared.tables.Table.{Table}
use Rattle.row_key.specs.declared.tables.Table.TheVariants.{Ids, Names, Points}
use Rattle.tsd_base.specs.declared.kinds.Kind.{Kind}
use Rattle.cell_model.specs.declared.row.Row.{Row}
use Rattle.qual_codec.specs.declared.cells.Cell.{Cell}
use Rattle.qual_codec.specs.CellDots.{column_qual, items_of}
use Rattle.qual_codec.proofs.CallerLemmas.{items_no_column}
use Rattle.tsd_base.specs.Points.{DataPoint}
use Rattle.cell_model.specs.declared.row.Found.{Found}
use Rattle.cell_model.specs.declared.events.Step.{Step}
use Rattle.cell_model.specs.declared.events.Step.TheVariants.{Open, Read, NextRow, Bump, Claim, PutPoint, AppendPoint, PutMerged, DropCells}
use Rattle.cell_model.specs.declared.events.Place.{Place}
use Rattle.cell_model.specs.declared.events.Content.{Content}
use Rattle.cell_model.specs.Store.{Store, place_of, content_at, value_at, cells_of, is_between, written, appended, value_among, entries, dropped}
use Rattle.cell_model.specs.declared.events.Reply.{Reply}
use Rattle.cell_model.specs.Machine.{after, reply_of, or_written, counter_row, counter_of, kind_qual, greatest}
use Rattle.cell_model.specs.declared.events.Reply.TheVariants.{Next}
use Rattle.cell_model.specs.declared.events.Entry.{Entry}
use Rattle.cell_model.specs.History.{History, len, store_after, Had}
use Rattle.cell_laws.proofs.Beginnings.{Begins}
use Rattle.cell_model.specs.History.History.{Base, Then}
use Rattle.cell_laws.proofs.Beginnings.Begins.{whole, longer}
use Rattle.cell_laws.specs.Laws.{KnownIsAllowed, KnownEntryIsAllowed}
use Rattle.tsd_base.specs.Alphabet.{IsName}
use Rattle.cell_laws.proofs.Points.{point_name}
use Rattle.cell_model.specs.KindWidths.{Widths, kind_bytes}
use Rattle.cell_model.specs.IdRows.{name_row, id_number, id_of}
use Rattle.cell_model.specs.Layout.{IsLayout}
use Rattle.cell_laws.proofs.SameWidths.{seen_carry}
use Rattle.cell_model.specs.Lawful.{IsLawful, MayStep, HasOpened, ClaimBasis, PointBasis, HadCell, Wrote}
use Rattle.cell_model.specs.Seen.{Seen, Saw, Fits, KnowsCell, Shows, HasSeenOpening}
use Rattle.cell_model.specs.Seen.Shows.{by_read, by_next, by_claim, by_held, by_point, by_merged}
use Rattle.cell_model.proofs.CallerLemmas.{content-written, content-written_other, get-dropped, same_or_not, value_among-cells_of}
use Rattle.cell_laws.proofs.Keeps.{stood, lawful_begins}
use Rattle.cell_laws.proofs.Ids.{value_keeps, forward_uid, claim_wrote, mapped_Some}
use Rattle.cell_laws.proofs.LawsHold.{number-bytes}
use Rattle.cell_laws.proofs.Entries.{entry_at-more, entry_at-last}
use Rattle.cell_laws.proofs.Counters.{held_there}

next_found : (s : Store) (o : Option (Place × Content)) (found : Found) → Next (Some found) ≡ Next (option_map (λ (e : Place × Content). record { row = e.0.row; cells = cells_of s e.0.row }) o) → found.cells ≡ cells_of s found.row
next_found s None found e = cc
next_found s (Some x) found e = let is : found ≡ record { row = x.0.row; cells = cells_of s x.0.row } = cc in ap (λ (f : Found). f.cells) is ∙ ap (λ (f : Found). cells_of s f.row) (sym is)

pub value-written : (s : Store) (row : Row) (qual value : List ℕ) (version : ℕ) → value_at (written s row qual value version) row qual ≡ Some value
value-written s row qual value version = ap (option_map (λ (c : Content). c.value)) (content-written s row qual value version)

-- what an entry shows stands behind it
pub shown_stands : {row : Row} {qual value : List ℕ} (h : History) (caller : ℕ) (step : Step) (reply : Reply) → Shows row qual value step reply → reply ≡ reply_of (store_after h) (len h + 1) step
    → value_at (store_after (Then h (record { caller = caller; step = step; reply = reply }))) row qual ≡ Some value
shown_stands {row} {qual} {value} h caller _ _ (by_read {cells = cells} is) legal =
    let same : cells ≡ cells_of (store_after h) row = cc in value_among-cells_of (store_after h) row qual ∙ ap (λ (x : List Cell). value_among x qual) (sym same) ∙ is
shown_stands {qual = qual} {value = value} h caller _ _ (by_next {table = table} {from = from} {to = to} {found = found} is) legal =
    let same = next_found (store_after h) (find (λ (e : Place × Content). is_between table from to e.0.row) (entries (store_after h))) found legal in
    value_among-cells_of (store_after h) found.row qual ∙ ap (λ (x : List Cell). value_among x qual) (sym same) ∙ is
shown_stands {row} {qual} {value} h caller _ _ by_claim legal = claim_wrote h caller row qual value legal
shown_stands {row} {qual} {value} h caller _ _ (by_held {other = other}) legal =
    let there = held_there (value_at (store_after h) row qual) value legal in
    ap (λ (o : Option (List ℕ)). value_at (or_written o (written (store_after h) row qual other ((len h + 1) % 2 ^ 64)) (store_after h)) row qual) there ∙ there
shown_stands {row} {qual} {value} h caller _ _ by_point legal = value-written (store_after h) row qual value _
shown_stands {row} {qual} {value} h caller _ _ by_merged legal = value-written (store_after h) row qual value _

-- a known cell stood behind some beginning
pub record StoodCell (h : History) (row : Row) (qual value : List ℕ) : Type 0 where
  pub behind : History
  pub begins : Begins behind h
  pub stands : value_at (store_after behind) row qual ≡ Some value

pub known_cell : (s : Seen) (h : History) (row : Row) (qual value : List ℕ) → IsLawful h → Fits s h → KnowsCell s row qual value → StoodCell h row qual value
known_cell s h row qual value l f k =
    let st = stood h k.0 k.1 (f.seen k.0 k.1 k.2) in
    record { behind = Then st.before k.1; begins = st.begins; stands = shown_stands st.before k.1.caller k.1.step k.1.reply k.3 (lawful_begins st.begins l).2 }

pub had_more : (h : History) (row : Row) (q v : List ℕ) (last : Entry) → HadCell h row q v → HadCell (Then h last) row q v
had_more h row q v last (inl base) = inl base
had_more h row q v last (inr w) = inr (w.0, (w.1.0, entry_at-more h last w.0 w.1.0 w.1.1), w.2)

pub had_begins : {h0 h : History} (row : Row) (q v : List ℕ) → Begins h0 h → HadCell h0 row q v → HadCell h row q v
had_begins row q v whole c = c
had_begins row q v (longer {h = h} {e = e} b) c = had_more h row q v e (had_begins row q v b c)

pub value_step : (s s' : Store) (row : Row) (q v : List ℕ) → ((c : Content) → content_at s' row q ≡ Some c → content_at s row q ≡ Some c) → value_at s' row q ≡ Some v → value_at s row q ≡ Some v
value_step s s' row q v back is =
    let st = mapped_Some (content_at s' row q) v is in ap (option_map (λ (c : Content). c.value)) (back st.content st.is) ∙ ap Some st.value_is

put_had : (h : History) (e : Entry) (s : Store) (row r : Row) (q v qual value : List ℕ) (version : ℕ) → (HadCell h row q v → HadCell (Then h e) row q v) → ((r ≡ row) × (qual ≡ q) × (value ≡ v) → Wrote row q v e.step)
    → (value_at s row q ≡ Some v → HadCell h row q v) → value_at (written s r qual value version) row q ≡ Some v → (place_of row q ≡ place_of r qual) ⊎ (place_of row q ≢ place_of r qual) → HadCell (Then h e) row q v
put_had h e s row r q v qual value version more wrote go is (inl same) =
    let got : Some value ≡ Some v = sym (value-written s r qual value version) ∙ ap (λ (p : Place). value_at (written s r qual value version) p.row p.qual) (sym same) ∙ is in
    let value_is : value ≡ v = cc in
    inr (e, (len h + 1, entry_at-last h e), wrote (ap (λ (p : Place). p.row) (sym same), ap (λ (p : Place). p.qual) (sym same), value_is))
put_had h e s row r q v qual value version more wrote go is (inr other) =
    more (go (value_step s (written s r qual value version) row q v (λ c e. sym (content-written_other s r qual value version (place_of row q) other) ∙ e) is))

pub no_points_claim : (w : Widths) (Has : Entry → Type 0) (caller : ℕ) (t : Table) (bytes qual value : List ℕ) → t ≡ Points → ClaimBasis w Has caller t bytes qual value → ⊥
no_points_claim w Has caller Ids bytes qual value e b = cc
no_points_claim w Has caller Names bytes qual value e b = cc
no_points_claim w Has caller Points bytes qual value e b = b

claim_back : (s : Store) (row r : Row) (q v qual value : List ℕ) (version : ℕ) (o : Option (List ℕ)) → (r ≡ row → ⊥) → value_at (or_written o (written s r qual value version) s) row q ≡ Some v → value_at s row q ≡ Some v
claim_back s row r q v qual value version None ne is =
    value_step s (written s r qual value version) row q v (λ c e. sym (content-written_other s r qual value version (place_of row q) (λ same. ne (ap (λ (p : Place). p.row) (sym same)))) ∙ e) is
claim_back s row r q v qual value version (Some w) ne is = is

-- a cell of a point row came with the base or was put, unless it is the column
had_step : (h : History) (row : Row) (q v : List ℕ) → row.table ≡ Points → (q ≡ column_qual → ⊥) → (value_at (store_after h) row q ≡ Some v → HadCell h row q v)
    → (e : Entry) (step : Step) → ((r : Row) (a b : List ℕ) → Wrote row q v step → Wrote row q v e.step) → MayStep h e.caller step → value_at (after (store_after h) (len h + 1) step) row q ≡ Some v → HadCell (Then h e) row q v
had_step h row q v p other go e Open w may is = had_more h row q v e (go is)
had_step h row q v p other go e (Read r) w may is = had_more h row q v e (go is)
had_step h row q v p other go e (NextRow table from to) w may is = had_more h row q v e (go is)
had_step h row q v p other go e (Bump kind) w may is = had_more h row q v e (go (at (nat_lt (counter_of (store_after h) kind) (greatest (store_after h).widths kind)) is))
  where
    at : (b : Bool) → value_at (if b then written (store_after h) counter_row (kind_qual kind) (to_be_bytes w64 (counter_of (store_after h) kind + 1)) ((len h + 1) % 2 ^ 64) else store_after h) row q ≡ Some v → value_at (store_after h) row q ≡ Some v
    at false e = e
    at true e = value_step (store_after h) (written (store_after h) counter_row (kind_qual kind) (to_be_bytes w64 (counter_of (store_after h) kind + 1)) ((len h + 1) % 2 ^ 64)) row q v (λ c x. sym (content-written_other (store_after h) counter_row (kind_qual kind) _ _ (place_of row q) (λ same. let t : Points ≡ Ids = sym p ∙ ap (λ (y : Place). y.row.table) same in cc)) ∙ x) e
had_step h row q v p other go e (Claim r qual value) w may is =
    had_more h row q v e (go (claim_back (store_after h) row r q v qual value _ (value_at (store_after h) r qual) (λ same. no_points_claim (store_after h).widths (Had h) e.caller r.table r.bytes qual value (ap (λ (y : Row). y.table) same ∙ p) may) is))
had_step h row q v p other go e (PutPoint point r qual value) w may is =
    put_had h e (store_after h) row r q v qual value _ (had_more h row q v e) (λ x. w r qual value x) go is (same_or_not (place_of row q) (place_of r qual))
had_step h row q v p other go e (AppendPoint point r piece) w may is =
    had_more h row q v e (go (value_step (store_after h) (appended (store_after h) r piece ((len h + 1) % 2 ^ 64)) row q v (λ c x. sym (content-written_other (store_after h) r column_qual _ _ (place_of row q) (λ same. other (ap (λ (y : Place). y.qual) same))) ∙ x) is))
had_step h row q v p other go e (PutMerged r qual value) w may is =
    put_had h e (store_after h) row r q v qual value _ (had_more h row q v e) (λ x. w r qual value x) go is (same_or_not (place_of row q) (place_of r qual))
had_step h row q v p other go e (DropCells r which) w may is =
    had_more h row q v e (go (value_step (store_after h) (dropped (store_after h) r which) row q v (λ c x. get-dropped (store_after h) r which (place_of row q) c x) is))

-- a cell of a point row came with the base or was put, unless it is the column
pub had_cell : (h : History) (row : Row) (q v : List ℕ) → IsLawful h → row.table ≡ Points → (q ≡ column_qual → ⊥) → value_at (store_after h) row q ≡ Some v → HadCell h row q v
had_cell (Base base) row q v l p other is = inl is
had_cell (Then h e) row q v l p other is = had_step h row q v p other (had_cell h row q v l.0 p other) e e.step (λ r a b x. x) l.1.may is

claim_known : (s : Seen) (h : History) (table : Table) (row qual value : List ℕ) → Fits s h → ClaimBasis s.base.widths (λ e. (place : ℕ) × Saw s place e) s.caller table row qual value → ClaimBasis (store_after h).widths (Had h) s.caller table row qual value
claim_known s h Names row qual value fits k =
    record { kind = k.kind; number = k.number; is_kind = k.is_kind; is_id = seen_carry fits (λ (w : Widths). row ≡ kind_bytes w k.kind k.number) k.is_id; is_name = k.is_name; bumped = (k.bumped.0, fits.seen k.bumped.0 _ k.bumped.1) }
claim_known s h Ids row qual value fits k = record { who = k.who; reversed = (k.reversed.0, fits.seen k.reversed.0 _ k.reversed.1) }
claim_known s h Points row qual value fits k = k

known_name : (s : Seen) (h : History) (kind : Kind) (name : List ℕ) (id : ℕ) → IsLawful h → Fits s h → IsName name → KnowsCell s (name_row name) (kind_qual kind) (kind_bytes s.base.widths kind id) × (id ≤ greatest s.base.widths kind) → id_of h kind name ≡ Some id
known_name s h kind name id l f n k =
    let st = known_cell s h (name_row name) (kind_qual kind) (kind_bytes s.base.widths kind id) l f k.0 in
    ap (option_and_then id_number) (value_keeps (name_row name) (kind_qual kind) (kind_bytes s.base.widths kind id) st.begins l (forward_uid name (kind_qual kind) n) st.stands) ∙ number-bytes s.base.widths kind id k.1

known_had : (s : Seen) (h : History) (row : Row) (q v : List ℕ) → IsLawful h → Fits s h → row.table ≡ Points → (q ≡ column_qual → ⊥) → KnowsCell s row q v → HadCell h row q v
known_had s h row q v l f p other k =
    let st = known_cell s h row q v l f k in had_begins row q v st.begins (had_cell st.behind row q v (lawful_begins st.begins l) p other st.stands)

abbrev KnowsId : Seen → Kind → List ℕ → ℕ → Type 0
KnowsId s kind name id = KnowsCell s (name_row name) (kind_qual kind) (kind_bytes s.base.widths kind id) × (id ≤ greatest s.base.widths kind)

known_point : (s : Seen) (h : History) (point : DataPoint) (row : Row) (qual value : List ℕ) → IsLawful h → Fits s h → PointBasis s.base.widths (KnowsId s) point row qual value → PointBasis (store_after h).widths (λ kind name id. id_of h kind name ≡ Some id) point row qual value
known_point s h point row qual value l fits k =
    record { is_point = k.is_point; in_points = k.in_points; ids = k.ids; resolved = λ kind name c. known_name s h kind name (k.ids kind name) l fits (point_name point kind name k.is_point c) (k.resolved kind name c); layout = seen_carry fits (λ (w : Widths). IsLayout w k.ids point row.bytes qual value) k.layout }

pub known_is_allowed : KnownIsAllowed
known_is_allowed s h Open l fits k = absurd k
known_is_allowed s h (Read row) l fits k = tt
known_is_allowed s h (NextRow table from to) l fits k = tt
known_is_allowed s h (Bump kind) l fits k = tt
known_is_allowed s h (Claim row qual value) l fits k = claim_known s h row.table row.bytes qual value fits k
known_is_allowed s h (PutPoint point row qual value) l fits k = known_point s h point row qual value l fits k
known_is_allowed s h (AppendPoint point row piece) l fits k = record { qual = k.qual; value = k.value; piece_is = k.piece_is; put = known_point s h point row k.qual k.value l fits k.put }
known_is_allowed s h (PutMerged row qual value) l fits k =
    record { in_points = k.in_points; dots = k.dots; reads = k.reads; each = λ d c. let w = k.each d c in (w.0, w.1, w.2, known_had s h row w.0 w.1 l fits k.in_points (items_no_column w.0 (items_of w.2) w.4.items) w.3, w.4, w.5) }
known_is_allowed s h (DropCells row which) l fits k =
    record { in_points = k.in_points; each = λ d c. let w = k.each d c in (w.0, w.1, known_had s h row w.0 w.1 l fits k.in_points (items_no_column w.0 w.3.at_most.others w.3.at_most.others_read) w.2, w.3) }

opened : (s : Seen) (h : History) (step : Step) → Fits s h → HasSeenOpening s → HasOpened h s.caller step
opened s h Open fits o = tt
opened s h (Read row) fits o = (o.0, fits.seen o.0 _ o.1)
opened s h (NextRow table from to) fits o = (o.0, fits.seen o.0 _ o.1)
opened s h (Bump kind) fits o = (o.0, fits.seen o.0 _ o.1)
opened s h (Claim row qual value) fits o = (o.0, fits.seen o.0 _ o.1)
opened s h (PutPoint point row qual value) fits o = (o.0, fits.seen o.0 _ o.1)
opened s h (AppendPoint point row piece) fits o = (o.0, fits.seen o.0 _ o.1)
opened s h (PutMerged row qual value) fits o = (o.0, fits.seen o.0 _ o.1)
opened s h (DropCells row which) fits o = (o.0, fits.seen o.0 _ o.1)

pub known_entry_is_allowed : KnownEntryIsAllowed
known_entry_is_allowed s h step reply l fits k o = record { opened = opened s h step fits o; may = known_is_allowed s h step l fits k }
