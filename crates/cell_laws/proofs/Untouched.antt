-- Without merges and drops a cell stands as it was written until its qualifier is written again.
use Rattle.std.proofs.Common.{◌≡◌, ℕ, ◌+◌, ◌%◌, ◌^◌, ◌≤◌, ◌<◌, Bool, true, false, List, refl, sym, ap, subst, ◌∙◌, arith, rules}
use Rattle.std.specs.Prelude.{None, Some, option_map, nat_le, nat_lt, if◌then◌else◌}
use Rattle.std.specs.Int.{w64, to_be_bytes}
use Rattle.row_key.specs.declared.tables.Table.TheVariants.{Ids, Points}
use Rattle.qual_codec.specs.CellDots.{column_qual}
use Rattle.cell_model.specs.declared.row.Row.{Row}
use Rattle.cell_model.specs.declared.events.Step.{Step}
use Rattle.cell_model.specs.declared.events.Step.TheVariants.{Open, Read, NextRow, Bump, Claim, PutPoint, AppendPoint, PutMerged, DropCells}
use Rattle.cell_model.specs.declared.events.Entry.{Entry}
use Rattle.cell_model.specs.declared.events.Place.{Place}
use Rattle.cell_model.specs.declared.events.Content.{Content}
use Rattle.cell_model.specs.Store.{Store, place_of, get, value_at, with_cells, written}
use Rattle.cell_model.specs.Machine.{after, or_written, counter_row, counter_of, kind_qual, greatest}
use Rattle.cell_model.specs.History.{History, len, entry_at, first, store_after, Had}
use Rattle.cell_model.specs.History.History.{Base, Then}
use Rattle.cell_model.specs.Lawful.{IsLawful, MayStep, Wrote}
use Rattle.cell_model.proofs.CallerLemmas.{content-written_other}
use Rattle.cell_laws.specs.Laws.{IsCompaction, IsUntouched, UntouchedStays, WritesAt, WrittenStands}
use Rattle.cell_laws.proofs.Beginnings.{Begins}
use Rattle.cell_laws.proofs.Beginnings.Begins.{whole, longer}
use Rattle.cell_laws.proofs.Counters.{len_begins}
use Rattle.cell_laws.proofs.Entries.{bounded, entry_at-last, entry_at-more}
use Rattle.cell_laws.proofs.InOrder.{entry_begins, entry_first}
use Rattle.cell_laws.proofs.Keeps.{stood, lawful_begins}
use Rattle.cell_laws.proofs.Known.{no_points_claim, value-written}
use Rattle.cell_laws.proofs.LawsHold.{begins_first, first_first}
use Rattle.cell_laws.proofs.Placing.{begins_is_first}

-- ---- one step
same_value : (s s' : Store) (row : Row) (q : List ℕ) → get s' (place_of row q) ≡ get s (place_of row q) → value_at s' row q ≡ value_at s row q
same_value s s' row q e = ap (option_map (λ (c : Content). c.value)) e

beside : (s : Store) (row r : Row) (q qual value : List ℕ) (version : ℕ) → ((r ≡ row) × (qual ≡ q) → ⊥) → value_at (written s r qual value version) row q ≡ value_at s row q
beside s row r q qual value version other =
    same_value s (written s r qual value version) row q (content-written_other s r qual value version (place_of row q) (λ e. other (sym (ap (λ (p : Place). p.row) e), sym (ap (λ (p : Place). p.qual) e))))

step_leaves : (h : History) (caller : ℕ) (step : Step) (s : Store) (place : ℕ) (row : Row) (q : List ℕ) → row.table ≡ Points → MayStep h caller step → (IsCompaction step → ⊥) → (WritesAt row q step → ⊥) → value_at (after s place step) row q ≡ value_at s row q
step_leaves h caller Open s place row q p may still other = refl
step_leaves h caller (Read r) s place row q p may still other = refl
step_leaves h caller (NextRow table from to) s place row q p may still other = refl
step_leaves h caller (Bump kind) s place row q p may still other =
    elim (nat_lt (counter_of s kind) (greatest s.widths kind)) as (λ b. value_at (with_cells s (if b then written s counter_row (kind_qual kind) (to_be_bytes w64 (counter_of s kind + 1)) (place % 2 ^ 64) else s)) row q ≡ value_at s row q) [
      | true ↦ beside s row counter_row q (kind_qual kind) _ _ (λ e. let t : Ids ≡ Points = ap (λ (r : Row). r.table) e.0 ∙ p in cc)
      | false ↦ refl
    ]
step_leaves h caller (Claim r qual value) s place row q p may still other =
    elim (value_at s r qual) as (λ o. value_at (with_cells s (or_written o (written s r qual value (place % 2 ^ 64)) s)) row q ≡ value_at s row q) [
      | None ↦ beside s row r q qual value _ (λ e. no_points_claim (store_after h).widths (Had h) caller r.table r.bytes qual value (ap (λ (y : Row). y.table) e.0 ∙ p) may)
      | Some v ↦ refl
    ]
step_leaves h caller (PutPoint point r qual value) s place row q p may still other = beside s row r q qual value _ other
step_leaves h caller (AppendPoint point r piece) s place row q p may still other = beside s row r q column_qual _ _ other
step_leaves h caller (PutMerged r qual value) s place row q p may still other = absurd (still tt)
step_leaves h caller (DropCells r which) s place row q p may still other = absurd (still tt)

put_there : (s : Store) (row r : Row) (q v qual value : List ℕ) (version : ℕ) → (r ≡ row) × (qual ≡ q) × (value ≡ v) → value_at (written s r qual value version) row q ≡ Some v
put_there s row r q v qual value version w =
    ap (λ (p : Place). value_at (written s r qual value version) p.row p.qual) (λ i. place_of (sym w.0 i) (sym w.1 i)) ∙ value-written s r qual value version ∙ ap (λ (x : List ℕ). Some x) w.2

wrote_there : (s : Store) (place : ℕ) (row : Row) (q v : List ℕ) (step : Step) → Wrote row q v step → value_at (after s place step) row q ≡ Some v
wrote_there s place row q v Open w = absurd w
wrote_there s place row q v (Read r) w = absurd w
wrote_there s place row q v (NextRow table from to) w = absurd w
wrote_there s place row q v (Bump kind) w = absurd w
wrote_there s place row q v (Claim r qual value) w = absurd w
wrote_there s place row q v (PutPoint point r qual value) w = put_there s row r q v qual value _ w
wrote_there s place row q v (AppendPoint point r piece) w = absurd w
wrote_there s place row q v (PutMerged r qual value) w = put_there s row r q v qual value _ w
wrote_there s place row q v (DropCells r which) w = absurd w

-- ---- any number of them
stays_behind : {h0 h : History} (row : Row) (q : List ℕ) → Begins h0 h → IsLawful h → row.table ≡ Points → IsUntouched h (len h0) (len h) row q → value_at (store_after h) row q ≡ value_at (store_after h0) row q
stays_behind row q whole l p quiet = refl
stays_behind {h0} row q (longer {h = h} {e = e} b) l p quiet =
    let low = len_begins b in
    let last = quiet (len h + 1) e (omega (arith, low)) (omega arith) (entry_at-last h e) in
    step_leaves h e.caller e.step (store_after h) (len h + 1) row q p l.1.may last.0 last.1
    ∙ stays_behind row q b l.0 p (λ place x lt le at. quiet place x lt (omega (arith, le)) (entry_at-more h e x place at))

len_first_most : (n : ℕ) (h : History) → len (first n h) ≤ n
len_first_most n (Base base) = omega arith
len_first_most n (Then h e) = at (nat_le (len h + 1) n) refl (len_first_most n h)
  where
    at : (b : Bool) → nat_le (len h + 1) n ≡ b → len (first n h) ≤ n → len (if b then Then h e else first n h) ≤ n
    at true t go = search (rules, t)
    at false t go = go

-- an entry behind the first ones has a place behind theirs
behind_first : (h : History) (n place : ℕ) (e : Entry) → entry_at h place ≡ Some e → len (first n h) < place → n < place
behind_first h n place e at lt = by (nat_le place n) refl
  where
    by : (b : Bool) → nat_le place n ≡ b → n < place
    by true t =
        let le : place ≤ n = search (rules, t) in
        let most = bounded (first n h) place e (entry_first n h place e le at) in
        absurd (omega (arith, most, lt))
    by false t = search (rules, t)

pub untouched_stays : UntouchedStays
untouched_stays h n m row qual l p le quiet =
    stays_behind row qual (subst (λ x. Begins x (first m h)) (first_first n m h le) (begins_first n (first m h))) (lawful_begins (begins_first m h) l) p
    (λ place e lt within at.
    let here = entry_begins place e (begins_first m h) at in
    let most = len_first_most m h in
    quiet place e (behind_first h n place e here lt) (omega (arith, within, most)) here)

pub written_stands : WrittenStands
written_stands h place m e row qual value l p at wrote le quiet =
    let st = stood h place e at in
    let is_first : first place h ≡ Then st.before e = ap (λ n. first n h) st.place_is ∙ begins_is_first st.begins in
    untouched_stays h place m row qual l p le quiet ∙ ap (λ (x : History). value_at (store_after x) row qual) is_first ∙ wrote_there (store_after st.before) (len st.before + 1) row qual value e.step wrote
