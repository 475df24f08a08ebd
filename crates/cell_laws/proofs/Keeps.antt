-- Cells of ids and names are kept, and what an entry showed holds in each later history.
use Rattle.std.proofs.Common.{◌≡◌, ◌≢◌, ℕ, ◌+◌, ◌%◌, ◌^◌, Bool, true, false, List, refl, sym, ap, subst, ◌∙◌}
use Rattle.std.specs.Prelude.{Option, None, Some, option_map, nat_lt, nat_eq, if◌then◌else◌}
use Rattle.row_key.specs.declared.tables.Table.TheVariants.{Points}
use Rattle.qual_codec.specs.CellDots.{column_qual}
use Rattle.cell_model.specs.declared.row.Row.{Row}
use Rattle.cell_model.specs.declared.events.Step.{Step}
use Rattle.cell_model.specs.declared.events.Step.TheVariants.{Open, Read, NextRow, Bump, Claim, PutPoint, AppendPoint, PutMerged, DropCells}
use Rattle.std.specs.Int.{w64, to_be_bytes}
use Rattle.cell_model.specs.declared.events.Place.{Place}
use Rattle.cell_model.specs.declared.events.Content.{Content}
use Rattle.cell_model.specs.Store.{Store, place_of, value_at, written, get}
use Rattle.list_lemmas.proofs.BoolTests.{nat_eq_is, not_Some}
use Rattle.cell_model.specs.Machine.{after, or_written, counter_row, counter_of, kind_qual, greatest}
use Rattle.cell_model.specs.declared.events.Entry.{Entry}
use Rattle.cell_model.specs.History.{History, len, store_after, entry_at}
use Rattle.cell_laws.proofs.Beginnings.{Begins}
use Rattle.cell_model.specs.History.History.{Base, Then}
use Rattle.cell_laws.proofs.Beginnings.Begins.{whole, longer}
use Rattle.cell_model.specs.Lawful.{IsLawful, MayStep}
use Rattle.cell_model.proofs.CallerLemmas.{content-written_other, get-dropped_other}

-- a place of an id or a name
pub record IsUid (p : Place) : Type 0 where
  pub no_counter : p.row ≢ counter_row
  pub no_point : p.row.table ≢ Points

pub other_row : (p : Place) (row : Row) (qual : List ℕ) → p.row ≢ row → p ≢ place_of row qual
other_row p row qual ne e = ne (ap (λ (x : Place). x.row) e)

pub points_other : (p : Place) → IsUid p → (row : Row) → row.table ≡ Points → p.row ≢ row
points_other p u row e same = u.no_point (ap (λ (r : Row). r.table) same ∙ e)

pub mapped_None : (o : Option Content) → option_map (λ (c : Content). c.value) o ≡ None → o ≡ None
mapped_None None e = refl
mapped_None (Some c) e = cc

claim_keeps : (s : Store) (row : Row) (qual value : List ℕ) (version : ℕ) (p : Place) (c : Content) → get s p ≡ Some c
    → (o : Option (List ℕ)) → value_at s row qual ≡ o → get (or_written o (written s row qual value version) s) p ≡ Some c
claim_keeps s row qual value version p c is None none =
    content-written_other s row qual value version p (λ same. not_Some c (sym is ∙ ap (get s) same ∙ mapped_None _ none)) ∙ is
claim_keeps s row qual value version p c is (Some v) some = is

-- a step keeps each cell of an id or a name
pub step_keeps : (h : History) (caller : ℕ) (step : Step) (s : Store) (place : ℕ) (p : Place) (c : Content) → MayStep h caller step → IsUid p → get s p ≡ Some c → get (after s place step) p ≡ Some c
step_keeps h caller Open s place p c may u is = is
step_keeps h caller (Read row) s place p c may u is = is
step_keeps h caller (NextRow table from to) s place p c may u is = is
step_keeps h caller (Bump kind) s place p c may u is =
    elim (nat_lt (counter_of s kind) (greatest s.widths kind)) as (λ b. get (if b then written s counter_row (kind_qual kind) (to_be_bytes w64 (counter_of s kind + 1)) (place % 2 ^ 64) else s) p ≡ Some c) [
      | true ↦ content-written_other s counter_row (kind_qual kind) _ _ p (other_row p counter_row (kind_qual kind) u.no_counter) ∙ is
      | false ↦ is
    ]
step_keeps h caller (Claim row qual value) s place p c may u is = claim_keeps s row qual value _ p c is (value_at s row qual) refl
step_keeps h caller (PutPoint point row qual value) s place p c may u is = content-written_other s row qual value _ p (other_row p row qual (points_other p u row may.in_points)) ∙ is
step_keeps h caller (AppendPoint point row piece) s place p c may u is = content-written_other s row column_qual _ _ p (other_row p row column_qual (points_other p u row may.put.in_points)) ∙ is
step_keeps h caller (PutMerged row qual value) s place p c may u is = content-written_other s row qual value _ p (other_row p row qual (points_other p u row may.in_points)) ∙ is
step_keeps h caller (DropCells row which) s place p c may u is = get-dropped_other s row which p (points_other p u row may.in_points) ∙ is

-- what stands at the place of an id or a name stands in each longer lawful history
pub keeps : {h0 h : History} (p : Place) (c : Content) → Begins h0 h → IsLawful h → IsUid p → get (store_after h0) p ≡ Some c → get (store_after h) p ≡ Some c
keeps p c whole lawful u is = is
keeps p c (longer {h0} {h} {e} b) lawful u is =
    step_keeps h e.caller e.step (store_after h) (len h + 1) p c lawful.1.may u (keeps p c b lawful.0 u is)

-- where an entry stands, the history begins with what was before it, and with it
pub record Stood (h : History) (place : ℕ) (e : Entry) : Type 0 where
  pub before : History
  pub begins : Begins (Then before e) h
  pub place_is : place ≡ len before + 1

pub stood : (h : History) (place : ℕ) (e : Entry) → entry_at h place ≡ Some e → Stood h place e
stood (Base base) place e is = absurd (not_Some e (sym is))
stood (Then h last) place e is = at (nat_eq place (len h + 1)) refl is (λ w. stood h place e w)
  where
    at : (b : Bool) → nat_eq place (len h + 1) ≡ b → (if b then Some last else entry_at h place) ≡ Some e → (entry_at h place ≡ Some e → Stood h place e) → Stood (Then h last) place e
    at true eq is go = let same : last ≡ e = cc in record { before = h; begins = subst (λ x. Begins (Then h x) (Then h last)) same whole; place_is = nat_eq_is _ _ eq }
    at false eq is go = let w = go is in record { before = w.before; begins = longer w.begins; place_is = w.place_is }

-- what begins a lawful history is lawful
pub lawful_begins : {h0 h : History} → Begins h0 h → IsLawful h → IsLawful h0
lawful_begins whole l = l
lawful_begins (longer b) l = lawful_begins b l.0
