-- What an entry at its place says of the history before it.
use Rattle.std.proofs.Common.{◌≡◌, ℕ, ◌+◌, ◌-◌, ◌≤◌, Bool, true, false, refl, sym, ap, subst, ◌∙◌, arith, rules}
use Rattle.std.specs.Prelude.{nat_le, if◌then◌else◌}
use Rattle.cell_model.specs.Machine.{reply_of}
use Rattle.cell_model.specs.History.{History, len, store_after, first}
use Rattle.cell_model.specs.History.History.{Base, Then}
use Rattle.cell_model.specs.KindWidths.{Widths}
use Rattle.cell_model.specs.IdRows.{id_of}
use Rattle.cell_model.specs.Layout.{RowResolved}
use Rattle.cell_model.specs.Lawful.{IsAllowed}
use Rattle.cell_laws.proofs.SameWidths.{seen_back}
use Rattle.cell_laws.specs.Laws.{FirstIsLawful, EntriesAreLawful, SeenCellReads}
use Rattle.cell_laws.proofs.Beginnings.{Begins}
use Rattle.cell_laws.proofs.Beginnings.Begins.{whole, longer}
use Rattle.cell_laws.proofs.Keeps.{stood, lawful_begins}
use Rattle.cell_laws.proofs.Entries.{bounded}
use Rattle.cell_laws.proofs.Ids.{trans_begins}
use Rattle.cell_laws.proofs.LawsHold.{begins_first}
use Rattle.cell_laws.proofs.Counters.{len_begins}
use Rattle.cell_laws.proofs.Known.{known_cell}
use Rattle.cell_laws.proofs.Written.{each_reads, row_resolved, resolved_keeps}

nat_le-refl : (n : ℕ) → nat_le n n ≡ true
nat_le-refl n = search rules

first_len : (h : History) → first (len h) h ≡ h
first_len (Base base) = refl
first_len (Then h e) = ap (λ b. if b then Then h e else first (len h + 1) h) (nat_le-refl (len h + 1))

above : (a b : ℕ) → a ≤ b → nat_le (b + 1) a ≡ false
above a b le = at (nat_le (b + 1) a) refl
  where
    at : (t : Bool) → nat_le (b + 1) a ≡ t → t ≡ false
    at true e = let up : b + 1 ≤ a = search (rules, e) in absurd (omega (arith, up, le))
    at false e = refl

-- a beginning is the first entries
pub begins_is_first : {h0 h : History} → Begins h0 h → first (len h0) h ≡ h0
begins_is_first {h0} whole = first_len h0
begins_is_first (longer {h0} {h} {e} b) = ap (λ t. if t then Then h e else first (len h0) h) (above (len h0) (len h) (len_begins b)) ∙ begins_is_first b

pub first_is_lawful : FirstIsLawful
first_is_lawful h n l = lawful_begins (begins_first n h) l

pub entries_are_lawful : EntriesAreLawful
entries_are_lawful h place e l at =
    let st = stood h place e at in
    let here = lawful_begins st.begins l in
    let place_is = st.place_is in
    let before_is : first (len st.before) h ≡ st.before = begins_is_first (trans_begins (longer whole) st.begins) in
    let less : len st.before ≡ place - 1 = omega (arith, place_is) in
    let same : st.before ≡ first (place - 1) h = sym before_is ∙ ap (λ n. first n h) less in
    record {
      least = omega (arith, place_is);
      most = bounded h place e at;
      allowed = subst (λ (x : History). IsAllowed x e) same here.1;
      reply = here.2 ∙ ap (λ (x : History). reply_of (store_after x) (len st.before + 1) e.step) same ∙ ap (λ n. reply_of (store_after (first (place - 1) h)) n e.step) (sym place_is);
    }

pub seen_cell_reads : SeenCellReads
seen_cell_reads s h row q v l f p k =
    let st = known_cell s h row q v l f k in
    let lb = lawful_begins st.begins l in
    (each_reads st.behind row q v lb p st.stands, seen_back f (λ (w : Widths). RowResolved w (id_of h) row.bytes) (resolved_keeps row.bytes st.begins l (row_resolved st.behind row q v lb p st.stands)))
