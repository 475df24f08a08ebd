-- The store with which a run begins.
use Rattle.std.proofs.Common.{◌≡◌, ⊎_elim, ◌+◌, Bool, true, false, [], length, refl, sym, ap, subst, ◌∙◌, arith}
use Rattle.std.specs.Prelude.{Some, option_and_then, nat_eq, nat_le, if◌then◌else◌}
use Rattle.std.specs.Option.{option_map_or}
use Rattle.std.specs.Int.{w64, from_be_bytes}
use Rattle.row_key.specs.Made.{three}
use Rattle.tsd_base.specs.Points.{DataPoint}
use Rattle.tsd_base.specs.declared.kinds.Kind.{Kind}
use Rattle.tsd_base.specs.declared.kinds.Kind.TheVariants.{Metric, TagKey, TagValue}
use Rattle.cell_model.specs.declared.events.Entry.{Entry}
use Rattle.cell_model.specs.History.{History, base_of, entry_at, first, len}
use Rattle.cell_model.specs.History.History.{Base, Then}
use Rattle.cell_model.specs.IdRows.{id_number, name_row}
use Rattle.cell_model.specs.Machine.{counter_row, kind_qual}
use Rattle.cell_model.specs.Seen.{Fits, Seen}
use Rattle.cell_model.specs.Store.{no_cells}
use Rattle.cell_solo.specs.Turns.{opened, opening, whole_seen}
use Rattle.lone_store.specs.LoneStores.{IsFresh}
use Rattle.point_lines.specs.NameIds.{id_in, no_names}
use Rattle.batch_job.specs.NotedIds.{list_of}
use Rattle.batch_job.specs.Storing.{IsNaming, IsNumbered, HasOnlyPuts, WasPut}
use Rattle.batch_job.proofs.Entering.{put_before, only_puts_then}
use Rattle.cell_laws.proofs.CallerLemmas.{no_cell}
use Rattle.batch_job.proofs.Lower.{here, nat_eq_is, not_Some}

abbrev begun : History
begun = Then (Base (no_cells three)) (opening 1)

none_before : (h : History) → len h ≡ 0 → base_of h ≡ no_cells three → h ≡ Base (no_cells three)
none_before (Base b) is base = ap Base base
none_before (Then h e) is base = absurd (omega (arith, is))

entry_is : (a b : Entry) → Some a ≡ Some b → a ≡ b
entry_is a b e = cc

-- a history that begins empty, and with this opening
first_is : (h : History) → base_of h ≡ no_cells three → entry_at h 1 ≡ Some (opening 1) → first 1 h ≡ begun
first_is (Base b) base is = absurd (not_Some (opening 1) (sym is))
first_is (Then h e) base is = at (λ got. first_is h base got) (nat_eq 1 (len h + 1)) refl is
  where
    at : (entry_at h 1 ≡ Some (opening 1) → first 1 h ≡ begun) → (b : Bool) → nat_eq 1 (len h + 1) ≡ b → (if b then Some e else entry_at h 1) ≡ Some (opening 1) → (if nat_le (len h + 1) 1 then Then h e else first 1 h) ≡ begun
    at rest true eq got =
        let none : len h ≡ 0 = (let same = nat_eq_is _ _ eq in omega (arith, same)) in
        let low : nat_le (len h + 1) 1 ≡ true = grind (arith, none) in
        ap (λ b. if b then Then h e else first 1 h) low ∙ ap (λ x. Then x e) (none_before h none base) ∙ ap (λ x. Then (Base (no_cells three)) x) (entry_is e (opening 1) got)
    at rest false eq got =
        let high : nat_le (len h + 1) 1 ≡ false = grind (arith, eq) in
        ap (λ b. if b then Then h e else first 1 h) high ∙ rest got

no_list : (kind : Kind) → list_of no_names kind ≡ []
no_list Metric = refl
no_list TagKey = refl
no_list TagValue = refl

none_numbered : IsNumbered no_names begun
none_numbered = record {
  counts = λ kind. ap (λ o. option_map_or (from_be_bytes w64) o 0) (no_cell three counter_row (kind_qual kind)) ∙ ap length (sym (no_list kind));
  ids = λ kind name is. ap (option_and_then id_number) (no_cell three (name_row name) (kind_qual kind)) ∙ ap (λ list. id_in list name) (sym (no_list kind));
}

none_put : (r : DataPoint) → WasPut begun r → ⊥
none_put r put =
    ⊎_elim
    (λ (before : WasPut (Base (no_cells three)) r). not_Some before.0 (sym before.1.1))
    (λ (now : ⊥). now)
    (put_before (Base (no_cells three)) (opening 1) r put)

begins : (s : Seen) (h : History) → s ≡ whole_seen (opened (no_cells three) 1) 1 true → Fits s h → first s.length h ≡ begun
begins s h same fits =
    ap (λ (x : Seen). first x.length h) same
    ∙ first_is h (fits.base ∙ ap (λ (x : Seen). x.base) same)
    ((subst (λ (x : Seen). Fits x h) same fits).seen 1 (opening 1) (omega arith, here (record { place = 1; entry = opening 1 }) []))

-- what the one caller of an empty store has seen at first
pub naming_begins : (s : Seen) → IsFresh three s → IsNaming no_names s
naming_begins s fresh =
    let same = fresh.seen in
    record {
      by = record { base = ap (λ (x : Seen). x.base) same; alone = ap (λ (x : Seen). x.alone) same; possible = fresh.possible };
      numbered = λ h lawful fits. subst (IsNumbered no_names) (sym (begins s h same fits)) none_numbered;
      only_puts = λ h lawful fits. subst HasOnlyPuts (sym (begins s h same fits)) (only_puts_then (Base (no_cells three)) (opening 1) (λ c. c) (λ e had. absurd (not_Some e (sym had.1))));
      unput = λ h lawful fits r put. none_put r (subst (λ x. WasPut x r) (begins s h same fits) put);
    }
