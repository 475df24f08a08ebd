-- No entry changes the widths of ids.
use Rattle.std.proofs.Common.{◌≡◌, refl, sym, ap, subst, ◌∙◌}
use Rattle.cell_model.specs.KindWidths.{Widths}
use Rattle.cell_model.specs.Store.{Store}
use Rattle.cell_model.specs.History.{History, base_of, store_after}
use Rattle.cell_model.specs.Seen.{Seen, Fits}
use Rattle.cell_model.specs.History.History.{Base, Then}
use Rattle.cell_laws.proofs.Beginnings.{Begins}
use Rattle.cell_laws.proofs.Beginnings.Begins.{whole, longer}

pub same_widths : {h0 h : History} → Begins h0 h → (store_after h0).widths ≡ (store_after h).widths
same_widths whole = refl
same_widths (longer b) = same_widths b

pub base_widths : (h : History) → (base_of h).widths ≡ (store_after h).widths
base_widths (Base base) = refl
base_widths (Then h e) = base_widths h

-- what holds with the widths of a beginning holds with those of the whole, and the other way round
pub carry : {h0 h : History} → Begins h0 h → (P : Widths → Type 0) → P (store_after h0).widths → P (store_after h).widths
carry b P x = subst P (same_widths b) x

pub carry_back : {h0 h : History} → Begins h0 h → (P : Widths → Type 0) → P (store_after h).widths → P (store_after h0).widths
carry_back b P x = subst P (sym (same_widths b)) x

-- the widths that a caller has seen are those of each history that fits
pub seen_widths : (s : Seen) (h : History) → Fits s h → s.base.widths ≡ (store_after h).widths
seen_widths s h f = ap (λ (b : Store). b.widths) (sym f.base) ∙ base_widths h

pub seen_carry : {s : Seen} {h : History} → Fits s h → (P : Widths → Type 0) → P s.base.widths → P (store_after h).widths
seen_carry {s} {h} f P x = subst P (seen_widths s h f) x

pub seen_back : {s : Seen} {h : History} → Fits s h → (P : Widths → Type 0) → P (store_after h).widths → P s.base.widths
seen_back {s} {h} f P x = subst P (sym (seen_widths s h f)) x
