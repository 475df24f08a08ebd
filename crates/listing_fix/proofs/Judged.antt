-- Cells of points that stay, one after the other.
use Rattle.std.proofs.Common.{◌≡◌, ℕ, ◌+◌, ◌<◌, ◌≤◌, Bool, true, false, cond, List, [], ◌∷◌, ◌++◌, length, drop, get_or, suc, refl, sym, ap, subst, ◌∙◌}
use Rattle.std.specs.Prelude.{Option, None, Some, is_some, not}
use Rattle.std.proofs.lemmas.List.{drop_all, drop_more}
use Rattle.list_lemmas.proofs.ListCuts.{joined, nothing_behind}
use Rattle.cell_model.specs.declared.row.ListLine.{ListLine}
use Rattle.cell_model.specs.KindWidths.{Widths}
use Rattle.row_key.specs.declared.tables.Table.{Table}
use Rattle.row_key.specs.declared.tables.Table.TheVariants.{Ids, Names, Points}
use Rattle.listing_check.specs.UidCells.{uid_in}
use Rattle.listing_check.specs.Flaws.{FlawIn, FlawOf, uid_flaw}
use Rattle.listing_check.specs.declared.report.Flaw.{Flaw}
use Rattle.listing_fix.specs.Fixes.{Sifted, is_points, left_with}
use Rattle.listing_fix.specs.Steps.{IsJudged, Judges, chosen, stays}

-- so far these were judged
abbrev pub AreJudged : Widths → List ListLine → ℕ → List Bool → Type 0
AreJudged w cells at flags = (more : List Bool) → Judges w cells (drop at cells) more → Judges w cells cells (flags ++ more)

pub none_judged : (w : Widths) (cells : List ListLine) (flags : List Bool) → flags ≡ [] → AreJudged w cells 0 flags
none_judged w cells flags e more x = subst (λ (fs : List Bool). Judges w cells cells (fs ++ more)) (sym e) x

pub one_judged : (w : Widths) (cells : List ListLine) (at : ℕ) (c : ListLine) (b : Bool) (old new : List Bool) → at < length cells → c ≡ get_or cells at c → AreJudged w cells at old → IsJudged w cells c b
    → new ≡ old ++ b ∷ [] → AreJudged w cells (at + 1) new
one_judged w cells at c b old new within is before judged push more x =
    let rest : drop at cells ≡ c ∷ drop (at + 1) cells = drop_more cells at c within ∙ (λ t. sym is t ∷ drop (at + 1) cells) in
    let all = before (b ∷ more) (subst (λ (ls : List ListLine). Judges w cells ls (b ∷ more)) (sym rest) (b, judged, (more, refl, x))) in
    let same : new ++ more ≡ old ++ b ∷ more = ap (λ (fs : List Bool). fs ++ more) push ∙ joined old (b ∷ []) more in
    subst (Judges w cells cells) (sym same) all

pub all_judged : (w : Widths) (cells : List ListLine) (at : ℕ) (flags : List Bool) → length cells ≤ at → AreJudged w cells at flags → Judges w cells cells flags
all_judged w cells at flags end before =
    subst (Judges w cells cells) (nothing_behind flags) (before [] (subst (λ (ls : List ListLine). Judges w cells ls []) (sym (drop_all at cells end)) refl))

-- each has a flag
pub judged_length : (w : Widths) (cells rest : List ListLine) (flags : List Bool) → Judges w cells rest flags → length flags ≡ length rest
judged_length w cells [] flags e = ap length e
judged_length w cells (l ∷ rest) flags x = let go = judged_length w cells rest x.2.0 x.2.2 in ap length x.2.1 ∙ ap suc go

-- what they choose is what is left
pub judged_left : (w : Widths) (cells rest : List ListLine) (flags : List Bool) → Judges w cells rest flags → Sifted w cells rest (chosen flags rest)
judged_left w cells [] flags e = none flags
  where
    none : (fs : List Bool) → chosen fs [] ≡ []
    none [] = refl
    none (b ∷ fs) = refl
judged_left w cells (l ∷ rest) flags x =
    let go = judged_left w cells rest x.2.0 x.2.2 in
    (x.1.flaw, x.1.flaw_is, (chosen x.2.0 rest, ap (λ (fs : List Bool). chosen fs (l ∷ rest)) x.2.1 ∙ ap (λ b. cond b (l ∷ chosen x.2.0 rest) (chosen x.2.0 rest)) x.1.flag_is ∙ by (is_points l.table) x.1.flaw, go))
  where
    by : (b : Bool) (flaw : Option Flaw) → cond (stays b flaw) (l ∷ chosen x.2.0 rest) (chosen x.2.0 rest) ≡ left_with b flaw l (chosen x.2.0 rest)
    by true (Some f) = refl
    by true None = refl
    by false f = refl

-- a cell that isn't one of points has some first flaw or none, and stays
pub other_judged : (w : Widths) (cells : List ListLine) (l : ListLine) (b : Bool) → is_points l.table ≡ false → b ≡ true → IsJudged w cells l b
other_judged w cells l b other stay = at l.table refl
  where
    at : (t : Table) → l.table ≡ t → IsJudged w cells l b
    at Ids e = record {
      flaw = uid_flaw w cells (uid_in w Ids l.row l.qual l.value);
      flaw_is = subst (λ (t : Table). FlawIn w cells t l.row l.qual l.value (uid_flaw w cells (uid_in w Ids l.row l.qual l.value))) (sym e) refl;
      flag_is = stay ∙ ap (λ c. stays c (uid_flaw w cells (uid_in w Ids l.row l.qual l.value))) (sym other);
    }
    at Names e = record {
      flaw = uid_flaw w cells (uid_in w Names l.row l.qual l.value);
      flaw_is = subst (λ (t : Table). FlawIn w cells t l.row l.qual l.value (uid_flaw w cells (uid_in w Names l.row l.qual l.value))) (sym e) refl;
      flag_is = stay ∙ ap (λ c. stays c (uid_flaw w cells (uid_in w Names l.row l.qual l.value))) (sym other);
    }
    at Points e = absurd (differ (sym (ap is_points e) ∙ other))
      where
        differ : true ≡ false → ⊥
        differ x = cc

pub point_judged : (w : Widths) (cells : List ListLine) (l : ListLine) (flaw : Option Flaw) (b : Bool) → is_points l.table ≡ true → FlawOf w cells l flaw → is_some flaw ≡ not b → IsJudged w cells l b
point_judged w cells l flaw b point flawed test = record { flaw = flaw; flaw_is = flawed; flag_is = by flaw b test ∙ ap (λ c. stays c flaw) (sym point) }
  where
    by : (o : Option Flaw) (b : Bool) → is_some o ≡ not b → b ≡ stays true o
    by (Some f) true e = cc
    by (Some f) false e = refl
    by None true e = refl
    by None false e = cc

pub judged_sifted : (w : Widths) (cells left : List ListLine) (flags : List Bool) → Judges w cells cells flags → left ≡ chosen flags cells → Sifted w cells cells left
judged_sifted w cells left flags x e = subst (Sifted w cells cells) (sym e) (judged_left w cells cells flags x)
