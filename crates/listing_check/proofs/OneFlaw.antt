-- A cell has one first flaw, and lines have one list of faults.
use Rattle.std.proofs.Common.{◌≡◌, ◌⊎◌, inl, inr, ℕ, ◌+◌, Bool, true, false, List, [], ◌∷◌, refl, sym, ap, ◌∙◌}
use Rattle.std.specs.Prelude.{Option, None, Some}
use Rattle.row_key.specs.declared.tables.Table.{Table}
use Rattle.row_key.specs.declared.tables.Table.TheVariants.{Ids, Names, Points}
use Rattle.row_key.specs.declared.keys.RowKey.{RowKey}
use Rattle.row_key.proofs.CallerLemmas.{one_key}
use Rattle.qual_codec.specs.CellDots.{Reads}
use Rattle.cell_model.specs.declared.row.ListLine.{ListLine}
use Rattle.cell_model.specs.declared.events.Place.{Place}
use Rattle.cell_model.specs.Rising.{place_of_line}
use Rattle.cell_model.specs.KindWidths.{Widths}
use Rattle.cell_listing.specs.ListedLines.{is_above, last_after}
use Rattle.cell_listing.specs.declared.listing_line.LineRead.{LineRead}
use Rattle.cell_listing.specs.declared.listing_line.LineRead.TheVariants.{Cell, Other}
use Rattle.listing_check.specs.Flaws.{FlawIn, FlawOf, IsKeyOf, PointFlaw, all_named}
use Rattle.listing_check.specs.Faults.{FaultsFrom, LineFlaw, told}
use Rattle.listing_check.specs.declared.report.Flaw.{Flaw}
use Rattle.listing_check.specs.declared.report.Flaw.TheVariants.{BadLine, BadUidCell, AboveCounter, NoName, BadKey, RowNoName, BadCell}

module _ (w : Widths) (cells : List ListLine) (row qual value : List ℕ) where
  -- the row is a key's, all ids of which are named, or not
  record IsKeyed (named : Bool) : Type 0 where
    key : RowKey
    is : IsKeyOf w row key
    named_is : all_named w cells key ≡ named

  -- what a flaw of a cell of points says
  Says : Option Flaw → Type 0
  Says flaw = ((flaw ≡ None) × IsKeyed true × Reads qual value) ⊎ (((flaw ≡ Some BadKey) × ((key : RowKey) → IsKeyOf w row key → ⊥)) ⊎ (((flaw ≡ Some RowNoName) × IsKeyed false) ⊎ ((flaw ≡ Some BadCell) × IsKeyed true × (Reads qual value → ⊥))))

  says : (flaw : Option Flaw) → PointFlaw w cells row qual value flaw → Says flaw
  unfolding Says
  says None p = inl (refl, record { key = p.0; is = p.1; named_is = p.2 }, p.3)
  says (Some BadLine) p = absurd p
  says (Some BadUidCell) p = absurd p
  says (Some AboveCounter) p = absurd p
  says (Some NoName) p = absurd p
  says (Some BadKey) p = inr (inl (refl, p))
  says (Some RowNoName) p = inr (inr (inl (refl, record { key = p.0; is = p.1; named_is = p.2 })))
  says (Some BadCell) p = inr (inr (inr (refl, record { key = p.0; is = p.1; named_is = p.2 }, p.3)))

  not_both : IsKeyed true → IsKeyed false → ⊥
  not_both a b =
      let same : a.key ≡ b.key = one_key w a.key b.key a.is.0 b.is.0 (sym a.is.1 ∙ b.is.1) in
      let no : true ≡ false = sym a.named_is ∙ ap (all_named w cells) same ∙ b.named_is in
      cc

  one_says : (a b : Option Flaw) → Says a → Says b → a ≡ b
  unfolding Says
  one_says a b x y = elim x [
    | inl p ↦ elim y [
      | inl q ↦ p.0 ∙ sym q.0
      | inr y ↦ elim y [
        | inl q ↦ absurd (q.1 p.1.key p.1.is)
        | inr y ↦ elim y [ inl q ↦ absurd (not_both p.1 q.1) | inr q ↦ absurd (q.2 p.2) ]
      ]
    ]
    | inr x ↦ elim x [
      | inl p ↦ elim y [
        | inl q ↦ absurd (p.1 q.1.key q.1.is)
        | inr y ↦ elim y [
          | inl q ↦ p.0 ∙ sym q.0
          | inr y ↦ elim y [ inl q ↦ absurd (p.1 q.1.key q.1.is) | inr q ↦ absurd (p.1 q.1.key q.1.is) ]
        ]
      ]
      | inr x ↦ elim x [
        | inl p ↦ elim y [
          | inl q ↦ absurd (not_both q.1 p.1)
          | inr y ↦ elim y [
            | inl q ↦ absurd (q.1 p.1.key p.1.is)
            | inr y ↦ elim y [ inl q ↦ p.0 ∙ sym q.0 | inr q ↦ absurd (not_both q.1 p.1) ]
          ]
        ]
        | inr p ↦ elim y [
          | inl q ↦ absurd (p.2 q.2)
          | inr y ↦ elim y [
            | inl q ↦ absurd (q.1 p.1.key p.1.is)
            | inr y ↦ elim y [ inl q ↦ absurd (not_both p.1 q.1) | inr q ↦ p.0 ∙ sym q.0 ]
          ]
        ]
      ]
    ]
  ]

flaw_in_once : (w : Widths) (cells : List ListLine) (t : Table) (row qual value : List ℕ) (a b : Option Flaw) → FlawIn w cells t row qual value a → FlawIn w cells t row qual value b → a ≡ b
flaw_in_once w cells Ids row qual value a b x y = x ∙ sym y
flaw_in_once w cells Names row qual value a b x y = x ∙ sym y
flaw_in_once w cells Points row qual value a b x y = one_says w cells row qual value a b (says w cells row qual value a x) (says w cells row qual value b y)

pub flaw_once : (w : Widths) (cells : List ListLine) (l : ListLine) (a b : Option Flaw) → FlawOf w cells l a → FlawOf w cells l b → a ≡ b
flaw_once w cells l a b x y = flaw_in_once w cells l.table l.row l.qual l.value a b x y

line_once : (w : Widths) (cells : List ListLine) (l : ListLine) (counts : Bool) (a b : Option Flaw) → LineFlaw w cells l counts a → LineFlaw w cells l counts b → a ≡ b
line_once w cells l true a b x y = flaw_once w cells l a b x y
line_once w cells l false a b x y = x ∙ sym y

pub faults_once : (w : Widths) (cells : List ListLine) (n : ℕ) (last : Option Place) (lines : List LineRead) (a b : List (ℕ × Flaw)) → FaultsFrom w cells n last lines a → FaultsFrom w cells n last lines b → a ≡ b
faults_once w cells n last [] a b x y = x ∙ sym y
faults_once w cells n last (Other bytes ∷ lines) a b x y = x.1 ∙ ap (λ (fs : List (ℕ × Flaw)). (n, BadLine) ∷ fs) (faults_once w cells (n + 1) last lines x.0 y.0 x.2 y.2) ∙ sym y.1
faults_once w cells n last (Cell c ∷ lines) a b x y =
    let flaw = line_once w cells c (is_above last (place_of_line c)) x.0 y.0 x.1 y.1 in
    let rest = faults_once w cells (n + 1) (last_after (is_above last (place_of_line c)) last (place_of_line c)) lines x.2.0 y.2.0 x.2.2 y.2.2 in
    x.2.1 ∙ (λ i. told n (flaw i) (rest i)) ∙ sym y.2.1
