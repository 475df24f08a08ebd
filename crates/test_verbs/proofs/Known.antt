-- What a caller knows of the id of a name, and of the widths of ids.
use Rattle.std.proofs.Common.{◌≡◌, ℕ, List, refl, sym, ap, ◌∙◌, arith}
use Rattle.std.specs.Prelude.{Option, None, Some, Result, Ok, Err}
use Rattle.tsd_base.specs.declared.kinds.Kind.{Kind}
use Rattle.cell_model.specs.Seen.{Seen}
use Rattle.cell_model.specs.declared.answers.RowsFault.{RowsFault}
use Rattle.cell_model.specs.declared.row.Found.{Found}
use Rattle.cell_model.specs.Store.{Store}
use Rattle.cell_model.specs.Deeds.{Extends}
use Rattle.row_scan.specs.Scans.{Left, MadeSo, TurnMade, after_turn}
use Rattle.uid_table.specs.Shown.{HasShown, KnowsName}

itself : (s : Seen) → Extends s s
itself s = record { base = refl; length = omega arith; kept = λ place entry saw. saw; fits = λ h f. f }

-- an id that was shown is known to be a name's
pub shown_named : (s : Seen) (kind : Kind) (name : List ℕ) (id : ℕ) → HasShown s kind name id → KnowsName s kind id
shown_named s kind name id x h lawful fits = (name, x.is_name, x.stands s (itself s) h lawful fits)

-- a turn of a scan leaves the widths
after_widths : (left : Left) (r : Result (Option Found) RowsFault) → (after_turn left r).widths ≡ left.widths
after_widths left (Ok (Some found)) = refl
after_widths left (Ok None) = refl
after_widths left (Err fault) = refl

pub turned_widths : (left : Left) (old new : Seen) (r : Result (Option Found) RowsFault) (rest : Left) → rest ≡ after_turn left r → MadeSo old (TurnMade left r) new → left.widths ≡ old.base.widths → rest.widths ≡ new.base.widths
turned_widths left old new r rest is made were = ap (λ (l : Left). l.widths) is ∙ after_widths left r ∙ were ∙ ap (λ (s : Store). s.widths) (sym made.1.since.extends.base)
