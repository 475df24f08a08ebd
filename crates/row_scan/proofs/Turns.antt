-- Turn by turn a whole scan is made.
use Rattle.std.proofs.Common.{List, [], ◌∷◌, ◌++◌, sym, subst, append_assoc}
use Rattle.std.proofs.lemmas.List.{append-nil}
use Rattle.cell_model.specs.declared.row.Found.{Found}
use Rattle.cell_model.specs.declared.events.Placed.{Placed}
use Rattle.row_scan.specs.Scans.{Left, AreOther, Wanting, Scanned}
use Rattle.row_scan.specs.Scans.Scanned.{ended, found, other, skipped}
use Rattle.row_scan.specs.Laws.{ScanBegins, TurnGoesOn, OthersPass, SkipsPass, TurnEnds}
use Rattle.row_scan.proofs.Lower.{here, there, not_in}

pub scan_begins : ScanBegins
scan_begins wants left = λ more rest s. s

pub turn_goes_on : TurnGoesOn
turn_goes_on wants first now own list founds f so (p, list_is, next) = λ more rest s.
    subst (λ (l : List Placed). Scanned wants first ((own ++ l) ++ more) ((founds ++ f ∷ []) ++ rest)) (sym list_is)
    (subst (λ (l : List Placed). Scanned wants first l ((founds ++ f ∷ []) ++ rest)) (sym (append_assoc own (p ∷ []) more))
    (subst (λ (l : List Found). Scanned wants first (own ++ p ∷ more) l) (sym (append_assoc founds (f ∷ []) rest)) (so (p ∷ more) (f ∷ rest) (found next s))))

others_before : (wants : Wanting) (now : Left) (list more : List Placed) (rest : List Found) → AreOther list → Scanned wants now more rest → Scanned wants now (list ++ more) rest
others_before wants now [] more rest are s = s
others_before wants now (p ∷ list) more rest are s = other (are p (here p list)) (others_before wants now list more rest (λ q c. are q (there p q list c)) s)

pub others_pass : OthersPass
others_pass wants first now own list founds so are = λ more rest s.
    subst (λ (l : List Placed). Scanned wants first l (founds ++ rest)) (sym (append_assoc own list more)) (so (list ++ more) rest (others_before wants now list more rest are s))

pub turn_ends : TurnEnds
turn_ends wants first now own list founds so (p, list_is, next) =
    subst (λ (l : List Placed). Scanned wants first (own ++ l) founds) (sym list_is)
    (subst (λ (l : List Found). Scanned wants first (own ++ p ∷ []) l) (append-nil founds) (so (p ∷ []) [] (ended next (λ q c. absurd (not_in q c)))))

pub skips_pass : SkipsPass
skips_pass wants first now own founds from so skips = λ more rest s. so more rest (skipped skips s)
