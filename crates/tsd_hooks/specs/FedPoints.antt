-- Which points are handed on, and as what text.
use Rattle.std.specs.Prelude.{◌≡◌, ℕ, Bool, List, Result, nat_eq}
use Rattle.std.specs.Result.{ForOk}
use Rattle.std.specs.List.{starts_with}
use Rattle.std.specs.Global.{Vec}
use Rattle.std.specs.declared.alloc.AllocError.{AllocError}
use denote.Ref.{Bor}
use Rattle.tsd_base.specs.declared.points.Point.{Point}
use Rattle.tsd_base.specs.Points.{DataPoint, data_point}
use Rattle.tsd_hooks.specs.PointText.{point_text}

-- the point's metric begins with the prefix
abbrev pub is_under : List ℕ → DataPoint → Bool
is_under prefix point = starts_with nat_eq point.metric prefix

-- each answer that may be given is whether the point's metric begins with the prefix
abbrev pub JudgesBy : List ℕ → (Bor Point → Bool → Type 0) → Type 0
JudgesBy prefix gives = (point : Bor Point) (answer : Bool) → gives point answer → answer ≡ is_under prefix (data_point point.now)

-- each text that may be given is the point's line
abbrev pub PrintsLines : (Bor Point → Result (Vec ℕ) AllocError → Type 0) → Type 0
PrintsLines gives = (point : Bor Point) (answer : Result (Vec ℕ) AllocError) → gives point answer → ForOk answer (λ text. text.items ≡ point_text (data_point point.now))
