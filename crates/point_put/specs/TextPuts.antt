-- What the put of a text is answered.
use Rattle.std.specs.Prelude.{◌≡◌, ℕ, ◌+◌, ◌*◌, ◌≤◌, Bool, false, ℤ, List, [], length, Result, Ok, Err}
use Rattle.tsd_base.specs.Points.{DataPoint, FailsPoint, point_of}
use Rattle.cell_model.specs.declared.answers.Stored.{Stored}
use Rattle.cell_model.specs.declared.events.Placed.{Placed}
use Rattle.cell_model.specs.Seen.{Seen}
use Rattle.cell_model.specs.Deeds.{Made}
use Rattle.point_put.specs.declared.fault.PutFault.{PutFault}
use Rattle.point_put.specs.declared.fault.TextFault.{TextFault}
use Rattle.point_put.specs.declared.fault.TextFault.TheVariants.{Unread, Unput}
use Rattle.point_put.specs.declared.stored_text.StoredText.{StoredText}
use Rattle.point_put.specs.Admissions.{Admission}
use Rattle.point_put.specs.PutFaults.{is_stop}
use Rattle.point_put.specs.PutPoint.{PutSays}
use Rattle.point_put.specs.StoredTexts.{stored_at}

-- the text reads as a point, which was asked with this answer
abbrev pub ReadAndPut : Admission → List ℕ → Seen → Result Stored PutFault → Seen → Type 0
ReadAndPut c text old answer new = (point : DataPoint) × (point_of text ≡ Ok point) × PutSays c point old answer new

-- Accepted, the text reads as a point, which was put. Refused, either it has no point, this is its first fault, and nothing was done; or it reads as
-- a point, whose put was refused.
abbrev pub TextSays : Admission → List ℕ → Seen → Result StoredText TextFault → Seen → Type 0
TextSays c text old (Ok stored) new = ReadAndPut c text old (Ok (stored_at stored)) new
TextSays c text old (Err (Unread fault)) new = FailsPoint fault (point_of text) × Made old [] new
TextSays c text old (Err (Unput fault)) new = ReadAndPut c text old (Err fault) new

-- a put of the point makes at most four entries for each of its names, and one
abbrev pub IsFewFor : DataPoint → List Placed → Type 0
IsFewFor point list = length list ≤ 4 * (1 + 2 * length point.tags) + 1

-- the fault is that the caller was stopped
abbrev pub is_text_stop : TextFault → Bool
is_text_stop (Unread fault) = false
is_text_stop (Unput fault) = is_stop fault

-- a point of the same series, at this time with this value
abbrev pub point_at : DataPoint → ℕ → Bool → ℤ → DataPoint
point_at point time fine value = record { metric = point.metric; tags = point.tags; time = time; fine = fine; value = value }
