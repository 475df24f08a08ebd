-- What requests on series are answered, by the entries that their caller makes for them between two lengths of a history.
use Rattle.std.specs.Prelude.{◌≡◌, ◌⊎◌, ℕ, ◌+◌, ◌*◌, ◌≤◌, List, [], ◌∷◌, ◌++◌, length, Option, Result, Ok, Err, Vec}
use Rattle.std.specs.List.{flat_map}
use Rattle.std.specs.declared.alloc.Global.{Global}
use Rattle.cell_model.specs.History.{History, first}
use Rattle.cell_model.specs.Deeds.{deeds, Since}
use Rattle.cell_model.specs.Seen.{Seen, InEach}
use Rattle.metric_scan.specs.Parts.{AreQuerySteps}
use Rattle.metric_scan.specs.declared.fault.AskFault.{AskFault}
use Rattle.metric_scan.specs.declared.fault.AskFault.TheVariants as ask
use Rattle.series_meta.specs.LatestPoints.{Asking, LastIs, LastSays}
use Rattle.series_meta.specs.Lookups.{AreFewFor, LookupIs, SeriesAsked}
use Rattle.series_meta.specs.declared.meta_answers.Last.{Last}
use Rattle.series_meta.specs.declared.meta_answers.Line.{Line}
use Rattle.series_meta.specs.declared.meta_faults.MetaFault.{MetaFault}
use Rattle.series_meta.specs.declared.meta_faults.MetaFault.TheVariants.{Unknown, Duplicate, OutOfMemory, Stopped}
use Rattle.http_series.specs.SeriesReplies.{lookup_text, point_texts, points_text}

-- the fault of a query with the same text
abbrev pub query_fault : MetaFault → AskFault
query_fault (Unknown kind name) = ask.Unknown kind name
query_fault (Duplicate time a b) = ask.Duplicate time a b
query_fault OutOfMemory = ask.OutOfMemory
query_fault Stopped = ask.Stopped

-- ---- a lookup

-- series were looked up by the caller's entries there and no other
pub record LookedUp (h : History) (caller n : ℕ) (q : SeriesAsked) (found : Result (Vec Line Global) MetaFault) (n2 : ℕ) : Type 0 where
  pub steps : AreQuerySteps (deeds h caller n n2)
  pub few : AreFewFor q.sub (deeds h caller n n2) (first n2 h)
  pub is : LookupIs q n (deeds h caller n n2) found n2 h

-- the text that tells of the series, or why there is none
abbrev pub text_of : SeriesAsked → Result (Vec Line Global) MetaFault → Result (List ℕ) MetaFault
text_of q (Ok lines) = Ok (lookup_text q lines.items)
text_of q (Err fault) = Err fault

-- a lookup was answered with this text
abbrev pub LookupTold : History → ℕ → ℕ → SeriesAsked → Result (List ℕ) MetaFault → ℕ → Type 0
LookupTold h caller n q told n2 = (found : Result (Vec Line Global) MetaFault) × LookedUp h caller n q found n2 × (told ≡ text_of q found)

-- ---- last points

-- the last point of a series was asked for by the caller's entries there and no other
pub record LastAsked (h : History) (caller n : ℕ) (q : Asking) (found : Result (Option Last) MetaFault) (n2 : ℕ) : Type 0 where
  pub steps : AreQuerySteps (deeds h caller n n2)
  pub few : length (deeds h caller n n2) ≤ q.back + 2 + 2 * length q.tags
  pub is : LastIs q n (deeds h caller n n2) found n2 h

-- the last points of series were asked for one after the other, from one length on to another, and these are the texts of those that there are
pub data AllAsked (h : History) (caller n : ℕ) : List Asking → List (List ℕ) → ℕ → Type 0 where
  start : AllAsked h caller n [] [] n
  then_asked : {done : List Asking} {texts : List (List ℕ)} {e e2 : ℕ} (q : Asking) (last : Option Last) → AllAsked h caller n done texts e → e ≤ e2
      → LastAsked h caller e q (Ok last) e2 → AllAsked h caller n (done ++ q ∷ []) (texts ++ point_texts q.metric q.tags last) e2

-- the first series were asked for so, and the next one has this fault
pub record RefusedAt (h : History) (caller n : ℕ) (series : List Asking) (fault : MetaFault) (n2 : ℕ) : Type 0 where
  pub done : List Asking
  pub next : Asking
  pub rest : List Asking
  pub texts : List (List ℕ)
  pub last : ℕ
  pub all : series ≡ done ++ next ∷ rest
  pub asked : AllAsked h caller n done texts last
  pub in_range : last ≤ n2
  pub refused : LastAsked h caller last next (Err fault) n2

-- all were asked for so, whatever is told of it
abbrev pub AllWere : History → ℕ → ℕ → List Asking → ℕ → Type 0
AllWere h caller n series n2 = (texts : List (List ℕ)) × AllAsked h caller n series texts n2

-- a request for last points was answered with this text, or why there is none; memory may be wanted behind the last of them, too
abbrev pub LastsTold : History → ℕ → ℕ → List Asking → Result (List ℕ) MetaFault → ℕ → Type 0
LastsTold h caller n series (Ok text) n2 = (texts : List (List ℕ)) × AllAsked h caller n series texts n2 × (text ≡ points_text texts)
LastsTold h caller n series (Err (Unknown kind name)) n2 = RefusedAt h caller n series (Unknown kind name) n2
LastsTold h caller n series (Err (Duplicate time a b)) n2 = RefusedAt h caller n series (Duplicate time a b) n2
LastsTold h caller n series (Err OutOfMemory) n2 = RefusedAt h caller n series OutOfMemory n2 ⊎ AllWere h caller n series n2
LastsTold h caller n series (Err Stopped) n2 = RefusedAt h caller n series Stopped n2

-- the texts of points, each behind a comma
abbrev pub behind_commas : List (List ℕ) → List ℕ
behind_commas texts = flat_map (λ text. 44 ∷ text) texts

-- the last points of series were asked for, and these are the texts of those that there are, each behind a comma
abbrev pub PointsAsked : History → ℕ → ℕ → List Asking → List ℕ → ℕ → Type 0
PointsAsked h caller n series points n2 = (texts : List (List ℕ)) × AllAsked h caller n series texts n2 × (points ≡ behind_commas texts)

-- ---- what the caller sees of it

abbrev pub LookupTells : SeriesAsked → Seen → Result (List ℕ) MetaFault → Seen → Type 0
LookupTells q old told new = Since old new × InEach new (λ h. LookupTold h old.caller old.length q told new.length)

abbrev pub LastsTell : List Asking → Seen → Result (List ℕ) MetaFault → Seen → Type 0
LastsTell series old told new = Since old new × InEach new (λ h. LastsTold h old.caller old.length series told new.length)

-- a series was asked for, and the text of its last point was written behind a comma, where it has one
abbrev pub FoundSays : Asking → Seen → List ℕ → List ℕ → Seen → Type 0
FoundSays q old before after new = (found : Option Last) × LastSays q old (Ok found) new × (after ≡ before ++ behind_commas (point_texts q.metric q.tags found))

-- an answer as plain data
abbrev pub plain_text : Result (Vec ℕ Global) MetaFault → Result (List ℕ) MetaFault
plain_text (Ok text) = Ok text.items
plain_text (Err fault) = Err fault
