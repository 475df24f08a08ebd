-- Last points, asked for one after the other.
use Rattle.std.proofs.Common.{◌≡◌, ◌∙◌, ◌≤◌, ◌+◌, ◌*◌, inl, inr, ℕ, Bool, true, false, arith, List, [], ◌∷◌, ◌++◌, length, refl, sym, ap, subst, Option, Result, Ok, Err, Vec, Global}
use Rattle.std.specs.Prelude.{IfErr, IfOk, MatchResult, drop, codes}
use Rattle.std.specs.declared.alloc.AllocError.{AllocError}
use Rattle.cell_model.specs.declared.events.Placed.{Placed}
use Rattle.cell_model.specs.History.{History}
use Rattle.cell_model.specs.Lawful.{IsLawful}
use Rattle.cell_model.specs.Deeds.{Since, deeds}
use Rattle.cell_model.specs.Seen.{Seen, Fits, InEach}
use Rattle.cell_model.specs.Stops.{RoseIf}
use Rattle.metric_scan.specs.Parts.{AreQuerySteps}
use Rattle.series_meta.specs.LatestPoints.{Asking, LastIs, LastSays}
use Rattle.series_meta.specs.MetaFaults.{is_stop}
use Rattle.series_meta.specs.declared.meta_answers.Last.{Last}
use Rattle.series_meta.specs.declared.meta_faults.MetaFault.{MetaFault}
use Rattle.series_meta.specs.declared.meta_faults.MetaFault.TheVariants.{Unknown, Duplicate, OutOfMemory, Stopped}
use Rattle.http_series.specs.SeriesAnswers.{FoundSays, LastAsked, LastsTell, LastsTold, PointsAsked, RefusedAt, behind_commas, plain_text}
use Rattle.http_series.specs.SeriesAnswers.AllAsked.{start, then_asked}
use Rattle.http_series.specs.SeriesReplies.{point_texts}
use Rattle.http_series.proofs.PointLists.{array, more_behind}

-- what is said of one series holds of each history that is possible then
module _ (from now new : Seen) (since : Since from now) (q : Asking) (found : Result (Option Last) MetaFault) (says : LastSays q now found new) (h : History) (lawful : IsLawful h) (fits : Fits new h) where
  entries : deeds h from.caller now.length new.length ≡ says.own
  entries = ap (λ n. deeds h n now.length new.length) (sym since.caller) ∙ says.made.made h fits

  last_asked : LastAsked h from.caller now.length q found new.length
  last_asked = record {
    steps = subst AreQuerySteps (sym entries) says.steps;
    few = subst (λ (own : List Placed). length own ≤ q.back + 2 + 2 * length q.tags) (sym entries) says.few;
    is = subst (λ (own : List Placed). LastIs q now.length own found new.length h) (sym entries) (says.is h lawful fits);
  }

pub points_none : (s : Seen) → InEach s (λ h. PointsAsked h s.caller s.length [] [] s.length)
points_none s h lawful fits = ([], start, refl)

abbrev pub AskedTo : Seen → Seen → List Asking → List ℕ → Type 0
AskedTo from now done points = InEach now (λ h. PointsAsked h from.caller from.length done points now.length)

pub points_more : (from now new : Seen) (done : List Asking) (q : Asking) (points written : List ℕ) → Since from now → AskedTo from now done points → FoundSays q now points written new → AskedTo from new (done ++ q ∷ []) written
points_more from now new done q points written since asked (found, says, is) h lawful fits =
    let before = asked h lawful (says.made.since.extends.fits h fits) in (
      before.0 ++ point_texts q.metric q.tags found,
      then_asked q found before.1 says.made.since.extends.length (last_asked from now new since q (Ok found) says h lawful fits),
      is ∙ ap (λ p. p ++ behind_commas (point_texts q.metric q.tags found)) before.2 ∙ sym (more_behind before.0 (point_texts q.metric q.tags found)),
    )

abbrev RefusedTo : Seen → Seen → List Asking → MetaFault → Type 0
RefusedTo from new series fault = InEach new (λ h. RefusedAt h from.caller from.length series fault new.length)

-- a series was refused behind others
pub points_refused : (from now new : Seen) (done rest series : List Asking) (q : Asking) (points : List ℕ) (fault : MetaFault) → series ≡ done ++ q ∷ rest → Since from now → AskedTo from now done points → LastSays q now (Err fault) new → RefusedTo from new series fault
points_refused from now new done rest series q points fault all since asked says h lawful fits =
    let before = asked h lawful (says.made.since.extends.fits h fits) in
    record {
      done = done;
      next = q;
      rest = rest;
      texts = before.0;
      last = now.length;
      all = all;
      asked = before.1;
      in_range = says.made.since.extends.length;
      refused = last_asked from now new since q (Err fault) says h lawful fits;
    }

-- there was no memory to tell of one
pub untold : (q : Asking) (old new : Seen) (found : Option Last) → LastSays q old (Ok found) new → LastSays q old (Err OutOfMemory) new
untold q old new found says = record { own = says.own; made = says.made; steps = says.steps; few = says.few; is = λ h lawful fits. tt }

-- ---- what is told of them

pub refused_tell : (series : List Asking) (old new : Seen) (fault : MetaFault) → Since old new → RefusedTo old new series fault → LastsTell series old (Err fault) new
refused_tell series old new (Unknown kind name) since refused = (since, refused)
refused_tell series old new (Duplicate time a b) since refused = (since, refused)
refused_tell series old new OutOfMemory since refused = (since, λ h lawful fits. inl (refused h lawful fits))
refused_tell series old new Stopped since refused = (since, refused)

-- all were asked for, and their array was written, or there was no memory for it
pub points_tell : (series : List Asking) (old new : Seen) (points : List ℕ) (written : Result (Vec ℕ Global) AllocError) (result : Result (Vec ℕ Global) MetaFault) → Since old new → AskedTo old new series points
    → IfOk written (λ text. text.items ≡ codes "[" ++ (drop 1 points ++ codes "]")) → MatchResult written (λ text. result ≡ Ok text) (λ _. result ≡ Err OutOfMemory) → LastsTell series old (plain_text result) new
points_tell series old new points (Ok text) result since asked is gives = (
  since,
  λ h lawful fits.
      let all = asked h lawful fits in
      subst (λ (r : Result (Vec ℕ Global) MetaFault). LastsTold h old.caller old.length series (plain_text r) new.length) (sym gives) (all.0, all.1, is ∙ array points all.0 all.2),
)
points_tell series old new points (Err failed) result since asked is gives = (
  since,
  λ h lawful fits.
      let all = asked h lawful fits in
      subst (λ (r : Result (Vec ℕ Global) MetaFault). LastsTold h old.caller old.length series (plain_text r) new.length) (sym gives) (inr (all.0, all.1)),
)

-- a count that rose since has risen
pub rose_from : (stop : Bool) (before between now : ℕ) → before ≤ between → RoseIf stop between now → RoseIf stop before now
rose_from true before between now le rose = omega (arith, le, rose)
rose_from false before between now le rose = tt

-- want of memory for a text is no stop
pub text_stops : (before now : ℕ) (written : Result (Vec ℕ Global) AllocError) (result : Result (Vec ℕ Global) MetaFault) → MatchResult written (λ text. result ≡ Ok text) (λ _. result ≡ Err OutOfMemory) → IfErr result (λ fault. RoseIf (is_stop fault) before now)
text_stops before now (Ok text) result gives = subst (λ (r : Result (Vec ℕ Global) MetaFault). IfErr r (λ fault. RoseIf (is_stop fault) before now)) (sym gives) tt
text_stops before now (Err failed) result gives = subst (λ (r : Result (Vec ℕ Global) MetaFault). IfErr r (λ fault. RoseIf (is_stop fault) before now)) (sym gives) tt
