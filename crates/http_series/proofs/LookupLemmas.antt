-- What is told of a lookup.
use Rattle.std.proofs.Common.{◌≡◌, ℕ, List, refl, sym, ap, subst, Result, Ok, Err, Vec, Global}
use Rattle.std.specs.Prelude.{IfOk, MatchResult}
use Rattle.std.specs.declared.alloc.AllocError.{AllocError}
use Rattle.cell_model.specs.declared.events.Placed.{Placed}
use Rattle.cell_model.specs.History.{History, first}
use Rattle.cell_model.specs.Lawful.{IsLawful}
use Rattle.cell_model.specs.Seen.{Seen, Fits}
use Rattle.metric_scan.specs.Parts.{AreQuerySteps}
use Rattle.series_meta.specs.Lookups.{AreFewFor, LookupIs, LookupSays, SeriesAsked}
use Rattle.series_meta.specs.declared.meta_answers.Line.{Line}
use Rattle.series_meta.specs.declared.meta_faults.MetaFault.{MetaFault}
use Rattle.series_meta.specs.declared.meta_faults.MetaFault.TheVariants.{OutOfMemory}
use Rattle.http_series.specs.SeriesAnswers.{LookedUp, LookupTells, LookupTold, plain_text}
use Rattle.http_series.specs.SeriesReplies.{lookup_text}

looked_up : (q : SeriesAsked) (old new : Seen) (found : Result (Vec Line Global) MetaFault) → LookupSays q old found new → (h : History) → IsLawful h → Fits new h → LookedUp h old.caller old.length q found new.length
looked_up q old new found says h lawful fits =
    let made = sym (says.made.made h fits) in
    record {
      steps = subst AreQuerySteps made says.steps;
      few = subst (λ (own : List Placed). AreFewFor q.sub own (first new.length h)) made (says.few h lawful fits);
      is = subst (λ (own : List Placed). LookupIs q old.length own found new.length h) made (says.is h lawful fits);
    }

pub fault_tells : (q : SeriesAsked) (old new : Seen) (fault : MetaFault) → LookupSays q old (Err fault) new → LookupTells q old (Err fault) new
fault_tells q old new fault says = (says.made.since, λ h lawful fits. (Err fault, looked_up q old new (Err fault) says h lawful fits, refl))

-- series were found, and their text was written, or there was no memory for it
pub lines_tell : (q : SeriesAsked) (old new : Seen) (lines : Vec Line Global) (written : Result (Vec ℕ Global) AllocError) (result : Result (Vec ℕ Global) MetaFault) → LookupSays q old (Ok lines) new
    → IfOk written (λ text. text.items ≡ lookup_text q lines.items) → MatchResult written (λ text. result ≡ Ok text) (λ _. result ≡ Err OutOfMemory) → LookupTells q old (plain_text result) new
lines_tell q old new lines (Ok text) result says is gives = (
  says.made.since,
  λ h lawful fits. subst (λ (r : Result (Vec ℕ Global) MetaFault). LookupTold h old.caller old.length q (plain_text r) new.length) (sym gives) (Ok lines, looked_up q old new (Ok lines) says h lawful fits, ap (λ t. Ok t) is),
)
lines_tell q old new lines (Err failed) result says is gives = (
  says.made.since,
  λ h lawful fits.
      let found = looked_up q old new (Ok lines) says h lawful fits in
      subst (λ (r : Result (Vec ℕ Global) MetaFault). LookupTold h old.caller old.length q (plain_text r) new.length) (sym gives) (Err OutOfMemory, record { steps = found.steps; few = found.few; is = tt }, refl),
)
