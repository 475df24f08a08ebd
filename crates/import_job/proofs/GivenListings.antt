-- The listing of a store, given to a sink.
use Rattle.std.proofs.Common.{◌≡◌, inl, inr, ℕ, ◌+◌, ◌≤◌, Bool, true, false, List, ◌++◌, Option, refl, sym, ap, subst, ◌∙◌, add-zero}
use Rattle.std.specs.Prelude.{Result, Ok, Err, OnOk}
use Rattle.std.proofs.lemmas.Bool.{false≢true}
use Rattle.tsd_io.specs.Causes.{Rose}
use Rattle.tsd_base.specs.Points.{DataPoint}
use Rattle.cell_model.specs.declared.answers.RowsFault.{RowsFault}
use Rattle.cell_model.specs.declared.answers.RowsFault.TheVariants as rows
use Rattle.cell_model.specs.Stops.{RoseIf, is_stop}
use Rattle.cell_model.specs.Counts.{lines_of}
use Rattle.cell_model.specs.History.{History, first, len, store_after}
use Rattle.cell_model.specs.KindWidths.{Widths}
use Rattle.cell_model.specs.Lawful.{IsLawful}
use Rattle.cell_model.specs.Seen.{Fits, Seen}
use Rattle.cell_model.specs.Store.{Store}
use Rattle.cell_listing.specs.Grammar.{cells_text}
use Rattle.point_lines.proofs.CallerLemmas.{first_longer}
use Rattle.import_job.specs.declared.import_end.ImportEnd.{ImportEnd}
use Rattle.import_job.specs.declared.import_end.ImportEnd.TheVariants.{Done, Refused, ReadFault, WriteFault, OutOfMemory, Stopped, SessionFull}
use Rattle.import_job.specs.Changes.{Changes, CompactsAll, MakesIf}
use Rattle.import_job.specs.ImportAnswers.{IsListing, IsMade}
use Rattle.import_job.specs.ImportedCells.{IsFilled}
use Rattle.import_job.specs.Listings.{GivesCells, GivesListing, GivesText, end_of_rows}
use Rattle.import_job.proofs.Filled.{lacks_column}

-- what is true of a text is so of another of which the first tells
texts : (P Q : List ℕ → Type 0) (held held' : Option (List ℕ)) (end : ImportEnd) → ((text : List ℕ) → P text → Q text) → GivesText P held held' end → GivesText Q held held' end
texts P Q held held' Done f (text, is, gives) = (text, f text is, gives)
texts P Q held held' Refused f never = absurd never
texts P Q held held' ReadFault f never = absurd never
texts P Q held held' WriteFault f x = record { front = x.front; gives = x.gives; rest = x.rest; is = f (x.front ++ x.rest) x.is }
texts P Q held held' OutOfMemory f (inl none) = inl none
texts P Q held held' OutOfMemory f (inr x) = inr (record { front = x.front; gives = x.gives; rest = x.rest; is = f (x.front ++ x.rest) x.is })
texts P Q held held' Stopped f none = none
texts P Q held held' SessionFull f never = absurd never

made_of : (w : Widths) (points : List DataPoint) (compact : Bool) (s t : Store) → IsFilled w points s → MakesIf compact s t → IsMade compact s t
made_of w points true s t filled all = all (lacks_column w points s filled)
made_of w points false s t filled same = same

-- the cells of the store after all that was made are the listing
pub cells_listed : (compact : Bool) (old new : Seen) (h : History) (held held' : Option (List ℕ)) (end : ImportEnd) → IsLawful h → Fits new h → len h ≤ new.length → Changes (MakesIf compact) old new → GivesCells (store_after h) held held' end → GivesListing compact old held held' end
cells_listed compact old new h held held' end lawful fits whole c gives w points has =
    let s : Store = store_after (first old.length h) in
    let t : Store = store_after (first new.length h) in
    let filled : IsFilled w points s = has h lawful (c.since.extends.fits h fits) in
    let same : t ≡ store_after h = ap store_after (first_longer h new.length whole) in
    texts (λ text. text ≡ cells_text (lines_of (store_after h))) (IsListing w compact points) held held' end
    (λ text is. record { filled = s; is_filled = filled; made = t; is_made = made_of w points compact s t filled (c.so h lawful fits); text_is = is ∙ ap (λ (x : Store). cells_text (lines_of x)) (sym same) }) gives

-- nothing was given of it
pub none_listed : (compact : Bool) (s : Seen) (held : Option (List ℕ)) → GivesListing compact s held held OutOfMemory
none_listed compact s held w points has = inl refl

pub stopped_listed : (compact : Bool) (s : Seen) (held : Option (List ℕ)) → GivesListing compact s held held Stopped
stopped_listed compact s held w points has = refl

-- a step failed, and nothing was given
pub fault_listed : (compact : Bool) (s : Seen) (held : Option (List ℕ)) (fault : RowsFault) (end : ImportEnd) → end ≡ end_of_rows fault → GivesListing compact s held held end
fault_listed compact s held rows.OutOfMemory end is = subst (GivesListing compact s held held) (sym is) (none_listed compact s held)
fault_listed compact s held rows.Stopped end is = subst (GivesListing compact s held held) (sym is) (stopped_listed compact s held)

no_read_of : (fault : RowsFault) → end_of_rows fault ≡ ReadFault → ⊥
no_read_of rows.OutOfMemory e = cc
no_read_of rows.Stopped e = cc

-- the end of it is no fault of a device
pub none_read : (fault : RowsFault) (end : ImportEnd) → end ≡ end_of_rows fault → end ≡ ReadFault → ⊥
none_read fault end is e = no_read_of fault (sym is ∙ e)

no_write_of : (fault : RowsFault) → end_of_rows fault ≡ WriteFault → ⊥
no_write_of rows.OutOfMemory e = cc
no_write_of rows.Stopped e = cc

pub none_written : (fault : RowsFault) (end : ImportEnd) → end ≡ end_of_rows fault → end ≡ WriteFault → ⊥
none_written fault end is e = no_write_of fault (sym is ∙ e)

-- it is a stop only where the count rose
pub stop_rose : (fault : RowsFault) (end : ImportEnd) (a b : ℕ) → end ≡ end_of_rows fault → RoseIf (is_stop fault) (a + 0) (b + 0) → end ≡ Stopped → Rose a b
stop_rose rows.OutOfMemory end a b is rose e = let apart : OutOfMemory ≡ Stopped = sym is ∙ e in absurd cc
stop_rose rows.Stopped end a b is rose e = subst (λ (n : ℕ). Rose n b) (add-zero a) (subst (λ (n : ℕ). Rose (a + 0) n) (add-zero b) rose)

-- rows were compacted, as was asked
pub if_compact : (compact : Bool) (r : Result (Unit {0}) RowsFault) (old new : Seen) → compact ≡ true → OnOk r (Changes CompactsAll old new) → OnOk r (Changes (MakesIf compact) old new)
if_compact true (Ok done) old new is c = record { since = c.since; so = λ h lawful fits. c.so h lawful fits }
if_compact true (Err fault) old new is c = tt
if_compact false r old new is c = absurd (false≢true is)
