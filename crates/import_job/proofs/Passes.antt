-- What an import gives, by what it took and how it ended.
use Rattle.std.proofs.Common.{◌≡◌, inl, inr, ℕ, ◌+◌, Bool, true, false, List, [], refl, sym, ap, subst, ◌∙◌, arith}
use Rattle.std.specs.Prelude.{Option, Some, Result, Ok, Err, nat_eq, nat_le, if◌then◌else◌}
use Rattle.std.specs.Io.KnownBytes.{Appends}
use Rattle.std.proofs.KnownBytes.{Appends-nil, Consumes-nil}
use Rattle.std.proofs.lemmas.Bool.{false≢true}
use Rattle.list_lemmas.proofs.BoolTests.{nat_eq_is, not_Some}
use Rattle.list_lemmas.proofs.ListMembers.{here}
use Rattle.tsd_base.specs.Points.{DataPoint}
use Rattle.cell_model.specs.declared.events.Entry.{Entry}
use Rattle.cell_model.specs.History.{History, base_of, entry_at, first, len, store_after}
use Rattle.cell_model.specs.History.History.{Base, Then}
use Rattle.cell_model.specs.KindWidths.{Widths}
use Rattle.cell_model.specs.Lawful.{IsLawful}
use Rattle.cell_model.specs.Seen.{Fits, IsPossible, Seen}
use Rattle.cell_model.specs.Store.{no_cells}
use Rattle.cell_solo.specs.Turns.{opened, opening, whole_seen}
use Rattle.lone_store.specs.LoneStores.{IsFresh}
use Rattle.point_lines.specs.LinePoints.{points_of}
use Rattle.point_import.specs.ImportFaults.{line_fault_text}
use Rattle.point_import.specs.ImportedLines.{AcceptsSoFar, ImportMade, Imports}
use Rattle.point_import.specs.LoneImports.{IsAloneIn}
use Rattle.point_import.specs.PutPoints.{no_patterns}
use Rattle.point_import.specs.declared.import_fault.LineFault.{LineFault}
use Rattle.point_import.specs.declared.import_fault.ImportFault.{ImportFault}
use Rattle.point_import.specs.declared.import_fault.ImportFault.TheVariants as fault
use Rattle.import_job.specs.declared.import_end.ImportEnd.{ImportEnd}
use Rattle.import_job.specs.declared.import_end.ImportEnd.TheVariants.{Done, Refused, ReadFault, WriteFault, OutOfMemory, Stopped, SessionFull}
use Rattle.import_job.specs.ImportAnswers.{ImportAnswers, IsListing, IsUnrefused, PassesImport, Refuses, refused_line}
use Rattle.import_job.specs.Listings.{GivesListing, GivesText, HasPoints}
use Rattle.import_job.specs.Refusals.{GivesRefusal, TellsFault}
use Rattle.import_job.proofs.Filled.{filled}
use Rattle.import_job.proofs.RefusedLines.{read_to, refusal}

-- ---- the empty store
none_before : (w : Widths) (h : History) → len h ≡ 0 → base_of h ≡ no_cells w → h ≡ Base (no_cells w)
none_before w (Base b) is base = ap Base base
none_before w (Then h e) is base = absurd (omega (arith, is))

entry_is : (a b : Entry) → Some a ≡ Some b → a ≡ b
entry_is a b e = cc

-- a history that begins empty, and with this opening
first_is : (w : Widths) (h : History) → base_of h ≡ no_cells w → entry_at h 1 ≡ Some (opening 1) → first 1 h ≡ Then (Base (no_cells w)) (opening 1)
first_is w (Base b) base is = absurd (not_Some (opening 1) (sym is))
first_is w (Then h e) base is = at (λ got. first_is w h base got) (nat_eq 1 (len h + 1)) refl is
  where
    at : (entry_at h 1 ≡ Some (opening 1) → first 1 h ≡ Then (Base (no_cells w)) (opening 1)) → (b : Bool) → nat_eq 1 (len h + 1) ≡ b → (if b then Some e else entry_at h 1) ≡ Some (opening 1) → (if nat_le (len h + 1) 1 then Then h e else first 1 h) ≡ Then (Base (no_cells w)) (opening 1)
    at rest true eq got =
        let none : len h ≡ 0 = (let same = nat_eq_is _ _ eq in omega (arith, same)) in
        let low : nat_le (len h + 1) 1 ≡ true = grind (arith, none) in
        ap (λ b. if b then Then h e else first 1 h) low ∙ ap (λ x. Then x e) (none_before w h none base) ∙ ap (λ x. Then (Base (no_cells w)) x) (entry_is e (opening 1) got)
    at rest false eq got =
        let high : nat_le (len h + 1) 1 ≡ false = grind (arith, eq) in
        ap (λ b. if b then Then h e else first 1 h) high ∙ rest got

begins : (w : Widths) (s : Seen) (h : History) → s ≡ whole_seen (opened (no_cells w) 1) 1 true → Fits s h → store_after (first s.length h) ≡ no_cells w
begins w s h same fits =
    ap (λ (x : Seen). store_after (first x.length h)) same
    ∙ ap store_after (first_is w h (fits.base ∙ ap (λ (x : Seen). x.base) same) ((subst (λ (x : Seen). Fits x h) same fits).seen 1 (opening 1) (omega arith, here (record { place = 1; entry = opening 1 }) [])))

module _ (w : Widths) (compact : Bool) (taken taken' left left' held held' : Option (List ℕ)) (old new : Seen) (fresh : IsFresh w old) where
  alone : old.alone ≡ true
  alone = ap (λ (x : Seen). x.alone) fresh.seen

  module _ (result : Result ℕ ImportFault) (i : Imports no_patterns taken taken' left left' old result new) where
    abbrev possible : IsPossible new
    possible = i.since.lives fresh.possible

    alone_in : (h : History) → IsLawful h → Fits new h → IsAloneIn w h old.caller old.length new.length
    alone_in h lawful fits = record {
      lawful = lawful;
      base = fits.base ∙ i.since.extends.base ∙ ap (λ (x : Seen). x.base) fresh.seen;
      empty = begins w old h fresh.seen (i.since.extends.fits h fits);
      only = i.since.only alone h fits;
    }

    -- these bytes were given, of which the answer is right
    passes : (end : ImportEnd) (output : List ℕ) → Appends held held' output → ImportAnswers w compact i.input i.ended output end → PassesImport w compact taken taken' left left' held held' end
    passes end output gives answers = record { input = i.input; ended = i.ended; output = output; takes = i.takes; leaves = i.leaves; at_end = i.end; most = i.most; early = i.early; gives = gives; answers = answers }

    none_given : (end : ImportEnd) → held' ≡ held → ImportAnswers w compact i.input i.ended [] end → PassesImport w compact taken taken' left left' held held' end
    none_given end same answers = passes end [] (subst (λ (x : Option (List ℕ)). Appends held x []) (sym same) (Appends-nil held)) answers

  -- ---- all lines were accepted
  module _ (count : ℕ) (i : Imports no_patterns taken taken' left left' old (Ok count) new) where
    abbrev h : History
    h = (possible (Ok count) i).history

    made : ImportMade no_patterns h old.caller old.length new.length i.input i.ended (Ok count)
    made = i.made h (possible (Ok count) i).lawful (possible (Ok count) i).fits

    read : (points : List DataPoint) × (points_of w i.input ≡ Ok points)
    read = read_to w no_patterns h old.caller old.length new.length (alone_in (Ok count) i h (possible (Ok count) i).lawful (possible (Ok count) i).fits) new.length (omega arith) made.1

    has_points : HasPoints w read.0 new
    has_points x lawful fits =
        filled w no_patterns x old.caller old.length new.length (alone_in (Ok count) i x lawful fits) (omega arith) i.since.extends.length (i.made x lawful fits).1 read.0 read.1

    pub listed : (end : ImportEnd) → GivesListing compact new held held' end → PassesImport w compact taken taken' left left' held held' end
    listed end gives = at end (gives w read.0 has_points)
      where
        at : (end : ImportEnd) → GivesText (IsListing w compact read.0) held held' end → PassesImport w compact taken taken' left left' held held' end
        at Done (text, is, given) = passes (Ok count) i Done text given (made.0, (read.0, read.1, is))
        at Refused never = absurd never
        at ReadFault never = absurd never
        at SessionFull never = absurd never
        at WriteFault front = passes (Ok count) i WriteFault front.front front.gives (front.rest, inl (made.0, (read.0, read.1, front.is)))
        at OutOfMemory (inl none) = none_given (Ok count) i OutOfMemory none (inl refl)
        at OutOfMemory (inr front) = passes (Ok count) i OutOfMemory front.front front.gives (inr (front.rest, inl (made.0, (read.0, read.1, front.is))))
        at Stopped none = none_given (Ok count) i Stopped none refl

  -- ---- it ended before
  abbrev Ended : ImportFault → Type 0
  Ended f = Imports no_patterns taken taken' left left' old (Err f) new

  abbrev Passes : ImportEnd → Type 0
  Passes end = PassesImport w compact taken taken' left left' held held' end

  abbrev history_of : (f : ImportFault) → Ended f → History
  history_of f i = (possible (Err f) i).history

  broken : (f : ImportFault) (i : Ended f) → ImportMade no_patterns (history_of f i) old.caller old.length new.length i.input i.ended (Err f)
  broken f i = i.made (history_of f i) (possible (Err f) i).lawful (possible (Err f) i).fits

  lone : (f : ImportFault) (i : Ended f) → IsAloneIn w (history_of f i) old.caller old.length new.length
  lone f i = alone_in (Err f) i (history_of f i) (possible (Err f) i).lawful (possible (Err f) i).fits

  unrefused : (f : ImportFault) (i : Ended f) → AcceptsSoFar no_patterns (history_of f i) old.caller old.length new.length i.input → IsUnrefused w i.input
  unrefused f i a = record { lines = a.before; rest = a.rest; splits = a.splits; read = read_to w no_patterns (history_of f i) old.caller old.length new.length (lone f i) new.length (omega arith) a.accepted; front = a.front }

  refuses : (number : ℕ) (line : LineFault) (i : Ended (fault.Line number line)) → Refuses w i.input i.ended (refused_line number (line_fault_text line))
  refuses number line i =
      let f : ImportFault = fault.Line number line in
      (number, line_fault_text line, refusal w no_patterns (history_of f i) old.caller old.length new.length (lone f i) i.input i.ended number line (broken f i), refl)

  refused : (number : ℕ) (line : LineFault) (i : Ended (fault.Line number line)) (end : ImportEnd) → GivesRefusal number line held held' end → Passes end
  refused number line i Done never = absurd never
  refused number line i Refused given = passes (Err (fault.Line number line)) i Refused (refused_line number (line_fault_text line)) given (refuses number line i)
  refused number line i ReadFault never = absurd never
  refused number line i WriteFault front =
      passes (Err (fault.Line number line)) i WriteFault front.front front.gives (front.rest, inr (subst (Refuses w i.input i.ended) front.text_is (refuses number line i)))
  refused number line i OutOfMemory none = none_given (Err (fault.Line number line)) i OutOfMemory none (inl refl)
  refused number line i Stopped never = absurd never
  refused number line i SessionFull never = absurd never

  pub faulted : (f : ImportFault) → Ended f → (end : ImportEnd) → TellsFault f held held' end → Passes end
  faulted (fault.Line number line) i end tells = refused number line i end tells
  faulted fault.ReadFault i end (is, none) =
      let m = broken fault.ReadFault i in
      subst Passes (sym is) (none_given (Err fault.ReadFault) i ReadFault none (unrefused fault.ReadFault i m.0, m.1, refl))
  faulted fault.SessionFull i end (is, none) =
      let m = broken fault.SessionFull i in
      subst Passes (sym is) (none_given (Err fault.SessionFull) i SessionFull none (unrefused fault.SessionFull i m.0, m.1, refl))
  faulted fault.OutOfMemory i end (is, none) = subst Passes (sym is) (none_given (Err fault.OutOfMemory) i OutOfMemory none (inl refl))
  faulted fault.Stopped i end (is, none) = subst Passes (sym is) (none_given (Err fault.Stopped) i Stopped none refl)

-- no memory was there for the store
pub not_begun : (w : Widths) (compact : Bool) (taken left held : Option (List ℕ)) → PassesImport w compact taken taken left left held held OutOfMemory
not_begun w compact taken left held = record {
  input = [];
  ended = false;
  output = [];
  takes = Appends-nil taken;
  leaves = Consumes-nil left;
  at_end = λ e. absurd (false≢true e);
  most = omega arith;
  early = λ e. absurd (false≢true e);
  gives = Appends-nil held;
  answers = inl refl;
}
