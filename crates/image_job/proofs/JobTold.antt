-- Of an image one thing is told.
use Rattle.std.proofs.Common.{◌≡◌, ◌≢◌, inl, inr, ℕ, true, false, List, [], ◌∷◌, refl, sym, ap, subst, ◌∙◌}
use Rattle.std.specs.Prelude.{Option, None, Some, Result, Ok, Err}
use Rattle.std.proofs.lemmas.Bool.{false≢true}
use Rattle.std.specs.Io.KnownBytes.{Appends}
use Rattle.cell_model.specs.declared.row.Listing.{Listing}
use Rattle.cell_listing.specs.Grammar.{cells_text}
use Rattle.cell_listing.specs.ListedLines.{ListingRead, counted_in}
use Rattle.listing_check.specs.Faults.{AreFaults}
use Rattle.listing_check.specs.ReportText.{fault_line}
use Rattle.listing_check.specs.Reports.{read_of}
use Rattle.listing_check.specs.declared.report.Flaw.{Flaw}
use Rattle.listing_check.proofs.CallerLemmas.{faults_once}
use Rattle.listing_print.specs.GivenTexts.{GaveFront}
use Rattle.listing_print.specs.declared.cell_giver.GiveFault.{GiveFault}
use Rattle.listing_print.specs.declared.cell_giver.GiveFault.TheVariants as give
use Rattle.listing_job.specs.ListingJobs.{GaveFrontOf, Gives, Told, end_of_give}
use Rattle.listing_job.specs.declared.listing_end.ListingEnd.{ListingEnd}
use Rattle.listing_job.specs.declared.listing_end.ListingEnd.TheVariants.{Done}
use Rattle.listing_job.proofs.CallerLemmas.{gives_front, gives_so}
use Rattle.cell_image.specs.Images.{first_large}
use Rattle.cell_image.specs.ImageTakes.{TakesImage}
use Rattle.cell_image.specs.declared.image_fault.ImageFault.{ImageFault}
use Rattle.cell_image.specs.declared.image_fault.ImageFault.TheVariants as fault
use Rattle.image_job.specs.ImageJobs.{Checks, GivesRefusal, IsPacked, LoadsImage, LoadsNone, OverImage, Packed, Unpacked, is_want, packed_by}
use Rattle.image_job.specs.ImageTexts.{flaw_told, image_fault_text, large_told, refused_by}

-- ---- the first fault
faults_are : (read : ListingRead) (a b : List (ℕ × Flaw)) → AreFaults read a → AreFaults read b → a ≡ b
faults_are read a b x y = faults_once read.widths (counted_in read.lines) 1 None read.lines a b x y

abbrev first_or : ℕ × Flaw → List (ℕ × Flaw) → ℕ × Flaw
first_or d [] = d
first_or d (f ∷ fs) = f

-- ---- `pack`
pub fault_packed : (read : ListingRead) (fault : ℕ × Flaw) (faults : List (ℕ × Flaw)) → AreFaults read (fault ∷ faults) → (told : Told) → Packed read told → told ≡ record { refused = true; text = fault_line fault }
fault_packed read fault faults are told (inl p) =
    let same = ap (first_or fault) (faults_are read (p.0 ∷ p.1) (fault ∷ faults) p.2 are) in
    p.3 ∙ ap (λ (f : ℕ × Flaw). record { refused = true; text = fault_line f }) same
fault_packed read fault faults are told (inr p) = let same : [] ≡ fault ∷ faults = faults_are read [] (fault ∷ faults) p.0 are in absurd cc

image_packed : (read : ListingRead) → AreFaults read [] → (told : Told) → Packed read told → IsPacked (record { widths = read.widths; lines = counted_in read.lines }) told
image_packed read none told (inl p) = let same : p.0 ∷ p.1 ≡ [] = faults_are read (p.0 ∷ p.1) [] p.2 none in absurd cc
image_packed read none told (inr p) = p.1

-- the image of a listing without a fault was given
pub packs_sound : (read : ListingRead) (held held' : Option (List ℕ)) (end : ListingEnd) (l : Listing) → AreFaults read [] → l ≡ record { widths = read.widths; lines = counted_in read.lines } → Gives (IsPacked l) held held' end → Gives (Packed read) held held' end
packs_sound read held held' end l none same g =
    let all : Listing = record { widths = read.widths; lines = counted_in read.lines } in
    gives_so (Packed read) held held' (packed_by (first_large all.lines) all) end (inr (none, refl)) (image_packed read none) (subst (λ (m : Listing). Gives (IsPacked m) held held' end) same g)

-- which cell is too large was told
pub packs_large : (l : Listing) (cell : ℕ) (held mid held' : Option (List ℕ)) (end : ListingEnd) → first_large l.lines ≡ Some cell → mid ≡ held → Gives (λ (told : Told). told ≡ large_told cell) mid held' end → Gives (IsPacked l) held held' end
packs_large l cell held mid held' end large same g =
    subst (λ (o : Option ℕ). Gives (λ (told : Told). told ≡ packed_by o l) held held' end) (sym large) (subst (λ (h : Option (List ℕ)). Gives (λ (told : Told). told ≡ large_told cell) h held' end) same g)

-- what was shown is what is told
pub shows_so : (shown told : Told) (held held' : Option (List ℕ)) (end : ListingEnd) → shown ≡ told → Gives (λ (t : Told). t ≡ shown) held held' end → Gives (λ (t : Told). t ≡ told) held held' end
shows_so shown told held held' end same g = subst (λ (s : Told). Gives (λ (t : Told). t ≡ s) held held' end) same g

-- ---- `unpack`
pub flaw_unpacked : (l : Listing) (fault : ℕ × Flaw) (faults : List (ℕ × Flaw)) → AreFaults (read_of l) (fault ∷ faults) → (told : Told) → Unpacked l told → told ≡ flaw_told fault
flaw_unpacked l fault faults are told (inl p) = p.3 ∙ ap flaw_told (ap (first_or fault) (faults_are (read_of l) (p.0 ∷ p.1) (fault ∷ faults) p.2 are))
flaw_unpacked l fault faults are told (inr p) = let same : [] ≡ fault ∷ faults = faults_are (read_of l) [] (fault ∷ faults) p.0 are in absurd cc

text_unpacked : (l : Listing) → AreFaults (read_of l) [] → (told : Told) → Unpacked l told → told ≡ record { refused = false; text = cells_text l.lines }
text_unpacked l none told (inl p) = let same : p.0 ∷ p.1 ≡ [] = faults_are (read_of l) (p.0 ∷ p.1) [] p.2 none in absurd cc
text_unpacked l none told (inr p) = p.1

pub unpacks_all : (l : Listing) (held held' : Option (List ℕ)) → AreFaults (read_of l) [] → Appends held held' (cells_text l.lines) → Gives (Unpacked l) held held' Done
unpacks_all l held held' none g = (record { refused = false; text = cells_text l.lines }, inr (none, refl), refl, g)

pub unpacks_front : (l : Listing) (held held' : Option (List ℕ)) (why : GiveFault) → AreFaults (read_of l) [] → GaveFront held held' (cells_text l.lines) → Gives (Unpacked l) held held' (end_of_give why)
unpacks_front l held held' why none f = at why
  where
    front : GaveFrontOf (Unpacked l) held held'
    front = gives_front (Unpacked l) held held' (record { refused = false; text = cells_text l.lines }) (text_unpacked l none) f

    at : (w : GiveFault) → Gives (Unpacked l) held held' (end_of_give w)
    at give.Failed = front
    at give.OutOfMemory = front

-- the line of a fault was given
pub refuses_so : (f : ImageFault) (held held' : Option (List ℕ)) (end : ListingEnd) → is_want f ≡ false → Gives (λ (told : Told). told ≡ refused_by (image_fault_text f)) held held' end → GivesRefusal f held held' end
refuses_so (fault.CutShort place) held held' end not_want g = g
refuses_so fault.BadMark held held' end not_want g = g
refuses_so fault.BadWidths held held' end not_want g = g
refuses_so (fault.BadTable place) held held' end not_want g = g
refuses_so (fault.EmptyPart place) held held' end not_want g = g
refuses_so (fault.NotRising place) held held' end not_want g = g
refuses_so (fault.Trailing place) held held' end not_want g = g
refuses_so fault.OutOfMemory held held' end not_want g = absurd cc

-- a job that told a refusal isn't done
pub never_done : (t : Told) (held held' : Option (List ℕ)) (end : ListingEnd) → t.refused ≡ true → Gives (λ (told : Told). told ≡ t) held held' end → end ≢ Done
never_done t held held' end so g done =
    let all = subst (λ (e : ListingEnd). Gives (λ (told : Told). told ≡ t) held held' e) done g in
    false≢true (sym all.2 ∙ ap (λ (told : Told). told.refused) all.1 ∙ so)

-- ---- what is loaded
module _ (taken taken' left left' : Option (List ℕ)) where
  -- of a listing that was taken and checked
  pub loads_checked : (held held' : Option (List ℕ)) (l : Listing) (result : Result Listing ListingEnd) → TakesImage taken taken' left left' (Ok l) → Checks l held held' result → LoadsImage taken taken' left left' held held' result
  loads_checked held held' l (Ok checked) t c =
      subst (λ (m : Listing). LoadsImage taken taken' left left' held held' (Ok m)) (sym c.0)
      (record { bytes = t.input; takes = t.takes; leaves = t.leaves; loads = (t.gives.0, t.gives.1, t.gives.2, c.1, c.2) })
  loads_checked held held' l (Err end) t (inl none) =
      subst (λ (e : ListingEnd). LoadsImage taken taken' left left' held held' (Err e)) (sym none.0) (record { bytes = t.input; takes = t.takes; leaves = t.leaves; loads = inl none.1 })
  loads_checked held held' l (Err end) t (inr told) =
      record { bytes = t.input; takes = t.takes; leaves = t.leaves; loads = inr (inr (t.gives.0, t.gives.1, (l, t.gives.2, told))) }

  -- a listing that was loaded was given
  pub over_loaded : (held mid held' : Option (List ℕ)) (end : ListingEnd) (l : Listing) → LoadsImage taken taken' left left' held mid (Ok l) → Gives (Unpacked l) mid held' end → OverImage Unpacked taken taken' left left' held held' end
  over_loaded held mid held' end l t g = record {
    bytes = t.bytes;
    takes = t.takes;
    leaves = t.leaves;
    ends = inr (inr (t.loads.0, t.loads.1, (l, t.loads.2, subst (λ (h : Option (List ℕ)). Gives (Unpacked l) h held' end) t.loads.4 g)));
  }

  -- none was loaded, as was told
  pub over_none : (held held' : Option (List ℕ)) (end : ListingEnd) → LoadsImage taken taken' left left' held held' (Err end) → OverImage Unpacked taken taken' left left' held held' end
  over_none held held' end t = at t.loads
    where
      at : LoadsNone left' t.bytes held held' end → OverImage Unpacked taken taken' left left' held held' end
      at (inl unread) = record { bytes = t.bytes; takes = t.takes; leaves = t.leaves; ends = inl unread }
      at (inr (inl refused)) = record { bytes = t.bytes; takes = t.takes; leaves = t.leaves; ends = inr (inl refused) }
      at (inr (inr flawed)) =
          let l = flawed.2.0 in
          let told = flawed.2.2 in
          record {
            bytes = t.bytes;
            takes = t.takes;
            leaves = t.leaves;
            ends = inr (inr (
              flawed.0,
              flawed.1,
              (
                l,
                flawed.2.1,
                gives_so (Unpacked l) held held' (flaw_told told.0) end (inl (told.0, told.1, told.2, refl)) (flaw_unpacked l told.0 told.1 told.2) told.3,
              ),
            ));
          }
