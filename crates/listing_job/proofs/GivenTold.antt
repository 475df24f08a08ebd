-- What was told of a listing that was read.
use Rattle.std.proofs.Common.{◌≡◌, inr, ℕ, Bool, true, false, List, [], refl, sym, ap, subst, ◌∙◌}
use Rattle.std.specs.Prelude.{Option, Ok}
use Rattle.std.specs.Io.KnownBytes.{Appends}
use Rattle.std.proofs.KnownBytes.{Appends-nil}
use Rattle.row_key.specs.declared.widths.Widths.{Widths}
use Rattle.cell_listing.specs.ListedLines.{ListingRead}
use Rattle.cell_listing.specs.ListingReads.{ReadsListing}
use Rattle.listing_job.specs.declared.listing_end.ListingEnd.{ListingEnd}
use Rattle.listing_job.specs.declared.listing_end.ListingEnd.TheVariants.{Done, Refused, ReadFault, WriteFault, OutOfMemory, SessionFull}
use Rattle.listing_print.specs.GivenTexts.{GaveFront}
use Rattle.listing_print.specs.declared.cell_giver.GiveFault.{GiveFault}
use Rattle.listing_print.specs.declared.cell_giver.GiveFault.TheVariants as give
use Rattle.listing_check.specs.Faults.{AreFaults}
use Rattle.listing_dump.specs.Dumps.{GivesDump, GivesFront, dump_text}
use Rattle.listing_dump.specs.declared.dump.DumpFault.{DumpFault}
use Rattle.listing_dump.specs.declared.dump.DumpFault.TheVariants as dump
use Rattle.listing_job.specs.ListingJobs.{Dumped, GaveFrontOf, Gives, OverListing, Told, end_of_dump, end_of_give, store_read, told_end}
use Rattle.listing_job.proofs.OneText.{points_told}

-- all of it was given
pub gives_told : (Tells : Told → Type 0) (held held' : Option (List ℕ)) (told : Told) (refused : Bool) → told.refused ≡ refused → Tells told → Appends held held' told.text → Gives Tells held held' (told_end refused)
gives_told Tells held held' told true same is gives = (told, is, same, gives)
gives_told Tells held held' told false same is gives = (told, is, same, gives)

-- nothing was given
pub gives_nothing : (Tells : Told → Type 0) (held : Option (List ℕ)) → GaveFrontOf Tells held held
gives_nothing Tells held = record { front = []; gives = Appends-nil held; is_front = λ told is. (told.text, λ _. told.text) }

-- a front was given of the one thing that is told
pub gives_front : (Tells : Told → Type 0) (held held' : Option (List ℕ)) (shown : Told) → ((told : Told) → Tells told → told ≡ shown) → GaveFront held held' shown.text → GaveFrontOf Tells held held'
gives_front Tells held held' shown once f = record { front = f.front; gives = f.gives; is_front = λ told is. (f.rest, ap (λ (t : Told). t.text) (once told is) ∙ f.text_is) }

-- what was given is this, which is what is told, and nothing else is
pub gives_so : (Tells : Told → Type 0) (held held' : Option (List ℕ)) (shown : Told) (end : ListingEnd) → Tells shown → ((told : Told) → Tells told → told ≡ shown) → Gives (λ (told : Told). told ≡ shown) held held' end → Gives Tells held held' end
gives_so Tells held held' shown Done is once g = (g.0, subst Tells (sym g.1) is, g.2, g.3)
gives_so Tells held held' shown Refused is once g = (g.0, subst Tells (sym g.1) is, g.2, g.3)
gives_so Tells held held' shown WriteFault is once g = record { front = g.front; gives = g.gives; is_front = λ told t. g.is_front told (once told t) }
gives_so Tells held held' shown OutOfMemory is once g = record { front = g.front; gives = g.gives; is_front = λ told t. g.is_front told (once told t) }
gives_so Tells held held' shown ReadFault is once g = absurd g
gives_so Tells held held' shown SessionFull is once g = absurd g

-- the lines of cells, or the points, were given in part
pub gives_part : (Tells : Told → Type 0) (held held' : Option (List ℕ)) (fault : GiveFault) → GaveFrontOf Tells held held' → Gives Tells held held' (end_of_give fault)
gives_part Tells held held' give.Failed g = g
gives_part Tells held held' give.OutOfMemory g = g

pub gives_points : (Tells : Told → Type 0) (held held' : Option (List ℕ)) (fault : DumpFault) → GaveFrontOf Tells held held' → Gives Tells held held' (end_of_dump fault)
gives_points Tells held held' dump.Failed g = g
gives_points Tells held held' dump.OutOfMemory g = g

-- a listing was read, and this was told of it
pub over_read : (Tells : ListingRead → Told → Type 0) (widths : Widths) (taken taken' left left' held held' : Option (List ℕ)) (read : ListingRead) (end : ListingEnd)
    → ReadsListing widths taken taken' left left' (Ok read) → Gives (Tells read) held held' end → OverListing Tells widths taken taken' left left' held held' end
over_read Tells widths taken taken' left left' held held' read end r gives =
    record { bytes = r.input; takes = r.takes; leaves = r.leaves; ends = inr (r.reads.0, r.reads.1, subst (λ (x : ListingRead). Gives (Tells x) held held' end) r.reads.2 gives) }

-- ---- points

-- all points of a listing without a fault were given
pub dumps_all : (read : ListingRead) (held held' : Option (List ℕ)) → AreFaults read [] → GivesDump (store_read read) held held' → Gives (Dumped read) held held' Done
dumps_all read held held' none g = (record { refused = false; text = dump_text g.points }, inr (none, (g.points, g.are, refl)), refl, g.gives)

-- or a front of them
pub dumps_front : (read : ListingRead) (held held' : Option (List ℕ)) → AreFaults read [] → GivesFront (store_read read) held held' → GaveFrontOf (Dumped read) held held'
dumps_front read held held' none g = record {
  front = g.given;
  gives = g.gives;
  is_front = λ told is. let points = points_told read none told is in let rest = g.front points.0 points.1 in (rest.0, ap (λ (t : Told). t.text) points.2 ∙ rest.1);
}
