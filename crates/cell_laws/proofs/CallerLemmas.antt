-- What a caller's proof cites of lawful histories, where the functions of `laws` can't be called, and the lemmas that stand under them.
use Rattle.std.proofs.Common.{[], refl, arith}
use Rattle.cell_model.specs.declared.events.Step.{Step}
use Rattle.cell_model.specs.declared.events.Reply.{Reply}
use Rattle.cell_model.specs.Seen.{Seen, Stepped}
use Rattle.cell_model.specs.Deeds.{Extends, Made, Since}
use Rattle.cell_laws.specs.Laws.{AcceptedTimesStand, EachReads, EntriesAreLawful, FirstFits, FirstIsLawful, GivenIsFree, GivenIsId, KeepsId, MadeJoins, MadeStands, NamesBack, OneName, RowIdsAreTaken, SeenCellReads, SeenIdStands, SeenNameStands, StandingWasAccepted, StaysSound, StepIsMade, WaitIsMade}
use Rattle.cell_laws.specs.Laws as law
use Rattle.cell_laws.proofs.Accepting as accepting
use Rattle.cell_laws.proofs.Carry.{nothing_waited, extends_extends, made_made, since_since, stepped_extends, stepped_made, waited_made}
use Rattle.cell_laws.proofs.InOrder.{fits_first, made_in_order}
use Rattle.cell_laws.proofs.Keep as kept
use Rattle.cell_laws.proofs.Known as known
use Rattle.cell_laws.proofs.LawsHold as ids
use Rattle.cell_laws.proofs.Lining as lining
use Rattle.cell_laws.proofs.Placing as placing
use Rattle.cell_laws.proofs.SeenIds.{given_is_free, given_is_id, seen_id_stands, seen_name_stands}
use Rattle.cell_laws.proofs.Sounding as sounding
use Rattle.cell_laws.proofs.Written as written
-- ---- the store without a cell
-- no cell is in it, and it is sound
pub use Rattle.cell_laws.proofs.EmptyStore.{no_cell, nothing, empty_base}
-- ---- widths
-- they are those of the base and of each beginning, and what holds with the ones holds with the others
pub use Rattle.cell_laws.proofs.SameWidths.{same_widths, base_widths, carry, carry_back, seen_widths, seen_carry, seen_back}
-- ---- histories and their entries
-- a history that begins another
pub use Rattle.cell_laws.proofs.Beginnings.{Begins}
pub use Rattle.cell_laws.proofs.Beginnings.Begins.{whole, longer}
-- the first entries begin it, and the first of more are the first; what begins what begins it does so too, and is lawful where it is
pub use Rattle.cell_laws.proofs.LawsHold.{begins_first, first_first}
pub use Rattle.cell_laws.proofs.Ids.{trans_begins}
pub use Rattle.cell_laws.proofs.Keeps.{lawful_begins}
-- an entry stands within the history's length, the last one at its end, and each where it stood when more come
pub use Rattle.cell_laws.proofs.Entries.{bounded, entry_at-last, entry_at-more}
-- what was before an entry that stands, and whether it is the last one
pub use Rattle.cell_laws.proofs.Keeps.{stood}
pub use Rattle.cell_laws.proofs.Keep.{had_split}
-- a caller's entries within a range of places, and outside of it
pub use Rattle.cell_laws.proofs.DeedRanges.{deeds_beyond, deeds_joined, inside, out_before, out_behind}
pub use Rattle.cell_laws.proofs.InOrder.{IsDeed, deeds_each}
-- each entry of the caller within the range is among them
pub use Rattle.cell_laws.proofs.DeedRanges.{deed_of}
-- ---- ids and names
-- kinds are told apart by their qualifiers, and no name is in the row of the counters
pub use Rattle.cell_laws.proofs.Ids.{same_kind, not_zero}
-- the tables of names and of ids are two; what a claim wrote, and of which name an id was claimed
pub use Rattle.cell_laws.proofs.Ids.{Names_Ids, claim_wrote, claimed_name}
-- what a bump that gave an id counted, and what the counter's cell has then
pub use Rattle.cell_laws.proofs.Counters.{Counted, counter_written, given_counts, held_there}
-- no point row is the counters', and no claim is of it
pub use Rattle.cell_laws.proofs.Counters.{point_differs, claim_differs}
-- the bytes of an id are read back as that id
pub use Rattle.cell_laws.proofs.LawsHold.{number-bytes}
-- ---- steps that put nothing and assign no id
-- a history is another with such steps behind it; it resolves the same names and accepted the same
pub use Rattle.cell_laws.proofs.Invisible.{Grown, ids_grown, accepted_grown}
-- from one length of a history on, or from one to another, there are such steps alone
pub use Rattle.cell_laws.proofs.Invisible.{OnlyBehind, OnlyBetween, grown_behind, grown_between}
-- ---- cells and readings
-- a cell that stands and isn't the column is one that the history had; what a write leaves at its place
pub use Rattle.cell_laws.proofs.Known.{had_cell, value-written}
-- a qualifier is the column's or it isn't; what a step does to the column, which only grows
pub use Rattle.cell_laws.proofs.Columns.{Changes, HasFront, column_changes, column_grows, column_or_not}
pub use Rattle.cell_laws.proofs.Columns.Changes.{stays, grows}
-- a cell that stood is kept, and so is each offset of its data points
pub use Rattle.cell_laws.proofs.KeptLater.{StandsAt, kept_later, offset_stands}
-- the names of a point that was put are resolved
pub use Rattle.cell_laws.proofs.Written.{key_resolves, metric_resolves, value_resolves}
-- the name of an id stays; what a cell that reads accepted
pub use Rattle.cell_laws.proofs.Accepting.{name_keeps, cell_by, had_accepted, stood_accepted}
-- what the cell of a point that was put says; the tags that ids name are one list
pub use Rattle.cell_laws.proofs.Accepting.{AppendReads, PutReads, appended_reads, put_dot, put_reads, tags_once}
-- a reading that meets another and has its value is that one
pub use Rattle.cell_laws.proofs.Accepting.{same_reading}
-- ---- sights
-- the first entries of a history fit, up to the seen length or to a greater one
pub use Rattle.cell_laws.proofs.InOrder.{fits_longer}
-- one of a caller that did nothing; what is the caller's in one is so in a later one
pub use Rattle.cell_laws.proofs.Carry.{nothing_waited, own_after}

-- ---- the laws

pub first_lawful : FirstIsLawful
first_lawful = placing.first_is_lawful

pub each_entry : EntriesAreLawful
each_entry = placing.entries_are_lawful

pub keeps_id : KeepsId
keeps_id = ids.keeps_id

pub one_name : OneName
one_name = ids.one_name

pub names_back : NamesBack
names_back = ids.names_back

pub shown_id : SeenIdStands
shown_id = seen_id_stands

pub shown_name : SeenNameStands
shown_name = seen_name_stands

pub given_id : GivenIsId
given_id = given_is_id

pub given_free : GivenIsFree
given_free = given_is_free

pub sound_after : StaysSound
sound_after = sounding.stays_sound

pub row_ids_are_taken : RowIdsAreTaken
row_ids_are_taken = sounding.row_ids_are_taken

pub known_is_allowed : law.KnownIsAllowed
known_is_allowed = known.known_is_allowed

pub seen_reads : SeenCellReads
seen_reads = placing.seen_cell_reads

pub keep : law.Keep
keep = kept.keep

pub each_reads : EachReads
each_reads = written.each_reads

pub standing_accepted : StandingWasAccepted
standing_accepted = accepting.standing_was_accepted

pub accepted_times_stand : AcceptedTimesStand
accepted_times_stand = accepting.accepted_times_stand

pub lines_tell_store : law.LinesTellStore
lines_tell_store = lining.lines_tell_store

-- ---- what a caller has seen and made

pub wait_made : WaitIsMade
wait_made old new w l = waited_made w l

pub step_made : StepIsMade
step_made old new s r st p = stepped_made st p

pub made_joined : MadeJoins
made_joined a b c xs ys x y = made_made x y

pub made_stands : MadeStands
made_stands old new own h m f = made_in_order h m f

pub first_fits : FirstFits
first_fits = fits_first

-- what is seen later extends what was seen, by a step too
pub extends_joined : (a b c : Seen) → Extends a b → Extends b c → Extends a c
extends_joined a b c x y = extends_extends x y

-- one call after the other, whatever each made
pub since_joined : (a b c : Seen) → Since a b → Since b c → Since a c
since_joined a b c x y = since_since x y

pub step_extends : (old new : Seen) (step : Step) (reply : Reply) → Stepped old step reply new → Extends old new
step_extends old new step reply s = stepped_extends s

-- and what is seen now extends itself, with nothing made
pub itself : (s : Seen) → Extends s s
itself s = record { base = refl; length = omega arith; kept = λ place entry saw. saw; fits = λ h f. f }

pub nothing_made : (s : Seen) → Made s [] s
nothing_made s = wait_made s s (nothing_waited s) (λ p. p)
