-- Callers that only compact bring nothing new.
use Rattle.std.proofs.Common.{◌≡◌, ◌⊎◌, inl, inr, ⊎_elim, ℕ, ◌<◌, ◌≤◌, Bool, true, false, List, [], ◌∷◌, ◌++◌, refl, sym, subst, ap, ◌∙◌, rules}
use Rattle.std.specs.Prelude.{Contains, Result, Ok, Err, nat_le}
use Rattle.std.proofs.lemmas.List.Elements.{Contains-append_cases}
use Rattle.list_lemmas.proofs.ListMembers.{not_in, split}
use Rattle.cell_model.specs.declared.row.Row.{Row}
use Rattle.cell_model.specs.declared.answers.RowsFault.{RowsFault}
use Rattle.cell_model.specs.declared.answers.Stored.{Stored}
use Rattle.cell_model.specs.declared.events.Step.{Step}
use Rattle.cell_model.specs.declared.events.Step.TheVariants.{Open}
use Rattle.cell_model.specs.declared.events.Placed.{Placed}
use Rattle.cell_model.specs.Seen.{Seen}
use Rattle.cell_model.specs.Deeds.{placed, Made, MadeSo}
use Rattle.cell_laws.proofs.CallerLemmas.{deed_of}
use Rattle.region_locks.specs.CallerViews.{SawOpeningsAlone}
use Rattle.compactor.specs.declared.compaction.Compacted.{Compacted}
use Rattle.compactor.specs.declared.compaction.Compacted.TheVariants.{Nothing, Merged}
use Rattle.compactor.specs.declared.compaction.CompactFault.{CompactFault}
use Rattle.compactor.specs.declared.compaction.CompactFault.TheVariants.{Conflict, OutOfMemory, Stopped}
use Rattle.compactor.specs.declared.compaction.Drained.{Drained}
use Rattle.compactor.specs.CompactFaults.{fault_of_rows}
use Rattle.compactor.specs.Compaction.{CompactMade, WroteNothing, CameTo}
use Rattle.compactor.specs.Compaction.WroteNothing.{unread as nothing_unread, read as nothing_read}
use Rattle.compactor.specs.Compaction.CameTo.{unread as came_unread, read as came_read, put as came_put}
use Rattle.compactor.specs.Drains.{DrainMade, RowMade, RowsMade}
use Rattle.compactor.specs.Drains.RowsMade.{none as rows_end, compacted, conflict}
use Rattle.row_compactors.specs.Upkeep.{BroughtNothing, brings_new}

-- none of these entries brings anything new
abbrev NoneNew : List Placed → Type 0
NoneNew list = (p : Placed) → Contains list p → brings_new p.entry.step ≡ false

none_of : NoneNew []
none_of p has = absurd (not_in p has)

one_of : (d : Placed) (list : List Placed) → brings_new d.entry.step ≡ false → NoneNew list → NoneNew (d ∷ list)
one_of d list first rest p has = ⊎_elim (λ (is : d ≡ p). subst (λ (x : Placed). brings_new x.entry.step ≡ false) is first) (λ i. rest p i) (split d p list has)

both_of : (xs ys : List Placed) → NoneNew xs → NoneNew ys → NoneNew (xs ++ ys)
both_of xs ys first rest p has = ⊎_elim (λ i. first p i) (λ i. rest p i) (Contains-append_cases xs ys p has)

as_list : (xs ys : List Placed) → xs ≡ ys → NoneNew ys → NoneNew xs
as_list xs ys is none = subst NoneNew (sym is) none

wrote_none : (row : Row) (list : List Placed) → WroteNothing row list → NoneNew list
wrote_none row _ nothing_unread = none_of
wrote_none row _ (nothing_read {d = d} did several) = one_of d [] (ap brings_new did.0) none_of

came_none : (row : Row) (list : List Placed) → CameTo row list → NoneNew list
came_none row _ came_unread = none_of
came_none row _ (came_read {d = d} merges) = one_of d [] (ap brings_new merges.did.0) none_of
came_none row _ (came_put {d = d} {e = e} merges did) = one_of d (e ∷ []) (ap brings_new merges.did.0) (one_of e [] (ap brings_new did.0) none_of)

compact_none : (row : Row) (r : Result Compacted CompactFault) (list : List Placed) → CompactMade row r list → NoneNew list
compact_none row (Ok Nothing) list m = as_list list (m.read ∷ []) m.list_is (one_of m.read [] (ap brings_new m.did.0) none_of)
compact_none row (Ok (Merged before dropped)) list m = as_list list (m.read ∷ m.put ∷ m.drop ∷ []) m.list_is
    (one_of m.read (m.put ∷ m.drop ∷ []) (ap brings_new m.merges.did.0) (one_of m.put (m.drop ∷ []) (ap brings_new m.did_put.0) (one_of m.drop [] (ap brings_new m.did_drop.0) none_of)))
compact_none row (Err (Conflict offset a b)) list m = as_list list (m.read ∷ []) m.list_is (one_of m.read [] (ap brings_new m.did.0) none_of)
compact_none row (Err OutOfMemory) list m = wrote_none row list m
compact_none row (Err Stopped) list m = came_none row list m

row_none : (row : Row) (r : Result Bool RowsFault) (list : List Placed) → RowMade row r list → NoneNew list
row_none row (Ok false) list m = compact_none row (Ok m.0) list m.1
row_none row (Ok true) list m = compact_none row (Err (Conflict m.0 m.1 m.2)) list m.3
row_none row (Err fault) list m = compact_none row (Err (fault_of_rows fault)) list m

rows_none : (taken : List Stored) (conflicts : ℕ) (list : List Placed) → RowsMade taken conflicts list → NoneNew list
rows_none _ _ _ rows_end = none_of
rows_none _ _ _ (compacted {s = s} {rows = rs} {conflicts = n} {rest = rest} first m more) = both_of first rest (row_none s.row (Ok false) first m) (rows_none rs n rest more)
rows_none _ _ _ (conflict {s = s} {rows = rs} {conflicts = n} {rest = rest} first m more) = both_of first rest (row_none s.row (Ok true) first m) (rows_none rs n rest more)

drain_none : (before max : ℕ) (old new : List Stored) (r : Result Drained RowsFault) (list : List Placed) → DrainMade before max old r new list → NoneNew list
drain_none before max old new (Ok d) list m = rows_none m.drains.taken d.conflicts list m.drains.made
drain_none before max old new (Err fault) list m =
    as_list list (m.earlier ++ m.last) m.list_is (both_of m.earlier m.last (rows_none m.drains.taken m.conflicts m.earlier m.drains.made) (row_none m.row (Err fault) m.last m.made))

-- a place is within a length or behind it
within_or_behind : (n m : ℕ) → (n ≤ m) ⊎ (m < n)
within_or_behind n m = at (nat_le n m) refl
  where
    at : (b : Bool) → nat_le n m ≡ b → (n ≤ m) ⊎ (m < n)
    at true t = inl (search (rules, t))
    at false t = inr (search (rules, t))

-- a caller that had brought nothing new still has, where its new entries bring none
still_nothing : (s s' : Seen) (list : List Placed) → Made s list s' → NoneNew list → BroughtNothing s s.caller → BroughtNothing s' s'.caller
still_nothing s s' list m none before h law fits place e le own at = ⊎_elim
    (λ earlier. before h law (m.since.extends.fits h fits) place e earlier same at)
    (λ later. none (placed place e) (subst (λ (xs : List Placed). Contains xs (placed place e)) (m.made h fits) (deed_of h s.caller s.length s'.length place e later le same at)))
    (within_or_behind place s.length)
  where
    same : e.caller ≡ s.caller
    same = own ∙ m.since.caller

pub drained_nothing : (before max : ℕ) (s s' : Seen) (old new : List Stored) (r : Result Drained RowsFault) → MadeSo s (DrainMade before max old r new) s' → BroughtNothing s s.caller → BroughtNothing s' s'.caller
drained_nothing before max s s' old new r m nothing = still_nothing s s' m.0 m.1 (drain_none before max old new r m.0 m.2) nothing

-- a caller that only opened brought nothing new
open_none : (step : Step) → step ≡ Open → brings_new step ≡ false
open_none step is = ap brings_new is

pub opened_nothing : (s : Seen) → SawOpeningsAlone s → BroughtNothing s s.caller
opened_nothing s alone h law fits place e le own at = open_none e.step (alone place e (fits.no_other place e le (inl own) at))
