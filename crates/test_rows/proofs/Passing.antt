-- What a step of another caller is to caller 1, and what it still knows there it.
use Rattle.std.proofs.Common.{◌≡◌, ◌⊎◌, inl, inr, ℕ, ◌+◌, ◌≤◌, Bool, false, List, refl, sym, ap, subst, ◌∙◌, arith}
use Rattle.std.proofs.lemmas.Bool.{false≢true}
use Rattle.std.specs.Prelude.{Contains, nat_eq, Result, Ok, Err, IsOk, IfOk, IfErr, OnOk, OnErr}
use Rattle.row_key.specs.declared.tables.Table.{Table}
use Rattle.row_key.specs.declared.tables.Table.TheVariants.{Ids, Names, Points}
use Rattle.tsd_base.specs.Points.{DataPoint}
use Rattle.cell_model.specs.declared.row.Row.{Row}
use Rattle.cell_model.specs.declared.answers.RowsFault.{RowsFault}
use Rattle.cell_model.specs.declared.answers.RowsFault.TheVariants.{OutOfMemory}
use Rattle.cell_model.specs.declared.events.Step.{Step}
use Rattle.cell_model.specs.declared.events.Step.TheVariants.{Claim, PutPoint, AppendPoint, PutMerged, DropCells}
use Rattle.cell_model.specs.declared.events.Reply.{Reply}
use Rattle.cell_model.specs.declared.events.Entry.{Entry}
use Rattle.cell_model.specs.declared.events.Placed.{Placed}
use Rattle.cell_model.specs.History.{History, len}
use Rattle.cell_model.specs.History.History.{Then}
use Rattle.cell_model.specs.KindWidths.{Widths, greatest, kind_bytes}
use Rattle.cell_model.specs.Machine.{kind_qual}
use Rattle.cell_model.specs.IdRows.{name_row}
use Rattle.cell_model.specs.Store.{Store}
use Rattle.cell_model.specs.Ranges.{InOneRange}
use Rattle.cell_model.specs.Lawful.{ClaimBasis, PointBasis, given}
use Rattle.cell_model.specs.Seen.{KnowsCell, Seen, Saw, IsOwn, Waited, Stepped, IsPossible, Knows, StandsIfUnstopped}
use Rattle.cell_solo.specs.Turns.{Play, all_placed, whole_seen, history_of, sight, Steps, Stays}
use Rattle.test_rows.specs.declared.fact.Fact.{Fact}
use Rattle.test_rows.specs.Facts.{AllHold}
use Rattle.test_rows.specs.Sharing.{IsSharing, IsOneStep, Passes}
use Rattle.test_rows.specs.Sharing.IsOneStep.{none, one}
use Rattle.list_lemmas.proofs.ListMembers.{there, split, not_in}
use Rattle.cell_laws.proofs.CallerLemmas.{nothing_waited, own_after, bounded}
use Rattle.cell_solo.proofs.CallerLemmas.{placed_at}
use Rattle.test_rows.proofs.Holding.{cell_kept, all_kept}

pub waits_join : (a b c : Seen) → Waited a b → Waited b c → Waited a c
waits_join a b c v w = record {
  base = w.base ∙ v.base;
  caller = w.caller ∙ v.caller;
  absorbed = w.absorbed ∙ v.absorbed;
  length = let m = v.length in let n = w.length in omega (arith, m, n);
  kept = λ place e saw. w.kept place e (v.kept place e saw);
  no_own = λ place e saw own. v.no_own place e (w.no_own place e saw (own_after a b v.caller v.absorbed e.caller own)) own;
  alone = w.alone ∙ v.alone;
  still = λ is. w.still (v.alone ∙ is) ∙ v.still is;
}

-- others' steps and then an own one
pub wait_step : (a b c : Seen) (step : Step) (reply : Reply) → Waited a b → Stepped b step reply c → Stepped a step reply c
wait_step a b c step reply w s = record {
  base = s.base ∙ w.base;
  caller = s.caller ∙ w.caller;
  absorbed = s.absorbed ∙ w.absorbed;
  length = let m = w.length in let n = s.length in omega (arith, m, n);
  kept = λ place e saw. s.kept place e (w.kept place e saw);
  stepped = subst (λ (n : ℕ). Saw c c.length (record { caller = n; step = step; reply = reply })) w.caller s.stepped;
  no_own = λ place e saw own other. w.no_own place e (s.no_own place e saw (own_after a b w.caller w.absorbed e.caller own) other) own;
  alone = s.alone ∙ w.alone;
  next = λ is. s.next (w.alone ∙ is) ∙ ap (λ (n : ℕ). n + 1) (w.still is);
}

basis_waits : (a b : Seen) (table : Table) (row qual value : List ℕ) → Waited a b → ClaimBasis a.base.widths (λ e. (place : ℕ) × Saw a place e) a.caller table row qual value → ClaimBasis b.base.widths (λ e. (place : ℕ) × Saw b place e) b.caller table row qual value
basis_waits a b Names row qual value w k = record {
  kind = k.kind;
  number = k.number;
  is_kind = k.is_kind;
  is_id = k.is_id ∙ ap (λ (s : Store). kind_bytes s.widths k.kind k.number) (sym w.base);
  is_name = k.is_name;
  bumped = (k.bumped.0, subst (λ (n : ℕ). Saw b k.bumped.0 (given n k.kind k.number)) (sym w.caller) (w.kept k.bumped.0 _ k.bumped.1));
}
basis_waits a b Ids row qual value w k = record { who = k.who; reversed = (k.reversed.0, w.kept k.reversed.0 _ k.reversed.1) }
basis_waits a b Points row qual value w k = k

-- a step that was known to be allowed is so there others' steps
pub claim_waits : (a b : Seen) (row : Row) (qual value : List ℕ) → Waited a b → Knows a (Claim row qual value) → Knows b (Claim row qual value)
claim_waits a b row qual value w k = basis_waits a b row.table row.bytes qual value w k

pub put_waits : (a b : Seen) (point : DataPoint) (row : Row) (qual value : List ℕ) → Waited a b → Knows a (PutPoint point row qual value) → Knows b (PutPoint point row qual value)
put_waits a b point row qual value w k = subst May (ap (λ (s : Store). s.widths) (sym w.base)) (record {
  is_point = k.is_point;
  in_points = k.in_points;
  ids = k.ids;
  resolved = λ kind name c. let was = k.resolved kind name c in (cell_kept a b _ _ _ w.kept was.0, was.1);
  layout = k.layout;
})
  where
    May : Widths → Type 0
    May u = PointBasis u (λ kind name id. KnowsCell b (name_row name) (kind_qual kind) (kind_bytes u kind id) × (id ≤ greatest u kind)) point row qual value

pub append_waits : (a b : Seen) (point : DataPoint) (row : Row) (piece : List ℕ) → Waited a b → Knows a (AppendPoint point row piece) → Knows b (AppendPoint point row piece)
append_waits a b point row piece w k = record { qual = k.qual; value = k.value; piece_is = k.piece_is; put = put_waits a b point row k.qual k.value w k.put }

pub merge_waits : (a b : Seen) (row : Row) (qual value : List ℕ) → Waited a b → Knows a (PutMerged row qual value) → Knows b (PutMerged row qual value)
merge_waits a b row qual value w k = record {
  in_points = k.in_points;
  dots = k.dots;
  reads = k.reads;
  each = λ d c. let was = k.each d c in (was.0, was.1, was.2, cell_kept a b _ _ _ w.kept was.3, was.4, was.5);
}

pub drop_waits : (a b : Seen) (row : Row) (which : List (List ℕ × ℕ)) → Waited a b → Knows a (DropCells row which) → Knows b (DropCells row which)
drop_waits a b row which w k = record { in_points = k.in_points; each = λ d c. let was = k.each d c in (was.0, was.1, cell_kept a b _ _ _ w.kept was.2, was.3) }

-- and a range that was one region's
pub range_waits : (a b : Seen) (table : Table) (from to : List ℕ) → Waited a b → InOneRange a.base.widths table from to → InOneRange b.base.widths table from to
range_waits a b table from to w range = subst (λ (s : Store). InOneRange s.widths table from to) (sym w.base) range

-- an entry of another caller
other_waits : (h : History) (e : Entry) (alone : Bool) → alone ≡ false → (e.caller ≡ 1 → ⊥) → Waited (whole_seen h 1 alone) (whole_seen (Then h e) 1 alone)
other_waits h e alone some other = record {
  base = refl;
  caller = refl;
  absorbed = refl;
  length = omega arith;
  kept = λ place e saw. (let le = saw.0 in omega (arith, le), there _ _ (all_placed h) saw.1);
  no_own = λ place x saw own. older place x own (split _ _ (all_placed h) saw.1);
  alone = refl;
  still = λ is. absurd (false≢true (sym some ∙ is));
}
  where
    not_own : (x : Entry) → e ≡ x → IsOwn (whole_seen h 1 alone) x.caller → ⊥
    not_own x same (inl is) = other (ap (λ (y : Entry). y.caller) same ∙ is)
    not_own x same (inr has) = not_in x.caller has

    older : (place : ℕ) (x : Entry) → IsOwn (whole_seen h 1 alone) x.caller → (◌≡◌ {A = Placed} (record { place = len h + 1; entry = e }) (record { place = place; entry = x })) ⊎ Contains (all_placed h) (record { place = place; entry = x })
        → Saw (whole_seen h 1 alone) place x
    older place x own (inl same) = absurd (not_own x (ap (λ (p : Placed). p.entry) same) own)
    older place x own (inr has) = (bounded h place x (placed_at h place x has), has)

-- what caller 1 sees in its turn
first_sight : (p : Play) → p.caller ≡ 1 → sight p ≡ whole_seen (history_of p) 1 (nat_eq p.callers 1)
first_sight p is = ap (λ (n : ℕ). whole_seen (history_of p) n (nat_eq p.callers 1)) is

-- a turn of another caller, with one step or none, between turns of caller 1
turn_waits : (old b : Play) (caller : ℕ) → old.callers ≡ 4 → 2 ≤ caller → IsOneStep (record old { caller = caller }) b → Waited (whole_seen (history_of old) 1 (nat_eq old.callers 1)) (whole_seen (history_of b) 1 (nat_eq b.callers 1))
turn_waits old b caller four some (none stays) = subst (λ (p : Play). Waited (whole_seen (history_of old) 1 (nat_eq old.callers 1)) (whole_seen (history_of p) 1 (nat_eq p.callers 1))) (sym stays) (nothing_waited (whole_seen (history_of old) 1 (nat_eq old.callers 1)))
turn_waits old b caller four some (one steps) =
    subst (λ (x : History × ℕ). Waited (whole_seen (history_of old) 1 (nat_eq old.callers 1)) (whole_seen x.0 1 (nat_eq x.1 1))) (λ i. (sym steps.history i, sym steps.callers i))
    (other_waits (history_of old) _ (nat_eq old.callers 1) (ap (λ (n : ℕ). nat_eq n 1) four) (λ is. omega (arith, is, some)))

pub in_turn : (old a b new : Play) (caller : ℕ) → old.caller ≡ 1 → old.callers ≡ 4 → 2 ≤ caller → a ≡ record old { caller = caller } → IsOneStep a b → new ≡ record b { caller = 1 } → IsPossible (sight new) → Passes old new
in_turn old a b new caller first four some turned step back possible = record {
  first = ap (λ (p : Play). p.caller) back;
  waits = subst (λ (p : Play). Waited (sight old) (sight p)) (sym back)
      (subst (λ (s : Seen). Waited s (whole_seen (history_of b) 1 (nat_eq b.callers 1))) (sym (first_sight old first)) (turn_waits old b caller four some (subst (λ (p : Play). IsOneStep p b) turned step)));
  lives = λ was. possible;
}

pub passes_none : (p : Play) → p.caller ≡ 1 → Passes p p
passes_none p first = record { first = first; waits = nothing_waited (sight p); lives = λ was. was }

pub passes_join : (a b c : Play) → Passes a b → Passes b c → Passes a c
passes_join a b c x y = record { first = y.first; waits = waits_join (sight a) (sight b) (sight c) x.waits y.waits; lives = λ was. y.lives (x.lives was) }

-- the turn of caller 1, whose turn it is
pub own_turn : (old new : Play) → old.caller ≡ 1 → new ≡ record old { caller = 1 } → Waited (sight old) (sight new)
own_turn old new is turned = subst (λ (p : Play). Waited (sight old) (sight p)) (sym turned) (subst (λ (n : ℕ). Waited (sight old) (sight (record old { caller = n }))) is (nothing_waited (sight old)))

pub from_ok : {T E Q : Type 0} {P : T → Type 0} (r : Result T E) → IsOk r → ((x : T) → P x → Q) → IfOk r P → Q
from_ok (Ok x) is f p = f x p
from_ok (Err e) is f p = absurd (false≢true is)

pub if_ok : {T E : Type 0} {P Q : T → Type 0} (r : Result T E) → ((x : T) → P x → Q x) → IfOk r P → IfOk r Q
if_ok (Ok x) f p = f x p
if_ok (Err e) f p = p

-- a step of the caller whose turn it is leaves the callers, with what it showed
pub sharing_step : (old new : Play) (step : Step) (reply : Reply) (facts more : List Fact) (left room : ℕ) → IsSharing (record { solo = old; facts = facts; room = left }) → Steps old step reply new → room ≤ new.room → (AllHold (sight new) facts → AllHold (sight new) more)
    → IsSharing (record { solo = new; facts = more; room = room })
sharing_step old new step reply facts more left room was s some shows = record {
  callers = s.callers ∙ was.callers;
  room = some;
  hold = shows (all_kept (sight old) (sight new) facts s.stepped.kept was.hold);
}

-- and one that wasn't made
pub sharing_stay : (old new : Play) (facts : List Fact) (left : ℕ) → IsSharing (record { solo = old; facts = facts; room = left }) → Stays old new → IsSharing (record { solo = new; facts = facts; room = 0 })
sharing_stay old new facts left was stays = subst (λ (p : Play). IsSharing (record { solo = p; facts = facts; room = 0 })) (sym stays) (record { callers = was.callers; room = omega arith; hold = was.hold })

-- and the turn of another caller
pub sharing_turn : (old new : Play) (facts : List Fact) (room caller : ℕ) → IsSharing (record { solo = old; facts = facts; room = room }) → new ≡ record old { caller = caller } → IsSharing (record { solo = new; facts = facts; room = room })
sharing_turn old new facts room caller was turned = subst (λ (p : Play). IsSharing (record { solo = p; facts = facts; room = room })) (sym turned) (record {
  callers = was.callers;
  room = was.room;
  hold = all_kept (sight old) (sight (record old { caller = caller })) facts (λ place e saw. saw) was.hold;
})

-- a count that stands does so where memory alone is wanting
pub stands_too : {T : Type 0} (before now : ℕ) (r : Result T RowsFault) → now ≡ before → IfErr r (λ fault. fault ≡ OutOfMemory) → StandsIfUnstopped before now r
stands_too before now (Ok v) same memory = same
stands_too before now (Err fault) same memory = subst (λ (f : RowsFault). StandsIfUnstopped {T = Unit {0}} before now (Err f)) (sym memory) same

-- either way it stays the turn of caller 1
pub first_kept : {T E : Type 0} (old new : Play) (step : Step) (reply : Reply) (r : Result T E) → OnOk r (Steps old step reply new) → OnErr r (Stays old new) → old.caller ≡ 1 → new.caller ≡ 1
first_kept old new step reply (Ok v) steps stays first = steps.caller ∙ first
first_kept old new step reply (Err e) steps stays first = ap (λ (p : Play). p.caller) stays ∙ first
