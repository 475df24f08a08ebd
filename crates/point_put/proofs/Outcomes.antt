-- What a put says, by what was asked and stored.
use Rattle.std.proofs.Common.{◌≡◌, ℕ, ◌+◌, ◌*◌, ◌≤◌, List, [], ◌∷◌, ◌++◌, length, refl, ap, subst, length-append, arith}
use Rattle.std.specs.Prelude.{Result, Ok, Err}
use Rattle.list_lemmas.proofs.ListCuts.{nothing_behind}
use Rattle.list_lemmas.proofs.ListMembers.{here}
use Rattle.tsd_base.specs.declared.kinds.Kind.{Kind}
use Rattle.tsd_base.specs.TagList.{Pair}
use Rattle.tsd_base.specs.Points.{DataPoint}
use Rattle.row_key.specs.declared.keys.RowKey.{RowKey}
use Rattle.cell_model.specs.declared.answers.Stored.{Stored}
use Rattle.cell_model.specs.declared.events.Placed.{Placed}
use Rattle.cell_model.specs.KindWidths.{Widths}
use Rattle.cell_model.specs.History.{History, first, store_after}
use Rattle.cell_model.specs.Layout.{names_of, tag_names}
use Rattle.cell_model.specs.Lawful.{IsLawful}
use Rattle.cell_model.specs.Seen.{Seen, Fits, InEach}
use Rattle.cell_model.specs.Deeds.{Extends, Made}
use Rattle.uid_table.specs.IdSteps.{MadeSo}
use Rattle.point_put.specs.Admissions.{Admission}
use Rattle.point_put.specs.declared.fault.PutFault.{PutFault}
use Rattle.point_put.specs.declared.fault.PutFault.TheVariants.{Unknown, Filtered, Exhausted, OutOfMemory, Stopped}
use Rattle.point_put.specs.Entries.{ForName, ForNames, InTurn, EndsAt}
use Rattle.point_put.specs.Entries.ForName.{none, look, full, bump, reverse, forward}
use Rattle.point_put.specs.Entries.ForNames.{nil, more}
use Rattle.point_put.specs.ShownIds.{AllShown, StopsAt, Fails, NamesAsked}
use Rattle.cell_model.specs.IdRows.{AllResolved}
use Rattle.point_put.specs.PutPoint.{PointAsked, PutSays, StoreMade}
use Rattle.cell_laws.proofs.CallerLemmas.{first_lawful, first_fits, made_joined, itself}
use Rattle.point_put.specs.PutEntries.{PutsMakeFewEntries}
use Rattle.point_put.proofs.Asking.{names_in_turn, names_to_end, shown_before}

abbrev Names : Type 0
Names = List (Kind × List ℕ)

all_resolved : (s : Seen) (h : History) (names : Names) → IsLawful h → Fits s h → AllShown s names → AllResolved (first s.length h) names
all_resolved s h names l f all n c = let w = all n.0 n.1 c in (w.0, w.1.stands s (itself s) (first s.length h) (first_lawful h s.length l) (first_fits s h f))

-- the names that were asked in turn are so in the history as long as it was seen
turns_at : (c : Admission) (names : Names) (mid new : Seen) (list : List Placed) (h : History) → Extends mid new → IsLawful h → Fits new h → InEach mid (λ h. InTurn c h names list) → InTurn c (first new.length h) names list
turns_at c names mid new list h e l f turns = turns (first new.length h) (first_lawful h new.length l) (e.fits (first new.length h) (first_fits new h f))

ends_at : (c : Admission) (names : Names) (s : Seen) (kind : Kind) (name : List ℕ) (list : List Placed) (h : History) → IsLawful h → Fits s h → StopsAt c names s kind name list → EndsAt c (first s.length h) names kind name list
ends_at c names s kind name list h l f p = record {
  before = p.before;
  behind = p.behind;
  names_are = p.names_are;
  resolved = all_resolved s h p.before l f p.shown;
  entries = turns_at c (p.before ++ (kind, name) ∷ []) s s list h (itself s) l f p.entries;
}

-- the names weren't all resolved
pub put_failed : (c : Admission) (point : DataPoint) (old new : Seen) (e : PutFault) → NamesAsked {T = RowKey} c (names_of point) old (Err e) new → PutSays c point old (Err e) new
put_failed c point old new e p = (p.list, p.made, λ h l f. at h l f e p.answered)
  where
    turns : (h : History) → IsLawful h → Fits new h → InTurn c (first new.length h) (names_of point) p.list
    turns h l f = turns_at c (names_of point) new new p.list h (itself new) l f p.turns

    at : (h : History) → IsLawful h → Fits new h → (e : PutFault) → Fails c (names_of point) new e p.list → PointAsked c point (first new.length h) p.list (Err e)
    at h l f (Unknown kind name) (stops, was) = (ends_at c (names_of point) new kind name p.list h l f stops, was)
    at h l f (Filtered kind name) (stops, was) = (ends_at c (names_of point) new kind name p.list h l f stops, was)
    at h l f (Exhausted kind) (name, stops, was) = (name, ends_at c (names_of point) new kind name p.list h l f stops, was)
    at h l f OutOfMemory x = turns h l f
    at h l f Stopped x = turns h l f

-- they were, and then the cell was put or not
pub put_done : (c : Admission) (point : DataPoint) (old mid new : Seen) (key : RowKey) (r : Result Stored PutFault) → NamesAsked {T = RowKey} c (names_of point) old (Ok key) mid → StoreMade c.config.appends point mid r new → PutSays c point old r new
put_done c point old mid new key (Ok stored) p (d, made, did, base) =
    let all = made_joined old mid new p.list (d ∷ []) p.made made in (
      p.list ++ d ∷ [],
      all,
      λ h l f. record {
        names = p.list;
        put = d;
        list_is = refl;
        entries = turns_at c (names_of point) mid new p.list h made.since.extends l f p.turns;
        resolved = λ n has. shown_before mid new (names_of point) (d ∷ []) (first new.length h) made p.answered (first_lawful h new.length l) (first_fits new h f) n has d (here d []);
        did = did h l f;
        base = base;
      },
    )
put_done c point old mid new key (Err (Unknown kind name)) p s = absurd s
put_done c point old mid new key (Err (Filtered kind name)) p s = absurd s
put_done c point old mid new key (Err (Exhausted kind)) p s = absurd s
put_done c point old mid new key (Err OutOfMemory) p s =
    let all = subst (λ xs. Made old xs new) (nothing_behind p.list) (made_joined old mid new p.list [] p.made s) in
    (p.list, all, λ h l f. turns_at c (names_of point) mid new p.list h s.since.extends l f p.turns)
put_done c point old mid new key (Err Stopped) p s =
    let all = subst (λ xs. Made old xs new) (nothing_behind p.list) (made_joined old mid new p.list [] p.made s) in
    (p.list, all, λ h l f. turns_at c (names_of point) mid new p.list h s.since.extends l f p.turns)

-- they were, and there was no memory for the row
pub put_unplaced : (c : Admission) (point : DataPoint) (old new : Seen) (key : RowKey) → NamesAsked {T = RowKey} c (names_of point) old (Ok key) new → PutSays c point old (Err OutOfMemory) new
put_unplaced c point old new key p = (p.list, p.made, λ h l f. turns_at c (names_of point) new new p.list h (itself new) l f p.turns)

few_for : (w : Widths) (c : Admission) (kind : Kind) (name : List ℕ) (list : List Placed) → ForName w c kind name list → length list ≤ 4
few_for w c kind name _ none = omega arith
few_for w c kind name _ (look shown l) = omega arith
few_for w c kind name _ (full m l b) = omega arith
few_for w c kind name _ (bump id m l b) = omega arith
few_for w c kind name _ (reverse id m l b r) = omega arith
few_for w c kind name _ (forward id reply m l b r f) = omega arith

few_names : (w : Widths) (c : Admission) (names : Names) (list : List Placed) → ForNames w c names list → length list ≤ 4 * length names
few_names w c _ _ nil = omega arith
few_names w c _ _ (more {kind} {name} {names} {part} {list} f rest) =
    let a = few_for w c kind name part f in
    let b = few_names w c names list rest in
    let n = length-append part list in
    omega (arith, a, b, n)

tag_count : (tags : List Pair) → length (tag_names tags) ≡ 2 * length tags
tag_count [] = refl
tag_count (t ∷ tags) = let n = tag_count tags in omega (arith, n)

few : (w : Widths) (c : Admission) (point : DataPoint) (list : List Placed) → ForNames w c (names_of point) list → length list ≤ 4 * (1 + 2 * length point.tags)
few w c point list f = let n = tag_count point.tags in let m = few_names w c (names_of point) list f in omega (arith, n, m)

abbrev Few : DataPoint → List Placed → Type 0
Few point list = length list ≤ 4 * (1 + 2 * length point.tags) + 1

few_made : (c : Admission) (point : DataPoint) (old new : Seen) (list : List Placed) → Made old list new → ForNames old.base.widths c (names_of point) list → MadeSo old (Few point) new
few_made c point old new list made entries = (list, made, let n = few old.base.widths c point list entries in omega (arith, n))

-- a put makes few entries
pub few_failed : {T : Type 0} (c : Admission) (point : DataPoint) (old new : Seen) (r : Result T PutFault) → NamesAsked {T = T} c (names_of point) old r new → MadeSo old (Few point) new
few_failed c point old new r p = few_made c point old new p.list p.made p.entries

pub few_done : (c : Admission) (point : DataPoint) (old mid new : Seen) (key : RowKey) (r : Result Stored PutFault) → NamesAsked {T = RowKey} c (names_of point) old (Ok key) mid → StoreMade c.config.appends point mid r new → MadeSo old (Few point) new
few_done c point old mid new key (Ok stored) p (d, made, did, base) =
    (p.list ++ d ∷ [], made_joined old mid new p.list (d ∷ []) p.made made, let n = few old.base.widths c point p.list p.entries in let m = length-append p.list (d ∷ []) in omega (arith, n, m))
few_done c point old mid new key (Err (Unknown kind name)) p s = absurd s
few_done c point old mid new key (Err (Filtered kind name)) p s = absurd s
few_done c point old mid new key (Err (Exhausted kind)) p s = absurd s
few_done c point old mid new key (Err OutOfMemory) p s = few_made c point old new p.list (subst (λ xs. Made old xs new) (nothing_behind p.list) (made_joined old mid new p.list [] p.made s)) p.entries
few_done c point old mid new key (Err Stopped) p s = few_made c point old new p.list (subst (λ xs. Made old xs new) (nothing_behind p.list) (made_joined old mid new p.list [] p.made s)) p.entries

-- whatever a put is answered
pub few_asked : PutsMakeFewEntries
few_asked c point h own (Ok stored) asked =
    let n = few (store_after h).widths c point asked.names (names_in_turn asked.entries) in
    let m = length-append asked.names (asked.put ∷ []) in
    let e = ap length asked.list_is in
    omega (arith, n, m, e)
few_asked c point h own (Err (Unknown kind name)) asked = let n = few (store_after h).widths c point own (names_to_end asked.0) in omega (arith, n)
few_asked c point h own (Err (Filtered kind name)) asked = let n = few (store_after h).widths c point own (names_to_end asked.0) in omega (arith, n)
few_asked c point h own (Err (Exhausted kind)) asked = let n = few (store_after h).widths c point own (names_to_end asked.1) in omega (arith, n)
few_asked c point h own (Err OutOfMemory) asked = let n = few (store_after h).widths c point own (names_in_turn asked) in omega (arith, n)
few_asked c point h own (Err Stopped) asked = let n = few (store_after h).widths c point own (names_in_turn asked) in omega (arith, n)
