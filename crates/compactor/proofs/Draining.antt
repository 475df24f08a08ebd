-- Compacting the rows of a queue, one after the other.
use Rattle.std.proofs.Common.{◌≡◌, ℕ, suc, ◌+◌, ◌*◌, ◌<◌, ◌≤◌, Bool, true, false, List, [], ◌∷◌, ◌++◌, length, refl, sym, ap, subst, ◌∙◌, arith, append_assoc}
use Rattle.std.specs.Prelude.{Contains, Option, None, Some, MatchOption, Ok, Err, if◌then◌else◌}
use Rattle.std.proofs.lemmas.List.{append-nil, length-append, length_push}
use Rattle.std.proofs.lemmas.List.Elements.{All-push}
use mir.Val.{bool_byte}
use Rattle.row_key.specs.declared.tables.Table.TheVariants.{Points}
use Rattle.cell_model.specs.declared.row.Row.{Row}
use Rattle.cell_model.specs.declared.events.Placed.{Placed}
use Rattle.cell_model.specs.declared.answers.Stored.{Stored}
use Rattle.cell_model.specs.declared.answers.RowsFault.{RowsFault}
use Rattle.cell_model.specs.declared.answers.RowsFault.TheVariants as rows
use Rattle.cell_model.specs.Seen.{Seen}
use Rattle.cell_model.specs.Deeds.{Made, MadeSo}
use Rattle.compactor.specs.declared.compaction.CompactFault.TheVariants.{Conflict}
use Rattle.compactor.specs.CompactFaults.{fault_of_rows}
use Rattle.compactor.specs.Compaction.WroteNothing.{unread as nothing_unread}
use Rattle.compactor.specs.Queues.{AreQueued}
use Rattle.compactor.specs.Drains.{NoneBelow, IsNextBelow, OneMade, RowMade, RowsMade, Drains, DrainMade}
use Rattle.compactor.specs.Drains.RowsMade.{none, compacted, conflict}
use Rattle.compactor.proofs.Rows.{few_made}
use Rattle.compactor.proofs.Lower as lower

-- a truth value as a number
pub as_number : (b : Bool) → bool_byte b ≡ (if b then 1 else 0)
as_number true = refl
as_number false = refl

-- ---- the rows so far, and one more

abbrev more_conflicts : Bool → ℕ → ℕ
more_conflicts b n = n + (if b then 1 else 0)

rows_push : (rows : List Stored) (n : ℕ) (list : List Placed) (s : Stored) (b : Bool) (last : List Placed) → RowsMade rows n list → RowMade s.row (Ok b) last → RowsMade (rows ++ s ∷ []) (more_conflicts b n) (list ++ last)
rows_push _ _ _ s true last none m = subst (RowsMade (s ∷ []) 1) (append-nil last) (conflict last m none)
rows_push _ _ _ s false last none m = subst (RowsMade (s ∷ []) 0) (append-nil last) (compacted last m none)
rows_push _ _ _ s b last (compacted {s = t} {rows} {conflicts} {rest} first f more) m =
    subst (RowsMade (t ∷ (rows ++ s ∷ [])) (more_conflicts b conflicts)) (sym (append_assoc first rest last)) (compacted first f (rows_push rows conflicts rest s b last more m))
rows_push _ _ _ s b last (conflict {s = t} {rows} {conflicts} {rest} first f more) m =
    subst (λ n. RowsMade (t ∷ (rows ++ s ∷ [])) n ((first ++ rest) ++ last)) (sums b conflicts)
    (subst (RowsMade (t ∷ (rows ++ s ∷ [])) (suc (more_conflicts b conflicts))) (sym (append_assoc first rest last)) (conflict first f (rows_push rows conflicts rest s b last more m)))
  where
    sums : (b : Bool) (n : ℕ) → suc (n + (if b then 1 else 0)) ≡ suc n + (if b then 1 else 0)
    sums true n = omega arith
    sums false n = omega arith

few_row : (row : Row) (b : Bool) (list : List Placed) → RowMade row (Ok b) list → length list ≤ 3
few_row row false list m = few_made row (Ok m.0) list m.1
few_row row true list m = few_made row (Err (Conflict m.0 m.1 m.2)) list m.3

few_broken : (row : Row) (fault : RowsFault) (list : List Placed) → RowMade row (Err fault) list → length list ≤ 3
few_broken row fault list m = few_made row (Err (fault_of_rows fault)) list m

-- the queue is drained so far
pub record Draining (before : ℕ) (start now : Seen) (stops later : ℕ) (old queue : List Stored) (done conflicts : ℕ) : Type 0 where
  pub list : List Placed
  pub made : Made start list now
  pub drains : Drains before old done conflicts list queue
  pub few : length list ≤ 3 * done
  pub most : conflicts ≤ done
  pub grows : stops ≤ later

pub drain_start : (before : ℕ) (s : Seen) (stops : ℕ) (queue : List Stored) → Draining before s s stops stops queue queue 0 0
drain_start before s stops queue = record {
  list = [];
  made = lower.nothing_made s;
  drains = record { taken = []; parts = refl; count = refl; below = lower.all_of (λ (x : Stored). x.base < before) [] (λ x c. absurd (lower.not_in x c)); made = none };
  few = omega arith;
  most = omega arith;
  grows = omega arith;
}

-- the row in hand is a point row
pub in_points : (before : ℕ) (queue : List Stored) (row : Row) → AreQueued queue → IsNextBelow before queue row → row.table ≡ Points
in_points before queue row q n = ap (λ (r : Row). r.table) n.row_is ∙ lower.all_in (λ (s : Stored). s.row.table ≡ Points) n.first queue q.in_points (subst (λ (l : List Stored). Contains l n.first) (sym n.rows_are) (lower.here n.first n.rest))

tails : (a b : Stored) (x y : List Stored) → a ∷ x ≡ b ∷ y → x ≡ y
tails a b x y e = cc

never : (a : Stored) (x : List Stored) → ◌≡◌ {A = List Stored} [] (a ∷ x) → ⊥
never a x e = cc

-- what a pop leaves behind the first
popped : (r : Option Stored) (queue new : List Stored) (first : Stored) (rest : List Stored) → queue ≡ first ∷ rest → MatchOption r ((queue ≡ []) × (new ≡ [])) (λ (f : Stored). queue ≡ f ∷ new) → new ≡ rest
popped None queue new first rest is m = absurd (never first rest (sym m.0 ∙ is))
popped (Some f) queue new first rest is m = tails f first new rest (sym m ∙ is)

-- ---- one row

pub no_memory : (before : ℕ) (s : Seen) (queue : List Stored) → (row : Row) × IsNextBelow before queue row → MadeSo s (OneMade before queue (Err rows.OutOfMemory) queue) s
no_memory before s queue (row, n) = ([], lower.nothing_made s, (row, n, refl, nothing_unread))

pub no_row : (before : ℕ) (s : Seen) (queue : List Stored) → NoneBelow before queue → MadeSo s (OneMade before queue (Ok None) queue) s
no_row before s queue none_left = ([], lower.nothing_made s, (none_left, refl, refl))

pub row_broken : (before : ℕ) (old new : Seen) (queue : List Stored) (row : Row) (fault : RowsFault) → IsNextBelow before queue row → MadeSo old (RowMade row (Err fault)) new → MadeSo old (OneMade before queue (Err fault) queue) new
row_broken before old new queue row fault n (list, made, m) = (list, made, (row, n, refl, m))

pub row_done : (before : ℕ) (old new : Seen) (queue left : List Stored) (row : Row) (b : Bool) (r : Option Stored) → IsNextBelow before queue row → MadeSo old (RowMade row (Ok b)) new
    → MatchOption r ((queue ≡ []) × (left ≡ [])) (λ (f : Stored). queue ≡ f ∷ left) → MadeSo old (OneMade before queue (Ok (Some b)) left) new
row_done before old new queue left row b r n (list, made, m) pop = (list, made, (row, n, popped r queue left n.first n.rest n.rows_are pop, m))

-- ---- one row more

module _ (before : ℕ) (start mid now : Seen) (stops later last : ℕ) (old queue new : List Stored) (done conflicts : ℕ) (d : Draining before start mid stops later old queue done conflicts) (up : later ≤ last) where
  pub drain_next : (b : Bool) → MadeSo mid (OneMade before queue (Ok (Some b)) new) now → Draining before start now stops last old new (done + 1) (conflicts + (if b then 1 else 0))
  drain_next b (list, made, (row, n, left, m)) =
      let row_made : RowMade n.first.row (Ok b) list = subst (λ (x : Row). RowMade x (Ok b) list) n.row_is m in
      let k = d.drains in
      let le = few_row row b list m in
      let few = d.few in
      let most = d.most in
      let grows = d.grows in
      record {
        list = d.list ++ list;
        made = lower.made_joined start mid now d.list list d.made made;
        drains = record {
          taken = k.taken ++ n.first ∷ [];
          parts = k.parts ∙ ap (λ (l : List Stored). k.taken ++ l) (n.rows_are ∙ ap (λ (l : List Stored). n.first ∷ l) (sym left)) ∙ sym (append_assoc k.taken (n.first ∷ []) new);
          count = length_push k.taken n.first ∙ ap (λ m. m + 1) k.count;
          below = All-push (λ (s : Stored). s.base < before) k.taken n.first k.below n.below;
          made = rows_push k.taken conflicts d.list n.first b list k.made row_made;
        };
        few = let sum = length-append d.list list in omega (arith, sum, few, le);
        most = one_more b most;
        grows = omega (arith, grows, up);
      }
    where
      one_more : (b : Bool) → conflicts ≤ done → conflicts + (if b then 1 else 0) ≤ done + 1
      one_more true le = omega (arith, le)
      one_more false le = omega (arith, le)

  pub drain_none : (max : ℕ) → done < max → MadeSo mid (OneMade before queue (Ok None) new) now → MadeSo start (DrainMade before max old (Ok (record { done = done; conflicts = conflicts })) new) now
  drain_none max lt (list, made, (none_left, same, nothing)) = (
    d.list,
    subst (λ (l : List Placed). Made start l now) (ap (λ (l : List Placed). d.list ++ l) nothing ∙ append-nil d.list) (lower.made_joined start mid now d.list list d.made made),
    record {
      drains = subst (Drains before old done conflicts d.list) (sym same) d.drains;
      most = omega (arith, lt);
      all = λ less. subst (NoneBelow before) (sym same) none_left;
    },
  )

  pub none_few : (max : ℕ) → done < max → MadeSo mid (OneMade before queue (Ok None) new) now → MadeSo start (λ (l : List Placed). length l ≤ 3 * max) now
  none_few max lt (list, made, (none_left, same, nothing)) =
      (d.list, subst (λ (l : List Placed). Made start l now) (ap (λ (l : List Placed). d.list ++ l) nothing ∙ append-nil d.list) (lower.made_joined start mid now d.list list d.made made), let few = d.few in omega (arith, few, lt))

  pub drain_broken : (max : ℕ) (fault : RowsFault) → done < max → MadeSo mid (OneMade before queue (Err fault) new) now → MadeSo start (DrainMade before max old (Err fault) new) now
  drain_broken max fault lt (list, made, (row, n, same, m)) = (
    d.list ++ list,
    lower.made_joined start mid now d.list list d.made made,
    record {
      done = done;
      conflicts = conflicts;
      earlier = d.list;
      last = list;
      row = row;
      drains = subst (Drains before old done conflicts d.list) (sym same) d.drains;
      fewer = lt;
      hand = subst (λ (l : List Stored). IsNextBelow before l row) (sym same) n;
      list_is = refl;
      made = m;
    },
  )

  pub broken_few : (max : ℕ) (fault : RowsFault) → done < max → MadeSo mid (OneMade before queue (Err fault) new) now → MadeSo start (λ (l : List Placed). length l ≤ 3 * max) now
  broken_few max fault lt (list, made, (row, n, same, m)) =
      (d.list ++ list, lower.made_joined start mid now d.list list d.made made, let few = d.few in let le = few_broken row fault list m in let sum = length-append d.list list in omega (arith, few, le, sum, lt))

-- ---- all of them

pub drain_all : (before max : ℕ) (start now : Seen) (stops later : ℕ) (old queue : List Stored) (done conflicts : ℕ) → Draining before start now stops later old queue done conflicts → done ≡ max
    → MadeSo start (DrainMade before max old (Ok (record { done = max; conflicts = conflicts })) queue) now
drain_all before max start now stops later old queue done conflicts d all =
    (d.list, d.made, record { drains = subst (λ n. Drains before old n conflicts d.list queue) all d.drains; most = omega arith; all = λ less. absurd (omega (arith, less)) })

pub all_few : (before max : ℕ) (start now : Seen) (stops later : ℕ) (old queue : List Stored) (done conflicts : ℕ) → Draining before start now stops later old queue done conflicts → done ≡ max → MadeSo start (λ (l : List Placed). length l ≤ 3 * max) now
all_few before max start now stops later old queue done conflicts d all = (d.list, d.made, let few = d.few in omega (arith, few, all))
