-- The entries for names change no cell of a point.
use Rattle.std.proofs.Common.{◌≡◌, ◌≢◌, inl, inr, ℕ, List, [], ◌∷◌, ◌++◌, refl, sym, ap, subst, ◌∙◌}
use Rattle.std.specs.Prelude.{None, Ok}
use Rattle.tsd_base.specs.declared.kinds.Kind.{Kind}
use Rattle.tsd_hooks.specs.declared.name_patterns.Patterns.{Patterns}
use Rattle.row_key.specs.declared.tables.Table.TheVariants.{Ids, Names, Points}
use Rattle.cell_model.specs.declared.row.Row.{Row}
use Rattle.cell_model.specs.declared.events.Placed.{Placed}
use Rattle.cell_model.specs.declared.events.Step.TheVariants.{Read, Bump, Claim}
use Rattle.cell_model.specs.History.{History, store_after}
use Rattle.cell_model.specs.History.History.{Then}
use Rattle.cell_model.specs.IdRows.{name_row, id_row}
use Rattle.cell_model.specs.KindWidths.{Widths, kind_bytes}
use Rattle.cell_model.specs.Machine.{counter_row, kind_qual}
use Rattle.cell_model.specs.Readings.{point_row}
use Rattle.cell_model.specs.Store.{Store, value_at}
use Rattle.uid_table.specs.IdSteps.{AssignMade, LookedOrKept, DidLook, DidBump, DidReverse, DidForward, Gave}
use Rattle.uid_table.specs.declared.id_answers.Assigned.{Assigned}
use Rattle.uid_table.specs.declared.id_answers.Assigned.TheVariants.{Fresh, Existing, Lost}
use Rattle.cell_model.specs.declared.answers.Claimed.{Claimed}
use Rattle.point_put.specs.Admissions.{Admission}
use Rattle.point_put.specs.Entries.{ForName, ForNames}
use Rattle.point_put.specs.Entries.ForName.{none, look, full, bump as was_bumped, reverse, forward}
use Rattle.point_put.specs.Entries.ForNames.{nil, more}
use Rattle.point_lines.proofs.CallerLemmas.{bump_keeps, claim_keeps, follow, read_keeps, rows_differ, tables_differ}

-- the entry reads, counts, or claims a cell that is none of a point
pub data IsNameStep (d : Placed) : Type 0 where
  reads : (row : Row) → d.entry.step ≡ Read row → IsNameStep d
  bumps : (kind : Kind) → d.entry.step ≡ Bump kind → IsNameStep d
  claims : (row : Row) (qual value : List ℕ) → d.entry.step ≡ Claim row qual value → row.table ≢ Points → IsNameStep d

abbrev pub AreNameSteps : List Placed → Type 0
AreNameSteps [] = Unit {0}
AreNameSteps (d ∷ list) = IsNameStep d × AreNameSteps list

both : (xs ys : List Placed) → AreNameSteps xs → AreNameSteps ys → AreNameSteps (xs ++ ys)
both [] ys a b = b
both (x ∷ xs) ys a b = (a.0, both xs ys a.1 b)

ids_apart : Ids ≢ Points
ids_apart e = cc

names_apart : Names ≢ Points
names_apart e = cc

-- ---- which entries these are
module _ (w : Widths) (kind : Kind) (name : List ℕ) where
  gave_steps : (id : ℕ) (b n f : Placed) (reply : Claimed) → DidBump b kind id → DidReverse w n kind name id → DidForward w f kind name id reply → AreNameSteps (b ∷ n ∷ f ∷ [])
  gave_steps id b n f reply x y z = (bumps kind x.0, (claims (id_row w kind id) (kind_qual kind) name y.0 names_apart, (claims (name_row name) (kind_qual kind) (kind_bytes w kind id) z.0 ids_apart, tt)))

  kept_steps : (id : ℕ) (list : List Placed) → LookedOrKept w kind name id list → AreNameSteps list
  kept_steps id list (inl is) = subst AreNameSteps (sym is) tt
  kept_steps id list (inr (d, is, l)) = subst AreNameSteps (sym is) (reads (name_row name) l.did.0, tt)

  after_look : (id : ℕ) (reply : Claimed) (d : Placed) (rest list : List Placed) → list ≡ d ∷ rest → DidLook d kind name None → Gave w kind name id reply rest → AreNameSteps list
  after_look id reply d rest list is l gave =
      subst AreNameSteps (sym (is ∙ ap (λ xs. d ∷ xs) gave.list_is)) (reads (name_row name) l.did.0, gave_steps id gave.bump gave.reverse gave.forward reply gave.bumped gave.reversed gave.forwarded)

  pub assign_steps : (patterns : Patterns) (a : Assigned) (list : List Placed) → AssignMade w patterns kind name (Ok a) list → AreNameSteps list
  assign_steps patterns (Existing id) list kept = kept_steps id list kept
  assign_steps patterns (Fresh id) list (d, rest, is, l, (allows, gave)) = after_look id _ d rest list is l gave
  assign_steps patterns (Lost wasted id) list (d, rest, is, l, (allows, gave)) = after_look wasted _ d rest list is l gave

  name_steps : (c : Admission) {list : List Placed} → ForName w c kind name list → AreNameSteps list
  name_steps c none = tt
  name_steps c (look {r} shown d) = (reads (name_row name) d.did.0, tt)
  name_steps c (full {r} {b} m d x) = (reads (name_row name) d.did.0, (bumps kind x.0, tt))
  name_steps c (was_bumped {r} {b} id m d x) = (reads (name_row name) d.did.0, (bumps kind x.0, tt))
  name_steps c (reverse {r} {b} {n} id m d x y) = (reads (name_row name) d.did.0, (bumps kind x.0, (claims (id_row w kind id) (kind_qual kind) name y.0 names_apart, tt)))
  name_steps c (forward {r} {b} {n} {f} id reply m d x y z) = (reads (name_row name) d.did.0, gave_steps id b n f reply x y z)

pub put_name_steps : (w : Widths) (c : Admission) {ns : List (Kind × List ℕ)} {list : List Placed} → ForNames w c ns list → AreNameSteps list
put_name_steps w c nil = tt
put_name_steps w c (more {kind} {name} {names} {part} {list} one rest) = both part list (name_steps w kind name c one) (put_name_steps w c rest)

-- ---- what they keep
keeps_one : (h : History) (d : Placed) (row qual : List ℕ) → IsNameStep d → value_at (store_after (Then h d.entry)) (point_row row) qual ≡ value_at (store_after h) (point_row row) qual
keeps_one h d row qual (reads r is) = ap (λ (s : Store). value_at s (point_row row) qual) (read_keeps h d.entry r is)
keeps_one h d row qual (bumps kind is) = bump_keeps h d.entry kind (point_row row) qual is (rows_differ (point_row row) counter_row _ _ (tables_differ (point_row row) counter_row (λ e. ids_apart (sym e))))
keeps_one h d row qual (claims r q v is other) = claim_keeps h d.entry r q v (point_row row) qual is (rows_differ (point_row row) r _ _ (tables_differ (point_row row) r (λ e. other (sym e))))

pub names_keep : (h : History) (list : List Placed) (row qual : List ℕ) → AreNameSteps list → value_at (store_after (follow h list)) (point_row row) qual ≡ value_at (store_after h) (point_row row) qual
names_keep h [] row qual steps = refl
names_keep h (d ∷ list) row qual steps = names_keep (Then h d.entry) list row qual steps.1 ∙ keeps_one h d row qual steps.0
