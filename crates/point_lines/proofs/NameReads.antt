-- The names of a point, and the entries for names that have ids, which are reads.
use Rattle.std.proofs.Common.{◌≡◌, ⊎_elim, ℕ, List, [], ◌∷◌, ◌++◌, refl, sym, ap, subst, ◌∙◌}
use Rattle.std.specs.Prelude.{None, Some, Contains, option_and_then}
use Rattle.std.proofs.lemmas.List.Elements.{Contains-append_cases, Contains-append_right}
use Rattle.std.specs.List.{AllByRecursion}
use Rattle.tsd_base.specs.Alphabet.{IsName}
use Rattle.tsd_base.specs.Points.{DataPoint}
use Rattle.tsd_base.specs.TagList.{IsPair, Pair}
use Rattle.tsd_base.specs.declared.kinds.Kind.{Kind}
use Rattle.tsd_base.specs.declared.kinds.Kind.TheVariants.{Metric, TagKey, TagValue}
use Rattle.cell_model.specs.declared.row.Row.{Row}
use Rattle.cell_model.specs.declared.events.Placed.{Placed}
use Rattle.cell_model.specs.declared.events.Step.TheVariants.{Read}
use Rattle.cell_model.specs.History.{History, store_after}
use Rattle.cell_model.specs.History.History.{Then}
use Rattle.cell_model.specs.IdRows.{id_number, id_of, name_row, AllResolved}
use Rattle.cell_model.specs.KindWidths.{Widths}
use Rattle.cell_model.specs.Layout.{IsPoint, names_of, tag_names}
use Rattle.cell_model.specs.Lawful.{IsLawful}
use Rattle.cell_model.specs.Machine.{kind_qual}
use Rattle.cell_model.specs.Store.{Store, value_at}
use Rattle.point_put.specs.Admissions.{Admission}
use Rattle.point_put.specs.Entries.{ForName, ForNames}
use Rattle.point_put.specs.Entries.ForName.{none, look, full, bump, reverse, forward}
use Rattle.point_put.specs.Entries.ForNames.{nil, more}
use Rattle.uid_table.specs.IdSteps.{DidLook}
use Rattle.list_lemmas.proofs.BoolTests.{not_Some}
use Rattle.list_lemmas.proofs.ListMembers.{here, not_in, split}
use Rattle.point_lines.proofs.Follows.{follow, follow-append}
use Rattle.point_lines.proofs.StepKeeps.{looked, read_keeps}

-- the names of a point are names
pub point_names : (p : DataPoint) → IsPoint p → (n : Kind × List ℕ) → Contains (names_of p) n → IsName n.1
point_names p is n has = ⊎_elim
    (λ (first : (Metric, p.metric) ≡ n). subst (λ (m : Kind × List ℕ). IsName m.1) first is.metric)
    (λ (later : Contains (tag_names p.tags) n). tags_are p.tags is.tags.names n later)
    (split (Metric, p.metric) n (tag_names p.tags) has)
  where
    tags_are : (tags : List Pair) → AllByRecursion IsPair tags → (n : Kind × List ℕ) → Contains (tag_names tags) n → IsName n.1
    tags_are [] are n has = absurd (not_in n has)
    tags_are (t ∷ tags) are n has = ⊎_elim
        (λ (key : (TagKey, t.0) ≡ n). subst (λ (m : Kind × List ℕ). IsName m.1) key are.0.0)
        (λ (rest : Contains ((TagValue, t.1) ∷ tag_names tags) n). ⊎_elim
        (λ (value : (TagValue, t.1) ≡ n). subst (λ (m : Kind × List ℕ). IsName m.1) value are.0.1)
        (λ (later : Contains (tag_names tags) n). tags_are tags are.1 n later)
        (split (TagValue, t.1) n (tag_names tags) rest))
        (split (TagKey, t.0) n ((TagValue, t.1) ∷ tag_names tags) has)

-- ---- entries that are reads
abbrev pub AreReads : List Placed → Type 0
AreReads list = (d : Placed) → Contains list d → (row : Row) × (d.entry.step ≡ Read row)

pub reads_nil : AreReads []
reads_nil d c = absurd (not_in d c)

pub reads_one : (d : Placed) (row : Row) → d.entry.step ≡ Read row → AreReads (d ∷ [])
reads_one d row is x c = ⊎_elim
    (λ (same : d ≡ x). (row, ap (λ (y : Placed). y.entry.step) (sym same) ∙ is))
    (λ (later : Contains [] x). absurd (not_in x later))
    (split d x [] c)

pub reads_append : (xs ys : List Placed) → AreReads xs → AreReads ys → AreReads (xs ++ ys)
reads_append xs ys a b d c = ⊎_elim (a d) (b d) (Contains-append_cases xs ys d c)

pub reads_keep : (h : History) (list : List Placed) → AreReads list → store_after (follow h list) ≡ store_after h
reads_keep h [] reads = refl
reads_keep h (d ∷ list) reads =
    let one = reads d (here d list) in
    reads_keep (Then h d.entry) list (λ x c. reads x (Contains-append_right (d ∷ []) list x c)) ∙ read_keeps h d.entry one.0 one.1

pub lawful_front : (h : History) (list : List Placed) → IsLawful (follow h list) → IsLawful h
lawful_front h [] l = l
lawful_front h (d ∷ list) l = (lawful_front (Then h d.entry) list l).0

-- ---- the entries for names that have ids
module _ (c : Admission) where
  abbrev pub HasId : History → Kind → List ℕ → Type 0
  HasId h kind name = (id : ℕ) × (id_of h kind name ≡ Some id)

  no_id : (h : History) (r : Placed) (kind : Kind) (name : List ℕ) → IsLawful (Then h r.entry) → HasId h kind name → DidLook r kind name None → ⊥
  no_id h r kind name l has d = not_Some has.0 (sym has.1 ∙ ap (option_and_then id_number) (looked h r kind name None l.2 d))

  part_reads : {w : Widths} (h : History) (kind : Kind) (name : List ℕ) {part : List Placed} → ForName w c kind name part → HasId h kind name → IsLawful (follow h part) → AreReads part
  part_reads h kind name none has l = reads_nil
  part_reads h kind name (look {r} shown d) has l = reads_one r (name_row name) d.did.0
  part_reads h kind name (full {r} {b} m d x) has l = absurd (no_id h r kind name (lawful_front (Then h r.entry) (b ∷ []) l) has d)
  part_reads h kind name (bump {r} {b} id m d x) has l = absurd (no_id h r kind name (lawful_front (Then h r.entry) (b ∷ []) l) has d)
  part_reads h kind name (reverse {r} {b} {n} id m d x y) has l = absurd (no_id h r kind name (lawful_front (Then h r.entry) (b ∷ n ∷ []) l) has d)
  part_reads h kind name (forward {r} {b} {n} {f} id reply m d x y z) has l = absurd (no_id h r kind name (lawful_front (Then h r.entry) (b ∷ n ∷ f ∷ []) l) has d)

  pub names_read : {w : Widths} (h : History) {ns : List (Kind × List ℕ)} {list : List Placed} → ForNames w c ns list → AllResolved h ns → IsLawful (follow h list) → AreReads list
  names_read h nil res l = reads_nil
  names_read h (more {kind} {name} {names} {part} {list} one rest) res l =
      let lawful : IsLawful (follow (follow h part) list) = subst IsLawful (follow-append h part list) l in
      let first = part_reads h kind name one (res (kind, name) (here (kind, name) names)) (lawful_front (follow h part) list lawful) in
      let same = reads_keep h part first in
      reads_append part list first
      (names_read (follow h part) rest (λ n has. let found = res n (Contains-append_right ((kind, name) ∷ []) names n has) in (found.0, ap (λ (s : Store). option_and_then id_number (value_at s (name_row n.1) (kind_qual n.0))) same ∙ found.1)) lawful)
