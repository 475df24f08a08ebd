-- Names that have their ids.
use Rattle.std.proofs.Common.{◌≡◌, ℕ, ◌+◌, Bool, true, false, cond, List, [], ◌∷◌, ◌++◌, length, Option, Some, None, refl, sym, ap, subst, ◌∙◌}
use Rattle.std.specs.Prelude.{Result, Ok, Err, is_some, nat_lt}
use Rattle.std.specs.Option.{option_or}
use Rattle.std.specs.Cmp.Lexicographic.{nat_list_eq_equiv}
use Rattle.std.proofs.lemmas.Bool.{true≢false}
use Rattle.tsd_base.specs.declared.kinds.Kind.{Kind}
use Rattle.tsd_base.specs.declared.kinds.Kind.TheVariants.{Metric, TagKey, TagValue}
use Rattle.cell_model.specs.KindWidths.{Widths, greatest}
use Rattle.point_lines.specs.NameIds.{Names, id_in, list_of, with_list, with_listed, noted, noted_all, and_then_noted}
use Rattle.point_lines.proofs.Known.{IsKnown, AreKnown}
use Rattle.point_lines.proofs.NameLemmas.{id_in-append}

pub same_list : (names : Names) (kind : Kind) → with_list names kind (list_of names kind) ≡ names
same_list names Metric = refl
same_list names TagKey = refl
same_list names TagValue = refl

abbrev names_or : Result Names Kind → Names → Names
names_or (Ok y) x = y
names_or (Err k) x = x

pub ok_is : (x y : Names) → ◌≡◌ {A = Result Names Kind} (Ok x) (Ok y) → x ≡ y
ok_is x y e = ap (λ r. names_or r x) e

abbrev is_err : Result Names Kind → Bool
is_err (Ok y) = false
is_err (Err k) = true

pub err_not_ok : {k : Kind} {y : Names} → ◌≡◌ {A = Result Names Kind} (Err k) (Ok y) → ⊥
err_not_ok e = true≢false (ap is_err e)

-- known names stay what they are
noted_known : (w : Widths) (names : Names) (n : Kind × List ℕ) → IsKnown names n → noted w names n.0 n.1 ≡ Ok names
noted_known w names n known =
    ap (λ b. with_listed names n.0 (cond b (Some (list_of names n.0)) (cond (nat_lt (length (list_of names n.0)) (greatest w n.0)) (Some (list_of names n.0 ++ n.1 ∷ [])) None))) known
    ∙ ap Ok (same_list names n.0)

pub noted_all-known : (w : Widths) (names : Names) (ns : List (Kind × List ℕ)) → AreKnown names ns → noted_all w names ns ≡ Ok names
noted_all-known w names [] known = refl
noted_all-known w names (n ∷ ns) known = ap (λ r. and_then_noted r (λ more. noted_all w more ns)) (noted_known w names n known.0) ∙ noted_all-known w names ns known.1

-- ---- what becomes known
some_or : (o p : Option ℕ) → is_some o ≡ true → is_some (option_or o p) ≡ true
some_or None p e = absurd (true≢false (sym e))
some_or (Some v) p e = refl

some_or_right : (o : Option ℕ) (k : ℕ) → is_some (option_or o (Some k)) ≡ true
some_or_right None k = refl
some_or_right (Some v) k = refl

known_kept_in : (list : List (List ℕ)) (name m : List ℕ) → is_some (id_in list m) ≡ true → is_some (id_in (list ++ name ∷ []) m) ≡ true
known_kept_in list name m e = ap is_some (id_in-append list name m) ∙ some_or (id_in list m) _ e

known_last : (list : List (List ℕ)) (name : List ℕ) → is_some (id_in (list ++ name ∷ []) name) ≡ true
known_last list name =
    ap is_some (id_in-append list name name ∙ ap (λ b. option_or (id_in list name) (cond b (Some (length list + 1)) None)) (nat_list_eq_equiv.refl name))
    ∙ some_or_right (id_in list name) (length list + 1)

known_kept : (names : Names) (kind : Kind) (name : List ℕ) (n : Kind × List ℕ) → IsKnown names n → IsKnown (with_list names kind (list_of names kind ++ name ∷ [])) n
known_kept names Metric name (Metric, m) e = known_kept_in names.metrics name m e
known_kept names Metric name (TagKey, m) e = e
known_kept names Metric name (TagValue, m) e = e
known_kept names TagKey name (Metric, m) e = e
known_kept names TagKey name (TagKey, m) e = known_kept_in names.keys name m e
known_kept names TagKey name (TagValue, m) e = e
known_kept names TagValue name (Metric, m) e = e
known_kept names TagValue name (TagKey, m) e = e
known_kept names TagValue name (TagValue, m) e = known_kept_in names.values name m e

known_new : (names : Names) (kind : Kind) (name : List ℕ) → IsKnown (with_list names kind (list_of names kind ++ name ∷ [])) (kind, name)
known_new names Metric name = known_last names.metrics name
known_new names TagKey name = known_last names.keys name
known_new names TagValue name = known_last names.values name

-- a name was noted: it is known, and so is what was
record Notes (old : Names) (n : Kind × List ℕ) (new : Names) : Type 0 where
  pub known : IsKnown new n
  pub kept : (m : Kind × List ℕ) → IsKnown old m → IsKnown new m

notes_so : (old : Names) (n : Kind × List ℕ) (new : Names) (here room : Bool) → is_some (id_in (list_of old n.0) n.1) ≡ here
    → with_listed old n.0 (cond here (Some (list_of old n.0)) (cond room (Some (list_of old n.0 ++ n.1 ∷ [])) None)) ≡ Ok new → Notes old n new
notes_so old n new true room e is =
    let same : old ≡ new = sym (same_list old n.0) ∙ ok_is _ _ is in
    record { known = subst (λ names. IsKnown names n) same e; kept = λ m k. subst (λ names. IsKnown names m) same k }
notes_so old n new false true e is =
    let same = ok_is _ _ is in
    record { known = subst (λ names. IsKnown names n) same (known_new old n.0 n.1); kept = λ m k. subst (λ names. IsKnown names m) same (known_kept old n.0 n.1 m k) }
notes_so old n new false false e is = absurd (err_not_ok is)

notes : (w : Widths) (old : Names) (n : Kind × List ℕ) (new : Names) → noted w old n.0 n.1 ≡ Ok new → Notes old n new
notes w old n new is = notes_so old n new (is_some (id_in (list_of old n.0) n.1)) (nat_lt (length (list_of old n.0)) (greatest w n.0)) refl is

-- names were noted: all of them are known, and so is what was
pub record NotesAll (old : Names) (ns : List (Kind × List ℕ)) (new : Names) : Type 0 where
  pub known : AreKnown new ns
  pub kept : (m : Kind × List ℕ) → IsKnown old m → IsKnown new m

notes_rest : (w : Widths) (r : Result Names Kind) (old : Names) (n : Kind × List ℕ) (ns : List (Kind × List ℕ)) (new : Names) → ((mid : Names) → noted_all w mid ns ≡ Ok new → NotesAll mid ns new)
    → noted w old n.0 n.1 ≡ r → and_then_noted r (λ more. noted_all w more ns) ≡ Ok new → NotesAll old (n ∷ ns) new
notes_rest w (Ok mid) old n ns new rest is e =
    let one = notes w old n mid is in
    let all = rest mid e in
    record { known = (all.kept n one.known, all.known); kept = λ m k. all.kept m (one.kept m k) }
notes_rest w (Err kind) old n ns new rest is e = absurd (err_not_ok e)

pub notes_all : (w : Widths) (old : Names) (ns : List (Kind × List ℕ)) (new : Names) → noted_all w old ns ≡ Ok new → NotesAll old ns new
notes_all w old [] new e = record { known = tt; kept = λ m k. subst (λ names. IsKnown names m) (ok_is _ _ e) k }
notes_all w old (n ∷ ns) new e = notes_rest w (noted w old n.0 n.1) old n ns new (λ mid is. notes_all w mid ns new is) refl e
