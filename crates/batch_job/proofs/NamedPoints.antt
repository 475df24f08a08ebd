-- The names that have ids are those of the points.
use Rattle.std.proofs.Common.{◌≡◌, ℕ, ◌+◌, Bool, true, false, cond, ◌&&◌, ◌||◌, List, [], ◌∷◌, ◌++◌, Option, Some, None, length, refl, sym, ap, ◌∙◌}
use Rattle.std.specs.Prelude.{Result, Ok, Err, is_some, nat_lt}
use Rattle.std.specs.List.{flat_map, list_any}
use Rattle.std.specs.Option.{option_or}
use Rattle.std.proofs.lemmas.Bool.{and_parts, true≢false}
use Rattle.tsd_base.specs.declared.kinds.Kind.{Kind}
use Rattle.tsd_base.specs.declared.kinds.Kind.TheVariants.{Metric, TagKey, TagValue}
use Rattle.tsd_base.specs.Points.{DataPoint}
use Rattle.tsd_base.specs.TagList.{Pair, is_same}
use Rattle.cell_model.specs.Layout.{names_of, tag_names}
use Rattle.row_key.specs.Made.{three}
use Rattle.cell_model.specs.KindWidths.{greatest}
use Rattle.metric_scan.specs.Parts.{NameOf}
use Rattle.point_lines.specs.NameIds.{Names, id_in, no_names}
use Rattle.batch_job.specs.NotedIds.{list_of, with_list, with_listed, noted, noted_all, and_then_noted}
use Rattle.batch_job.specs.JobAnswers.{has_name}
use Rattle.point_lines.proofs.CallerLemmas.{ok_is, err_not_ok, same_list}
use Rattle.batch_job.proofs.LastPoints.{same_bytes}
use Rattle.point_lines.proofs.CallerLemmas.{id_in-append}

-- ---- which names have ids
abbrev is_kind : Kind → Kind → Bool
is_kind Metric Metric = true
is_kind Metric TagKey = false
is_kind Metric TagValue = false
is_kind TagKey Metric = false
is_kind TagKey TagKey = true
is_kind TagKey TagValue = false
is_kind TagValue Metric = false
is_kind TagValue TagKey = false
is_kind TagValue TagValue = true

kind_is : (a b : Kind) → is_kind a b ≡ true → a ≡ b
kind_is Metric Metric e = refl
kind_is Metric TagKey e = absurd (true≢false (sym e))
kind_is Metric TagValue e = absurd (true≢false (sym e))
kind_is TagKey Metric e = absurd (true≢false (sym e))
kind_is TagKey TagKey e = refl
kind_is TagKey TagValue e = absurd (true≢false (sym e))
kind_is TagValue Metric e = absurd (true≢false (sym e))
kind_is TagValue TagKey e = absurd (true≢false (sym e))
kind_is TagValue TagValue e = refl

-- the second is the first
abbrev is_that : NameOf → NameOf → Bool
is_that n m = is_kind n.0 m.0 && is_same m.1 n.1

abbrev has_id : Names → NameOf → Bool
has_id names n = is_some (id_in (list_of names n.0) n.1)

or_again : (a b : Bool) → (b ≡ true → a ≡ true) → a ≡ (a || b)
or_again true b h = refl
or_again false true h = absurd (true≢false (sym (h refl)))
or_again false false h = refl

or_none : (a : Bool) → a ≡ (a || false)
or_none true = refl
or_none false = refl

some_or_new : (o : Option ℕ) (b : Bool) (k : ℕ) → is_some (option_or o (cond b (Some k) None)) ≡ (is_some o || b)
some_or_new None true k = refl
some_or_new None false k = refl
some_or_new (Some v) true k = refl
some_or_new (Some v) false k = refl

-- one more name in a list
listed_last : (names : List (List ℕ)) (name m : List ℕ) → is_some (id_in (names ++ name ∷ []) m) ≡ (is_some (id_in names m) || is_same name m)
listed_last names name m = ap is_some (id_in-append names name m) ∙ some_or_new (id_in names m) (is_same name m) (length names + 1)

-- one more name of a kind
named_last : (old : Names) (kind : Kind) (name : List ℕ) (k : Kind) (m : List ℕ) → has_id (with_list old kind (list_of old kind ++ name ∷ [])) (k, m) ≡ (has_id old (k, m) || is_that (k, m) (kind, name))
named_last old Metric name Metric m = listed_last old.metrics name m
named_last old TagKey name TagKey m = listed_last old.keys name m
named_last old TagValue name TagValue m = listed_last old.values name m
named_last old Metric name TagKey m = or_none (is_some (id_in old.keys m))
named_last old Metric name TagValue m = or_none (is_some (id_in old.values m))
named_last old TagKey name Metric m = or_none (is_some (id_in old.metrics m))
named_last old TagKey name TagValue m = or_none (is_some (id_in old.values m))
named_last old TagValue name Metric m = or_none (is_some (id_in old.metrics m))
named_last old TagValue name TagKey m = or_none (is_some (id_in old.keys m))

name_step : (old new : Names) (n m : NameOf) (here room : Bool) → is_some (id_in (list_of old n.0) n.1) ≡ here
    → with_listed old n.0 (cond here (Some (list_of old n.0)) (cond room (Some (list_of old n.0 ++ n.1 ∷ [])) None)) ≡ Ok new → has_id new m ≡ (has_id old m || is_that m n)
name_step old new n m true room here is =
    ap (λ names. has_id names m) (sym (sym (same_list old n.0) ∙ ok_is _ _ is))
    ∙ or_again (has_id old m) (is_that m n)
    (λ same.
    let both = and_parts _ _ same in
    let kind = kind_is m.0 n.0 both.0 in
    let name = same_bytes n.1 m.1 both.1 in
    (λ i. is_some (id_in (list_of old (kind i)) (sym name i))) ∙ here)
name_step old new n m false true here is = ap (λ names. has_id names m) (sym (ok_is _ _ is)) ∙ named_last old n.0 n.1 m.0 m.1
name_step old new n m false false here is = absurd (err_not_ok is)

or_assoc : (a b c : Bool) → ((a || b) || c) ≡ (a || (b || c))
or_assoc true b c = refl
or_assoc false b c = refl

names_rest : (r : Result Names Kind) (old : Names) (n : NameOf) (ns : List NameOf) (new : Names) (m : NameOf)
    → ((mid : Names) → noted_all mid ns ≡ Ok new → has_id new m ≡ (has_id mid m || list_any (is_that m) ns))
    → noted old n.0 n.1 ≡ r → and_then_noted r (λ more. noted_all more ns) ≡ Ok new → has_id new m ≡ (has_id old m || (is_that m n || list_any (is_that m) ns))
names_rest (Ok mid) old n ns new m rest is e =
    rest mid e
    ∙ ap (λ b. b || list_any (is_that m) ns) (name_step old mid n m (is_some (id_in (list_of old n.0) n.1)) (nat_lt (length (list_of old n.0)) (greatest three n.0)) refl is)
    ∙ or_assoc (has_id old m) (is_that m n) (list_any (is_that m) ns)
names_rest (Err kind) old n ns new m rest is e = absurd (err_not_ok e)

names_noted : (old : Names) (ns : List NameOf) (new : Names) (m : NameOf) → noted_all old ns ≡ Ok new → has_id new m ≡ (has_id old m || list_any (is_that m) ns)
names_noted old [] new m e = ap (λ names. has_id names m) (sym (ok_is _ _ e)) ∙ or_none (has_id old m)
names_noted old (n ∷ ns) new m e = names_rest (noted old n.0 n.1) old n ns new m (λ mid is. names_noted mid ns new m is) refl e

-- ---- the names of points
no_metric : (name : List ℕ) (tags : List Pair) (rest : List NameOf) → list_any (is_that (Metric, name)) (tag_names tags ++ rest) ≡ list_any (is_that (Metric, name)) rest
no_metric name [] rest = refl
no_metric name (t ∷ tags) rest = no_metric name tags rest

keys_in : (name : List ℕ) (tags : List Pair) (rest : List NameOf) → list_any (is_that (TagKey, name)) (tag_names tags ++ rest) ≡ (list_any (λ t. is_same t.0 name) tags || list_any (is_that (TagKey, name)) rest)
keys_in name [] rest = refl
keys_in name (t ∷ tags) rest = ap (λ b. is_same t.0 name || b) (keys_in name tags rest) ∙ sym (or_assoc (is_same t.0 name) (list_any (λ u. is_same u.0 name) tags) (list_any (is_that (TagKey, name)) rest))

values_in : (name : List ℕ) (tags : List Pair) (rest : List NameOf) → list_any (is_that (TagValue, name)) (tag_names tags ++ rest) ≡ (list_any (λ t. is_same t.1 name) tags || list_any (is_that (TagValue, name)) rest)
values_in name [] rest = refl
values_in name (t ∷ tags) rest = ap (λ b. is_same t.1 name || b) (values_in name tags rest) ∙ sym (or_assoc (is_same t.1 name) (list_any (λ u. is_same u.1 name) tags) (list_any (is_that (TagValue, name)) rest))

one_point : (kind : Kind) (name : List ℕ) (p : DataPoint) (rest : List NameOf) → list_any (is_that (kind, name)) (names_of p ++ rest) ≡ (has_name (kind, name) p || list_any (is_that (kind, name)) rest)
one_point Metric name p rest = ap (λ b. is_same p.metric name || b) (no_metric name p.tags rest)
one_point TagKey name p rest = keys_in name p.tags rest
one_point TagValue name p rest = values_in name p.tags rest

in_points : (n : NameOf) (ps : List DataPoint) → list_any (is_that n) (flat_map names_of ps) ≡ list_any (has_name n) ps
in_points n [] = refl
in_points n (p ∷ ps) = one_point n.0 n.1 p (flat_map names_of ps) ∙ ap (λ b. has_name n p || b) (in_points n ps)

none_yet : (kind : Kind) (name : List ℕ) → has_id no_names (kind, name) ≡ false
none_yet Metric name = refl
none_yet TagKey name = refl
none_yet TagValue name = refl

-- a name has an id where a point has it
pub known_is : (points : List DataPoint) (names : Names) (n : NameOf) → noted_all no_names (flat_map names_of points) ≡ Ok names → is_some (id_in (list_of names n.0) n.1) ≡ list_any (has_name n) points
known_is points names n e =
    names_noted no_names (flat_map names_of points) names n e ∙ ap (λ b. b || list_any (is_that n) (flat_map names_of points)) (none_yet n.0 n.1) ∙ in_points n points
