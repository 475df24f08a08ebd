-- The names of a point are names.
use Rattle.std.proofs.Common.{◌≡◌, ◌⊎◌, inl, inr, ℕ, List, [], ◌∷◌, subst}
use Rattle.std.specs.Prelude.{Contains}
use Rattle.std.specs.List.{AllByRecursion}
use Rattle.tsd_base.specs.declared.kinds.Kind.{Kind}
use Rattle.tsd_base.specs.declared.kinds.Kind.TheVariants.{Metric, TagKey, TagValue}
use Rattle.tsd_base.specs.Alphabet.{IsName}
use Rattle.tsd_base.specs.TagList.{Pair, IsPair}
use Rattle.tsd_base.specs.Points.{DataPoint}
use Rattle.cell_model.specs.Layout.{IsPoint, names_of, tag_names}
use Rattle.list_lemmas.proofs.ListMembers.{here, there, split, not_in}

abbrev Named : Type 0
Named = Kind × List ℕ

moved : (a b : Named) → a ≡ b → IsName a.1 → IsName b.1
moved a b e n = subst (λ (x : Named). IsName x.1) e n

tag_name : (tags : List Pair) (x : Named) → AllByRecursion IsPair tags → Contains (tag_names tags) x → IsName x.1
tag_name [] x all c = absurd (not_in x c)
tag_name (t ∷ tags) x all c = at (split key x (val ∷ tag_names tags) c) (tag_name tags x all.1)
  where
    key : Named
    key = (TagKey, t.0)

    val : Named
    val = (TagValue, t.1)

    later : (val ≡ x) ⊎ Contains (tag_names tags) x → (Contains (tag_names tags) x → IsName x.1) → IsName x.1
    later (inl same) go = moved val x same all.0.1
    later (inr c) go = go c

    at : (key ≡ x) ⊎ Contains (val ∷ tag_names tags) x → (Contains (tag_names tags) x → IsName x.1) → IsName x.1
    at (inl same) go = moved key x same all.0.0
    at (inr c) go = later (split val x (tag_names tags) c) go

pub point_name : (p : DataPoint) (kind : Kind) (name : List ℕ) → IsPoint p → Contains (names_of p) (kind, name) → IsName name
point_name p kind name ok c = at (split metric x (tag_names p.tags) c)
  where
    metric : Named
    metric = (Metric, p.metric)

    x : Named
    x = (kind, name)

    at : (metric ≡ x) ⊎ Contains (tag_names p.tags) x → IsName x.1
    at (inl same) = moved metric x same ok.metric
    at (inr c) = tag_name p.tags x ok.tags.names c

-- the names of a tag are among them
pub tag_in : (tags : List Pair) (t : Pair) → Contains tags t → Contains {X = Kind × List ℕ} (tag_names tags) (TagKey, t.0) × Contains {X = Kind × List ℕ} (tag_names tags) (TagValue, t.1)
tag_in [] t c = absurd (not_in t c)
tag_in (u ∷ tags) t c = at (split u t tags c) (tag_in tags t)
  where
    rest : List (Kind × List ℕ)
    rest = tag_names tags

    key : Kind × List ℕ
    key = (TagKey, u.0)

    val : Kind × List ℕ
    val = (TagValue, u.1)

    at : (u ≡ t) ⊎ Contains tags t → (Contains tags t → Contains {X = Kind × List ℕ} (tag_names tags) (TagKey, t.0) × Contains {X = Kind × List ℕ} (tag_names tags) (TagValue, t.1))
        → Contains {X = Kind × List ℕ} (tag_names (u ∷ tags)) (TagKey, t.0) × Contains {X = Kind × List ℕ} (tag_names (u ∷ tags)) (TagValue, t.1)
    at (inl same) go =
        subst (λ (x : Pair). Contains {X = Kind × List ℕ} (tag_names (u ∷ tags)) (TagKey, x.0) × Contains {X = Kind × List ℕ} (tag_names (u ∷ tags)) (TagValue, x.1)) same
        (here key (val ∷ rest), there key val (val ∷ rest) (here val rest))
    at (inr later) go = let w = go later in (there key (TagKey, t.0) (val ∷ rest) (there val (TagKey, t.0) rest w.0), there key (TagValue, t.1) (val ∷ rest) (there val (TagValue, t.1) rest w.1))
