-- Groups made one by one, and what stands for all of them.
use Rattle.std.proofs.Common.{◌≡◌, ℕ, List, [], ◌∷◌, ◌++◌, length, Result, Ok, Err, map, refl, sym, ap, subst, ◌∙◌, append_assoc, append-nil, arith}
use Rattle.std.proofs.lemmas.List.{map-append}
use Rattle.std.proofs.lemmas.Result.{err_from_is_err_and}
use Rattle.std.specs.Prelude.{Contains, IsErrAnd, Vec}
use Rattle.std.specs.declared.alloc.Global.{Global}
use Rattle.tsd_base.specs.TagList.{Pair}
use Rattle.series_groups.specs.declared.named_series.Series.{Series}
use Rattle.lerp_aggregate.specs.declared.aggregation.AggFault.{AggFault}
use Rattle.lerp_aggregate.specs.declared.aggregation.AggFault.TheVariants.{Overflow, OutOfMemory}
use Rattle.json_reply.specs.Replies.{Group, plain}
use Rattle.json_reply.specs.declared.reply.Group as code
use Rattle.list_lemmas.proofs.ListMembers.{here, there}
use Rattle.series_groups.specs.QueryAnswers.{all_groups}
use Rattle.series_groups.specs.SeriesGroups.{GivesGroup, GivesGroups}

-- an error that is passed on
pub passed_on : {T E : Type 0} (P : Result T E → Type 0) (e : E) (r : Result T E) → IsErrAnd r (λ y. y ≡ e) → P (Err e) → P r
passed_on P e r is p = let y = err_from_is_err_and r is in subst P (sym (y.1 ∙ ap (λ x. Err x) y.2)) p

abbrev pub made : List code.Group → List (Result Group ℕ)
made groups = map (λ (g : code.Group). Ok (plain g)) groups

-- where each has its group, these are all
all_made : (groups : List code.Group) → all_groups (made groups) ≡ Ok (map plain groups)
all_made [] = refl
all_made (g ∷ groups) = rw (all_made groups) refl

-- the first time that stands in place of a group
stops : (groups : List code.Group) (time : ℕ) (rest : List (Result Group ℕ)) → all_groups (made groups ++ Err time ∷ rest) ≡ Err time
stops [] time rest = refl
stops (g ∷ groups) time rest = rw (stops groups time rest) refl

-- some of a list have their groups, and the others are these
module _ {X : Type 0} (f : X → Result Group ℕ) (groups : List code.Group) (items : List X) (all : List (Result Group ℕ)) (are : made groups ++ map f items ≡ all) where
  -- none are left
  pub done : length items ≡ 0 → all_groups all ≡ Ok (map plain groups)
  done none = ap all_groups (sym are ∙ ap (λ l. made groups ++ map f l) (nothing items none) ∙ append-nil (made groups)) ∙ all_made groups
    where
      nothing : (l : List X) → length l ≡ 0 → l ≡ []
      nothing [] none = refl
      nothing (x ∷ l) none = absurd (omega (arith, none))

  module _ (x : X) (rest : List X) (left : items ≡ x ∷ rest) where
    next : made groups ++ f x ∷ map f rest ≡ all
    next = sym (ap (λ l. made groups ++ map f l) left) ∙ are

    -- the next one has its group
    pub goes_on : (g : code.Group) (now : List code.Group) → now ≡ groups ++ g ∷ [] → f x ≡ Ok (plain g) → made now ++ map f rest ≡ all
    goes_on g now is e =
        ap (λ l. made l ++ map f rest) is
        ∙ ap (λ l. l ++ map f rest) (map-append (λ (h : code.Group). Ok (plain h)) groups (g ∷ []))
        ∙ append_assoc (made groups) (Ok (plain g) ∷ []) (map f rest)
        ∙ ap (λ r. made groups ++ r ∷ map f rest) (sym e)
        ∙ next

    -- the next one has none
    pub fails : (fault : AggFault) → GivesGroup (Err fault) (f x) → GivesGroups (Err fault) (all_groups all)
    fails (Overflow time) e = ap all_groups (sym next ∙ ap (λ r. made groups ++ r ∷ map f rest) e) ∙ stops groups time (map f rest)
    fails OutOfMemory e = tt

-- the members of the groups of a map
abbrev pub values : List (List Pair × Vec Series Global) → List (List Series)
values es = map (λ (e : List Pair × Vec Series Global). e.1.items) es

pub value_here : (es : List (List Pair × Vec Series Global)) (e : List Pair × Vec Series Global) (rest : List (List Pair × Vec Series Global)) → es ≡ e ∷ rest → Contains (values es) e.1.items
value_here es e rest is = subst (λ (l : List (List Pair × Vec Series Global)). Contains (values l) e.1.items) (sym is) (here e.1.items (values rest))

pub value_later : (es : List (List Pair × Vec Series Global)) (e : List Pair × Vec Series Global) (rest : List (List Pair × Vec Series Global)) → es ≡ e ∷ rest → (m : List Series) → Contains (values rest) m → Contains (values es) m
value_later es e rest is m c = subst (λ (l : List (List Pair × Vec Series Global)). Contains (values l) m) (sym is) (there e.1.items m (values rest) c)
