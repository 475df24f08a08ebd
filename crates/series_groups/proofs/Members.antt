-- The members of groups, in a map by the keys of the groups.
use Rattle.std.proofs.Common.{◌≡◌, ℕ, zero, suc, Bool, true, false, cond, ◌||◌, List, [], ◌∷◌, ◌++◌, length, map, refl, sym, ap, ◌∙◌, arith, append_assoc, append-nil}
use Rattle.std.specs.Prelude.{Option, Some, None, is_some, option_map, unwrap_or, Vec, slice_get}
use Rattle.std.specs.declared.alloc.Global.{Global}
use Rattle.std.specs.List.{list_any}
use Rattle.std.specs.Map.{keys_of, lookup}
use Rattle.std.specs.BTreeMap.{BTreeMap, IsOrdered, get, is_at}
use Rattle.std.specs.Ordering.{eq_by_cmp}
use Rattle.std.proofs.lemmas.List.Elements.{filter-append}
use Rattle.std.proofs.lemmas.Map.Entries.{btree_map_get_place}
use Rattle.tsd_base.specs.TagList.{Pair, tags_cmp, is_same_tags}
use Rattle.tsd_base.specs.TagOrder.{tags_cmp_total, tags_same, tags_ties}
use Rattle.query_text.specs.declared.queries.Sub.{Sub}
use Rattle.group_by.specs.TagFilters.{group_key}
use Rattle.series_groups.specs.declared.named_series.Series.{Series}
use Rattle.series_groups.specs.QueryAnswers.{group_keys}
use Rattle.series_groups.specs.SeriesGroups.{members, held, AddsMember, AreGroups}
use Rattle.series_groups.specs.KeptSeries.{tags_kept}
use Rattle.series_groups.proofs.Keys.{group_keys_are}

abbrev Groups : Type 0
Groups = BTreeMap (List Pair) (Vec Series Global)

-- a list, unless it is empty
abbrev pub some_of : List Series → Option (List Series)
some_of [] = None
some_of (x ∷ xs) = Some (x ∷ xs)

-- the series that were taken are the members that the map has
pub record Held (s : Sub) (all : List Series) (groups : Groups) (rest : List Series) : Type 0 where
  pub done : List Series
  pub cut : done ++ rest ≡ all
  pub each : (q : List Pair) → held groups q ≡ some_of (members s done q)

pub held_none : (s : Sub) (all : List Series) (groups : Groups) → groups.entries ≡ [] → Held s all groups all
held_none s all groups none = record {
  done = [];
  cut = refl;
  each = λ q. ap (λ (es : List (List Pair × Vec Series Global)). option_map (λ (l : Vec Series Global). l.items) (lookup (is_at (tags_cmp q)) es)) none;
}

added_some : (xs : List Series) (x : Series) → Some (unwrap_or (some_of xs) [] ++ x ∷ []) ≡ some_of (xs ++ x ∷ [])
added_some [] x = refl
added_some (y ∷ xs) x = refl

pub held_more : (s : Sub) (all : List Series) (groups more : Groups) (one : Series) (rest before : List Series) → before ≡ one ∷ rest → Held s all groups before → AddsMember groups (group_key s one.tags) one more → Held s all more rest
held_more s all groups more one rest before is h adds = record {
  done = h.done ++ one ∷ [];
  cut = append_assoc h.done (one ∷ []) rest ∙ ap (λ l. h.done ++ l) (sym is) ∙ h.cut;
  each = λ q. adds q ∙ at q (is_same_tags (group_key s one.tags) q) refl;
}
  where
    behind : (q : List Pair) (b : Bool) → is_same_tags (group_key s one.tags) q ≡ b → members s (h.done ++ one ∷ []) q ≡ members s h.done q ++ cond b (one ∷ []) []
    behind q b e = filter-append (λ (x : Series). is_same_tags (group_key s x.tags) q) h.done (one ∷ []) ∙ ap (λ c. members s h.done q ++ cond c (one ∷ []) []) e

    at : (q : List Pair) (b : Bool) → is_same_tags (group_key s one.tags) q ≡ b
        → cond (is_same_tags (group_key s one.tags) q) (Some (unwrap_or (held groups q) [] ++ one ∷ [])) (held groups q) ≡ some_of (members s (h.done ++ one ∷ []) q)
    at q true e =
        ap (λ c. cond c (Some (unwrap_or (held groups q) [] ++ one ∷ [])) (held groups q)) e ∙ ap (λ (o : Option (List Series)). Some (unwrap_or o [] ++ one ∷ [])) (h.each q)
        ∙ added_some (members s h.done q) one ∙ ap some_of (sym (behind q true e))
    at q false e =
        ap (λ c. cond c (Some (unwrap_or (held groups q) [] ++ one ∷ [])) (held groups q)) e ∙ h.each q ∙ ap some_of (sym (append-nil (members s h.done q)) ∙ sym (behind q false e))

-- ---- the entries of the map

any_held : (es : List (List Pair × Vec Series Global)) (q : List Pair) → is_some (option_map (λ (l : Vec Series Global). l.items) (lookup (is_at (tags_cmp q)) es)) ≡ list_any (eq_by_cmp tags_cmp q) (keys_of es)
any_held [] q = refl
any_held (e ∷ es) q = at (eq_by_cmp tags_cmp q e.0) (any_held es q)
  where
    at : (b : Bool) → is_some (option_map (λ (l : Vec Series Global). l.items) (lookup (is_at (tags_cmp q)) es)) ≡ list_any (eq_by_cmp tags_cmp q) (keys_of es)
        → is_some (option_map (λ (l : Vec Series Global). l.items) (cond b (Some e.1) (lookup (is_at (tags_cmp q)) es))) ≡ (b || list_any (eq_by_cmp tags_cmp q) (keys_of es))
    at true go = refl
    at false go = go

any_member : (s : Sub) (series : List Series) (q : List Pair) → is_some (some_of (members s series q)) ≡ list_any (λ t. is_same_tags (group_key s t) q) (tags_kept series)
any_member s [] q = refl
any_member s (x ∷ series) q = at (is_same_tags (group_key s x.tags) q) (any_member s series q)
  where
    at : (b : Bool) → is_some (some_of (members s series q)) ≡ list_any (λ t. is_same_tags (group_key s t) q) (tags_kept series)
        → is_some (some_of (cond b (x ∷ members s series q) (members s series q))) ≡ (b || list_any (λ t. is_same_tags (group_key s t) q) (tags_kept series))
    at true go = refl
    at false go = go

some_is : (xs ys : List Series) → Some ys ≡ some_of xs → ys ≡ xs
some_is [] ys e = absurd (no_some ys e)
  where
    no_some : (l : List Series) → ◌≡◌ {A = Option (List Series)} (Some l) None → ⊥
    no_some l e = cc
some_is (x ∷ xs) ys e = same ys (x ∷ xs) e
  where
    same : (a b : List Series) → ◌≡◌ {A = Option (List Series)} (Some a) (Some b) → a ≡ b
    same a b e = cc

map_by_place : {X Y : Type 0} (f g : X → Y) (xs : List X) → ((i : ℕ) (x : X) → slice_get xs i ≡ Some x → f x ≡ g x) → map f xs ≡ map g xs
map_by_place f g [] same = refl
map_by_place f g (x ∷ xs) same = λ i. same zero x refl i ∷ map_by_place f g xs (λ k y e. same (suc k) y e) i

map_twice : {X Y Z : Type 0} (f : Y → Z) (g : X → Y) (xs : List X) → map f (map g xs) ≡ map (λ x. f (g x)) xs
map_twice f g [] = refl
map_twice f g (x ∷ xs) = ap (λ l. f (g x) ∷ l) (map_twice f g xs)

-- where all were taken, the map has the groups
pub held_all : (s : Sub) (all : List Series) (groups : Groups) (rest : List Series) → rest ≡ [] → IsOrdered tags_cmp groups → Held s all groups rest → AreGroups s all groups
held_all s all groups rest none ordered h =
    map_by_place (λ (e : List Pair × Vec Series Global). e.1.items) (λ e. members s all e.0) groups.entries
    (λ i e at. some_is (members s all e.0) e.1.items (sym (ap (option_map (λ (l : Vec Series Global). l.items)) (btree_map_get_place tags_cmp_total groups i e.0 e.1 ordered at)) ∙ each e.0))
    ∙ sym (map_twice (members s all) (λ (e : List Pair × Vec Series Global). e.0) groups.entries)
    ∙ ap (map (members s all)) (sym keys)
  where
    done : h.done ≡ all
    done = sym (append-nil h.done) ∙ ap (λ l. h.done ++ l) (sym none) ∙ h.cut

    each : (q : List Pair) → held groups q ≡ some_of (members s all q)
    each q = h.each q ∙ ap (λ l. some_of (members s l q)) done

    keys : group_keys s (tags_kept all) ≡ keys_of groups.entries
    keys = group_keys_are s (tags_kept all) (keys_of groups.entries) ordered (λ q. sym (any_member s all q) ∙ ap is_some (sym (each q)) ∙ any_held groups.entries q)

-- ---- one more in the map

module _ (old new : Groups) (key : List Pair) (one : Series) (more : Vec Series Global) (now : (q : List Pair) → get tags_cmp new q ≡ cond (eq_by_cmp tags_cmp key q) (Some more) (get tags_cmp old q)) where
  adds_to : (before : Option (List Series)) → held old key ≡ before → more.items ≡ unwrap_or before [] ++ one ∷ [] → AddsMember old key one new
  adds_to before was is q = ap (option_map (λ (l : Vec Series Global). l.items)) (now q) ∙ at (eq_by_cmp tags_cmp key q) refl
    where
      at : (b : Bool) → eq_by_cmp tags_cmp key q ≡ b
          → option_map (λ (l : Vec Series Global). l.items) (cond b (Some more) (get tags_cmp old q)) ≡ cond (is_same_tags key q) (Some (unwrap_or (held old q) [] ++ one ∷ [])) (held old q)
      at true e =
          let same = tags_ties key q ∙ e in
          let key_is = tags_same key q same in
          ap Some (is ∙ ap (λ (o : Option (List Series)). unwrap_or o [] ++ one ∷ []) (sym was ∙ ap (held old) key_is)) ∙ ap (λ b. cond b (Some (unwrap_or (held old q) [] ++ one ∷ [])) (held old q)) (sym same)
      at false e = ap (λ b. cond b (Some (unwrap_or (held old q) [] ++ one ∷ [])) (held old q)) (sym (tags_ties key q ∙ e))

  -- behind those that it had
  pub adds_behind : (list : Vec Series Global) → get tags_cmp old key ≡ Some list → more.items ≡ list.items ++ one ∷ [] → AddsMember old key one new
  adds_behind list was is = adds_to (Some list.items) (ap (option_map (λ (l : Vec Series Global). l.items)) was) is

  -- where it had none
  pub adds_first : get tags_cmp old key ≡ None → more.items ≡ one ∷ [] → AddsMember old key one new
  adds_first was is = adds_to None (ap (option_map (λ (l : Vec Series Global). l.items)) was) is

pub nothing : {X : Type 0} (l : List X) → length l ≡ 0 → l ≡ []
nothing [] none = refl
nothing (x ∷ l) none = absurd (omega (arith, none))
