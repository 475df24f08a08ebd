-- The values of the elements behind the first ones.
use Rattle.std.proofs.Common.{◌≡◌, ℕ, zero, suc, ◌≤◌, List, [], ◌∷◌, ◌++◌, length, drop, map, Option, None, Some, refl, sym, ap, ◌∙◌, arith}
use Rattle.std.proofs.lemmas.List.{length-map}
use Rattle.serde_json.specs.Data.{Data, Items, array, item}
use Rattle.serde_json.specs.Find.{as_array}
use Rattle.serde_json.specs.View.{items_of, items_view, view}
use Rattle.serde_json.specs.declared.value.Value.{Value}

same_Some : {A : Type 0} (x y : A) → Some x ≡ Some y → x ≡ y
same_Some x y is = cc

same_array : (x y : Items) → array x ≡ array y → x ≡ y
same_array x y is = cc

heads : (x y : Data) (a b : Items) → item x a ≡ item y b → (x ≡ y) × (a ≡ b)
heads x y a b is = (cc, cc)

alike : (xs ys : List Data) → items_of xs ≡ items_of ys → xs ≡ ys
alike [] [] is = refl
alike [] (y ∷ ys) is = absurd (cc)
alike (x ∷ xs) [] is = absurd (cc)
alike (x ∷ xs) (y ∷ ys) is = let parts = heads x y (items_of xs) (items_of ys) is in λ i. parts.0 i ∷ alike xs ys parts.1 i

-- a body that is a list is one of these values
pub values_are : (values : List Value) (list : Data) (elements : List Data) → Some (items_view values) ≡ as_array list → list ≡ array (items_of elements) → map view values ≡ elements
values_are values list elements found is = alike (map view values) elements (same_Some (items_view values) (items_of elements) (found ∙ ap as_array is))

pub no_list : (list : Data) (elements : List Data) → None ≡ as_array list → list ≡ array (items_of elements) → ⊥
no_list list elements none is = let both : ◌≡◌ {A = Option Items} None (Some (items_of elements)) = none ∙ ap as_array is in cc

pub value_is : (value list : Data) (o : Option Data) → Some value ≡ o → o ≡ Some list → value ≡ list
value_is value list o found is = same_Some value list (found ∙ is)

pub no_value : (list : Data) (o : Option Data) → None ≡ o → o ≡ Some list → ⊥
no_value list o none is = let both : ◌≡◌ {A = Option Data} None (Some list) = none ∙ is in cc

map_drop : (n : ℕ) (values : List Value) → map view (drop n values) ≡ drop n (map view values)
map_drop zero values = refl
map_drop (suc n) [] = refl
map_drop (suc n) (v ∷ values) = map_drop n values

dropped : {X : Type 0} (done rest : List X) → drop (length done) (done ++ rest) ≡ rest
dropped [] rest = refl
dropped (x ∷ done) rest = dropped done rest

pub values_behind : (values behind : List Value) (n : ℕ) (done rest : List Data) → behind ≡ drop n values → map view values ≡ done ++ rest → length done ≡ n → map view behind ≡ rest
values_behind values behind n done rest is all len = ap (map view) is ∙ map_drop n values ∙ ap (drop n) all ∙ ap (λ k. drop k (done ++ rest)) (sym len) ∙ dropped done rest

pub enough_values : (values : List Value) (list : Data) (n : ℕ) (elements : List Data) → Some (items_view values) ≡ as_array list → list ≡ array (items_of elements) → n ≤ length elements → n ≤ length values
enough_values values list n elements found is enough =
    let same : length (map view values) ≡ length elements = ap length (values_are values list elements found is) in
    let long : length (map view values) ≡ length values = length-map values view in
    omega (arith, same, long, enough)
