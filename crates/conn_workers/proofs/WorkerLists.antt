-- What holds of each worker of a list.
use Rattle.std.proofs.Common.{◌≡◌, List, [], ◌∷◌, ◌++◌, sym, subst}
use Rattle.std.specs.Prelude.{All}
use Rattle.std.proofs.lemmas.List.Elements.{All-nil, All-push}

-- nothing is to hold of no element
pub none_hold : {X : Type 0} (xs : List X) (P : X → Type 0) → xs ≡ [] → All P xs
none_hold xs P none = subst (All P) (sym none) (All-nil P)

-- it holds of these and of one more
pub one_more_holds : {X : Type 0} (xs ys : List X) (x : X) (P : X → Type 0) → ys ≡ xs ++ x ∷ [] → All P xs → P x → All P ys
one_more_holds xs ys x P are all one = subst (All P) (sym are) (All-push P xs x all one)

-- what holds of one holds of the same
pub same_holds : {X : Type 0} (x y : X) (P : X → Type 0) → y ≡ x → P x → P y
same_holds x y P same one = subst P (sym same) one
