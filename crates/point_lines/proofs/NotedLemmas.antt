-- Names that get their ids one after the other.
use Rattle.std.proofs.Common.{◌≡◌, ℕ, List, [], ◌∷◌, ◌++◌, refl, sym, ap, ◌∙◌, append_assoc, append-nil}
use Rattle.std.specs.Prelude.{Result, Ok, Err}
use Rattle.std.specs.List.{flat_map}
use Rattle.tsd_base.specs.Points.{DataPoint}
use Rattle.cell_model.specs.Layout.{names_of}
use Rattle.tsd_base.specs.declared.kinds.Kind.{Kind}
use Rattle.cell_model.specs.KindWidths.{Widths}
use Rattle.point_lines.specs.NameIds.{Names, noted, noted_all, and_then_noted}

and_then_twice : (r : Result Names Kind) (f g : Names → Result Names Kind) → and_then_noted (and_then_noted r f) g ≡ and_then_noted r (λ names. and_then_noted (f names) g)
and_then_twice (Ok names) f g = refl
and_then_twice (Err kind) f g = refl

and_then_alike : (r : Result Names Kind) (f g : Names → Result Names Kind) → ((names : Names) → f names ≡ g names) → and_then_noted r f ≡ and_then_noted r g
and_then_alike (Ok names) f g e = e names
and_then_alike (Err kind) f g e = refl

pub noted_all-append : (w : Widths) (ns ms : List (Kind × List ℕ)) (names : Names) → noted_all w names (ns ++ ms) ≡ and_then_noted (noted_all w names ns) (λ more. noted_all w more ms)
noted_all-append w [] ms names = refl
noted_all-append w (n ∷ ns) ms names =
    and_then_alike (noted w names n.0 n.1) (λ more. noted_all w more (ns ++ ms)) (λ more. and_then_noted (noted_all w more ns) (λ last. noted_all w last ms)) (noted_all-append w ns ms)
    ∙ sym (and_then_twice (noted w names n.0 n.1) (λ more. noted_all w more ns) (λ last. noted_all w last ms))

-- the names of points, with one more point
pub names_last : (points : List DataPoint) (p : DataPoint) → flat_map names_of (points ++ p ∷ []) ≡ flat_map names_of points ++ names_of p
names_last [] p = append-nil (names_of p)
names_last (q ∷ points) p = ap (λ ns. names_of q ++ ns) (names_last points p) ∙ sym (append_assoc (names_of q) (flat_map names_of points) (names_of p))
