-- Two texts that are given, one behind the other.
use Rattle.std.proofs.Common.{ℕ, ◌≤◌, List, ◌++◌, length, take, drop, sym, ap, ◌∙◌, append_assoc, take-append-drop}
use Rattle.std.specs.Prelude.{Option, Result, Ok, Err, OnErr}
use Rattle.std.specs.Io.KnownBytes.{Appends}
use Rattle.std.proofs.KnownBytes.{Appends-trans}
use Rattle.stdio_job.specs.Publications.{GavePart}

-- a front of the first
pub front_first : (a b : Option (List ℕ)) (first second : List ℕ) → (n : ℕ) × (n ≤ length first) × Appends a b (take n first) → GavePart (first ++ second) a b
front_first a b first second (n, within, gives) = (take n first, gives, (drop n first ++ second, ap (λ xs. xs ++ second) (sym (take-append-drop n first)) ∙ append_assoc (take n first) (drop n first) second))

-- the first, and a front of the second
pub front_second : (a b c : Option (List ℕ)) (first second : List ℕ) → Appends a b first → (n : ℕ) × (n ≤ length second) × Appends b c (take n second) → GavePart (first ++ second) a c
front_second a b c first second whole (n, within, gives) = (
  first ++ take n second,
  Appends-trans a b c first (take n second) whole gives,
  (drop n second, ap (λ xs. first ++ xs) (sym (take-append-drop n second)) ∙ sym (append_assoc first (take n second) (drop n second))),
)

pub then_err : {T E : Type 0} (r : Result T E) (a b c : Option (List ℕ)) (first second : List ℕ) → Appends a b first → OnErr r ((n : ℕ) × (n ≤ length second) × Appends b c (take n second)) → OnErr r (GavePart (first ++ second) a c)
then_err (Ok x) a b c first second whole front = tt
then_err (Err e) a b c first second whole front = front_second a b c first second whole front
