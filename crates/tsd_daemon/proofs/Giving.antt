-- Bytes that are given one after the other.
use Rattle.std.proofs.Common.{ℕ, ◌≤◌, List, [], ◌++◌, length, take, drop, refl, sym, ap, ◌∙◌, append_assoc, append-nil, take-append-drop}
use Rattle.std.specs.Prelude.{Option, Result, Ok, Err, OnOk, OnErr}
use Rattle.std.specs.Io.KnownBytes.{Appends}
use Rattle.std.proofs.KnownBytes.{Appends-nil, Appends-trans}
use Rattle.tsd_daemon.specs.Talks.{Gives, GivesSome}

pub on_ok : {T E P Q : Type 0} (r : Result T E) → (P → Q) → OnOk r P → OnOk r Q
on_ok (Ok x) f p = f p
on_ok (Err e) f p = tt

pub on_err : {T E P Q : Type 0} (r : Result T E) → (P → Q) → OnErr r P → OnErr r Q
on_err (Ok x) f p = tt
on_err (Err e) f p = f p

pub at_err : {T E P : Type 0} (r : Result T E) → P → OnErr r P
at_err (Ok x) p = tt
at_err (Err e) p = p

pub at_ok : {T E P : Type 0} (r : Result T E) → P → OnOk r P
at_ok (Ok x) p = p
at_ok (Err e) p = tt

-- a front of the bytes
pub gave_front : (held held' : Option (List ℕ)) (all : List ℕ) → (n : ℕ) × (n ≤ length all) × Appends held held' (take n all) → GivesSome held held' all
gave_front held held' all (n, le, gave) = (drop n all, record { given = take n all; appends = gave; split = take-append-drop n all })

-- all of them
pub gave_all : (held held' : Option (List ℕ)) (all : List ℕ) → Appends held held' all → Gives held held' all []
gave_all held held' all gave = record { given = all; appends = gave; split = append-nil all }

-- none of them
pub gave_none : (held : Option (List ℕ)) (all : List ℕ) → Gives held held all all
gave_none held all = record { given = []; appends = Appends-nil held; split = refl }

-- more stands behind the bytes
pub some_with : (held held' : Option (List ℕ)) (xs ys : List ℕ) → GivesSome held held' xs → GivesSome held held' (xs ++ ys)
some_with held held' xs ys (rest, g) = (rest ++ ys, record { given = g.given; appends = g.appends; split = sym (append_assoc g.given rest ys) ∙ ap (λ t. t ++ ys) g.split })

-- all, and then bytes behind them
pub then_gave : (held mid held' : Option (List ℕ)) (xs ys rest : List ℕ) → Gives held mid xs [] → Gives mid held' ys rest → Gives held held' (xs ++ ys) rest
then_gave held mid held' xs ys rest a b = record {
  given = a.given ++ b.given;
  appends = Appends-trans held mid held' a.given b.given a.appends b.appends;
  split = append_assoc a.given b.given rest ∙ ap (λ t. a.given ++ t) b.split ∙ ap (λ t. t ++ ys) (sym (append-nil a.given) ∙ a.split);
}

pub then_some : (held mid held' : Option (List ℕ)) (xs ys : List ℕ) → Gives held mid xs [] → GivesSome mid held' ys → GivesSome held held' (xs ++ ys)
then_some held mid held' xs ys a (rest, g) = (rest, then_gave held mid held' xs ys rest a g)

-- the rest, after a front
pub gave_on : (held mid held' : Option (List ℕ)) (all waits rest : List ℕ) → Gives held mid all waits → Gives mid held' waits rest → Gives held held' all rest
gave_on held mid held' all waits rest a b = record {
  given = a.given ++ b.given;
  appends = Appends-trans held mid held' a.given b.given a.appends b.appends;
  split = append_assoc a.given b.given rest ∙ ap (λ t. a.given ++ t) b.split ∙ a.split;
}

pub some_on : (held mid held' : Option (List ℕ)) (all waits : List ℕ) → Gives held mid all waits → GivesSome mid held' waits → GivesSome held held' all
some_on held mid held' all waits a (rest, g) = (rest, gave_on held mid held' all waits rest a g)
