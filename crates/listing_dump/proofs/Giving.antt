-- Fronts of bytes that are given, one after the other.
use Rattle.std.proofs.Common.{ℕ, ◌≤◌, List, [], ◌++◌, length, take, drop, refl, sym, ap, ◌∙◌, take-append-drop}
use Rattle.std.specs.Prelude.{Option, Result, Ok, Err, OnErr, OnOk}
use Rattle.std.specs.Io.KnownBytes.{Appends}
use Rattle.std.proofs.KnownBytes.{Appends-nil, Appends-trans}
use Rattle.list_lemmas.proofs.ListCuts.{joined}
use Rattle.listing_dump.specs.Gifts.{Gives, GivesSome}

pub on_ok : {T E P Q : Type 0} (r : Result T E) → (P → Q) → OnOk r P → OnOk r Q
on_ok (Ok x) f p = f p
on_ok (Err e) f p = tt

pub on_err : {T E P Q : Type 0} (r : Result T E) → (P → Q) → OnErr r P → OnErr r Q
on_err (Ok x) f p = tt
on_err (Err e) f p = f p

pub on_both : {T E P Q S : Type 0} (r : Result T E) → (P → Q → S) → OnOk r P → OnOk r Q → OnOk r S
on_both (Ok x) f p q = f p q
on_both (Err e) f p q = tt

pub at_err : {T E P : Type 0} (r : Result T E) → P → OnErr r P
at_err (Ok x) p = tt
at_err (Err e) p = p

pub at_ok : {T E P : Type 0} (r : Result T E) → P → OnOk r P
at_ok (Ok x) p = p
at_ok (Err e) p = tt

-- nothing was given
pub gave_none : (held : Option (List ℕ)) (all : List ℕ) → Gives held held all all
gave_none held all = record { given = []; appends = Appends-nil held; parts = refl }

-- a front and then a front of the rest
pub gave_then : (a b c : Option (List ℕ)) (all mid rest : List ℕ) → Gives a b all mid → Gives b c mid rest → Gives a c all rest
gave_then a b c all mid rest x y = record {
  given = x.given ++ y.given;
  appends = Appends-trans a b c x.given y.given x.appends y.appends;
  parts = x.parts ∙ ap (λ t. x.given ++ t) y.parts ∙ sym (joined x.given y.given rest);
}

-- the same with more bytes behind
pub gave_with : (a b : Option (List ℕ)) (all rest more : List ℕ) → Gives a b all rest → Gives a b (all ++ more) (rest ++ more)
gave_with a b all rest more x = record { given = x.given; appends = x.appends; parts = ap (λ t. t ++ more) x.parts ∙ joined x.given rest more }

pub some_with : (a b : Option (List ℕ)) (all more : List ℕ) → GivesSome a b all → GivesSome a b (all ++ more)
some_with a b all more x = (x.0 ++ more, gave_with a b all x.0 more x.1)

pub some_then : (a b c : Option (List ℕ)) (all mid : List ℕ) → Gives a b all mid → GivesSome b c mid → GivesSome a c all
some_then a b c all mid x y = (y.0, gave_then a b c all mid y.0 x y.1)

-- a front of so many bytes
pub gave_front : (held held' : Option (List ℕ)) (all : List ℕ) → (n : ℕ) × (n ≤ length all) × Appends held held' (take n all) → GivesSome held held' all
gave_front held held' all f = (drop f.0 all, record { given = take f.0 all; appends = f.2; parts = sym (take-append-drop f.0 all) })
