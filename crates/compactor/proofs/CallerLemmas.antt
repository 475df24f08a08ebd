-- What a caller's proof cites of the rows of a queue.
use Rattle.std.proofs.Common.{◌≡◌, ◌⊎◌, inl, inr, Bool, true, false, List, [], ◌∷◌, ◌++◌, sym, subst}
use Rattle.std.specs.Prelude.{Contains}
use Rattle.std.proofs.lemmas.List.Elements.{Contains-append_left, Contains-append_right, Contains-append_cases}
use Rattle.cell_model.specs.declared.answers.Stored.{Stored}
use Rattle.compactor.specs.Queues.{AddMade, HasRows}
use Rattle.compactor.proofs.Lower as lower

-- a row that was added, or was there
pub added_row : (old : List Stored) (stored : Stored) (added : Bool) (new : List Stored) → AddMade old stored added new → HasRows old (stored ∷ []) new
added_row old stored true new a s = (λ has. out ((a.each s).0 has), λ had. (a.each s).1 (into had))
  where
    out : Contains old s ⊎ (s ≡ stored) → Contains old s ⊎ Contains (stored ∷ []) s
    out (inl had) = inl had
    out (inr same) = inr (subst (λ (x : Stored). Contains (x ∷ []) s) same (lower.here s []))

    one : (stored ≡ s) ⊎ Contains [] s → Contains old s ⊎ (s ≡ stored)
    one (inl same) = inr (sym same)
    one (inr none) = absurd (lower.not_in s none)

    into : Contains old s ⊎ Contains (stored ∷ []) s → Contains old s ⊎ (s ≡ stored)
    into (inl had) = inl had
    into (inr row) = one (lower.split stored s [] row)
added_row old stored false new a s = (λ has. inl (subst (λ (q : List Stored). Contains q s) a.1 has), into)
  where
    one : (stored ≡ s) ⊎ Contains [] s → Contains new s
    one (inl same) = subst (λ (x : Stored). Contains new x) same (subst (λ (q : List Stored). Contains q stored) (sym a.1) a.0)
    one (inr none) = absurd (lower.not_in s none)

    into : Contains old s ⊎ Contains (stored ∷ []) s → Contains new s
    into (inl had) = subst (λ (q : List Stored). Contains q s) (sym a.1) had
    into (inr row) = one (lower.split stored s [] row)

-- no row more
pub rows_none : (before : List Stored) → HasRows before [] before
rows_none before s = (λ has. inl has, λ had. at had)
  where
    at : Contains before s ⊎ Contains [] s → Contains before s
    at (inl had) = had
    at (inr none) = absurd (lower.not_in s none)

-- rows, and then more rows
pub rows_joined : (before mid after rows more : List Stored) → HasRows before rows mid → HasRows mid more after → HasRows before (rows ++ more) after
rows_joined before mid after rows more one two s = (λ has. out ((two s).0 has), λ had. (two s).1 (into had))
  where
    out' : Contains before s ⊎ Contains rows s → Contains before s ⊎ Contains (rows ++ more) s
    out' (inl had) = inl had
    out' (inr row) = inr (Contains-append_left rows more s row)

    out : Contains mid s ⊎ Contains more s → Contains before s ⊎ Contains (rows ++ more) s
    out (inl had) = out' ((one s).0 had)
    out (inr row) = inr (Contains-append_right rows more s row)

    into' : Contains rows s ⊎ Contains more s → Contains mid s ⊎ Contains more s
    into' (inl row) = inl ((one s).1 (inr row))
    into' (inr row) = inr row

    into : Contains before s ⊎ Contains (rows ++ more) s → Contains mid s ⊎ Contains more s
    into (inl had) = inl ((one s).1 (inl had))
    into (inr row) = into' (Contains-append_cases rows more s row)
