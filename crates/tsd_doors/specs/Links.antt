-- Connections, as doors tell of them.
use Rattle.std.specs.Prelude.{ℕ, ◌+◌, ◌-◌, ◌≡◌, List, [], ◌∷◌, ◌++◌, Option, Some, None, Result, Ok, Err, ⊤}

-- the connections given back and those accepted besides, and the port that was bound last
pub record Counts : Type 0 where
  pub returned : ℕ
  pub out : ℕ
  pub port : Option ℕ

-- the connections accepted, so that never more are given back
abbrev pub accepted : Counts → ℕ
accepted counts = counts.returned + counts.out

-- a connection that was shut: its number, how often its ends failed, and what they tell
pub record Shut : Type 0 where
  pub number : ℕ
  pub source_faults : ℕ
  pub sink_faults : ℕ
  pub taken : Option (List ℕ)
  pub left : Option (List ℕ)
  pub held : Option (List ℕ)

abbrev pub with_port : ℕ → Counts → Counts
with_port port counts = record { returned = counts.returned; out = counts.out; port = Some port }

abbrev pub one_accepted : Counts → Counts
one_accepted counts = record { returned = counts.returned; out = counts.out + 1; port = counts.port }

abbrev pub one_returned : Counts → Counts
one_returned counts = record { returned = counts.returned + 1; out = counts.out - 1; port = counts.port }

-- an accept that gave a connection is one more
abbrev pub counts_after_accept : {X E : Type 0} → Result (Option X) E → Counts → Counts
counts_after_accept (Ok (Some link)) counts = one_accepted counts
counts_after_accept (Ok None) counts = counts
counts_after_accept (Err fault) counts = counts

-- what is told, if anything is, is nothing yet
abbrev pub IsNothing : Option (List ℕ) → Type 0
IsNothing told = (bytes : List ℕ) → told ≡ Some bytes → bytes ≡ []

-- both ends have the number of connections before theirs, and no end failed, took or gave
pub record AreFresh (before source_number source_faults : ℕ) (taken : Option (List ℕ)) (sink_number sink_faults : ℕ) (held : Option (List ℕ)) : Type 0 where
  pub source : source_number ≡ before
  pub sink : sink_number ≡ before
  pub no_read : source_faults ≡ 0
  pub no_write : sink_faults ≡ 0
  pub none_taken : IsNothing taken
  pub none_held : IsNothing held

-- the first connection left is given, with its bytes
abbrev pub GivesFirst : Option (List (List ℕ)) → Option (List (List ℕ)) → Option (List ℕ) → Type 0
GivesFirst None now left = ⊤
GivesFirst (Some all) now left = (first : List ℕ) × (rest : List (List ℕ)) × (all ≡ first ∷ rest) × (now ≡ Some rest) × (left ≡ Some first)

-- no connection is left, where they are told
abbrev pub HasNoneLeft : Option (List (List ℕ)) → Option (List (List ℕ)) → Type 0
HasNoneLeft None now = ⊤
HasNoneLeft (Some all) now = (all ≡ []) × (now ≡ Some [])

-- a list that is told has one more at its end
abbrev pub Ends : Option (List Shut) → Option (List Shut) → Shut → Type 0
Ends None now last = ⊤
Ends (Some all) now last = now ≡ Some (all ++ last ∷ [])

-- an end of a connection that tells no bytes: its number, and how often it failed
pub record LinkEnd : Type 0 where
  pub number : ℕ
  pub faults : ℕ
