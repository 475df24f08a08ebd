-- What a suggestion holds.
use Rattle.std.specs.Prelude.{◌≡◌, ◌⊎◌, ℕ, ◌<◌, ◌≤◌, false, List, [], ◌∷◌, ◌++◌, length, All, AllPairs, Contains, Option, None, Some, Result, Ok, Err}
use Rattle.std.specs.Ordering.{is_lt}
use Rattle.std.specs.declared.cmp.Ordering.TheVariants.{Less}
use Rattle.tsd_base.specs.declared.kinds.Kind.{Kind}
use Rattle.tsd_base.specs.Alphabet.{IsName}
use Rattle.row_key.specs.declared.tables.Table.TheVariants.{Ids}
use Rattle.cell_model.specs.declared.row.Found.{Found}
use Rattle.cell_model.specs.declared.events.Step.TheVariants.{NextRow}
use Rattle.cell_model.specs.declared.events.Reply.TheVariants.{Next}
use Rattle.cell_model.specs.declared.events.Placed.{Placed}
use Rattle.cell_model.specs.declared.answers.RowsFault.{RowsFault}
use Rattle.cell_model.specs.declared.answers.RowsFault.TheVariants.{OutOfMemory}
use Rattle.cell_model.specs.Store.{value_among}
use Rattle.cell_model.specs.Machine.{kind_qual}
use Rattle.list_lemmas.specs.BytesOrder.{bytes_cmp}
use Rattle.cell_model.specs.History.{History, first}
use Rattle.cell_model.specs.IdRows.{id_of}
use Rattle.cell_model.specs.Seen.{Seen, InEach}
use Rattle.uid_table.specs.Shown.{HasShown}
use Rattle.uid_table.specs.IdSteps.{Did}

-- the name has an id after the history
abbrev pub IsResolved : Kind → History → List ℕ → Type 0
IsResolved kind h name = IsName name × ((id : ℕ) × (id_of h kind name ≡ Some id))

-- the name begins with the prefix
abbrev pub HasPrefix : List ℕ → List ℕ → Type 0
HasPrefix prefix name = (rest : List ℕ) × (name ≡ prefix ++ rest)

-- in byte order
abbrev pub NamesRise : List (List ℕ) → Type 0
NamesRise names = AllPairs (λ a b. bytes_cmp a b ≡ Less) names

-- each is before this one
abbrev pub AreBelow : List (List ℕ) → List ℕ → Type 0
AreBelow names bound = All (λ a. bytes_cmp a bound ≡ Less) names

-- the first `max`, in byte order, of some names with the prefix: of all those in `before`, and of none but those in `after`
pub record IsFirstOf (prefix : List ℕ) (max : ℕ) (before after : List ℕ → Type 0) (names : List (List ℕ)) : Type 0 where
  pub rising : NamesRise names
  pub most : length names ≤ max
  pub each : (name : List ℕ) → Contains names name → HasPrefix prefix name × after name
  pub all : (name : List ℕ) → before name → HasPrefix prefix name → Contains names name ⊎ ((length names ≡ max) × AreBelow names name)

-- the suggestion lies between the names resolved before the call and those resolved after it, in each history that fits
abbrev pub Suggests : Seen → Kind → List ℕ → ℕ → List (List ℕ) → Seen → Type 0
Suggests old kind prefix max names new = InEach new (λ h. IsFirstOf prefix max (IsResolved kind (first old.length h)) (IsResolved kind (first new.length h)) names)

-- each of the entries looks for a next row of the table of ids
abbrev pub AllLooks : List Placed → Type 0
AllLooks list = (d : Placed) → Contains list d → (from to : List ℕ) × (found : Option Found) × Did d (NextRow Ids from to) (Next found)

-- the names with the prefix that were resolved at the start and are before the bound are among these
abbrev pub Covers : Seen → Kind → List ℕ → List ℕ → List (List ℕ) → Seen → Type 0
Covers start kind prefix bound names s =
    InEach s (λ h. (name : List ℕ) → IsResolved kind (first start.length h) name → HasPrefix prefix name → bytes_cmp name bound ≡ Less → Contains names name)

-- what was found since the start, of the names before the bound
pub record Gathers (start : Seen) (kind : Kind) (prefix : List ℕ) (max : ℕ) (bound : List ℕ) (names : List (List ℕ)) (s : Seen) : Type 0 where
  pub since : start.length ≤ s.length
  pub rising : NamesRise names
  pub most : length names ≤ max
  pub below : AreBelow names bound
  pub each : (name : List ℕ) → Contains names name → HasPrefix prefix name × ((id : ℕ) × HasShown s kind name id)
  pub covers : Covers start kind prefix bound names s

-- the same up to the bound, or up to an earlier one and as many as are wanted
abbrev pub GathersTo : Seen → Kind → List ℕ → ℕ → List ℕ → List (List ℕ) → Seen → Type 0
GathersTo start kind prefix max bound names s = (upto : List ℕ) × Gathers start kind prefix max upto names s × ((upto ≡ bound) ⊎ (length names ≡ max))

-- whatever was gathered before the call, up to one bound, is gathered after it, up to another
abbrev pub GoesOn : Kind → List ℕ → ℕ → List ℕ → List (List ℕ) → Seen → List ℕ → List (List ℕ) → Seen → Type 0
GoesOn kind prefix max from earlier old to names new = (start : Seen) → GathersTo start kind prefix max from earlier old → GathersTo start kind prefix max to names new

-- one of the four ranges of names, by their first bytes
abbrev pub IsNameRange : ℕ → ℕ → Type 0
IsNameRange low high = ((low ≡ 1) × (high ≡ 65)) ⊎ ((low ≡ 65) × (high ≡ 97)) ⊎ ((low ≡ 97) × (high ≡ 110)) ⊎ ((low ≡ 110) × (high ≡ 123))

-- names of the range with the prefix may be looked for from here on
pub record CanSearch (prefix : List ℕ) (low high : ℕ) (from : List ℕ) : Type 0 where
  pub on : is_lt (bytes_cmp from (low ∷ [])) ≡ false
  pub at : is_lt (bytes_cmp (high ∷ []) from) ≡ false
  pub above : is_lt (bytes_cmp from prefix) ≡ false
  pub short : length from ≤ 256
  pub bytes : All (λ b. b < 256) from

-- no name with the prefix lies in the range before this one
abbrev pub Skips : List ℕ → ℕ → List ℕ → Type 0
Skips prefix low from = (name : List ℕ) → IsName name → HasPrefix prefix name → bytes_cmp name from ≡ Less → bytes_cmp name (low ∷ []) ≡ Less

-- where the search of a range begins, if a name of it can have the prefix
abbrev pub StartsAt : List ℕ → ℕ → ℕ → Option (List ℕ) → Type 0
StartsAt prefix low high None = Skips prefix low (high ∷ [])
StartsAt prefix low high (Some from) = CanSearch prefix low high from × Skips prefix low from

-- the name is added where a value was shown
abbrev pub AddsShown : Option (List ℕ) → List ℕ → List (List ℕ) → List (List ℕ) → Type 0
AddsShown None name old new = new ≡ old
AddsShown (Some value) name old new = new ≡ old ++ name ∷ []

-- what becomes of a row that was found: without the prefix nothing; else its name is taken where it has one of the kind, and the search goes on behind it
abbrev pub Takes : Kind → List ℕ → Found → List (List ℕ) → Result (Option (List ℕ)) RowsFault → List (List ℕ) → Type 0
Takes kind prefix found old (Ok None) new = (new ≡ old) × (HasPrefix prefix found.row.bytes → ⊥)
Takes kind prefix found old (Ok (Some next)) new =
    HasPrefix prefix found.row.bytes × (next ≡ found.row.bytes ++ 0 ∷ []) × ((shown : Option (List ℕ)) × (value_among found.cells (kind_qual kind) ≡ shown) × AddsShown shown found.row.bytes old new)
Takes kind prefix found old (Err fault) new = fault ≡ OutOfMemory

-- the search goes on behind a name that is not before `from`, and before `high`
abbrev pub IsBehind : List ℕ → ℕ → List ℕ → Type 0
IsBehind from high next = (name : List ℕ) × (next ≡ name ++ 0 ∷ []) × IsName name × (is_lt (bytes_cmp name from) ≡ false) × (bytes_cmp name (high ∷ []) ≡ Less)

-- what one look makes of what was gathered
abbrev pub TurnsTo : Kind → List ℕ → List ℕ → ℕ → List (List ℕ) → Seen → Result (Option (List ℕ)) RowsFault → List (List ℕ) → Seen → Type 0
TurnsTo kind prefix from high earlier old (Ok None) names new =
    (start : Seen) (max : ℕ) → Gathers start kind prefix max from earlier old → Gathers start kind prefix max (high ∷ []) names new
TurnsTo kind prefix from high earlier old (Ok (Some next)) names new =
    IsBehind from high next × ((start : Seen) (max : ℕ) → length earlier < max → Gathers start kind prefix max from earlier old → Gathers start kind prefix max next names new)
TurnsTo kind prefix from high earlier old (Err fault) names new = Unit {0}
