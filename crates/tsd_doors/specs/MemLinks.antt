-- Doors in memory, as callers see them.
use Rattle.std.specs.Prelude.{ℕ, ◌≡◌, List, [], ◌∷◌, map, length, Option, Some}
use Rattle.tsd_doors.specs.Links.{Shut, Counts}
use Rattle.tsd_io.specs.Memory.{SourceInMemory, SinkInMemory}

-- the two ends of a connection in memory
abbrev pub LinkInMemory : Type 0
LinkInMemory = SourceInMemory × SinkInMemory

-- doors in memory: the links are the connections left, and the failing are the numbers of the calls that fail
pub record DoorsInMemory : Type 0 where
  pub links : List LinkInMemory
  pub back : List LinkInMemory
  pub failing : List ℕ
  pub calls : ℕ
  pub out : ℕ
  pub port : Option ℕ
  pub faults : ℕ

-- no byte was taken or given, and neither end failed
pub record IsFresh (link : LinkInMemory) : Type 0 where
  pub none_taken : link.0.taken ≡ []
  pub no_read : link.0.faults ≡ 0
  pub none_held : link.1.held ≡ []
  pub no_write : link.1.faults ≡ 0

-- a connection with these bytes that takes so many, whose calls don't fail
abbrev pub fresh_link : List ℕ → ℕ → LinkInMemory
fresh_link bytes room = (
  record { taken = []; left = bytes; last = []; cuts = []; failing = []; calls = 0; faults = 0; number = 0 },
  record { held = []; room = room; failing = []; calls = 0; faults = 0; number = 0 },
)

-- a connection with this number
abbrev pub numbered : LinkInMemory → ℕ → LinkInMemory
numbered link number = (record link.0 { number = number }, record link.1 { number = number })

-- the first link is given, with this number, and the others are left
abbrev pub GivesLink : List LinkInMemory → ℕ → List LinkInMemory → LinkInMemory → Type 0
GivesLink links number left given = (first : LinkInMemory) × (links ≡ first ∷ left) × (given ≡ numbered first number)

-- a connection that was shut, as all that is known of it
abbrev pub shut_link : LinkInMemory → Shut
shut_link link = record {
  number = link.0.number;
  source_faults = link.0.faults;
  sink_faults = link.1.faults;
  taken = Some link.0.taken;
  left = Some link.0.left;
  held = Some link.1.held;
}

abbrev pub doors_counts : DoorsInMemory → Counts
doors_counts doors = record { returned = length doors.back; out = doors.out; port = doors.port }

-- the bytes of each connection left
abbrev pub doors_waiting : DoorsInMemory → Option (List (List ℕ))
doors_waiting doors = Some (map (λ (link : LinkInMemory). link.0.left) doors.links)

abbrev pub doors_back : DoorsInMemory → Option (List Shut)
doors_back doors = Some (map shut_link doors.back)
