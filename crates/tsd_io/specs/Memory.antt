-- Sources, sinks, clocks and halts in memory, as callers see them.
use Rattle.std.specs.Prelude.{◌≡◌, ◌↔◌, ℕ, ◌+◌, ◌-◌, ◌^◌, min, drop, ◌==◌, List, [], ◌∷◌, Bool, false, Contains, Result, Ok, Err, if◌then◌else◌}

-- a source in memory: the last is what the last take gave, the cuts are those of the takes to come, and the failing are the numbers of the calls that fail
pub record SourceInMemory : Type 0 where
  pub taken : List ℕ
  pub left : List ℕ
  pub last : List ℕ
  pub cuts : List ℕ
  pub failing : List ℕ
  pub calls : ℕ
  pub faults : ℕ
  pub number : ℕ

-- a sink in memory: the room is what is still free, and the failing are the numbers of the calls that fail
pub record SinkInMemory : Type 0 where
  pub held : List ℕ
  pub room : ℕ
  pub failing : List ℕ
  pub calls : ℕ
  pub faults : ℕ
  pub number : ℕ

-- a clock in memory: the moments are those that it will give, and the failing are the numbers of the calls that fail
pub record ClockInMemory : Type 0 where
  pub moments : List ℕ
  pub failing : List ℕ
  pub calls : ℕ
  pub faults : ℕ

-- a halt in memory: the refused are the numbers of the asks that it refuses
pub record HaltInMemory : Type 0 where
  pub refused : List ℕ
  pub asks : ℕ
  pub stops : ℕ

-- one more, up to the last u64
abbrev pub one_more : ℕ → ℕ
one_more count = min (count + 1) (2 ^ 64 - 1)

-- a failure is one fault more
abbrev pub faults_after : {T E : Type 0} → ℕ → Result T E → ℕ
faults_after faults (Ok answer) = faults
faults_after faults (Err fault) = one_more faults

-- the first cut bounds a count, unless there is none or it is 0
abbrev pub cut_count : List ℕ → ℕ → ℕ
cut_count [] count = count
cut_count (cut ∷ cuts) count = if cut == 0 then count else min cut count

-- a take of one byte or more uses up the first cut
abbrev pub cuts_after : {E : Type 0} → List ℕ → Result ℕ E → List ℕ
cuts_after cuts (Ok count) = if count == 0 then cuts else drop 1 cuts
cuts_after cuts (Err fault) = cuts

-- with no time a clock gives 0
abbrev pub moments_of : List ℕ → List ℕ
moments_of [] = 0 ∷ []
moments_of (time ∷ times) = time ∷ times

-- the ask is counted, and refused exactly where its number is on the list
pub record AsksInMemory (old : HaltInMemory) (may : Bool) (new : HaltInMemory) : Type 0 where
  pub asks : new.asks ≡ one_more old.asks
  pub refuses : (may ≡ false) ↔ Contains old.refused new.asks
  pub refused : new.refused ≡ old.refused
  pub stops : new.stops ≡ (if may then old.stops else one_more old.stops)
