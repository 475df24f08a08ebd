-- What accepting comes to, in the numbers that doors tell and in how many were put into the queues.
use Rattle.std.specs.Prelude.{ℕ, ◌+◌, ◌-◌, ◌^◌, ◌≤◌, ◌≡◌, ◌≢◌, ◌⊎◌, min, ⊤, Bool, true, false, List, [], Option, Some, None}
use Rattle.link_acceptor.specs.declared.accept_loop.AcceptEnd.{AcceptEnd}
use Rattle.link_acceptor.specs.declared.accept_loop.AcceptEnd.TheVariants.{NoneLeft, Stopped, DoorFault, OutOfMemory}
use Rattle.tsd_io.specs.Causes.{Rose}
use Rattle.tsd_doors.specs.Links.{Counts, accepted}

-- as many more are out as were put; want of memory alone loses the one that was accepted last
pub record AddsUp (lost : ℕ) (before now : Counts) (put_before put_now : ℕ) : Type 0 where
  pub returned : now.returned ≡ before.returned
  pub port : now.port ≡ before.port
  pub more : before.out ≤ now.out
  pub out : now.out + put_before ≡ before.out + put_now + lost

-- how many more are out, up to the last value of a u64
abbrev pub links_between : Counts → Counts → ℕ
links_between before now = min (now.out - before.out) (2 ^ 64 - 1)

-- how many accepted connections were lost where accepting ended so
abbrev pub lost_by : AcceptEnd → ℕ
lost_by NoneLeft = 0
lost_by Stopped = 0
lost_by DoorFault = 0
lost_by OutOfMemory = 1

-- so it is where accepting ended so, or want of memory is told and nothing was lost
abbrev pub AddsUpOrFails : AcceptEnd → Counts → Counts → ℕ → ℕ → Type 0
AddsUpOrFails end before now put_before put_now = (lost : ℕ) × (lost ≤ lost_by end) × AddsUp lost before now put_before put_now

-- where the doors tell which connections are left, they still do
abbrev pub StillTells : Option (List (List ℕ)) → Option (List (List ℕ)) → Type 0
StillTells None now = ⊤
StillTells (Some before) now = (rest : List (List ℕ)) × (now ≡ Some rest)

-- where the doors tell which connections are left, none is left any more
abbrev pub IsNoneLeft : Option (List (List ℕ)) → Option (List (List ℕ)) → Type 0
IsNoneLeft None now = ⊤
IsNoneLeft (Some before) now = now ≡ Some []

-- each end but `Stopped` comes only where the halt refused nothing
pub record IsHeeded (end : AcceptEnd) (stops stops_now : ℕ) : Type 0 where
  pub unless_stopped : end ≢ Stopped → stops_now ≡ stops

-- an end has its reason in what the doors tell is left, in how often the halt refused, and in how often the doors failed;
-- where it is neither `Stopped` nor want of memory, which may be found after a refusal, the halt refused nothing
pub record HasReason (end : AcceptEnd) (waiting waiting_now : Option (List (List ℕ))) (stops stops_now faults faults_now : ℕ) : Type 0 where
  pub none : end ≡ NoneLeft → IsNoneLeft waiting waiting_now
  pub stopped : end ≡ Stopped → Rose stops stops_now
  pub fault : end ≡ DoorFault → Rose faults faults_now
  pub heeded : end ≢ Stopped → end ≢ OutOfMemory → stops_now ≡ stops

-- the halt allowed so many steps, one after the other
pub data Allows {H : Type 0} (answers : H → Bool → H → Type 0) : ℕ → H → H → Type 0 where
  none : {halt : H} → Allows answers 0 halt halt
  more : {count : ℕ} {old last new : H} → Allows answers count old last → answers last true new → Allows answers (count + 1) old new

-- the last ask of accepting that ended so: it was refused where the end is `Stopped`, and else allowed
abbrev pub LastAsk : {H : Type 0} → (H → Bool → H → Type 0) → AcceptEnd → H → H → Type 0
LastAsk answers NoneLeft old new = answers old true new
LastAsk answers Stopped old new = answers old false new
LastAsk answers DoorFault old new = answers old true new
LastAsk answers OutOfMemory old new = answers old true new

-- Where so many connections were accepted the halt was asked once before each accept: for each of these, for the one that gave none or failed, and once where it refused.
abbrev pub AsksEach : {H : Type 0} → (H → Bool → H → Type 0) → AcceptEnd → ℕ → H → H → Type 0
AsksEach answers NoneLeft links old new = Allows answers (links + 1) old new
AsksEach {H} answers Stopped links old new = (last : H) × Allows answers links old last × answers last false new
AsksEach answers DoorFault links old new = Allows answers (links + 1) old new
AsksEach answers OutOfMemory links old new = Allows answers links old new

-- So it is of how accepting ended. That is the end that is told, or want of memory is told, which was found later.
pub record AsksHalt {H : Type 0} (answers : H → Bool → H → Type 0) (told : AcceptEnd) (before now : Counts) (old new : H) : Type 0 where
  pub end : AcceptEnd
  pub is : (told ≡ end) ⊎ (told ≡ OutOfMemory)
  pub asked : AsksEach answers end (accepted now - accepted before) old new
