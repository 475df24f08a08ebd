-- What the workers of one site served, caller by caller, and what their connections were given back as.
use Rattle.std.specs.Prelude.{◌≡◌, Bool, true, cond, ℕ, ◌+◌, ◌-◌, ◌^◌, ◌≤◌, min, All, Contains, List, [], length, map, flat_map, Option, Some}
use Rattle.tsd_doors.specs.Links.{Counts, Shut}
use Rattle.link_workers.specs.Returns.{AllEnd}
use Rattle.cell_model.specs.declared.events.Entry.{Entry}
use Rattle.cell_model.specs.History.{History, entry_at}
use Rattle.cell_model.specs.Seen.{Seen, Fits, InEach}
use Rattle.step_count.specs.CounterRule.{AreDifferent}
use Rattle.tsd_daemon.specs.declared.served.Served.{Served}
use Rattle.conn_workers.specs.ServedLinks.{OnlyServed, ServedLink, ServingTerms, clock_fault_count}

-- the connections that one caller served, one after the other, up to a length of the history, and whether they were given back: for want of memory they may not be
pub record CallerLinks : Type 0 where
  pub caller : ℕ
  pub last : ℕ
  pub links : List ServedLink
  pub returned : Bool

-- in the history each caller served its connections so, and made no other entry
abbrev pub AllInTurn : ServingTerms → History → List CallerLinks → Type 0
AllInTurn terms h callers = All (λ (k : CallerLinks). OnlyServed terms h k.caller k.last k.links) callers

-- the number of each caller
abbrev pub callers_of : List CallerLinks → List ℕ
callers_of callers = map (λ (k : CallerLinks). k.caller) callers

-- the connections that were given back, caller by caller
abbrev pub returned_by : CallerLinks → List ServedLink
returned_by k = cond k.returned k.links []

abbrev pub links_of : List CallerLinks → List ServedLink
links_of callers = flat_map returned_by callers

-- in each history that fits what was seen, none of these callers made an entry behind its connections
abbrev pub NoneBehind : Seen → List CallerLinks → Type 0
NoneBehind s callers = (k : CallerLinks) → Contains callers k → (h : History) → Fits s h → (place : ℕ) (e : Entry) → place ≤ s.length → e.caller ≡ k.caller → entry_at h place ≡ Some e → place ≤ k.last

-- what is told of connections that were given back: by the doors which they are, where they tell it, and by the clock how often it failed
pub record ReturnsTold : Type 0 where
  pub back : Option (List Shut)
  pub clock_faults : ℕ

-- These connections were given back to the doors, in order, and these are their ends. As often as one of them ended because the clock failed, the clock's count
-- rose, unless it stands at the last u64.
pub record GivenBack (before after : ReturnsTold) (ends : List Served) (links : List ServedLink) : Type 0 where
  pub doors : AllEnd before.back after.back (map (λ (l : ServedLink). l.0) links)
  pub ends_are : ends ≡ map (λ (l : ServedLink). l.1) links
  pub clock_faults : min (before.clock_faults + clock_fault_count links) (2 ^ 64 - 1) ≤ after.clock_faults

-- In each lawful history that fits what was seen, connections were served, each by one of so many callers, of which no two are one. Their numbers are among these.
-- None of them made another entry. Those connections that were given back are as told.
pub record Gathered (terms : ServingTerms) (s : Seen) (numbers : List ℕ) (count : ℕ) (before after : ReturnsTold) (ends : List Served) : Type 0 where
  pub callers : List CallerLinks
  pub count_is : length callers ≡ count
  pub different : AreDifferent (callers_of callers)
  pub among : (number : ℕ) → Contains (callers_of callers) number → Contains numbers number
  pub served : InEach s (λ h. AllInTurn terms h callers)
  pub none_behind : NoneBehind s callers
  pub given : GivenBack before after ends (links_of callers)

-- Of so many connections that were out, all were given back, or for want of memory some. As many ends were added as connections were given back.
pub record TakenBack (all : Bool) (count ends ends' : ℕ) (before now : Counts) : Type 0 where
  pub port : now.port ≡ before.port
  pub accepted : now.returned + now.out ≡ before.returned + before.out
  pub few : before.out ≤ now.out + count
  pub told : ends' + before.returned ≡ ends + now.returned
  pub each : all ≡ true → now.returned ≡ before.returned + count
