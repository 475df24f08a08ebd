-- Callers of one store, in turns, and the history that their steps make: the replies follow from the steps.
use Rattle.std.specs.Prelude.{◌≡◌, ℕ, zero, suc, ◌+◌, ◌≤◌, Bool, IsTrue, nat_eq, if◌then◌else◌, List, [], ◌∷◌, ◌++◌}
use Rattle.cell_model.specs.declared.row.Row.{Row}
use Rattle.cell_model.specs.declared.row.Listing.{Listing}
use Rattle.cell_model.specs.declared.events.Step.{Step}
use Rattle.cell_model.specs.declared.events.Step.TheVariants.{Open}
use Rattle.cell_model.specs.declared.events.Reply.{Reply}
use Rattle.cell_model.specs.declared.events.Reply.TheVariants.{Opened}
use Rattle.cell_model.specs.declared.events.Entry.{Entry}
use Rattle.cell_model.specs.declared.events.Placed.{Placed}
use Rattle.cell_model.specs.Store.{Store}
use Rattle.cell_model.specs.Listed.{store_of}
use Rattle.cell_model.specs.Machine.{reply_of}
use Rattle.cell_model.specs.History.{History, base_of, len, store_after, Had}
use Rattle.cell_model.specs.History.History.{Base, Then}
use Rattle.cell_model.specs.Lawful.{IsLawful}
use Rattle.cell_model.specs.Seen.{Seen, Stepped, IsPossible}

-- a step, and whose it is
pub record Turn : Type 0 where
  pub caller : ℕ
  pub step : Step

-- this caller opens
abbrev pub opening : ℕ → Entry
opening caller = record { caller = caller; step = Open; reply = Opened caller }

-- the openings of callers 1 to n, over a base
abbrev pub opened : Store → ℕ → History
opened base zero = Base base
opened base (suc n) = Then (opened base n) (opening (n + 1))

-- the same as turns
abbrev pub openings : ℕ → List Turn
openings zero = []
openings (suc n) = openings n ++ record { caller = n + 1; step = Open } ∷ []

-- what a turn adds to the history
abbrev pub entry_of : History → Turn → Entry
entry_of h turn = record { caller = turn.caller; step = turn.step; reply = reply_of (store_after h) (len h + 1) turn.step }

-- the history, and then these turns
abbrev pub played : History → List Turn → History
played h [] = h
played h (turn ∷ turns) = played (Then h (entry_of h turn)) turns

-- how many entries are this caller's
abbrev pub entries_of : History → ℕ → ℕ
entries_of (Base base) caller = 0
entries_of (Then h e) caller = if nat_eq e.caller caller then entries_of h caller + 1 else entries_of h caller

-- each entry at its place
abbrev pub all_placed : History → List Placed
all_placed (Base base) = []
all_placed (Then h e) = record { place = len h + 1; entry = e } ∷ all_placed h

-- the sight of a caller that has seen the whole history, and whether it steps alone
abbrev pub whole_seen : History → ℕ → Bool → Seen
whole_seen h caller alone = record { base = base_of h; caller = caller; absorbed = []; length = len h; entries = all_placed h; alone = alone }

-- callers 1 to `callers` over the store that the lines tell, what they did, whose turn it is, and for how many further steps there is room
pub record Play : Type 0 where
  pub lines : Listing
  pub turns : List Turn
  pub callers : ℕ
  pub caller : ℕ
  pub room : ℕ

-- the history that a play is
abbrev pub history_of : Play → History
history_of p = played (Base (store_of p.lines)) p.turns

-- what the caller whose turn it is has seen: the whole history, alone where there is no other caller
abbrev pub sight : Play → Seen
sight p = whole_seen (history_of p) p.caller (nat_eq p.callers 1)

-- the history is lawful, and has the openings of these callers
pub record IsPlay (h : History) (callers : ℕ) : Type 0 where
  pub lawful : IsLawful h
  pub opened : (c : ℕ) → 1 ≤ c → c ≤ callers → Had h (opening c)

-- a body that is over every row has the store after the play's history
pub record IsPlayed (content : Store) (covers : Row → Bool) (p : Play) : Type 0 where
  pub content_is : content ≡ store_after (history_of p)
  pub covered : (row : Row) → IsTrue (covers row)
  pub play : IsPlay (history_of p) p.callers
  pub least : 1 ≤ p.caller
  pub most : p.caller ≤ p.callers

-- the history is the old one with one more entry, of the caller whose turn it is, who has seen it
pub record Steps (old : Play) (step : Step) (reply : Reply) (new : Play) : Type 0 where
  pub history : history_of new ≡ Then (history_of old) (record { caller = old.caller; step = step; reply = reply })
  pub callers : new.callers ≡ old.callers
  pub caller : new.caller ≡ old.caller
  pub stepped : Stepped (sight old) step reply (sight new)
  pub possible : IsPossible (sight new)

-- nothing changes but the room
abbrev pub Stays : Play → Play → Type 0
Stays old new = new ≡ record old { room = new.room }
