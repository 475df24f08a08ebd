-- What the connections of a fleet were served in: one history, which the store that is left comes of.
use Rattle.std.specs.Prelude.{◌≡◌, ℕ, true, List, Contains, Some}
use Rattle.cell_model.specs.Store.{Store}
use Rattle.cell_model.specs.declared.events.Entry.{Entry}
use Rattle.cell_model.specs.History.{History, base_of, entry_at, store_after}
use Rattle.cell_model.specs.Lawful.{IsLawful}
use Rattle.step_count.specs.CounterRule.{AreDifferent}
use Rattle.tsd_daemon.specs.declared.served.Served.{Served}
use Rattle.row_compactors.specs.Upkeep.{brings_new}
use Rattle.conn_workers.specs.ServedLinks.{IsWithin, ServedInTurn, ServingTerms}
use Rattle.worker_returns.specs.GatheredLinks.{AllInTurn, CallerLinks, GivenBack, callers_of, links_of}
use Rattle.tsd_fleet.specs.Devices.{FleetDevices, Terms, returns_told, served_by}

-- one of these callers made the entry at this place within the lengths of a connection that it served
abbrev pub MadeServing : ServingTerms → History → List CallerLinks → ℕ → Entry → Type 0
MadeServing terms h callers place e =
    (k : CallerLinks) × Contains callers k × (e.caller ≡ k.caller) × ((turns : ServedInTurn terms h k.caller k.links k.last) × IsWithin turns place)

-- Over one lawful history over the base connections were served, each by one of some callers, of which no two are one and all opened in it, and this is the store after
-- it. So no two connections share a place of the history, whoever served them. Those that were given back are as told; for want of memory the others may not be.
-- Nothing is made up: each entry that counts an id, claims a cell or writes a point was made serving one of these connections. Every other entry is an opening, a
-- read, a next row, a merge or a drop.
pub record FleetStands (terms : Terms) (before after : FleetDevices) (store : Store) (ends : List Served) : Type 0 where
  pub history : History
  pub lawful : IsLawful history
  pub base_is : base_of history ≡ terms.base
  pub store_is : store ≡ store_after history
  pub callers : List CallerLinks
  pub different : AreDifferent (callers_of callers)
  pub served : AllInTurn (served_by terms before.clock.moments) history callers
  pub given : GivenBack (returns_told before) (returns_told after) ends (links_of callers)
  pub nothing_else : (place : ℕ) (e : Entry) → entry_at history place ≡ Some e → brings_new e.step ≡ true → MadeServing (served_by terms before.clock.moments) history callers place e
