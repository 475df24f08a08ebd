-- What is left where the connections of a site were served.
use Rattle.std.specs.Prelude.{◌≡◌, ℕ, ◌+◌, ◌-◌, ◌^◌, min, Bool, List, length, Option}
use Rattle.atomic_table.specs.Seated.{TableId}
use Rattle.tsd_doors.specs.Links.{Counts, Shut, accepted}
use Rattle.link_acceptor.specs.Accepting.{AsksHalt, HasReason, lost_by}
use Rattle.link_acceptor.specs.declared.accept_loop.AcceptEnd.{AcceptEnd}
use Rattle.step_count.specs.declared.view.Named.{Named}
use Rattle.step_count.specs.Tokens.{counter_of_pass, view_of_pass}
use Rattle.region_locks.specs.CallerViews.{IsCaller}
use Rattle.site_workers.specs.declared.site_service.SiteServed.{SiteServed}

-- what doors tell: the bytes of each connection left and the connections given back, where they tell them, their counts, and how often they failed
pub record DoorsTold : Type 0 where
  pub waiting : Option (List (List ℕ))
  pub back : Option (List Shut)
  pub counts : Counts
  pub faults : ℕ

-- So many connections were accepted, up to the last u64. As many were given back as there are ends, and unless memory ran out these were all.
pub record SiteCounts (end : AcceptEnd) (links ends : ℕ) (before now : Counts) : Type 0 where
  pub port : now.port ≡ before.port
  pub links_are : links ≡ min (accepted now - accepted before) (2 ^ 64 - 1)
  pub returned : now.returned ≡ before.returned + ends
  pub all : lost_by end ≡ 0 → accepted now ≡ accepted before + ends

-- The token of a caller of the site is left. So many connections were accepted and given back, and accepting ended for its reason, with the halt asked before each.
pub record SiteLeft {H : Type 0} (answers : H → Bool → H → Type 0) (counter : TableId) (name : Named) (before after : DoorsTold) (stops stops' : ℕ) (halt halt' : H) (s : SiteServed) : Type 0 where
  pub counter_is : counter_of_pass s.pass ≡ counter
  pub caller : IsCaller name (view_of_pass s.pass)
  pub counted : SiteCounts s.end s.links (length s.ends.items) before.counts after.counts
  pub reason : HasReason s.end before.waiting after.waiting stops stops' before.faults after.faults
  pub asked : AsksHalt answers s.end before.counts after.counts halt halt'
