-- Doors over a listener of the system, as callers see them.
use Rattle.std.specs.Prelude.{ℕ, None}
use Rattle.tsd_doors.specs.Links.{Counts}

-- the connections given back and those accepted besides, the port that was bound last, and how often they failed
pub record DoorsOverNet : Type 0 where
  pub counts : Counts
  pub faults : ℕ

-- no port was bound, no connection accepted, and nothing failed
abbrev pub no_links : DoorsOverNet
no_links = record { counts = record { returned = 0; out = 0; port = None }; faults = 0 }
