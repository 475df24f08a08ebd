-- Queries that can be asked.
use Rattle.std.specs.Prelude.{◌≤◌, All}
use Rattle.tsd_base.specs.declared.times.TheConstants.{LAST_TIME}
use Rattle.query_text.specs.declared.queries.Query.{Query}
use Rattle.query_text.specs.Subs.{CanDown}

-- what asking wants of a query
pub record IsAsked (q : Query) : Type 0 where
  pub order : q.start ≤ q.end
  pub most : q.end ≤ LAST_TIME
  pub downs : All (CanDown q.ms) q.subs
