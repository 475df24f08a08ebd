-- The query of a command.
use Rattle.std.specs.Prelude.{◌≡◌, [], ◌∷◌, Result, Ok, Err}
use Rattle.query_text.specs.Subs.{sub_of}
use Rattle.query_text.specs.declared.queries.Query.{Query}
use Rattle.query_text.specs.declared.queries.QueryFault.{QueryFault}
use Rattle.query_text.specs.declared.queries.QueryFault.TheVariants.{OutOfMemory}
use Rattle.query_text.specs.declared.queries.Sub.{Sub}
use Rattle.command_words.specs.CommandWords.{Batch}

-- one sub query over the range; the times of the answer are told in milliseconds with ms, and else in seconds
abbrev pub query_of : Batch → Sub → Query
query_of batch s = record { start = batch.start; end = batch.end; ms = batch.ms; subs = s ∷ [] }

-- the query of a batch, whose text is a sub query
pub record IsQueryOf (query : Query) (batch : Batch) : Type 0 where
  pub sub : Sub
  pub sub_is : sub_of batch.ms batch.query ≡ Ok sub
  pub query_is : query ≡ query_of batch sub

-- the query of the batch, or why there is none; want of memory may always be told
abbrev pub GivesQuery : Result Query QueryFault → Batch → Type 0
GivesQuery (Ok query) batch = IsQueryOf query batch
GivesQuery (Err OutOfMemory) batch = Unit {0}
GivesQuery (Err fault) batch = sub_of batch.ms batch.query ≡ Err fault
