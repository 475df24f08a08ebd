-- The query of a batch.
use Rattle.std.proofs.Common.{◌≡◌, ◌≤◌, Bool, [], ◌∷◌, sym, subst, arith}
use Rattle.std.specs.Prelude.{Ok, Err}
use Rattle.tsd_base.specs.declared.times.TheConstants.{LAST_TIME}
use Rattle.query_text.specs.Subs.{GivesSub, sub_of}
use Rattle.query_text.specs.declared.queries.Query.{Query}
use Rattle.query_text.specs.declared.queries.QueryFault.{QueryFault}
use Rattle.query_text.specs.declared.queries.QueryFault.TheVariants.{BadM, UnknownAggregator, RateRefused, BadDownsample, BadFilter, BadTimes, BadQuery, TooManyQueries, OutOfMemory}
use Rattle.query_text.specs.declared.queries.Sub.{Sub}
use Rattle.query_text.specs.Subs.{CanDown}
use Rattle.batch_job.specs.JobAnswers.{CanAsk}
use Rattle.command_words.specs.CommandWords.{Batch}
use Rattle.batch_run.specs.BatchQueries.{GivesQuery, IsQueryOf}

module _ (query : Query) (batch : Batch) (s : Sub) (start : query.start ≡ batch.start) (end : query.end ≡ batch.end) (ms : query.ms ≡ batch.ms) (subs : query.subs ≡ s ∷ []) (is : sub_of batch.ms batch.query ≡ Ok s) where
  pub is_query_of : IsQueryOf query batch
  is_query_of = record { sub = s; sub_is = is; query_is = λ i. record { start = start i; end = end i; ms = ms i; subs = subs i } }

  pub can_ask : CanDown batch.ms s → batch.start ≤ batch.end → batch.end ≤ LAST_TIME → CanAsk query
  can_ask can range last = record {
    sub = s;
    subs_are = subs;
    order = omega (arith, start, end, range);
    most = omega (arith, end, last);
    down = subst (λ (b : Bool). CanDown b s) (sym ms) can;
  }

pub told_fault : (fault : QueryFault) (batch : Batch) → GivesSub (Err fault) (sub_of batch.ms batch.query) → GivesQuery (Err fault) batch
told_fault (BadM at) batch is = is
told_fault UnknownAggregator batch is = is
told_fault RateRefused batch is = is
told_fault BadDownsample batch is = is
told_fault (BadFilter index) batch is = is
told_fault BadTimes batch is = is
told_fault BadQuery batch is = is
told_fault (TooManyQueries count) batch is = is
told_fault OutOfMemory batch is = tt
