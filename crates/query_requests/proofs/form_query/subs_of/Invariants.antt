use Rattle.std.proofs.Common.{◌≡◌, drop, map, All}
use Rattle.query_requests.specs.FormQueries.{subs_of}
use Rattle.query_requests.specs.QueryReadings.{with_front}
use Rattle.query_text.specs.Subs.{CanDown}
use Rattle.query_requests.proofs.form_query.subs_of.Given as goal

abbrev pub invariant-loop-text : goal.invariant-loop-text
invariant-loop-text l = record {
  read : with_front l.subs.items (subs_of l.ms (map (λ text. text.now) (drop l.text-index l.texts))) ≡ subs_of l.ms (map (λ text. text.now) l.texts);
  downs : All (CanDown l.ms) l.subs.items;
}
