-- What is fed by the steps of a connection is what is published.
use Rattle.std.proofs.Common.{◌≡◌, ◌≤◌, ◌^◌, inl, inr, ℕ, List, [], ◌++◌, refl, sym, ap, subst, ◌∙◌, arith}
use Rattle.std.specs.Prelude.{Option, None, length}
use Rattle.std.proofs.KnownBytes.{Appends-nil, Appends-trans, Consumes-nil}
use Rattle.cell_model.specs.Seen.{Seen}
use Rattle.cell_laws.proofs.CallerLemmas.{nothing_made}
use Rattle.point_put.specs.Admissions.{Admission}
use Rattle.point_feed.specs.FedEntries.{FeedsSince, fed, fed_points}
use Rattle.tsd_daemon.specs.declared.served.Served.{Served}
use Rattle.tsd_daemon.specs.declared.served.Served.TheVariants as answer
use Rattle.tsd_daemon.specs.Exchanges.Ran.{start}
use Rattle.tsd_daemon.proofs.CallerLemmas.{no_piece_yet}
use Rattle.tsd_daemon.specs.ServedConns.{ConnTold, Fills, Passes, ServesBytes}
use Rattle.stdio_job.specs.FedConnections.{PublishesBytes}
use Rattle.stdio_job.specs.Publications.{GavePublished, Tells, TellsAll, published, published_text}

pub nothing_fills : Fills answer.OutOfMemory 0
nothing_fills = omega arith

fills_all : (ended result : Served) (text given : List ℕ) (n : ℕ) → TellsAll ended result text given → Fills ended n → n ≤ 2 ^ 40 → Fills result n
fills_all ended result text given n (inl (is, whole)) fills most = subst (λ (r : Served). Fills r n) (sym is) fills
fills_all ended answer.WriteFault text given n (inr cut) fills most = most
fills_all ended answer.OutOfMemory text given n (inr cut) fills most = most
fills_all ended answer.End text given n (inr cut) fills most = absurd cut
fills_all ended answer.Exit text given n (inr cut) fills most = absurd cut
fills_all ended answer.Die text given n (inr cut) fills most = absurd cut
fills_all ended answer.Closed text given n (inr cut) fills most = absurd cut
fills_all ended answer.ReadFault text given n (inr cut) fills most = absurd cut
fills_all ended answer.ClockFault text given n (inr cut) fills most = absurd cut
fills_all ended answer.Stopped text given n (inr cut) fills most = absurd cut
fills_all ended answer.SessionFull text given n (inr cut) fills most = absurd cut

-- what is told behind the replies takes nothing more of the input
fills_told : (ended result : Served) (text given : List ℕ) (n : ℕ) → Tells ended result text given → Fills ended n → Fills result n
fills_told answer.End result text given n tells fills = fills_all answer.End result text given n tells fills (omega (arith, fills))
fills_told answer.Exit result text given n tells fills = fills_all answer.Exit result text given n tells fills fills
fills_told answer.Die result text given n tells fills = fills_all answer.Die result text given n tells fills fills
fills_told answer.Closed result text given n tells fills = fills_all answer.Closed result text given n tells fills fills
fills_told answer.ReadFault result text given n tells fills = subst (λ (r : Served). Fills r n) (sym tells.0) fills
fills_told answer.WriteFault result text given n tells fills = subst (λ (r : Served). Fills r n) (sym tells.0) fills
fills_told answer.ClockFault result text given n tells fills = subst (λ (r : Served). Fills r n) (sym tells.0) fills
fills_told answer.Stopped result text given n tells fills = subst (λ (r : Served). Fills r n) (sym tells.0) fills
fills_told answer.SessionFull result text given n tells fills = subst (λ (r : Served). Fills r n) (sym tells.0) fills
fills_told answer.OutOfMemory result text given n tells fills = subst (λ (r : Served). Fills r n) (sym tells.0) fills

-- the replies, and behind them what is published
pub published_bytes : (c : Admission) (prefix : List ℕ) (first old new : Seen) (before after : ConnTold) (held : Option (List ℕ)) (ended result : Served) (lines : List ℕ) (count : ℕ)
    → old ≡ first → Passes before after (ServesBytes c old ended new) → FeedsSince prefix first new lines count → GavePublished ended result (published_text count lines) after.held held
    → Passes before (record after { held = held }) (PublishesBytes c prefix first result new)
published_bytes c prefix first old new before after held ended result lines count is p (list, made, l) (given, gives, tells) = record {
  input = p.input;
  output = p.output ++ given;
  times = p.times;
  takes = p.takes;
  leaves = p.leaves;
  gives = Appends-trans before.held after.held held p.output given p.gives gives;
  ticks = p.ticks;
  so = record {
    replies = p.output;
    given = given;
    output_is = refl;
    ended = ended;
    serves = (subst (λ (s : Seen). ServesBytes c s ended new p.input p.output p.times) is p.so).0;
    fills = fills_told ended result (published_text count lines) given (length p.input) tells p.so.1;
    tells = λ h lawful fits. subst (λ (text : List ℕ). Tells ended result text given) ((λ i. published_text (l.count_is i) (l.text_is i)) ∙ ap (λ xs. published (fed_points prefix xs)) (sym (made.made h fits))) tells;
  };
}

-- so it is with what was seen and what was fed by other names
pub published_so : (c : Admission) (prefix : List ℕ) (first old served fed_to new : Seen) (before after : ConnTold) (held : Option (List ℕ)) (ended result : Served) (lines told : List ℕ) (count : ℕ)
    → old ≡ first → served ≡ new → fed_to ≡ new → told ≡ lines → Passes before after (ServesBytes c old ended served) → FeedsSince prefix first fed_to lines count
    → GavePublished ended result (published_text count told) after.held held → Passes before (record after { held = held }) (PublishesBytes c prefix first result new)
published_so c prefix first old served fed_to new before after held ended result lines told count is seen feeds text p f gave =
    published_bytes c prefix first old new before after held ended result lines count is
    (subst (λ (s : Seen). Passes before after (ServesBytes c old ended s)) seen p) (subst (λ (s : Seen). FeedsSince prefix first s lines count) feeds f)
    (subst (λ (xs : List ℕ). GavePublished ended result (published_text count xs) after.held held) text gave)

-- no memory for the names: nothing was served
pub none_published : (c : Admission) (prefix : List ℕ) (first new : Seen) (told : ConnTold) → new ≡ first → Passes told told (PublishesBytes c prefix first answer.OutOfMemory new)
none_published c prefix first new told is = subst (λ (s : Seen). Passes told told (PublishesBytes c prefix first answer.OutOfMemory s)) (sym is) record {
  input = [];
  output = [];
  times = [];
  takes = Appends-nil told.taken;
  leaves = Consumes-nil told.left;
  gives = Appends-nil told.held;
  ticks = refl;
  so = record {
    replies = [];
    given = [];
    output_is = refl;
    ended = answer.OutOfMemory;
    serves = record {
      since = (nothing_made first).since;
      served = λ h lawful fits. record {
        done = [];
        last = first.length;
        in_range = omega arith;
        ran = start;
        table = record { rest = []; requests = refl; replies = refl; moment = None; moments = refl; begun = (refl, (nothing_made first).made h fits) };
        pieces = no_piece_yet;
      };
    };
    fills = nothing_fills;
    tells = λ h lawful fits. (refl, refl);
  };
}
