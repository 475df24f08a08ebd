-- What was served over a store of one's own stands in the store's whole history.
use Rattle.std.proofs.Common.{◌≡◌, ℕ, true, List, [], ◌++◌, refl, sym, subst, ◌∙◌, arith, rules}
use Rattle.std.specs.Prelude.{Option, None, Some, length}
use Rattle.std.proofs.KnownBytes.{Appends-nil, Consumes-nil}
use Rattle.row_key.specs.declared.widths.Widths.{Widths}
use Rattle.cell_model.specs.Store.{no_cells}
use Rattle.cell_model.specs.History.{History, len}
use Rattle.cell_model.specs.Seen.{Seen, InEach, IsPossible}
use Rattle.cell_solo.specs.Turns.{whole_seen, opened, opening}
use Rattle.point_put.specs.Admissions.{Admission}
use Rattle.lone_store.specs.LoneStores.{IsFresh}
use Rattle.lone_store.proofs.CallerLemmas.{begun_lawful}
use Rattle.list_lemmas.proofs.ListMembers.{here}
use Rattle.tsd_daemon.specs.declared.served.Served.{Served}
use Rattle.tsd_daemon.specs.declared.served.Served.TheVariants as answer
use Rattle.tsd_daemon.specs.Exchanges.Ran.{start}
use Rattle.tsd_daemon.proofs.CallerLemmas.{no_piece_yet}
use Rattle.tsd_daemon.specs.ServedConns.{ConnCauses, ConnFaults, ConnTold, Fills, IsServed, Passes, Serves}
use Rattle.point_feed.specs.FedEntries.{fed}
use Rattle.stdio_job.specs.FedConnections.{PublishesBytes}
use Rattle.stdio_job.specs.LoneConnections.{IsServedAlone, ServesAlone, TellsBehind}
use Rattle.stdio_job.specs.Publications.{Tells, published}
use Rattle.stdio_job.proofs.Publishing.{nothing_fills}

abbrev begun : Widths → History
begun w = opened (no_cells w) 1

abbrev fresh_seen : Widths → Seen
fresh_seen w = whole_seen (begun w) 1 true

-- what holds in each history that fits, of the part behind the opening, holds in that of the store
alone_so : (w : Widths) (c : Admission) (new : Seen) (input output times : List ℕ) (result : Served) (P : History → ℕ → ℕ → ℕ → Type 0) → IsPossible (fresh_seen w) → Serves c (fresh_seen w) input output times result new
    → InEach new (λ h. P h 1 1 new.length) → (a : IsServedAlone w c input output times result) × P a.history 1 1 (len a.history)
alone_so w c new input output times result P possible s so =
    let p = s.since.lives possible in
    let long : len p.history ≡ new.length = p.whole s.since.alone in (
      record {
        history = p.history;
        lawful = p.lawful;
        base = p.fits.base ∙ s.since.extends.base;
        opened = (s.since.extends.fits p.history p.fits).seen 1 (opening 1) (omega arith, here (record { place = 1; entry = opening 1 }) []);
        only = λ place e above most is. s.since.only refl p.history p.fits place e above (omega (arith, long, most)) is;
        served = subst (λ (n : ℕ). IsServed c p.history 1 1 n input output times result) (sym long) (s.served p.history p.lawful p.fits);
      },
      subst (λ (n : ℕ). P p.history 1 1 n) (sym long) (so p.history p.lawful p.fits),
    )

pub served_alone_so : (w : Widths) (c : Admission) (old new : Seen) (input output times : List ℕ) (result : Served) (P : History → ℕ → ℕ → ℕ → Type 0) → IsFresh w old → Serves c old input output times result new
    → InEach new (λ h. P h old.length old.caller new.length) → (a : IsServedAlone w c input output times result) × P a.history 1 1 (len a.history)
served_alone_so w c old new input output times result P fresh s so =
    alone_so w c new input output times result P (subst IsPossible fresh.seen fresh.possible) (subst (λ (o : Seen). Serves c o input output times result new) fresh.seen s)
    (subst (λ (o : Seen). InEach new (λ h. P h o.length o.caller new.length)) fresh.seen so)

-- what was served from a fresh store on
pub served_alone : (w : Widths) (c : Admission) (old new : Seen) (input output times : List ℕ) (result : Served) → IsFresh w old → Serves c old input output times result new → IsServedAlone w c input output times result
served_alone w c old new input output times result fresh s = (served_alone_so w c old new input output times result (λ h from caller end. Unit {0}) fresh s (λ h lawful fits. tt)).0

-- no memory for the store: nothing was served
pub none_served : (w : Widths) (c : Admission) → IsServedAlone w c [] [] [] answer.OutOfMemory
none_served w c = record {
  history = begun w;
  lawful = begun_lawful w;
  base = refl;
  opened = refl;
  only = λ place e above most is. absurd (omega (arith, above, most));
  served = record {
    done = [];
    last = 1;
    in_range = omega arith;
    ran = start;
    table = record { rest = []; requests = refl; replies = refl; moment = None; moments = refl; begun = (refl, refl) };
    pieces = no_piece_yet;
  };
}

-- what was published from a fresh store on
pub published_alone : (w : Widths) (c : Admission) (prefix : List ℕ) (old new : Seen) (result : Served) (input output times : List ℕ) → IsFresh w old → PublishesBytes c prefix old result new input output times → ServesAlone w c (Some prefix) result input output times
published_alone w c prefix old new result input output times fresh p =
    let a = served_alone_so w c old new input p.replies times p.ended (λ h from caller end. Tells p.ended result (published (fed h caller from end prefix)) p.given) fresh p.serves p.tells in
    record { replies = p.replies; given = p.given; output_is = p.output_is; ended = p.ended; alone = a.0; fills = p.fills; behind = a.1 }

nothing_behind : (w : Widths) (c : Admission) (publish : Option (List ℕ)) → TellsBehind publish answer.OutOfMemory answer.OutOfMemory (none_served w c).history []
nothing_behind w c None = (refl, refl)
nothing_behind w c (Some prefix) = (refl, refl)

-- without memory nothing was served
pub none_alone : (w : Widths) (c : Admission) (publish : Option (List ℕ)) (told : ConnTold) (result : Served) → result ≡ answer.OutOfMemory → Passes told told (ServesAlone w c publish result)
none_alone w c publish told result is = subst (λ (r : Served). Passes told told (ServesAlone w c publish r)) (sym is) record {
  input = [];
  output = [];
  times = [];
  takes = Appends-nil told.taken;
  leaves = Consumes-nil told.left;
  gives = Appends-nil told.held;
  ticks = refl;
  so = record { replies = []; given = []; output_is = refl; ended = answer.OutOfMemory; alone = none_served w c; fills = nothing_fills; behind = nothing_behind w c publish };
}

-- where nothing is published all that was given is the replies
pub plain_alone : (w : Widths) (c : Admission) (result : Served) (input output times : List ℕ) → IsServedAlone w c input output times result → Fills result (length input) → ServesAlone w c None result input output times
plain_alone w c result input output times a fills = record { replies = output; given = []; output_is = sym (append_nil output); ended = result; alone = a; fills = fills; behind = (refl, refl) }
  where
    append_nil : (xs : List ℕ) → xs ++ [] ≡ xs
    append_nil xs = search rules

-- what passed for a connection over a fresh store
pub passes_published : (w : Widths) (c : Admission) (prefix : List ℕ) (old new : Seen) (before after : ConnTold) (result : Served) → IsFresh w old → Passes before after (PublishesBytes c prefix old result new) → Passes before after (ServesAlone w c (Some prefix) result)
passes_published w c prefix old new before after result fresh p = record {
  input = p.input;
  output = p.output;
  times = p.times;
  takes = p.takes;
  leaves = p.leaves;
  gives = p.gives;
  ticks = p.ticks;
  so = published_alone w c prefix old new result p.input p.output p.times fresh p.so;
}

-- causes, with counts of stops that are the same
pub stops_as : (before after : ConnFaults) (stops stops' : ℕ) (x : Served) → before.stops ≡ stops → after.stops ≡ stops' → ConnCauses before after x → ConnCauses (record before { stops = stops }) (record after { stops = stops' }) x
stops_as before after stops stops' x a b c = subst (λ (p : ℕ × ℕ). ConnCauses (record before { stops = p.0 }) (record after { stops = p.1 }) x) (λ i. (a i, b i)) c
