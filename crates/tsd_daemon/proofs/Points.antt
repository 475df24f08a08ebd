-- What the answering of a put says.
use Rattle.std.proofs.Common.{◌≡◌, ℕ, List, [], ◌∷◌, refl, subst, sym}
use Rattle.std.specs.Prelude.{None, Result, Ok, Err, IfOk}
use Rattle.tsd_base.specs.Faults.{point_fault_text}
use Rattle.tsd_base.specs.Points.{DataPoint, FailsPoint, point_of}
use Rattle.tsd_base.specs.declared.points.PointFault.{PointFault}
use Rattle.tsd_base.specs.declared.points.PointFault.TheVariants as fault
use Rattle.row_key.specs.declared.tables.Table.TheVariants.{Points}
use Rattle.cell_model.specs.declared.answers.RowsFault.{RowsFault}
use Rattle.cell_model.specs.declared.answers.Stored.{Stored}
use Rattle.cell_model.specs.declared.events.Placed.{Placed}
use Rattle.cell_model.specs.History.{History, first}
use Rattle.cell_model.specs.Layout.{names_of}
use Rattle.cell_model.specs.Seen.{Seen, IsPossible}
use Rattle.cell_model.specs.Deeds.{Made, deeds}
use Rattle.compactor.specs.Queues.{HasRows}
use Rattle.compactor.proofs.CallerLemmas.{added_row, rows_none}
use Rattle.point_put.specs.Admissions.{Admission}
use Rattle.point_put.specs.Entries.{InTurn}
use Rattle.point_put.proofs.CallerLemmas.{none_in_turn}
use Rattle.point_put.specs.declared.fault.TextFault.{TextFault}
use Rattle.point_put.specs.declared.fault.TextFault.TheVariants.{Unread, Unput}
use Rattle.point_put.specs.declared.fault.PutFault.{PutFault}
use Rattle.point_put.specs.declared.fault.PutFault.TheVariants.{Unknown, Filtered, Exhausted, OutOfMemory, Stopped}
use Rattle.point_put.specs.PutPoint.{PointAsked, PutSays}
use Rattle.point_put.specs.StoredTexts.{stored_at}
use Rattle.point_put.specs.TextPuts.{TextSays}
use Rattle.point_put.specs.declared.stored_text.StoredText.{StoredText}
use Rattle.queued_put.specs.QueuedPuts.{WasAdded}
use Rattle.telnet_put.specs.Requests.Request.{Put}
use Rattle.queued_put.proofs.CallerLemmas.{may_have}
use Rattle.tsd_daemon.specs.declared.counts.Counts.{Counts}
use Rattle.tsd_daemon.specs.declared.counts.Counted.{Counted}
use Rattle.tsd_daemon.specs.declared.counts.Counted.TheVariants as counted
use Rattle.tsd_daemon.specs.declared.put_answer.Answer.{Answer}
use Rattle.tsd_daemon.specs.ConnReplies.{IsTold, fixed_reply, put_line}
use Rattle.tsd_daemon.specs.ConnRequests.{ConnRequest, point_asked}
use Rattle.tsd_daemon.specs.ConnRequests.ConnRequest.{Telnet}
use Rattle.tsd_daemon.specs.Exchanges.{BegunBy}
use Rattle.tsd_daemon.specs.PutAnswers.{IsDenial, IsRefusal, IsUnread, put_of}
use Rattle.tsd_daemon.specs.Talks.{Replied, WasBegun, counted_put}

-- the request that puts a point
abbrev point_put_of : DataPoint → ConnRequest
point_put_of point = Telnet (Put (Ok point))

-- a point was asked with this outcome, which is told so
point_replied : (c : Admission) (counts : Counts) (point : DataPoint) (old new : Seen) (before after : List Stored) (outcome : Result Stored PutFault) (reply : List ℕ) (stored : List Stored) → PutSays c point old outcome new
    → IsTold outcome reply stored → HasRows before stored after → Replied c counts None (point_put_of point) old before reply (counted_put stored) new after
point_replied c counts point old new before after outcome reply stored (own, made, asked) told rows = record {
  stored = stored;
  since = made.since;
  answered = λ h l f. (refl, (outcome, subst (λ own. PointAsked c point (first new.length h) own outcome) (sym (made.made h f)) (asked h l f), told));
  rows = rows;
  how_is = refl;
}

refusal_replied : (c : Admission) (counts : Counts) (point : DataPoint) (old new : Seen) (queue : List Stored) (fault : PutFault) (reply : List ℕ) → PutSays c point old (Err fault) new → IsRefusal fault reply
    → Replied c counts None (point_put_of point) old queue reply counted.Refused new queue
refusal_replied c counts point old new queue (Unknown kind name) reply says told = point_replied c counts point old new queue queue (Err (Unknown kind name)) reply [] says told (rows_none queue)
refusal_replied c counts point old new queue (Filtered kind name) reply says told = point_replied c counts point old new queue queue (Err (Filtered kind name)) reply [] says told (rows_none queue)
refusal_replied c counts point old new queue (Exhausted kind) reply says told = point_replied c counts point old new queue queue (Err (Exhausted kind)) reply [] says told (rows_none queue)
refusal_replied c counts point old new queue OutOfMemory reply says told = absurd told
refusal_replied c counts point old new queue Stopped reply says told = absurd told

-- whatever came of it, it was begun
asked_begun : (c : Admission) (point : DataPoint) (old new : Seen) (queue : List Stored) (outcome : Result Stored PutFault) → PutSays c point old outcome new → WasBegun c None (point_put_of point) old queue new queue
asked_begun c point old new queue outcome (own, made, asked) = record {
  since = made.since;
  begun = λ h l f. (refl, (outcome, subst (λ own. PointAsked c point (first new.length h) own outcome) (sym (made.made h f)) (asked h l f)));
  rows = λ h l f. may_have queue [] queue (deeds h old.caller old.length new.length) (rows_none queue);
}

-- ---- the point of a text
-- it stands in a point row
pub stored_in_points : (c : Admission) (text : List ℕ) (old new : Seen) (stored : StoredText) → TextSays c text old (Ok stored) new → IsPossible new → (stored_at stored).row.table ≡ Points
stored_in_points c text old new stored (point, is, (list, made, asked)) possible = (asked possible.history possible.lawful possible.fits).did.layout.in_points

-- it was put, and its row was added
pub text_accepted : (c : Admission) (counts : Counts) (text : List ℕ) (old new : Seen) (before after : List Stored) (stored : StoredText) (answer : Answer) → TextSays c text old (Ok stored) new → WasAdded before (stored_at stored) after
    → answer.reply.items ≡ [] → answer.counted ≡ counted.Accepted → Replied c counts None (put_of text) old before answer.reply.items answer.counted new after
text_accepted c counts text old new before after stored answer (point, is, says) (added, made) quiet how =
    subst (λ (r : Result DataPoint PointFault). Replied c counts None (Telnet (Put r)) old before answer.reply.items answer.counted new after) (sym is)
    (subst (λ (how : Counted). Replied c counts None (point_put_of point) old before answer.reply.items how new after) (sym how)
    (point_replied c counts point old new before after (Ok (stored_at stored)) answer.reply.items (stored_at stored ∷ []) says (quiet, refl) (added_row before (stored_at stored) added after made)))

-- nothing was done for a text that has no point
unread_replied : (c : Admission) (counts : Counts) (fault : PointFault) (old new : Seen) (before : List Stored) (reply : List ℕ) → Made old [] new → reply ≡ put_line (point_fault_text fault) → Replied c counts None (Telnet (Put (Err fault))) old before reply counted.Refused new before
unfolding fixed_reply
unread_replied c counts fault old new before reply made told = record {
  stored = [];
  since = made.since;
  answered = λ h l f. (refl, (made.made h f, told, refl));
  rows = rows_none before;
  how_is = refl;
}

unread_told : (c : Admission) (counts : Counts) (fault : PointFault) (read : Result DataPoint PointFault) (old new : Seen) (before : List Stored) (reply : List ℕ) → FailsPoint fault read → Made old [] new → IsUnread fault reply
    → Replied c counts None (Telnet (Put read)) old before reply counted.Refused new before
unread_told c counts (fault.FewWords found) read old new before reply is made told = subst (λ (r : Result DataPoint PointFault). Replied c counts None (Telnet (Put r)) old before reply counted.Refused new before) (sym is) (unread_replied c counts _ old new before reply made told)
unread_told c counts (fault.Metric f) read old new before reply is made told = subst (λ (r : Result DataPoint PointFault). Replied c counts None (Telnet (Put r)) old before reply counted.Refused new before) (sym is) (unread_replied c counts _ old new before reply made told)
unread_told c counts fault.Time read old new before reply is made told = subst (λ (r : Result DataPoint PointFault). Replied c counts None (Telnet (Put r)) old before reply counted.Refused new before) (sym is) (unread_replied c counts _ old new before reply made told)
unread_told c counts (fault.Value f) read old new before reply is made told = subst (λ (r : Result DataPoint PointFault). Replied c counts None (Telnet (Put r)) old before reply counted.Refused new before) (sym is) (unread_replied c counts _ old new before reply made told)
unread_told c counts (fault.TagForm index) read old new before reply is made told = subst (λ (r : Result DataPoint PointFault). Replied c counts None (Telnet (Put r)) old before reply counted.Refused new before) (sym is) (unread_replied c counts _ old new before reply made told)
unread_told c counts (fault.TagKey index f) read old new before reply is made told = subst (λ (r : Result DataPoint PointFault). Replied c counts None (Telnet (Put r)) old before reply counted.Refused new before) (sym is) (unread_replied c counts _ old new before reply made told)
unread_told c counts (fault.TagValue index f) read old new before reply is made told = subst (λ (r : Result DataPoint PointFault). Replied c counts None (Telnet (Put r)) old before reply counted.Refused new before) (sym is) (unread_replied c counts _ old new before reply made told)
unread_told c counts (fault.Tags f) read old new before reply is made told = subst (λ (r : Result DataPoint PointFault). Replied c counts None (Telnet (Put r)) old before reply counted.Refused new before) (sym is) (unread_replied c counts _ old new before reply made told)
unread_told c counts fault.OutOfMemory read old new before reply is made told = absurd told

-- it wasn't put, which is told so
denial_replied : (c : Admission) (counts : Counts) (text : List ℕ) (old new : Seen) (queue : List Stored) (fault : TextFault) (reply : List ℕ) → TextSays c text old (Err fault) new → IsDenial fault reply
    → Replied c counts None (put_of text) old queue reply counted.Refused new queue
denial_replied c counts text old new queue (Unread fault) reply (is, made) told = unread_told c counts fault (point_of text) old new queue reply is made told
denial_replied c counts text old new queue (Unput fault) reply (point, is, says) told =
    subst (λ (r : Result DataPoint PointFault). Replied c counts None (Telnet (Put r)) old queue reply counted.Refused new queue) (sym is) (refusal_replied c counts point old new queue fault reply says told)

pub text_denied : (c : Admission) (text : List ℕ) (old new : Seen) (queue : List Stored) (fault : TextFault) (r : Result Answer RowsFault) → TextSays c text old (Err fault) new
    → IfOk r (λ answer. IsDenial fault answer.reply.items) → IfOk r (λ answer. answer.counted ≡ counted.Refused)
    → IfOk r (λ answer. (counts : Counts) → Replied c counts None (put_of text) old queue answer.reply.items answer.counted new queue)
text_denied c text old new queue fault (Err e) says told how = tt
text_denied c text old new queue fault (Ok answer) says told how = λ counts.
    subst (λ (how : Counted). Replied c counts None (put_of text) old queue answer.reply.items how new queue) (sym how) (denial_replied c counts text old new queue fault answer.reply.items says told)

-- whatever came of it, the put was begun
begun_of : (c : Admission) (h : History) (own : List Placed) (read : Result DataPoint PointFault) → own ≡ [] → BegunBy c h own (point_asked (Put read))
begun_of c h own (Ok point) none = (Err OutOfMemory, subst (InTurn c h (names_of point)) (sym none) (none_in_turn c h (names_of point)))
begun_of c h own (Err fault) none = none

pub text_begun : (c : Admission) (text : List ℕ) (old new : Seen) (queue : List Stored) (outcome : Result StoredText TextFault) → TextSays c text old outcome new → WasBegun c None (put_of text) old queue new queue
text_begun c text old new queue (Err (Unread fault)) (is, made) = record {
  since = made.since;
  begun = λ h l f. (refl, begun_of c (first new.length h) (deeds h old.caller old.length new.length) (point_of text) (made.made h f));
  rows = λ h l f. may_have queue [] queue (deeds h old.caller old.length new.length) (rows_none queue);
}
text_begun c text old new queue (Err (Unput fault)) (point, is, says) =
    subst (λ (r : Result DataPoint PointFault). WasBegun c None (Telnet (Put r)) old queue new queue) (sym is) (asked_begun c point old new queue (Err fault) says)
text_begun c text old new queue (Ok stored) (point, is, says) =
    subst (λ (r : Result DataPoint PointFault). WasBegun c None (Telnet (Put r)) old queue new queue) (sym is) (asked_begun c point old new queue (Ok (stored_at stored)) says)
