-- What a caller's proof cites of rows that may be queued.
use Rattle.std.proofs.Common.{◌⊎◌, inl, inr, List, [], ◌∷◌, sym, subst}
use Rattle.std.specs.Prelude.{Contains}
use Rattle.std.proofs.lemmas.List.Elements.{Contains-append_right}
use Rattle.list_lemmas.proofs.ListMembers.{here, not_in}
use Rattle.tsd_base.specs.Points.{DataPoint}
use Rattle.cell_model.specs.declared.answers.Stored.{Stored}
use Rattle.cell_model.specs.declared.events.Placed.{Placed}
use Rattle.cell_model.specs.History.{History}
use Rattle.compactor.specs.Queues.{HasRows}
use Rattle.point_put.specs.Admissions.{Admission}
use Rattle.point_put.specs.PutPoint.{WasStored}
use Rattle.queued_put.specs.PutRows.{IsPutRow, MayHaveRows}

-- the rows alone
pub may_have : (before rows after : List Stored) (later : List Placed) → HasRows before rows after → MayHaveRows before rows later after
may_have before rows after later has = record { kept = λ s had. (has s).1 had; most = λ s there. inl ((has s).0 there) }

-- rows, and then perhaps others
pub may_follow : (before mid after rows : List Stored) (later : List Placed) → HasRows before rows mid → MayHaveRows mid [] later after → MayHaveRows before rows later after
may_follow before mid after rows later has may = record { kept = λ s had. may.kept s (inl ((has s).1 had)); most = λ s there. at s (may.most s there) }
  where
    before' : (s : Stored) → Contains mid s ⊎ Contains [] s → Contains before s ⊎ Contains rows s
    before' s (inl had) = (has s).0 had
    before' s (inr none) = absurd (not_in s none)

    at : (s : Stored) → (Contains mid s ⊎ Contains [] s) ⊎ IsPutRow later s → (Contains before s ⊎ Contains rows s) ⊎ IsPutRow later s
    at s (inl had) = inl (before' s had)
    at s (inr put) = inr put

-- rows of puts and appends among the entries
pub may_put : (before rows after : List Stored) (later : List Placed) → HasRows before rows after → ((s : Stored) → Contains rows s → IsPutRow later s) → MayHaveRows before [] later after
may_put before rows after later has put = record { kept = λ s had. (has s).1 (inl (old s had)); most = λ s there. at s ((has s).0 there) }
  where
    old : (s : Stored) → Contains before s ⊎ Contains [] s → Contains before s
    old s (inl had) = had
    old s (inr none) = absurd (not_in s none)

    at : (s : Stored) → Contains before s ⊎ Contains rows s → (Contains before s ⊎ Contains [] s) ⊎ IsPutRow later s
    at s (inl had) = inl (inl had)
    at s (inr row) = inr (put s row)

-- the row of a point that was accepted is that of its put or append
pub put_row : (c : Admission) (point : DataPoint) (h : History) (own : List Placed) (stored : Stored) → WasStored c point h own stored → IsPutRow own stored
put_row c point h own stored w = record {
  entry = w.put;
  among = subst (λ (l : List Placed). Contains l w.put) (sym w.list_is) (Contains-append_right w.names (w.put ∷ []) w.put (here w.put []));
  appends = c.config.appends;
  point = point;
  qual = w.did.qual;
  value = w.did.value;
  step = w.did.did.0;
  base = w.base;
}
