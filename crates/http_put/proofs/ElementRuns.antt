-- One element after the other.
use Rattle.std.proofs.Common.{◌≡◌, ◌⊎◌, inl, inr, ℕ, ◌≤◌, List, [], ◌∷◌, ◌++◌, refl, sym, ap, subst, ◌∙◌, arith, Result, Ok, Err}
use Rattle.std.specs.Prelude.{Contains}
use Rattle.std.proofs.lemmas.List.Elements.{Contains-append_left, Contains-append_right, Contains-append_cases}
use Rattle.list_lemmas.proofs.ListMembers.{split, not_in}
use Rattle.serde_json.specs.Data.{Data}
use Rattle.tsd_base.specs.Points.{DataPoint}
use Rattle.cell_model.specs.declared.answers.Stored.{Stored}
use Rattle.cell_model.specs.declared.events.Placed.{Placed}
use Rattle.cell_model.specs.History.{History, first}
use Rattle.cell_model.specs.Layout.{names_of}
use Rattle.cell_model.specs.Seen.{Seen, Fits, InEach}
use Rattle.cell_model.specs.Deeds.{deeds, Made, Since}
use Rattle.cell_laws.proofs.CallerLemmas.{deeds_joined, made_joined, nothing_made}
use Rattle.point_put.specs.Admissions.{Admission}
use Rattle.point_put.specs.declared.fault.PutFault.{PutFault}
use Rattle.point_put.specs.declared.fault.PutFault.TheVariants.{OutOfMemory}
use Rattle.point_put.specs.PutPoint.{PointAsked}
use Rattle.point_put.proofs.CallerLemmas.{none_in_turn}
use Rattle.compactor.specs.Queues.{HasRows}
use Rattle.compactor.proofs.CallerLemmas.{rows_none, rows_joined}
use Rattle.queued_put.specs.PutRows.{IsPutRow, MayHaveRows}
use Rattle.queued_put.proofs.CallerLemmas.{may_put, put_row}
use Rattle.json_points.specs.declared.fault.ElementFault.{ElementFault}
use Rattle.json_points.specs.Elements.{element_of}
use Rattle.http_put.specs.PutElements.{Outcome, PointTold, ReadAsked, ReadBegun, FirstBegun, Ran, ElementsPut, ElementsBegun}
use Rattle.http_put.specs.PutElements.Ran.{start, then_asked}
use Rattle.http_put.specs.PutOneElement.{ElementPut, ElementBegun}

-- ---- what a part of a put shows

pub ran_on : {c : Admission} {h : History} {caller n e : ℕ} {ds : List Data} {outs : List Outcome} {rows : List Stored} → Ran c h caller n ds outs rows e → n ≤ e
ran_on start = omega arith
ran_on (then_asked d outcome stored ran le asked) = let a = ran_on ran in omega (arith, a, le)

row_told : (c : Admission) (point : DataPoint) (h : History) (own : List Placed) (answer : Result Stored PutFault) (outcome : Outcome) (stored : List Stored)
    → PointAsked c point h own answer → PointTold answer outcome stored → (s : Stored) → Contains stored s → IsPutRow own s
row_told c point h own (Ok row) outcome stored asked told s has = at (split row s [] (subst (λ (rows : List Stored). Contains rows s) told.1 has))
  where
    at : (row ≡ s) ⊎ Contains [] s → IsPutRow own s
    at (inl same) = subst (IsPutRow own) same (put_row c point h own row asked)
    at (inr in_none) = absurd (not_in s in_none)
row_told c point h own (Err fault) outcome stored asked told s has = absurd (not_in s (subst (λ (rows : List Stored). Contains rows s) told.1 has))

element_rows : (c : Admission) (read : Result DataPoint ElementFault) (h : History) (own : List Placed) (outcome : Outcome) (stored : List Stored)
    → ReadAsked c read h own outcome stored → (s : Stored) → Contains stored s → IsPutRow own s
element_rows c (Ok point) h own outcome stored asked s has = row_told c point h own asked.0 outcome stored asked.1 asked.2 s has
element_rows c (Err fault) h own outcome stored asked s has = absurd (not_in s (subst (λ (rows : List Stored). Contains rows s) asked.2 has))

among_more : (own rest all : List Placed) (s : Stored) → all ≡ own ++ rest → IsPutRow own s → IsPutRow all s
among_more own rest all s is p = record {
  entry = p.entry;
  among = subst (λ (l : List Placed). Contains l p.entry) (sym is) (Contains-append_left own rest p.entry p.among);
  appends = p.appends;
  point = p.point;
  qual = p.qual;
  value = p.value;
  step = p.step;
  base = p.base;
}

among_behind : (own rest all : List Placed) (s : Stored) → all ≡ rest ++ own → IsPutRow own s → IsPutRow all s
among_behind own rest all s is p = record {
  entry = p.entry;
  among = subst (λ (l : List Placed). Contains l p.entry) (sym is) (Contains-append_right rest own p.entry p.among);
  appends = p.appends;
  point = p.point;
  qual = p.qual;
  value = p.value;
  step = p.step;
  base = p.base;
}

pub ran_rows : {c : Admission} {h : History} {caller n e : ℕ} {ds : List Data} {outs : List Outcome} {rows : List Stored} → Ran c h caller n ds outs rows e
    → (s : Stored) → Contains rows s → IsPutRow (deeds h caller n e) s
ran_rows start s has = absurd (not_in s has)
ran_rows {c = c} {h = h} {caller = caller} {n = n} (then_asked {rows = rows} {e = e} {e2 = e2} d outcome stored ran le asked) s has = at (Contains-append_cases rows stored s has) (ran_rows ran s)
  where
    joined : deeds h caller n e2 ≡ deeds h caller n e ++ deeds h caller e e2
    joined = deeds_joined h caller n e e2 (ran_on ran) le

    at : Contains rows s ⊎ Contains stored s → (Contains rows s → IsPutRow (deeds h caller n e) s) → IsPutRow (deeds h caller n e2) s
    at (inl before) go = among_more (deeds h caller n e) (deeds h caller e e2) (deeds h caller n e2) s joined (go before)
    at (inr now) go = among_behind (deeds h caller e e2) (deeds h caller n e) (deeds h caller n e2) s joined (element_rows c (element_of d) (first e2 h) (deeds h caller e e2) outcome stored asked s now)

-- the queue of a put that ended early
pub may_have_put : (c : Admission) (ds : List Data) (old new : Seen) (before after : List Stored) → ElementsBegun c ds old before new after
    → InEach new (λ h. MayHaveRows before [] (deeds h old.caller old.length new.length) after)
may_have_put c ds old new before after begun h l f =
    let b = begun.begun h l f in
    may_put before begun.stored after (deeds h old.caller old.length new.length) begun.rows
    (λ s has. among_more (deeds h old.caller old.length b.last) (deeds h old.caller b.last new.length) (deeds h old.caller old.length new.length) s
    (deeds_joined h old.caller old.length b.last new.length (ran_on b.ran) b.in_range) (ran_rows b.ran s has))

-- ---- nothing of an element

pub read_nothing : (c : Admission) (read : Result DataPoint ElementFault) (h : History) → ReadBegun c read h []
read_nothing c (Ok point) h = (Err OutOfMemory, none_in_turn c h (names_of point))
read_nothing c (Err fault) h = refl

first_nothing : (c : Admission) (rest : List Data) (h : History) → FirstBegun c rest h []
first_nothing c [] h = refl
first_nothing c (d ∷ rest) h = read_nothing c (element_of d) h

-- ---- the elements so far

pub record SoFar (c : Admission) (ds : List Data) (old : Seen) (before : List Stored) (outs : List Outcome) (now : Seen) (after : List Stored) : Type 0 where
  pub own : List Placed
  pub made : Made old own now
  pub put : ElementsPut c ds old before outs now after

pub none_so_far : (c : Admission) (s : Seen) (before : List Stored) → SoFar c [] s before [] s before
none_so_far c s before = record { own = []; made = nothing_made s; put = record { stored = []; ran = λ h l f. start; rows = rows_none before } }

own_of : (h : History) (old now new : Seen) (own : List Placed) → Since old now → Made now own new → Fits new h → deeds h old.caller now.length new.length ≡ own
own_of h old now new own since made f = ap (λ n. deeds h n now.length new.length) (sym since.caller) ∙ made.made h f

pub one_more : (c : Admission) (ds : List Data) (d : Data) (old now new : Seen) (before mid after : List Stored) (outs : List Outcome) (outcome : Outcome)
    → SoFar c ds old before outs now mid → ElementPut c d now mid outcome new after → SoFar c (ds ++ d ∷ []) old before (outs ++ outcome ∷ []) new after
one_more c ds d old now new before mid after outs outcome so x = record {
  own = so.own ++ x.own;
  made = made_joined old now new so.own x.own so.made x.made;
  put = record {
    stored = so.put.stored ++ x.stored;
    ran = λ h l f. then_asked d outcome x.stored (so.put.ran h l (x.made.since.extends.fits h f)) x.made.since.extends.length
        (subst (λ (own : List Placed). ReadAsked c (element_of d) (first new.length h) own outcome x.stored) (sym (own_of h old now new x.own so.made.since x.made f)) (x.asked h l f));
    rows = rows_joined before mid after so.put.stored x.stored so.put.rows x.rows;
  };
}

-- what was seen later is so since the start
pub since_start : (c : Admission) (ds : List Data) (old now new : Seen) (before after : List Stored) (outs : List Outcome) (own : List Placed) → SoFar c ds old before outs now after → Made now own new → Since old new
since_start c ds old now new before after outs own so made = (made_joined old now new so.own own so.made made).since

-- one was begun behind them
pub begun_more : (c : Admission) (ds rest : List Data) (d : Data) (all : List Data) (old now new : Seen) (before mid after : List Stored) (outs : List Outcome)
    → all ≡ ds ++ d ∷ rest → SoFar c ds old before outs now mid → ElementBegun c d now new → after ≡ mid → ElementsBegun c all old before new after
begun_more c ds rest d all old now new before mid after outs is so x same = record {
  stored = so.put.stored;
  begun = λ h l f. record {
    done = ds;
    rest = d ∷ rest;
    outs = outs;
    last = now.length;
    all = is;
    ran = so.put.ran h l (x.made.since.extends.fits h f);
    in_range = x.made.since.extends.length;
    begun = subst (λ (own : List Placed). ReadBegun c (element_of d) (first new.length h) own) (sym (own_of h old now new x.own so.made.since x.made f)) (x.begun h l f);
  };
  rows = subst (λ (q : List Stored). HasRows before so.put.stored q) (sym same) so.put.rows;
}

-- no more were
pub ended_there : (c : Admission) (ds rest all : List Data) (old new : Seen) (before after : List Stored) (outs : List Outcome)
    → all ≡ ds ++ rest → SoFar c ds old before outs new after → ElementsBegun c all old before new after
ended_there c ds rest all old new before after outs is so = record {
  stored = so.put.stored;
  begun = λ h l f. record {
    done = ds;
    rest = rest;
    outs = outs;
    last = new.length;
    all = is;
    ran = so.put.ran h l f;
    in_range = omega arith;
    begun = subst (λ (own : List Placed). FirstBegun c rest (first new.length h) own) (sym (own_of h old new new [] so.made.since (nothing_made new) f)) (first_nothing c rest (first new.length h));
  };
  rows = so.put.rows;
}

-- one more was asked, and no more were
pub ended_more : (c : Admission) (ds rest : List Data) (d : Data) (all : List Data) (old now new : Seen) (before mid after : List Stored) (outs : List Outcome) (outcome : Outcome)
    → all ≡ (ds ++ d ∷ []) ++ rest → SoFar c ds old before outs now mid → ElementPut c d now mid outcome new after → ElementsBegun c all old before new after
ended_more c ds rest d all old now new before mid after outs outcome is so x =
    ended_there c (ds ++ d ∷ []) rest all old new before after (outs ++ outcome ∷ []) is (one_more c ds d old now new before mid after outs outcome so x)
