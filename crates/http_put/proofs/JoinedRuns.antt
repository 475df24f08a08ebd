-- Elements that were asked behind others.
use Rattle.std.proofs.Common.{◌≡◌, ℕ, ◌<◌, ◌≤◌, List, [], ◌∷◌, ◌++◌, length, refl, sym, ap, subst, ◌∙◌, append_assoc, append-nil, arith, Option, Vec, Global, Result, Ok, Err, IfErr}
use Rattle.std.proofs.lemmas.List.{map-append}
use Rattle.serde_json.specs.Data.{Data}
use Rattle.cell_model.specs.declared.answers.RowsFault.{RowsFault}
use Rattle.cell_model.specs.declared.answers.RowsFault.TheVariants as rows_fault
use Rattle.cell_model.specs.declared.answers.Stored.{Stored}
use Rattle.cell_model.specs.declared.events.Placed.{Placed}
use Rattle.cell_model.specs.History.{History, first}
use Rattle.cell_model.specs.Seen.{Seen, Fits}
use Rattle.cell_model.specs.Deeds.{deeds, Made, Since}
use Rattle.cell_model.specs.Stops.{RoseIf, is_stop}
use Rattle.cell_laws.proofs.CallerLemmas.{deeds_joined, nothing_made}
use Rattle.point_put.specs.Admissions.{Admission}
use Rattle.compactor.proofs.CallerLemmas.{rows_joined}
use Rattle.http_put.specs.PutElements.{ElementAsked, ElementsBegun, ElementsPut, FirstBegun, Outcome, PutBegun, Ran, texts_of, text_of}
use Rattle.http_put.specs.PutElements.Ran.{start, then_asked}
use Rattle.http_put.specs.PutLines.{RestPut}
use Rattle.http_put.proofs.ElementRuns.{SoFar, ended_there, none_so_far}

pub some_behind : {X : Type 0} (xs : List X) (y : X) (ys : List X) → 0 < length (xs ++ y ∷ ys)
some_behind [] y ys = omega arith
some_behind (x ∷ xs) y ys = omega arith

-- the caller's entries since an earlier length, where it made none up to the later one
since_earlier : (h : History) (caller e n e2 : ℕ) → e ≤ n → n ≤ e2 → deeds h caller e n ≡ [] → deeds h caller n e2 ≡ deeds h caller e e2
since_earlier h caller e n e2 le later none = sym (deeds_joined h caller e n e2 le later ∙ ap (λ (l : List Placed). l ++ deeds h caller n e2) none)

-- what was asked later was asked behind what was asked before
pub runs_joined : {c : Admission} {h : History} {caller n e n1 e2 : ℕ} {ds more : List Data} {outs others : List Outcome} {rows stored : List Stored} → Ran c h caller n ds outs rows e → e ≤ n1 → deeds h caller e n1 ≡ []
    → Ran c h caller n1 more others stored e2 → 0 < length more → Ran c h caller n (ds ++ more) (outs ++ others) (rows ++ stored) e2
runs_joined ran le none start some = absurd (omega (arith, some))
runs_joined {c = c} {h = h} {caller = caller} {e = e} {n1 = n1} ran le none (then_asked {e2 = e2} d outcome stored start later asked) some =
    then_asked d outcome stored ran (omega (arith, le, later)) (subst (λ (own : List Placed). ElementAsked c d (first e2 h) own outcome stored) (since_earlier h caller e n1 e2 le later none) asked)
runs_joined {c = c} {h = h} {caller = caller} {n = n} {ds = ds} {outs = outs} {rows = rows} ran le none (then_asked {done = done} {outs = others} {rows = more} {e2 = e2} d outcome stored (then_asked {done = done2} d2 o2 s2 ran2 le2 asked2) later asked) some =
    subst (λ (x : List Data × List Outcome × List Stored). Ran c h caller n x.0 x.1 x.2 e2) (λ i. (append_assoc ds done (d ∷ []) i, append_assoc outs others (outcome ∷ []) i, append_assoc rows more stored i))
    (then_asked d outcome stored (runs_joined ran le none (then_asked d2 o2 s2 ran2 le2 asked2) (some_behind done2 d2 [])) later asked)

-- where none was asked later, the later length is the one from which it was begun
begun_joined : {c : Admission} {h : History} {caller n e n1 last : ℕ} {ds done : List Data} {outs others : List Outcome} {rows stored : List Stored} (rest elements : List Data) (n2 : ℕ) → Ran c h caller n ds outs rows e → e ≤ n1 → deeds h caller e n1 ≡ []
    → Ran c h caller n1 done others stored last → elements ≡ done ++ rest → last ≤ n2 → FirstBegun c rest (first n2 h) (deeds h caller last n2) → PutBegun c h caller n (ds ++ elements) (rows ++ stored) n2
begun_joined {c = c} {h = h} {caller = caller} {n = n} {e = e} {n1 = n1} {ds = ds} {outs = outs} {rows = rows} rest elements n2 ran le none start is within begun = record {
  done = ds;
  rest = rest;
  outs = outs;
  last = e;
  all = ap (λ (x : List Data). ds ++ x) is;
  ran = subst (λ (x : List Stored). Ran c h caller n ds outs x e) (sym (append-nil rows)) ran;
  in_range = omega (arith, le, within);
  begun = subst (λ (own : List Placed). FirstBegun c rest (first n2 h) own) (since_earlier h caller e n1 n2 le within none) begun;
}
begun_joined {ds = ds} {outs = outs} rest elements n2 ran le none (then_asked {done = done} {outs = others} {e2 = e2} d outcome stored ran2 later asked) is within begun = record {
  done = ds ++ (done ++ d ∷ []);
  rest = rest;
  outs = outs ++ (others ++ outcome ∷ []);
  last = e2;
  all = ap (λ (x : List Data). ds ++ x) is ∙ sym (append_assoc ds (done ++ d ∷ []) rest);
  ran = runs_joined ran le none (then_asked d outcome stored ran2 later asked) (some_behind done d []);
  in_range = within;
  begun = begun;
}

-- ---- what a caller sees of both

none_between : (old now mid : Seen) (own : List Placed) (h : History) → Made old own now → Made now [] mid → Fits mid h → deeds h old.caller now.length mid.length ≡ []
none_between old now mid own h made quiet f = ap (λ n. deeds h n now.length mid.length) (sym made.since.caller) ∙ quiet.made h f

by_caller : {c : Admission} {h : History} {caller caller2 n e : ℕ} {ds : List Data} {outs : List Outcome} {rows : List Stored} → caller2 ≡ caller → Ran c h caller2 n ds outs rows e → Ran c h caller n ds outs rows e
by_caller {c = c} {h = h} {n = n} {e = e} {ds = ds} {outs = outs} {rows = rows} same ran = subst (λ k. Ran c h k n ds outs rows e) same ran

-- the rest were put behind those that were
pub rest_put : (c : Admission) (done rest : List Data) (old now mid new : Seen) (before queued after : List Stored) (outs others : List Outcome) → SoFar c done old before outs now queued → Made now [] mid → Since mid new → 0 < length rest
    → ElementsPut c rest mid queued others new after → ElementsPut c (done ++ rest) old before (outs ++ others) new after
rest_put c done rest old now mid new before queued after outs others so quiet later some put = record {
  stored = so.put.stored ++ put.stored;
  ran = λ h l f.
      let earlier = later.extends.fits h f in
      runs_joined (so.put.ran h l (quiet.since.extends.fits h earlier)) quiet.since.extends.length (none_between old now mid so.own h so.made quiet earlier)
      (by_caller (quiet.since.caller ∙ so.made.since.caller) (put.ran h l f)) some;
  rows = rows_joined before queued after so.put.stored put.stored so.put.rows put.rows;
}

-- the rest were begun behind those that were put
pub rest_begun : (c : Admission) (done rest : List Data) (old now mid new : Seen) (before queued after : List Stored) (outs : List Outcome) → SoFar c done old before outs now queued → Made now [] mid → Since mid new
    → ElementsBegun c rest mid queued new after → ElementsBegun c (done ++ rest) old before new after
rest_begun c done rest old now mid new before queued after outs so quiet later begun = record {
  stored = so.put.stored ++ begun.stored;
  begun = λ h l f.
      let earlier = later.extends.fits h f in
      let b = begun.begun h l f in
      let same : mid.caller ≡ old.caller = quiet.since.caller ∙ so.made.since.caller in
      begun_joined b.rest rest new.length (so.put.ran h l (quiet.since.extends.fits h earlier)) quiet.since.extends.length (none_between old now mid so.own h so.made quiet earlier)
      (by_caller same b.ran) b.all b.in_range (subst (λ k. FirstBegun c b.rest (first new.length h) (deeds h k b.last new.length)) same b.begun);
  rows = rows_joined before queued after so.put.stored begun.stored so.put.rows begun.rows;
}

-- the same of what is told as texts
pub all_put : (c : Admission) (done rest : List Data) (old now mid new : Seen) (before queued after : List Stored) (outs all : List (Option (Vec ℕ Global))) → SoFar c done old before (texts_of outs) now queued → Made now [] mid → Since mid new
    → 0 < length rest → RestPut c rest mid queued outs all new after → ElementsPut c (done ++ rest) old before (texts_of all) new after
all_put c done rest old now mid new before queued after outs all so quiet later some put =
    subst (λ (x : List Outcome). ElementsPut c (done ++ rest) old before x new after) (sym (ap texts_of put.all ∙ map-append text_of outs put.more))
    (rest_put c done rest old now mid new before queued after (texts_of outs) (texts_of put.more) so quiet later some put.put)

-- ---- an end with all that were put, and with none

pub ended_all : (c : Admission) (elements : List Data) (old new : Seen) (before after : List Stored) (outcomes : List Outcome) → Since old new → ElementsPut c elements old before outcomes new after → ElementsBegun c elements old before new after
ended_all c elements old new before after outcomes since put = record {
  stored = put.stored;
  begun = λ h l f. record {
    done = elements;
    rest = [];
    outs = outcomes;
    last = new.length;
    all = sym (append-nil elements);
    ran = put.ran h l f;
    in_range = omega arith;
    begun = ap (λ n. deeds h n new.length new.length) (sym since.caller) ∙ (nothing_made new).made h f;
  };
  rows = put.rows;
}

pub nothing_begun : (c : Admission) (elements : List Data) (s : Seen) (before : List Stored) → ElementsBegun c elements s before s before
nothing_begun c elements s before = ended_there c [] elements elements s s before before [] refl (none_so_far c s before)

pub memory_any : {T : Type 0} (before now : ℕ) (r : Result T RowsFault) → IfErr r (λ e. e ≡ rows_fault.OutOfMemory) → IfErr r (λ e. RoseIf (is_stop e) before now)
memory_any before now (Ok x) e = tt
memory_any before now (Err f) e = subst (λ (fault : RowsFault). RoseIf (is_stop fault) before now) (sym e) tt
