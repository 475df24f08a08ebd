-- The elements of a list, one turn after the other.
use Rattle.std.proofs.Common.{◌≡◌, ℕ, ◌+◌, ◌<◌, List, [], ◌∷◌, ◌++◌, drop, length, refl, sym, ap, subst, ◌∙◌, append_assoc, append-nil, length-append, Option, Vec, Global}
use Rattle.std.proofs.lemmas.List.{map_push}
use Rattle.serde_json.specs.Data.{Data}
use Rattle.cell_model.specs.declared.answers.Stored.{Stored}
use Rattle.cell_model.specs.Seen.{Seen}
use Rattle.cell_model.specs.Deeds.{Made, Since}
use Rattle.cell_laws.proofs.CallerLemmas.{since_joined}
use Rattle.point_put.specs.Admissions.{Admission}
use Rattle.put_bodies.specs.BodyLines.{AreLinesOf}
use Rattle.http_put.specs.PutElements.{ElementsBegun, ElementsPut, Outcome, text_of, texts_of}
use Rattle.http_put.specs.PutLines.{IsListOf, ListBegun, ListPut, RestPut, TurnBegun, TurnMade}
use Rattle.http_put.specs.declared.put_lines.Turn.{Turn}
use Rattle.http_put.specs.declared.put_lines.Turn.TheVariants.{Told, Other, End}
use Rattle.http_put.proofs.ElementRuns.{SoFar, begun_more, ended_more, none_so_far, one_more}
use Rattle.http_put.proofs.JoinedRuns.{all_put, rest_begun, some_behind}

abbrev Outs : Type 0
Outs = List (Option (Vec ℕ Global))

-- the first elements of the list were put, and the ahead go on with the rest
pub record ItemsSoFar (c : Admission) (body : List ℕ) (ahead : List (List ℕ)) (old : Seen) (before : List Stored) (outs : Outs) (now : Seen) (after : List Stored) : Type 0 where
  pub done : List Data
  pub rest : List Data
  pub list : IsListOf body (done ++ rest)
  pub goes : AreLinesOf ahead rest
  pub counted : length done ≡ length outs
  pub so_far : SoFar c done old before (texts_of outs) now after

-- the lines ahead, by another name of the place
pub asked : (lines : List (List ℕ)) (rest : List Data) (n at : ℕ) → at ≡ n → AreLinesOf (drop n lines) rest → AreLinesOf (drop at lines) rest
asked lines rest n at same are = subst (λ k. AreLinesOf (drop k lines) rest) (sym same) are

pub items_start : (c : Admission) (body : List ℕ) (ahead : List (List ℕ)) (s : Seen) (before : List Stored) (outs : Outs) → outs ≡ [] → (elements : List Data) × IsListOf body elements × AreLinesOf ahead elements → ItemsSoFar c body ahead s before outs s before
items_start c body ahead s before outs none (elements, list, goes) =
    subst (λ (o : Outs). ItemsSoFar c body ahead s before o s before) (sym none) (record { done = []; rest = elements; list = list; goes = goes; counted = refl; so_far = none_so_far c s before })

push_text : (outs : Outs) (out : Option (Vec ℕ Global)) → texts_of (outs ++ out ∷ []) ≡ texts_of outs ++ text_of out ∷ []
push_text outs out = map_push text_of outs out

regrouped : (body : List ℕ) (done rest more : List Data) (d : Data) → IsListOf body (done ++ rest) → rest ≡ d ∷ more → IsListOf body ((done ++ d ∷ []) ++ more)
regrouped body done rest more d list is = subst (IsListOf body) (ap (λ (x : List Data). done ++ x) is ∙ sym (append_assoc done (d ∷ []) more)) list

pub items_told : (c : Admission) (body : List ℕ) (ahead later : List (List ℕ)) (old now new : Seen) (before queued after : List Stored) (outs pushed : Outs) (out : Option (Vec ℕ Global)) (turn : Turn) (x : ItemsSoFar c body ahead old before outs now queued)
    → turn ≡ Told out → pushed ≡ outs ++ out ∷ [] → TurnMade c x.rest now queued turn later new after → ItemsSoFar c body later old before pushed new after
items_told c body ahead later old now new before queued after outs pushed out turn x is push made = at (subst (λ (t : Turn). TurnMade c x.rest now queued t later new after) is made)
  where
    at : TurnMade c x.rest now queued (Told out) later new after → ItemsSoFar c body later old before pushed new after
    at (d, more, first, goes, put) = record {
      done = x.done ++ d ∷ [];
      rest = more;
      list = regrouped body x.done x.rest more d x.list first;
      goes = goes;
      counted = length-append x.done (d ∷ []) ∙ ap (λ n. n + 1) x.counted ∙ sym (ap length push ∙ length-append outs (out ∷ []));
      so_far = subst (λ (o : List Outcome). SoFar c (x.done ++ d ∷ []) old before o new after) (sym (ap texts_of push ∙ push_text outs out)) (one_more c x.done d old now new before queued after (texts_of outs) (text_of out) x.so_far put);
    }

-- there is none more
pub items_end : (c : Admission) (body : List ℕ) (ahead later : List (List ℕ)) (old now new : Seen) (before queued after : List Stored) (outs : Outs) (turn : Turn) (x : ItemsSoFar c body ahead old before outs now queued)
    → turn ≡ End → TurnMade c x.rest now queued turn later new after → ListPut c body old before outs new after
items_end c body ahead later old now new before queued after outs turn x is made = at (subst (λ (t : Turn). TurnMade c x.rest now queued t later new after) is made)
  where
    at : TurnMade c x.rest now queued End later new after → ListPut c body old before outs new after
    at (none, seen, same) = (
      x.done,
      subst (IsListOf body) (ap (λ (r : List Data). x.done ++ r) none ∙ append-nil x.done) x.list,
      subst (λ (s : Seen). ElementsPut c x.done old before (texts_of outs) s after) (sym seen) (subst (λ (q : List Stored). ElementsPut c x.done old before (texts_of outs) now q) (sym same) x.so_far.put),
    )

-- the element has no line of a point, and the rest were put by their values
pub record Stood (c : Admission) (done rest : List Data) (old : Seen) (before : List Stored) (outs : Outs) (mid : Seen) (queued : List Stored) : Type 0 where
  pub now : Seen
  pub so_far : SoFar c done old before (texts_of outs) now queued
  pub quiet : Made now [] mid
  pub some : 0 < length rest

pub items_stand : (c : Admission) (body : List ℕ) (ahead later : List (List ℕ)) (old now mid : Seen) (before queued after : List Stored) (outs : Outs) (turn : Turn) (x : ItemsSoFar c body ahead old before outs now queued)
    → turn ≡ Other → TurnMade c x.rest now queued turn later mid after → Stood c x.done x.rest old before outs mid after
items_stand c body ahead later old now mid before queued after outs turn x is made = at (subst (λ (t : Turn). TurnMade c x.rest now queued t later mid after) is made)
  where
    at : TurnMade c x.rest now queued Other later mid after → Stood c x.done x.rest old before outs mid after
    at (d, more, first, quiet, same) = record {
      now = now;
      so_far = subst (λ (q : List Stored). SoFar c x.done old before (texts_of outs) now q) (sym same) x.so_far;
      quiet = quiet;
      some = subst (λ (r : List Data). 0 < length r) (sym first) (some_behind [] d more);
    }

pub rest_stored : (c : Admission) (body : List ℕ) (done rest : List Data) (old mid new : Seen) (before queued after : List Stored) (outs all : Outs) → IsListOf body (done ++ rest) → Stood c done rest old before outs mid queued → Since mid new
    → RestPut c rest mid queued outs all new after → ListPut c body old before all new after
rest_stored c body done rest old mid new before queued after outs all list s later put = (done ++ rest, list, all_put c done rest old s.now mid new before queued after outs all s.so_far s.quiet later s.some put)

pub rest_broken : (c : Admission) (body : List ℕ) (done rest : List Data) (old mid new : Seen) (before queued after : List Stored) (outs : Outs) → IsListOf body (done ++ rest) → Stood c done rest old before outs mid queued → Since mid new
    → ElementsBegun c rest mid queued new after → ListBegun c body old before new after
rest_broken c body done rest old mid new before queued after outs list s later begun = (done ++ rest, list, rest_begun c done rest old s.now mid new before queued after (texts_of outs) s.so_far s.quiet later begun)

pub rest_since : (c : Admission) (done rest : List Data) (old mid new : Seen) (before queued : List Stored) (outs : Outs) → Stood c done rest old before outs mid queued → Since mid new → Since old new
rest_since c done rest old mid new before queued outs s later = since_joined old mid new (since_joined old s.now mid s.so_far.made.since s.quiet.since) later

-- whatever came of the turn, nothing seen is lost
pub turn_since : (c : Admission) (body : List ℕ) (ahead later : List (List ℕ)) (old now new : Seen) (before queued after : List Stored) (outs : Outs) (turn : Turn) (x : ItemsSoFar c body ahead old before outs now queued) → TurnMade c x.rest now queued turn later new after → Since old new
turn_since c body ahead later old now new before queued after outs (Told out) x (d, more, first, goes, put) = since_joined old now new x.so_far.made.since put.made.since
turn_since c body ahead later old now new before queued after outs Other x (d, more, first, quiet, same) = since_joined old now new x.so_far.made.since quiet.since
turn_since c body ahead later old now new before queued after outs End x (none, seen, same) = subst (λ (s : Seen). Since old s) (sym seen) x.so_far.made.since

-- the put of an element ended early
pub items_broken : (c : Admission) (body : List ℕ) (ahead : List (List ℕ)) (old now new : Seen) (before queued after : List Stored) (outs : Outs) (x : ItemsSoFar c body ahead old before outs now queued)
    → TurnBegun c x.rest now new → after ≡ queued → ListBegun c body old before new after
items_broken c body ahead old now new before queued after outs x (d, more, first, begun) same =
    (x.done ++ x.rest, x.list, begun_more c x.done more d (x.done ++ x.rest) old now new before queued after (texts_of outs) (ap (λ (r : List Data). x.done ++ r) first) x.so_far begun same)

-- there was no memory for what is told of it
pub items_untold : (c : Admission) (body : List ℕ) (ahead later : List (List ℕ)) (old now new : Seen) (before queued after : List Stored) (outs : Outs) (out : Option (Vec ℕ Global)) (turn : Turn) (x : ItemsSoFar c body ahead old before outs now queued)
    → turn ≡ Told out → TurnMade c x.rest now queued turn later new after → ListBegun c body old before new after
items_untold c body ahead later old now new before queued after outs out turn x is made = at (subst (λ (t : Turn). TurnMade c x.rest now queued t later new after) is made)
  where
    at : TurnMade c x.rest now queued (Told out) later new after → ListBegun c body old before new after
    at (d, more, first, goes, put) = (
      x.done ++ x.rest,
      x.list,
      ended_more c x.done more d (x.done ++ x.rest) old now new before queued after (texts_of outs) (text_of out)
          (ap (λ (r : List Data). x.done ++ r) first ∙ sym (append_assoc x.done (d ∷ []) more)) x.so_far put,
    )
