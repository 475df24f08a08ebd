-- What is kept stays the lines of what was made, step by step.
use Rattle.std.proofs.Common.{◌≡◌, ℕ, ◌+◌, ◌≤◌, List, [], ◌∷◌, ◌++◌, length, rules, refl, sym, ap, subst, ◌∙◌, arith}
use Rattle.std.specs.Prelude.{Result, Ok, Err, IfOk, OnOk, OnErr, Option, None, Some, filter}
use Rattle.std.specs.List.{flat_map}
use Rattle.std.specs.Global.{Vec}
use Rattle.std.proofs.lemmas.Grind.{flat_map-append}
use Rattle.std.proofs.lemmas.List.{length-append}
use Rattle.tsd_base.specs.Points.{DataPoint}
use Rattle.tsd_hooks.specs.FedPoints.{is_under}
use Rattle.tsd_hooks.specs.PointText.{point_text}
use Rattle.cell_model.specs.declared.events.Step.{Step}
use Rattle.cell_model.specs.declared.events.Reply.{Reply}
use Rattle.cell_model.specs.declared.events.Placed.{Placed}
use Rattle.cell_model.specs.Seen.{Seen, Waited, Stepped, IsPossible, InEach}
use Rattle.cell_model.specs.Deeds.{placed}
use Rattle.cell_laws.proofs.CallerLemmas.{made_joined, nothing_made, step_made, wait_made}
use Rattle.point_feed.specs.FedEntries.{AreLines, FeedsSince, fed, fed_by, fed_points, lines_of}
use Rattle.point_feed.specs.KeptLines.{IsLineUnder, line_count, line_text}

no_more : {A : Type 0} (xs : List A) → xs ++ [] ≡ xs
no_more xs = search rules

-- one more entry
one_more : (prefix : List ℕ) (list : List Placed) (d : Placed) → fed_points prefix (list ++ d ∷ []) ≡ fed_points prefix list ++ fed_by prefix d.entry.step
one_more prefix list d = flat_map-append (λ (d : Placed). fed_by prefix d.entry.step) list (d ∷ []) ∙ ap (λ (ps : List DataPoint). fed_points prefix list ++ ps) (no_more (fed_by prefix d.entry.step))

lines_more : (prefix : List ℕ) (list : List Placed) (d : Placed) (text text' : List ℕ) (count count' : ℕ) → AreLines (fed_points prefix list) text count
    → text' ≡ text ++ lines_of (fed_by prefix d.entry.step) → count' ≡ count + length (fed_by prefix d.entry.step) → AreLines (fed_points prefix (list ++ d ∷ [])) text' count'
lines_more prefix list d text text' count count' l t c = subst (λ (ps : List DataPoint). AreLines ps text' count') (sym (one_more prefix list d)) record {
  text_is = t ∙ ap (λ xs. xs ++ lines_of (fed_by prefix d.entry.step)) l.text_is ∙ sym (flat_map-append point_text (fed_points prefix list) (fed_by prefix d.entry.step));
  count_is = c ∙ ap (λ n. n + length (fed_by prefix d.entry.step)) l.count_is ∙ sym (length-append (fed_points prefix list) (fed_by prefix d.entry.step));
}

-- at first nothing was made
pub begins_fed : (prefix : List ℕ) (start seen : Seen) → seen ≡ start → FeedsSince prefix start seen [] 0
begins_fed prefix start seen is = subst (λ (s : Seen). FeedsSince prefix start s [] 0) (sym is) ([], nothing_made start, record { text_is = refl; count_is = refl })

module _ (prefix : List ℕ) (start old new : Seen) where
  -- a step that was refused adds nothing
  pub waits_fed : (text text' : List ℕ) (count count' : ℕ) → text' ≡ text → count' ≡ count → Waited old new → (IsPossible old → IsPossible new) → FeedsSince prefix start old text count → FeedsSince prefix start new text' count'
  waits_fed text text' count count' t c w lives (list, made, l) = (
    list ++ [],
    made_joined start old new list [] made (wait_made old new w lives),
    subst (λ (xs : List Placed). AreLines (fed_points prefix xs) text' count') (sym (no_more list)) record { text_is = t ∙ l.text_is; count_is = c ∙ l.count_is },
  )

  -- a step that was made adds the line of its point
  pub steps_fed : (step : Step) (reply : Reply) (text text' : List ℕ) (count count' : ℕ) → text' ≡ text ++ lines_of (fed_by prefix step) → count' ≡ count + length (fed_by prefix step) → Stepped old step reply new → IsPossible new
      → FeedsSince prefix start old text count → FeedsSince prefix start new text' count'
  steps_fed step reply text text' count count' t c s possible (list, made, l) = (
    list ++ placed new.length (record { caller = old.caller; step = step; reply = reply }) ∷ [],
    made_joined start old new list (placed new.length (record { caller = old.caller; step = step; reply = reply }) ∷ []) made (step_made old new step reply s possible),
    lines_more prefix list (placed new.length (record { caller = old.caller; step = step; reply = reply })) text text' count count' l t c,
  )

  -- a step that puts no point, made or refused
  pub passes_fed : {T E : Type 0} (step : Step) (reply : T → Reply) (r : Result T E) (text : List ℕ) (count : ℕ) → fed_by prefix step ≡ [] → IfOk r (λ x. Stepped old step (reply x) new) → OnErr r (Waited old new)
      → OnOk r (IsPossible new) → OnErr r (IsPossible old → IsPossible new) → FeedsSince prefix start old text count → FeedsSince prefix start new text count
  passes_fed step reply (Ok x) text count none done waited possible lives f =
      steps_fed step (reply x) text text count count (sym (no_more text) ∙ ap (λ (ps : List DataPoint). text ++ lines_of ps) (sym none)) (plus_none count (length (fed_by prefix step)) (ap (λ (ps : List DataPoint). length ps) none)) done possible f
    where
      plus_none : (n m : ℕ) → m ≡ 0 → n ≡ n + m
      plus_none n m z = omega (arith, z)
  passes_fed step reply (Err e) text count none done waited possible lives f = waits_fed text text count count refl refl waited lives f

-- the line of a point is what is fed by its step
under_text : (prefix : List ℕ) (p : DataPoint) (line : Option (Vec ℕ)) → IsLineUnder prefix p line → line_text line ≡ lines_of (filter (is_under prefix) (p ∷ []))
under_text prefix p None misses = rw misses refl
under_text prefix p (Some line) (passes, is) = rw passes (is ∙ sym (no_more (point_text p)))

under_count : (prefix : List ℕ) (p : DataPoint) (line : Option (Vec ℕ)) → IsLineUnder prefix p line → line_count line ≡ length (filter (is_under prefix) (p ∷ []))
under_count prefix p None misses = rw misses refl
under_count prefix p (Some line) (passes, is) = rw passes refl

-- ---- a line has a byte at least

behind_some : (xs ys : List ℕ) (y : ℕ) → 1 ≤ length (xs ++ y ∷ ys)
behind_some [] ys y = omega arith
behind_some (x ∷ xs) ys y = omega arith

some_bytes : (p : DataPoint) → 1 ≤ length (point_text p)
some_bytes p = behind_some p.metric _ 32

some_items : (p : DataPoint) (xs : List ℕ) → xs ≡ point_text p → 1 ≤ length xs
some_items p xs is = subst (λ (ys : List ℕ). 1 ≤ length ys) (sym is) (some_bytes p)

pub some_line : (prefix : List ℕ) (p : DataPoint) (line : Option (Vec ℕ)) → IsLineUnder prefix p line → line_count line ≤ length (line_text line)
some_line prefix p None misses = omega arith
some_line prefix p (Some line) (passes, is) = some_items p line.items is

few_lines : (points : List DataPoint) → length points ≤ length (lines_of points)
few_lines [] = omega arith
few_lines (p ∷ ps) =
    let one = some_bytes p in
    let rest = few_lines ps in
    let both = length-append (point_text p) (lines_of ps) in
    omega (arith, one, rest, both)

pub few_fed : (prefix : List ℕ) (start seen : Seen) (text : List ℕ) (count : ℕ) → FeedsSince prefix start seen text count → count ≤ length text
few_fed prefix start seen text count (list, made, l) =
    subst (λ (n : ℕ). n ≤ length text) (sym l.count_is) (subst (λ (xs : List ℕ). length (fed_points prefix list) ≤ length xs) (sym l.text_is) (few_lines (fed_points prefix list)))

-- ---- the steps that put points

module _ (prefix : List ℕ) (start old new : Seen) (p : DataPoint) (step : Step) (fed_is : fed_by prefix step ≡ filter (is_under prefix) (p ∷ [])) where
  -- a put or an append, made or refused
  pub puts_fed : {E : Type 0} (r : Result (Unit {0}) E) (reply : Reply) (line : Option (Vec ℕ)) (text text' : List ℕ) (count count' : ℕ) → IsLineUnder prefix p line
      → OnOk r (text' ≡ text ++ line_text line) → OnOk r (count' ≡ count + line_count line) → OnErr r (text' ≡ text) → OnErr r (count' ≡ count)
      → OnOk r (Stepped old step reply new) → OnErr r (Waited old new) → OnOk r (IsPossible new) → OnErr r (IsPossible old → IsPossible new)
      → FeedsSince prefix start old text count → FeedsSince prefix start new text' count'
  puts_fed (Ok x) reply line text text' count count' is t c ts cs done waited possible lives f =
      steps_fed prefix start old new step reply text text' count count' (t ∙ ap (λ xs. text ++ xs) (under_text prefix p line is ∙ ap lines_of (sym fed_is))) (c ∙ ap (λ n. count + n) (under_count prefix p line is ∙ ap (λ (ps : List DataPoint). length ps) (sym fed_is))) done possible f
  puts_fed (Err e) reply line text text' count count' is t c ts cs done waited possible lives f = waits_fed prefix start old new text text' count count' ts cs waited lives f

-- nothing was done
pub same_fed : (prefix : List ℕ) (start seen : Seen) (text text' : List ℕ) (count : ℕ) → text' ≡ text → FeedsSince prefix start seen text count → FeedsSince prefix start seen text' count
same_fed prefix start seen text text' count is f = subst (λ (xs : List ℕ). FeedsSince prefix start seen xs count) (sym is) f

-- what was made since is what the history has of this caller in between
pub since_fed : (prefix : List ℕ) (start seen : Seen) (text : List ℕ) (count : ℕ) → FeedsSince prefix start seen text count → InEach seen (λ h. AreLines (fed h start.caller start.length seen.length prefix) text count)
since_fed prefix start seen text count (list, made, l) = λ h lawful fits. subst (λ (xs : List Placed). AreLines (fed_points prefix xs) text count) (sym (made.made h fits)) l
