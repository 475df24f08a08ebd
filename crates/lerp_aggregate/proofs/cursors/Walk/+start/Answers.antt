use Rattle.std.proofs.Common.{◌≡◌, ◌+◌, ◌-◌, ◌/◌, ◌++◌, ◌∙◌, List, ℕ, ℤ, take, drop, Result, Ok, Err, sym, ap, arith}
use Rattle.std.specs.Prelude.{IfOk}
use Rattle.std.proofs.Math.Seq.{take-add}
use Rattle.std.proofs.lemmas.List.{drop-drop}
use Rattle.lerp_aggregate.specs.Walks.{walked}
use Rattle.lerp_aggregate.proofs.cursors.Walk.+start.Goals as goal

if_ok_then : {T E : Type 0} (P Q : T → Type 0) (r : Result T E) → ((x : T) → P x → Q x) → IfOk r P → IfOk r Q
if_ok_then P Q (Ok x) onward h = onward x h
if_ok_then P Q (Err e) onward h = tt

-- two parts that follow one another
halves : (first n m count : ℕ) (xs left right : List (List (ℕ × ℤ))) → left ≡ take n (drop first xs) → right ≡ take m (drop (first + n) xs) → n + m ≡ count → left ++ right ≡ take count (drop first xs)
halves first n m count xs left right l r whole =
    (λ i. l i ++ (r ∙ ap (take m) (sym (drop-drop n first xs))) i) ∙ sym (take-add n m (drop first xs)) ∙ ap (λ k. take k (drop first xs)) whole

pub returns-clause-walked : goal.returns-clause-walked
returns-clause-walked t c =
    let list = c.args.list.now in
    let half = c.args.count / 2 in
    let l = c.in_ok-left.ensures.walked in
    let r = c.in_ok-right.ensures.walked in
    if_ok_then (λ walk. walked list walk ≡ walked list c.in_ok-left.left ++ walked list c.in_ok-right.right) (λ walk. walked list walk ≡ take c.args.count (drop c.args.first list)) c.both.result
    (λ walk h. h ∙ halves c.args.first half (c.args.count - half) c.args.count list (walked list c.in_ok-left.left) (walked list c.in_ok-right.right) l r (omega arith)) (c.both.ensures.walked list)

pub returns-clause-stand : goal.returns-clause-stand
returns-clause-stand t c = c.both.ensures.stand c.args.list.now 0 c.in_ok-left.ensures.stand c.in_ok-right.ensures.stand
