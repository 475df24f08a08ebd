-- Lines, one behind the other in one text, and the elements that they are of.
use Rattle.std.proofs.Common.{◌≡◌, ℕ, zero, suc, ◌+◌, ◌-◌, ◌<◌, ◌≤◌, List, [], ◌∷◌, ◌++◌, length, take, drop, get_or, Option, refl, sym, ap, subst, ◌∙◌, arith, length-append}
use Rattle.std.specs.Prelude.{MatchOption}
use Rattle.std.specs.Borrow.{Bor}
use Rattle.std.proofs.lemmas.List.{drop-append-le, drop_at, take-append-le, take_all, length-drop}
use Rattle.serde_json.specs.Data.{Data}
use Rattle.put_bodies.specs.BodyLines.{AreLinesOf, Rise, lines_in, start_of}
use Rattle.put_bodies.specs.ElementLines.{IsLineOf}

rise_most : (from : ℕ) (ends : List ℕ) (size : ℕ) → Rise from ends size → from ≤ size
rise_most from [] size h = omega arith
rise_most from (e ∷ ends) size h = omega arith

piece_stays : (from end : ℕ) (text line : List ℕ) → from ≤ end → end ≤ length text → take (end - from) (drop from (text ++ line)) ≡ take (end - from) (drop from text)
piece_stays from end text line le fits =
    ap (take (end - from)) (drop-append-le from text line (omega arith)) ∙ take-append-le (end - from) (drop from text) line (omega (arith, length-drop from text))

last_piece : (from : ℕ) (text line : List ℕ) → from ≡ length text → take (length text + length line - from) (drop from (text ++ line)) ≡ line
last_piece from text line is =
    let size : length text + length line - from ≡ length line = omega arith in
    ap (take (length text + length line - from)) (drop_at text line from (sym is)) ∙ ap (λ n. take n line) size ∙ take_all (length line) line (omega arith)

-- a line behind the others
pub lines_push : (from : ℕ) (ends : List ℕ) (text line : List ℕ) → Rise from ends (length text) → lines_in from (ends ++ (length text + length line) ∷ []) (text ++ line) ≡ lines_in from ends text ++ line ∷ []
lines_push from [] text line h = ap (λ (l : List ℕ). l ∷ []) (last_piece from text line h)
lines_push from (e ∷ ends) text line h =
    ap (λ (l : List ℕ). l ∷ lines_in e (ends ++ (length text + length line) ∷ []) (text ++ line)) (piece_stays from e text line h.0 h.1)
    ∙ ap (λ (ls : List (List ℕ)). take (e - from) (drop from text) ∷ ls) (lines_push e ends text line h.2)

pub rise_push : (from : ℕ) (ends : List ℕ) (size more : ℕ) → Rise from ends size → Rise from (ends ++ (size + more) ∷ []) (size + more)
rise_push from [] size more h = (omega arith, omega arith, refl)
rise_push from (e ∷ ends) size more h = (h.0, omega arith, rise_push e ends size more h.2)

-- ---- one of them

pub lines_counted : (from : ℕ) (ends text : List ℕ) → length (lines_in from ends text) ≡ length ends
lines_counted from [] text = refl
lines_counted from (e ∷ ends) text = ap suc (lines_counted e ends text)

pub piece_at : (from : ℕ) (ends text : List ℕ) (k : ℕ) → k < length ends → get_or (lines_in from ends text) k [] ≡ take (get_or ends k 0 - start_of from ends k) (drop (start_of from ends k) text)
piece_at from [] text k h = absurd (omega arith)
piece_at from (e ∷ ends) text zero h = refl
piece_at from (e ∷ ends) text (suc zero) h = piece_at e ends text zero (omega arith)
piece_at from (e ∷ ends) text (suc (suc k)) h = piece_at e ends text (suc k) (omega arith)

pub rise_at : (from : ℕ) (ends : List ℕ) (size k : ℕ) → Rise from ends size → k < length ends → (start_of from ends k ≤ get_or ends k 0) × (get_or ends k 0 ≤ size)
rise_at from [] size k h lt = absurd (omega arith)
rise_at from (e ∷ ends) size zero h lt = (h.0, h.1)
rise_at from (e ∷ ends) size (suc zero) h lt = rise_at e ends size zero h.2 (omega arith)
rise_at from (e ∷ ends) size (suc (suc k)) h lt = rise_at e ends size (suc k) h.2 (omega arith)

-- ---- elements

pub one_more_line : (lines : List (List ℕ)) (ds : List Data) (line : List ℕ) (d : Data) → AreLinesOf lines ds → IsLineOf line d → AreLinesOf (lines ++ line ∷ []) (ds ++ d ∷ [])
one_more_line [] [] line d h of = (of, tt)
one_more_line [] (e ∷ ds) line d h of = absurd h
one_more_line (l ∷ lines) [] line d h of = absurd h
one_more_line (l ∷ lines) (e ∷ ds) line d h of = (h.0, one_more_line lines ds line d h.1 of)

-- ---- as they were written

pub pushed_rise : (ends more text longer line : List ℕ) (n : ℕ) → longer ≡ text ++ line → n ≡ length longer → more ≡ ends ++ n ∷ [] → Rise 0 ends (length text) → Rise 0 more (length longer)
pushed_rise ends more text longer line n grown size pushed h =
    let long : n ≡ length text + length line = size ∙ ap length grown ∙ length-append text line in
    subst (λ k. Rise 0 more k) (sym long ∙ size) (subst (λ (es : List ℕ). Rise 0 es (length text + length line)) (sym (pushed ∙ ap (λ k. ends ++ k ∷ []) long)) (rise_push 0 ends (length text) (length line) h))

pub pushed_lines : (ends more text longer line : List ℕ) (n : ℕ) → longer ≡ text ++ line → n ≡ length longer → more ≡ ends ++ n ∷ [] → Rise 0 ends (length text) → lines_in 0 more longer ≡ lines_in 0 ends text ++ line ∷ []
pushed_lines ends more text longer line n grown size pushed h =
    let long : n ≡ length text + length line = size ∙ ap length grown ∙ length-append text line in
    ap (λ (es : List ℕ). lines_in 0 es longer) (pushed ∙ ap (λ k. ends ++ k ∷ []) long) ∙ ap (lines_in 0 (ends ++ (length text + length line) ∷ [])) grown ∙ lines_push 0 ends text line h

abbrev pub IsAt : Option (Bor (List ℕ)) → ℕ → ℕ → List (List ℕ) → Type 0
IsAt r many at lines = MatchOption r (many ≤ at) (λ line. (at < many) × (line.now ≡ get_or lines at []))

pub line_found : (r : Option (Bor (List ℕ))) (ends text : List ℕ) (lines : List (List ℕ)) (at : ℕ) → lines_in 0 ends text ≡ lines → IsAt r (length ends) at (lines_in 0 ends text) → IsAt r (length lines) at lines
line_found r ends text lines at is found = subst (λ (ls : List (List ℕ)). IsAt r (length ls) at ls) is (subst (λ n. IsAt r n at (lines_in 0 ends text)) (sym (lines_counted 0 ends text)) found)
