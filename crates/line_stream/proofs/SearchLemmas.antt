-- A block of bytes, and how far it was searched for an LF.
use Rattle.std.proofs.Common.{◌≡◌, ℕ, zero, suc, ◌+◌, ◌-◌, ◌<◌, ◌≤◌, Bool, true, false, List, [], ◌∷◌, ◌++◌, length, take, drop, refl, sym, ap, ◌∙◌, arith, length-drop, max, subst, ◌⊎◌, inl, inr}
use Rattle.std.specs.Prelude.{nat_eq, ◌||◌, slice_index, Some, None}
use Rattle.std.proofs.lemmas.List.{drop-drop, drop-take, get_or-drop, get_or-take, length-take-le, take-take, take_rest}
use Rattle.std.proofs.lemmas.Bool.{cases_lt}
use Rattle.std.proofs.lemmas.Bool.Decides.{nat_tests}
use Rattle.line_stream.proofs.FirstLines.{neither}
use Rattle.std.proofs.lemmas.List.Folds.{list_any-append}
use Rattle.std.proofs.Math.Seq.{take-add}
use Rattle.memchr.specs.Find.{Nowhere, NoneBefore, Passes, is_byte}
use Rattle.line_stream.specs.Lines.{EndsLine, has_line_end}
use Rattle.line_stream.specs.Searched.{IsSearched}

-- the part from s to e, with no LF before q
pub record IsBlock (block : List ℕ) (s q e : ℕ) : Type 0 where
  pub from : s ≤ q
  pub to : q ≤ e
  pub within : e ≤ length block
  pub none : has_line_end (take (q - s) (drop s block)) ≡ false

abbrev pub pending : List ℕ → ℕ → ℕ → List ℕ
pending block start end = take (end - start) (drop start block)

not_true : (b : Bool) → (b ≡ true → ⊥) → b ≡ false
not_true true n = absurd (n refl)
not_true false n = refl

pub none_take : (xs : List ℕ) (k : ℕ) → ((j : ℕ) → j < k → is_byte 10 (slice_index xs j) ≡ true → ⊥) → has_line_end (take k xs) ≡ false
none_take xs zero n = refl
none_take [] (suc k) n = refl
none_take (x ∷ xs) (suc k) n = ap (λ t. t || has_line_end (take k xs)) (not_true (nat_eq x 10) (n 0 (omega arith))) ∙ none_take xs k (λ j lt. n (suc j) (omega arith))

-- two parts side by side
pub seam : (block : List ℕ) (s q e : ℕ) → s ≤ q → q ≤ e → pending block s e ≡ pending block s q ++ pending block q e
seam block s q e sq qe =
    ap (λ n. take n (drop s block)) (omega arith) ∙ take-add (q - s) (e - q) (drop s block)
    ∙ ap (λ t. pending block s q ++ take (e - q) t) (drop-drop (q - s) s block ∙ ap (λ n. drop n block) (omega arith))

pub length_pending : (block : List ℕ) (s e : ℕ) → e ≤ length block → length (pending block s e) ≡ e - s
length_pending block s e le = length-take-le (e - s) (drop s block) (let l = length-drop s block in omega (arith, l))

-- no LF in two parts is none in both together
pub none_seam : (block : List ℕ) (s q e : ℕ) → s ≤ q → q ≤ e → has_line_end (pending block s q) ≡ false → has_line_end (pending block q e) ≡ false → has_line_end (pending block s e) ≡ false
none_seam block s q e sq qe a b = ap has_line_end (seam block s q e sq qe) ∙ list_any-append (λ b. nat_eq b 10) (pending block s q) (pending block q e) ∙ ap (λ t. t || has_line_end (pending block q e)) a ∙ b

index_pending : (block : List ℕ) (s e i : ℕ) → i < e - s → slice_index (pending block s e) i ≡ slice_index block (s + i)
index_pending block s e i lt = get_or-take (e - s) (drop s block) i 0 lt ∙ get_or-drop s block i 0

-- an LF was found
pub record Found (block : List ℕ) (s q e at : ℕ) : Type 0 where
  pub block_is : IsBlock block s (q + at) e
  pub ends : EndsLine (Some (q + at - s)) (pending block s e)

pub found : (block : List ℕ) (s q e at : ℕ) → IsBlock block s q e → NoneBefore (Passes (is_byte 10) (pending block q e)) 0 (length (pending block q e)) at → Passes (is_byte 10) (pending block q e) at → Found block s q e at
found block s q e at b n p =
    let long : length (pending block q e) ≡ e - q = length_pending block q e (let w = b.within in omega (arith, w)) in
    let all : length (pending block s e) ≡ e - s = length_pending block s e (let w = b.within in omega (arith, w)) in
    let at_lt : at < e - q = (let h = n.high in omega (arith, h, long)) in
    let sq : s ≤ q = b.from in
    let here : has_line_end (pending block q (q + at)) ≡ false = ap has_line_end (ap (λ k. take k (drop q block)) (omega arith) ∙ sym (take-take at (e - q) (drop q block) (omega arith))) ∙ none_take (pending block q e) at (λ j lt passes. n.before j (omega arith) lt passes) in
    let none : has_line_end (pending block s (q + at)) ≡ false = none_seam block s q (q + at) sq (omega arith) b.none here in
    record {
      block_is = record { from = omega arith; to = omega arith; within = b.within; none = none };
      ends = (
        omega (arith, all, at_lt, sq),
        ap has_line_end (take-take (q + at - s) (e - s) (drop s block) (omega arith)) ∙ none,
        index_pending block s e (q + at - s) (omega arith) ∙ ap (slice_index block) (omega arith) ∙ sym (index_pending block q e at at_lt) ∙ is_ten (slice_index (pending block q e) at) p,
      );
    }
  where
    is_ten : (b : ℕ) → is_byte 10 b ≡ true → b ≡ 10
    is_ten b e = grind (arith, nat_tests, e)

-- no LF was found
pub record Missing (block : List ℕ) (s q e : ℕ) : Type 0 where
  pub block_is : IsBlock block s e e
  pub ends : EndsLine None (pending block s e)

pub missing : (block : List ℕ) (s q e : ℕ) → IsBlock block s q e → Nowhere (Passes (is_byte 10) (pending block q e)) 0 (length (pending block q e)) → Missing block s q e
missing block s q e b n =
    let long : length (pending block q e) ≡ e - q = length_pending block q e (let w = b.within in omega (arith, w)) in
    let here : has_line_end (pending block q e) ≡ false = ap has_line_end (sym (take-take (e - q) (e - q) (drop q block) (omega arith))) ∙ none_take (pending block q e) (e - q) (λ j lt passes. n j (omega arith) (omega (arith, long, lt)) passes) in
    let none : has_line_end (pending block s e) ≡ false = none_seam block s q e b.from b.to b.none here in
    record { block_is = record { from = omega (arith, b.from, b.to); to = omega arith; within = b.within; none = none }; ends = none }

-- bytes are used up
pub skipped : (block : List ℕ) (s e n : ℕ) → n ≤ e - s → pending block (s + n) e ≡ drop n (pending block s e)
skipped block s e n le =
    ap (λ k. take k (drop (s + n) block)) (omega arith) ∙ ap (take (e - s - n)) (sym (drop-drop n s block)) ∙ sym (drop-take n (e - s - n) (drop s block)) ∙ ap (λ k. drop n (take k (drop s block))) (omega arith)

none_behind : (xs : List ℕ) (n : ℕ) → has_line_end xs ≡ false → has_line_end (drop n xs) ≡ false
none_behind xs zero none = none
none_behind [] (suc n) none = refl
none_behind (x ∷ xs) (suc n) none = none_behind xs n (neither (nat_eq x 10) (has_line_end xs) none).1

pub skip_block : (block : List ℕ) (s q e n : ℕ) → IsBlock block s q e → n ≤ e - s → IsBlock block (s + n) (max q (s + n)) e
skip_block block s q e n b le = record { from = omega arith; to = (let t = b.to in let f = b.from in omega (arith, t, f, le)); within = b.within; none = cases (cases_lt q (s + n)) }
  where
    cases : (q < s + n) ⊎ (s + n ≤ q) → has_line_end (pending block (s + n) (max q (s + n))) ≡ false
    cases (inl high) = let none : max q (s + n) - (s + n) ≡ 0 = omega arith in ap (λ k. has_line_end (take k (drop (s + n) block))) none
    cases (inr low) = let same : max q (s + n) ≡ q = omega arith in ap (λ k. has_line_end (pending block (s + n) k)) same ∙ ap has_line_end (skipped block s q n (omega arith)) ∙ none_behind (pending block s q) n b.none

-- ---- all of a block
as_block : (block : List ℕ) (s q : ℕ) → IsSearched block s q → IsBlock block s q (length block)
as_block block s q b = record { from = b.from; to = b.to; within = omega arith; none = b.none }

searched : (block : List ℕ) (s q : ℕ) → IsBlock block s q (length block) → IsSearched block s q
searched block s q b = record { from = b.from; to = b.to; none = b.none }

pub record FoundEnd (block : List ℕ) (s q at : ℕ) : Type 0 where
  pub block_is : IsSearched block s (q + at)
  pub ends : EndsLine (Some (q + at - s)) (drop s block)

pub found_end : (block : List ℕ) (s q at : ℕ) → IsSearched block s q → NoneBefore (Passes (is_byte 10) (pending block q (length block))) 0 (length (pending block q (length block))) at → Passes (is_byte 10) (pending block q (length block)) at
    → FoundEnd block s q at
found_end block s q at b n p =
    let f = found block s q (length block) at (as_block block s q b) n p in
    record { block_is = searched block s (q + at) f.block_is; ends = subst (EndsLine (Some (q + at - s))) (take_rest block s) f.ends }

pub record NoEnd (block : List ℕ) (s : ℕ) : Type 0 where
  pub block_is : IsSearched block s (length block)
  pub ends : EndsLine None (drop s block)

pub no_end : (block : List ℕ) (s q : ℕ) → IsSearched block s q → Nowhere (Passes (is_byte 10) (pending block q (length block))) 0 (length (pending block q (length block))) → NoEnd block s
no_end block s q b n =
    let m = missing block s q (length block) (as_block block s q b) n in
    record { block_is = searched block s (length block) m.block_is; ends = subst (EndsLine None) (take_rest block s) m.ends }

pub skip_searched : (block : List ℕ) (s q n : ℕ) → IsSearched block s q → n ≤ length (drop s block) → IsSearched block (s + n) (max q (s + n))
skip_searched block s q n b le = searched block (s + n) (max q (s + n)) (skip_block block s q (length block) n (as_block block s q b) (let l = length-drop s block in omega (arith, l, le)))
