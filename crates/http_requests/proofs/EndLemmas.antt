-- Looking for the end of a head, byte by byte.
use Rattle.std.proofs.Common.{◌≡◌, ℕ, suc, ◌+◌, ◌<◌, ◌≤◌, Bool, true, false, cond, List, [], ◌∷◌, ◌++◌, length, drop, refl, sym, ap, subst, ◌∙◌, arith, append_assoc, append-nil, Option, Some, None}
use Rattle.std.specs.Prelude.{nat_eq, not, ◌&&◌, slice_index}
use Rattle.std.proofs.lemmas.List.{drop_more, drop_all, drop-append-le, length-append, length-drop}
use Rattle.http_requests.specs.declared.head_search.Front.TheVariants.{Empty, Other, Short}
use Rattle.http_requests.specs.HeadEnds.{plus, or_else, begins_lf, empty_line, end_behind, is_line_end, head_end, end_from, IsSearched, Ends}
use Rattle.http_requests.specs.HeadSteps.{Fronts}

behind_at : (b : ℕ) (bytes : List ℕ) → end_behind (b ∷ bytes) ≡ plus 1 (cond (nat_eq b 10) (or_else (empty_line bytes) (end_behind bytes)) (end_behind bytes))
unfolding end_behind
behind_at b bytes = refl

behind_nil : end_behind [] ≡ None
unfolding end_behind
behind_nil = refl

head_at : (b : ℕ) (bytes : List ℕ) → head_end (b ∷ bytes) ≡ plus 1 (cond (is_line_end b) (head_end bytes) (end_behind bytes))
unfolding head_end
head_at b bytes = refl

head_nil : head_end [] ≡ None
unfolding head_end
head_nil = refl

from_nil : (begun : Bool) → end_from begun [] ≡ None
from_nil true = behind_nil
from_nil false = head_nil

plus_plus : (n k : ℕ) (o : Option ℕ) → plus n (plus k o) ≡ plus (n + k) o
plus_plus n k None = refl
plus_plus n k (Some m) = ap (λ (x : ℕ). Some x) (omega arith)

-- one byte further on
searched_on : (bytes : List ℕ) (at : ℕ) (begun seen : Bool) → at < length bytes
    → ((more : List ℕ) → end_from begun (slice_index bytes at ∷ (drop (at + 1) bytes ++ more)) ≡ plus 1 (end_from seen (drop (at + 1) bytes ++ more)))
    → IsSearched bytes at begun → IsSearched bytes (at + 1) seen
searched_on bytes at begun seen lt step s = record {
  within = omega (arith, lt);
  same = λ more. s.same more ∙ ap (λ (xs : List ℕ). plus at (end_from begun (xs ++ more))) (drop_more bytes at 0 lt) ∙ ap (plus at) (step more) ∙ plus_plus at 1 (end_from seen (drop (at + 1) bytes ++ more));
}

pub more_fresh : (bytes : List ℕ) (at : ℕ) (seen : Bool) → at < length bytes → seen ≡ not (is_line_end (slice_index bytes at)) → IsSearched bytes at false → IsSearched bytes (at + 1) seen
more_fresh bytes at seen lt is = searched_on bytes at false seen lt (λ more. head_at (slice_index bytes at) (drop (at + 1) bytes ++ more) ∙ ap (plus 1) (by (is_line_end (slice_index bytes at)) seen (drop (at + 1) bytes ++ more) is))
  where
    by : (t u : Bool) (xs : List ℕ) → u ≡ not t → cond t (head_end xs) (end_behind xs) ≡ end_from u xs
    by true true xs e = absurd (cc)
    by true false xs e = refl
    by false true xs e = refl
    by false false xs e = absurd (cc)

pub more_plain : (bytes : List ℕ) (at : ℕ) → at < length bytes → nat_eq (slice_index bytes at) 10 ≡ false → IsSearched bytes at true → IsSearched bytes (at + 1) true
more_plain bytes at lt is = searched_on bytes at true true lt (λ more. behind_at (slice_index bytes at) (drop (at + 1) bytes ++ more)
    ∙ ap (λ t. plus 1 (cond t (or_else (empty_line (drop (at + 1) bytes ++ more)) (end_behind (drop (at + 1) bytes ++ more))) (end_behind (drop (at + 1) bytes ++ more)))) is)

-- behind an LF
at_lf : (bytes : List ℕ) (at : ℕ) (more : List ℕ) → nat_eq (slice_index bytes at) 10 ≡ true
    → end_behind (slice_index bytes at ∷ (drop (at + 1) bytes ++ more)) ≡ plus 1 (or_else (empty_line (drop (at + 1) bytes ++ more)) (end_behind (drop (at + 1) bytes ++ more)))
at_lf bytes at more is = behind_at (slice_index bytes at) (drop (at + 1) bytes ++ more)
    ∙ ap (λ t. plus 1 (cond t (or_else (empty_line (drop (at + 1) bytes ++ more)) (end_behind (drop (at + 1) bytes ++ more))) (end_behind (drop (at + 1) bytes ++ more)))) is

pub more_other : (bytes : List ℕ) (at : ℕ) → at < length bytes → nat_eq (slice_index bytes at) 10 ≡ true → Fronts (drop (at + 1) bytes) Other → IsSearched bytes at true → IsSearched bytes (at + 1) true
more_other bytes at lt is none = searched_on bytes at true true lt (λ more. at_lf bytes at more is ∙ ap (λ o. plus 1 (or_else o (end_behind (drop (at + 1) bytes ++ more)))) (none more))

-- the whole, from a place
whole_from : (bytes more : List ℕ) (at : ℕ) (begun : Bool) → at < length bytes → IsSearched bytes at begun → head_end (bytes ++ more) ≡ plus at (end_from begun (slice_index bytes at ∷ (drop (at + 1) bytes ++ more)))
whole_from bytes more at begun lt s = s.same more ∙ ap (λ (xs : List ℕ). plus at (end_from begun (xs ++ more))) (drop_more bytes at 0 lt)

pub ends_here : (bytes : List ℕ) (at len : ℕ) → at < length bytes → nat_eq (slice_index bytes at) 10 ≡ true → Fronts (drop (at + 1) bytes) (Empty len) → IsSearched bytes at true → Ends bytes (Some (at + 1 + len))
ends_here bytes at len lt is front s = (
  (let f = front.0 in let d = length-drop (at + 1) bytes in omega (arith, f, d, lt)),
  λ more. whole_from bytes more at true lt s ∙ ap (plus at) (at_lf bytes at more is) ∙ ap (λ o. plus at (plus 1 (or_else o (end_behind (drop (at + 1) bytes ++ more))))) (front.1 more) ∙ ap (λ (x : ℕ). Some x) (omega arith),
)

nothing_more : (bytes : List ℕ) → head_end bytes ≡ head_end (bytes ++ [])
nothing_more bytes = ap head_end (sym (append-nil bytes))

pub short_here : (bytes : List ℕ) (at : ℕ) → at < length bytes → nat_eq (slice_index bytes at) 10 ≡ true → Fronts (drop (at + 1) bytes) Short → IsSearched bytes at true → head_end bytes ≡ None
short_here bytes at lt is short s =
    let rest : drop (at + 1) bytes ++ [] ≡ drop (at + 1) bytes = append-nil (drop (at + 1) bytes) in
    nothing_more bytes ∙ whole_from bytes [] at true lt s ∙ ap (plus at) (at_lf bytes at [] is)
    ∙ ap (λ (xs : List ℕ). plus at (plus 1 (or_else (empty_line xs) (end_behind xs)))) rest
    ∙ ap (λ o. plus at (plus 1 (or_else o (end_behind (drop (at + 1) bytes))))) short.0 ∙ ap (λ o. plus at (plus 1 o)) short.1

pub all_searched : (bytes : List ℕ) (at : ℕ) (begun : Bool) → length bytes ≤ at → IsSearched bytes at begun → head_end bytes ≡ None
all_searched bytes at begun le s =
    nothing_more bytes ∙ s.same [] ∙ ap (λ (xs : List ℕ). plus at (end_from begun (xs ++ []))) (drop_all at bytes le) ∙ ap (plus at) (from_nil begun)

-- ---- more bytes

pub searched_more : (bytes piece : List ℕ) (at : ℕ) (begun : Bool) → IsSearched bytes at begun → IsSearched (bytes ++ piece) at begun
searched_more bytes piece at begun s = record {
  within = (let w = s.within in let l = length-append bytes piece in omega (arith, w, l));
  same = λ more. ap head_end (append_assoc bytes piece more) ∙ s.same (piece ++ more)
      ∙ ap (λ (xs : List ℕ). plus at (end_from begun xs)) (sym (append_assoc (drop at bytes) piece more) ∙ ap (λ (xs : List ℕ). xs ++ more) (sym (drop-append-le at bytes piece s.within)));
}

plus_zero : (o : Option ℕ) → plus 0 o ≡ o
plus_zero None = refl
plus_zero (Some k) = ap (λ (x : ℕ). Some x) (omega arith)

pub searched_none : (bytes : List ℕ) → IsSearched bytes 0 false
searched_none bytes = record { within = omega arith; same = λ more. sym (plus_zero (head_end (bytes ++ more))) }

-- ---- an end that comes later lies behind what has come

abbrev pub Late : ℕ → Option ℕ → Type 0
Late n None = Unit {0}
Late n (Some k) = n < k

late_plus : (n : ℕ) (o : Option ℕ) → Late n o → Late (suc n) (plus 1 o)
late_plus n None l = tt
late_plus n (Some k) l = omega (arith, l)

late_or : (n : ℕ) (o p : Option ℕ) → Late n o → Late n p → Late n (or_else o p)
late_or n None p l m = m
late_or n (Some k) p l m = l

plus_none : (n : ℕ) (o : Option ℕ) → plus n o ≡ None → o ≡ None
plus_none n None e = refl
plus_none n (Some k) e = absurd (cc)

or_none : (o p : Option ℕ) → or_else o p ≡ None → (o ≡ None) × (p ≡ None)
or_none None p e = (refl, e)
or_none (Some k) p e = absurd (cc)

empty_positive : (bytes : List ℕ) → Late 0 (empty_line bytes)
empty_positive [] = tt
empty_positive (b ∷ bytes) = by (nat_eq b 10) (nat_eq b 13 && begins_lf bytes)
  where
    by : (t u : Bool) → Late 0 (cond {A = Option ℕ} t (Some 1) (cond {A = Option ℕ} u (Some 2) None))
    by true u = omega arith
    by false true = omega arith
    by false false = tt

empty_late : (bytes more : List ℕ) → empty_line bytes ≡ None → Late (length bytes) (empty_line (bytes ++ more))
empty_late [] more e = empty_positive more
empty_late (b ∷ []) more e = by (nat_eq b 10) (nat_eq b 13 && begins_lf more) e
  where
    by : (t u : Bool) → cond {A = Option ℕ} t (Some 1) (cond {A = Option ℕ} (nat_eq b 13 && false) (Some 2) None) ≡ None → Late 1 (cond {A = Option ℕ} t (Some 1) (cond {A = Option ℕ} u (Some 2) None))
    by true u none = absurd (cc)
    by false true none = omega arith
    by false false none = tt
empty_late (b ∷ c ∷ bytes) more e = subst (Late (suc (suc (length bytes)))) (sym e) tt

positive : (o : Option ℕ) → Late 0 (plus 1 o)
positive None = tt
positive (Some k) = omega arith

behind_late : (bytes more : List ℕ) → end_behind bytes ≡ None → Late (length bytes) (end_behind (bytes ++ more))
behind_late [] [] e = subst (Late 0) (sym behind_nil) tt
behind_late [] (m ∷ more) e = subst (Late 0) (sym (behind_at m more)) (positive (cond (nat_eq m 10) (or_else (empty_line more) (end_behind more)) (end_behind more)))
behind_late (b ∷ bytes) more e =
    subst (Late (suc (length bytes))) (sym (behind_at b (bytes ++ more)))
    (late_plus (length bytes) (cond (nat_eq b 10) (or_else (empty_line (bytes ++ more)) (end_behind (bytes ++ more))) (end_behind (bytes ++ more)))
    (by (nat_eq b 10) (plus_none 1 (cond (nat_eq b 10) (or_else (empty_line bytes) (end_behind bytes)) (end_behind bytes)) (sym (behind_at b bytes) ∙ e)) (behind_late bytes more)))
  where
    by : (t : Bool) → cond t (or_else (empty_line bytes) (end_behind bytes)) (end_behind bytes) ≡ None → (end_behind bytes ≡ None → Late (length bytes) (end_behind (bytes ++ more)))
        → Late (length bytes) (cond t (or_else (empty_line (bytes ++ more)) (end_behind (bytes ++ more))) (end_behind (bytes ++ more)))
    by true none step = let o = or_none (empty_line bytes) (end_behind bytes) none in late_or (length bytes) (empty_line (bytes ++ more)) (end_behind (bytes ++ more)) (empty_late bytes more o.0) (step o.1)
    by false none step = step none

pub head_late : (bytes more : List ℕ) → head_end bytes ≡ None → Late (length bytes) (head_end (bytes ++ more))
head_late [] [] e = subst (Late 0) (sym head_nil) tt
head_late [] (m ∷ more) e = subst (Late 0) (sym (head_at m more)) (positive (cond (is_line_end m) (head_end more) (end_behind more)))
head_late (b ∷ bytes) more e =
    subst (Late (suc (length bytes))) (sym (head_at b (bytes ++ more)))
    (late_plus (length bytes) (cond (is_line_end b) (head_end (bytes ++ more)) (end_behind (bytes ++ more)))
    (by (is_line_end b) (plus_none 1 (cond (is_line_end b) (head_end bytes) (end_behind bytes)) (sym (head_at b bytes) ∙ e)) (head_late bytes more)))
  where
    by : (t : Bool) → cond t (head_end bytes) (end_behind bytes) ≡ None → (head_end bytes ≡ None → Late (length bytes) (head_end (bytes ++ more)))
        → Late (length bytes) (cond t (head_end (bytes ++ more)) (end_behind (bytes ++ more)))
    by true none step = step none
    by false none step = behind_late bytes more none

-- an end lies behind a byte
pub head_positive : (bytes : List ℕ) (n : ℕ) → head_end bytes ≡ Some n → (1 ≤ n) × (1 ≤ length bytes)
head_positive [] n e = absurd (let x = sym head_nil ∙ e in cc)
head_positive (b ∷ bytes) n e = (by (cond (is_line_end b) (head_end bytes) (end_behind bytes)) (sym (head_at b bytes) ∙ e), omega arith)
  where
    by : (o : Option ℕ) → plus 1 o ≡ Some n → 1 ≤ n
    by None x = absurd (cc)
    by (Some k) x = let y : 1 + k ≡ n = cc in omega (arith, y)
