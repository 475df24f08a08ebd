-- Numbers of callers, of which no two are one.
use Rattle.std.proofs.Common.{◌≡◌, ◌≢◌, ℕ, List, [], ◌∷◌, ◌++◌, refl, sym, subst, ⊎_elim, arith}
use Rattle.std.specs.Prelude.{AllPairs, Contains}
use Rattle.std.proofs.lemmas.List.Elements.{Contains-append_cases, Contains-append_right}
use Rattle.list_lemmas.proofs.ListMembers.{here, there, split, not_in, map_in, in_map, pairs_in, pairs_tail}
use Rattle.list_lemmas.proofs.ListParts.{pairs_cons}
use Rattle.cell_model.specs.declared.events.Placed.{Placed}
use Rattle.step_count.specs.CounterRule.{Log, numbers_in, AreDifferent}

-- where there is none, and where there is one
pub none_different : AreDifferent []
none_different i j d lt within = absurd (omega (arith, within))

pub one_different : (c : ℕ) → AreDifferent (c ∷ [])
one_different c = pairs_cons (λ a b. a ≢ b) c [] (λ d has. absurd (not_in d has)) none_different

-- a number has a log
has_log : (ls : List Log) (c : ℕ) → Contains (numbers_in ls) c → (log : List Placed) × Contains ls (c, log)
has_log ls c has = let w = map_in (λ (l : Log). l.0) ls c has in (w.0.1, subst (λ k. Contains ls (k, w.0.1)) w.2 w.1)

-- one that no log has, and those of the logs
pub different_more : (c : ℕ) (ls : List Log) → ((log : List Placed) → Contains ls (c, log) → ⊥) → AreDifferent (numbers_in ls) → AreDifferent (c ∷ numbers_in ls)
different_more c ls new apart = pairs_cons (λ a b. a ≢ b) c (numbers_in ls) (λ d has same. let w = has_log ls d has in new w.0 (subst (λ k. Contains ls (k, w.0)) (sym same) w.1)) apart

-- those of two lists of logs that have none in common
pub different_both : (ls ks : List Log) → ((c : ℕ) (log log' : List Placed) → Contains ls (c, log) → Contains ks (c, log') → ⊥) → AreDifferent (numbers_in ls) → AreDifferent (numbers_in ks) → AreDifferent (numbers_in (ls ++ ks))
different_both [] ks off one two = two
different_both (l ∷ ls) ks off one two = different_more l.0 (ls ++ ks)
    (λ log has. ⊎_elim (λ mine. pairs_in (λ a b. a ≢ b) l.0 l.0 (numbers_in ls) one (in_map (λ (k : Log). k.0) ls (l.0, log) mine) refl) (λ theirs. off l.0 l.1 log (here l ls) theirs) (Contains-append_cases ls ks (l.0, log) has))
    (different_both ls ks (λ c log log' a b. off c log log' (there l (c, log) ls a) b) (pairs_tail (λ a b. a ≢ b) l.0 (numbers_in ls) one) two)

-- some of the first numbers and some of those behind them
first_and_behind : (R : ℕ → ℕ → Type 0) (xs ys : List ℕ) → AllPairs R (xs ++ ys) → (c d : ℕ) → Contains xs c → Contains ys d → R c d
first_and_behind R [] ys whole c d first behind = absurd (not_in c first)
first_and_behind R (x ∷ xs) ys whole c d first behind = ⊎_elim
    (λ (same : x ≡ c). subst (λ a. R a d) same (pairs_in R x d (xs ++ ys) whole (Contains-append_right xs ys d behind)))
    (λ later. first_and_behind R xs ys (pairs_tail R x (xs ++ ys) whole) c d later behind)
    (split x c xs first)

pub different_among : (xs ys cs ds : List ℕ) → AreDifferent (xs ++ ys) → AreDifferent cs → AreDifferent ds → ((c : ℕ) → Contains cs c → Contains xs c) → ((d : ℕ) → Contains ds d → Contains ys d) → AreDifferent (cs ++ ds)
different_among xs ys [] ds whole one two first behind = two
different_among xs ys (c ∷ cs) ds whole one two first behind = pairs_cons (λ a b. a ≢ b) c (cs ++ ds)
    (λ d has. ⊎_elim
    (λ mine. pairs_in (λ a b. a ≢ b) c d cs one mine)
    (λ theirs. first_and_behind (λ a b. a ≢ b) xs ys whole c d (first c (here c cs)) (behind d theirs))
    (Contains-append_cases cs ds d has))
    (different_among xs ys cs ds whole (pairs_tail (λ a b. a ≢ b) c cs one) two (λ a has. first a (there c a cs has)) behind)
