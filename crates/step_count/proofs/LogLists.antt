-- Lists of logs, each with its number: what an entry adds to them, and what is left when a number is taken out.
use Rattle.std.proofs.Common.{◌≡◌, ◌≢◌, ◌⊎◌, inl, inr, ℕ, zero, suc, ◌+◌, ◌<◌, ◌≤◌, Bool, true, false, cond, List, [], ◌∷◌, ◌++◌, refl, sym, ap, ◌∙◌, subst, ⊎_elim, arith}
use Rattle.std.specs.Prelude.{◌==◌, Contains}
use mathlib.Core.Logic.{dite}
use native.Mathlib.Decide.{ℕ_discrete}
use Rattle.list_lemmas.proofs.ListMembers.{here, there, split, not_in}
use Rattle.cell_model.specs.declared.events.Entry.{Entry}
use Rattle.cell_model.specs.declared.events.Placed.{Placed}
use Rattle.step_count.specs.CounterRule.{Log, numbers_in}
use Rattle.step_count.specs.ViewSteps.{extended, without, only}
use Rattle.step_count.specs.FirstViews.{unused}

-- a log that has the entry too was there before, and each that was there is there still
pub extended_back : (test : ℕ → Entry → Bool) (p : Placed) (ls : List Log) (c : ℕ) (log : List Placed) → Contains (extended test p ls) (c, log)
    → (log0 : List Placed) × Contains ls (c, log0) × (log ≡ log0 ++ cond (test c p.entry) (p ∷ []) [])
extended_back test p [] c log has = absurd (not_in (c, log) has)
extended_back test p (l ∷ ls) c log has = at (split (l.0, l.1 ++ cond (test l.0 p.entry) (p ∷ []) []) (c, log) (extended test p ls) has) (extended_back test p ls c log)
  where
    at : (◌≡◌ {A = Log} (l.0, l.1 ++ cond (test l.0 p.entry) (p ∷ []) []) (c, log)) ⊎ Contains (extended test p ls) (c, log)
        → (Contains (extended test p ls) (c, log) → (log0 : List Placed) × Contains ls (c, log0) × (log ≡ log0 ++ cond (test c p.entry) (p ∷ []) []))
        → (log0 : List Placed) × Contains (l ∷ ls) (c, log0) × (log ≡ log0 ++ cond (test c p.entry) (p ∷ []) [])
    at (inl e) go =
        let number : l.0 ≡ c = ap (λ (x : Log). x.0) e in (
          l.1,
          subst (λ k. Contains (l ∷ ls) (k, l.1)) number (here l ls),
          sym (ap (λ (x : Log). x.1) e) ∙ ap (λ k. l.1 ++ cond (test k p.entry) (p ∷ []) []) number,
        )
    at (inr c') go = let w = go c' in (w.0, there l (c, w.0) ls w.1, w.2)

pub extended_less : (test : ℕ → Entry → Bool) (p : Placed) (ls : List Log) (c : ℕ) (log : List Placed) → Contains (extended test p ls) (c, log) → (log0 : List Placed) × Contains ls (c, log0)
extended_less test p ls c log a = let b = extended_back test p ls c log a in (b.0, b.1)

pub extended_more : (test : ℕ → Entry → Bool) (p : Placed) (ls : List Log) (c : ℕ) (log : List Placed) → Contains ls (c, log) → (log' : List Placed) × Contains (extended test p ls) (c, log')
extended_more test p [] c log has = absurd (not_in (c, log) has)
extended_more test p (l ∷ ls) c log has = at (split l (c, log) ls has) (extended_more test p ls c log)
  where
    at : (l ≡ (c, log)) ⊎ Contains ls (c, log) → (Contains ls (c, log) → (log' : List Placed) × Contains (extended test p ls) (c, log'))
        → (log' : List Placed) × Contains (extended test p (l ∷ ls)) (c, log')
    at (inl e) go =
        let grown = l.1 ++ cond (test l.0 p.entry) (p ∷ []) [] in
        (grown, subst (λ k. Contains (extended test p (l ∷ ls)) (k, grown)) (ap (λ (x : Log). x.0) e) (here (l.0, grown) (extended test p ls)))
    at (inr i) go = let w = go i in (w.0, there (l.0, l.1 ++ cond (test l.0 p.entry) (p ∷ []) []) (c, w.0) (extended test p ls) w.1)

-- with the same numbers
pub numbers_extended : (test : ℕ → Entry → Bool) (p : Placed) (ls : List Log) → numbers_in (extended test p ls) ≡ numbers_in ls
numbers_extended test p [] = refl
numbers_extended test p (l ∷ ls) = ap (λ (ns : List ℕ). l.0 ∷ ns) (numbers_extended test p ls)

-- what is left without a number, and what is of it alone
eq_of : (a b : ℕ) → (a == b) ≡ true → a ≡ b
eq_of a b eq = grind (arith, eq)

pub in_without : (r : ℕ) (xs : List Log) (c : ℕ) (log : List Placed) → Contains (without r xs) (c, log) → Contains xs (c, log) × (c ≢ r)
in_without r [] c log a = absurd (not_in (c, log) a)
in_without r (x ∷ xs) c log a = go (in_without r xs c log) (x.0 == r) refl
  where
    go : (Contains (without r xs) (c, log) → Contains xs (c, log) × (c ≢ r)) → (b : Bool) → (x.0 == r) ≡ b → Contains (x ∷ xs) (c, log) × (c ≢ r)
    go rest true eq = let q = rest (subst (λ b. Contains (cond b (without r xs) (x ∷ without r xs)) (c, log)) eq a) in (there x (c, log) xs q.0, q.1)
    go rest false eq = at (split x (c, log) (without r xs) (subst (λ b. Contains (cond b (without r xs) (x ∷ without r xs)) (c, log)) eq a))
      where
        at : (x ≡ (c, log)) ⊎ Contains (without r xs) (c, log) → Contains (x ∷ xs) (c, log) × (c ≢ r)
        at (inl same) = let num : x.0 ≡ c = ap (λ (l : Log). l.0) same in (subst (Contains (x ∷ xs)) same (here x xs), λ e. let k = num ∙ e in grind (arith, eq, k))
        at (inr c') = let q = rest c' in (there x (c, log) xs q.0, q.1)

pub in_only : (r : ℕ) (xs : List Log) (c : ℕ) (log : List Placed) → Contains (only r xs) (c, log) → Contains xs (c, log) × (c ≡ r)
in_only r [] c log a = absurd (not_in (c, log) a)
in_only r (x ∷ xs) c log a = go (in_only r xs c log) (x.0 == r) refl
  where
    go : (Contains (only r xs) (c, log) → Contains xs (c, log) × (c ≡ r)) → (b : Bool) → (x.0 == r) ≡ b → Contains (x ∷ xs) (c, log) × (c ≡ r)
    go rest false eq = let q = rest (subst (λ b. Contains (cond b (x ∷ only r xs) (only r xs)) (c, log)) eq a) in (there x (c, log) xs q.0, q.1)
    go rest true eq = at (split x (c, log) (only r xs) (subst (λ b. Contains (cond b (x ∷ only r xs) (only r xs)) (c, log)) eq a))
      where
        at : (x ≡ (c, log)) ⊎ Contains (only r xs) (c, log) → Contains (x ∷ xs) (c, log) × (c ≡ r)
        at (inl same) = let num : x.0 ≡ c = ap (λ (l : Log). l.0) same in (subst (Contains (x ∷ xs)) same (here x xs), sym num ∙ eq_of x.0 r eq)
        at (inr c') = let q = rest c' in (there x (c, log) xs q.0, q.1)

pub to_without : (r : ℕ) (xs : List Log) (c : ℕ) (log : List Placed) → c ≢ r → Contains xs (c, log) → Contains (without r xs) (c, log)
to_without r [] c log apart a = absurd (not_in (c, log) a)
to_without r (x ∷ xs) c log apart a = go (x.0 == r) refl (split x (c, log) xs a) (to_without r xs c log apart)
  where
    go : (b : Bool) → (x.0 == r) ≡ b → (x ≡ (c, log)) ⊎ Contains xs (c, log) → (Contains xs (c, log) → Contains (without r xs) (c, log)) → Contains (cond b (without r xs) (x ∷ without r xs)) (c, log)
    go true eq (inl same) rest = absurd (apart (ap (λ (l : Log). l.0) (sym same) ∙ eq_of x.0 r eq))
    go true eq (inr i) rest = rest i
    go false eq (inl same) rest = subst (Contains (x ∷ without r xs)) same (here x (without r xs))
    go false eq (inr i) rest = there x (c, log) (without r xs) (rest i)

pub to_only : (r : ℕ) (xs : List Log) (log : List Placed) → Contains xs (r, log) → Contains (only r xs) (r, log)
to_only r [] log a = absurd (not_in (r, log) a)
to_only r (x ∷ xs) log a = go (x.0 == r) refl (split x (r, log) xs a) (to_only r xs log)
  where
    go : (b : Bool) → (x.0 == r) ≡ b → (x ≡ (r, log)) ⊎ Contains xs (r, log) → (Contains xs (r, log) → Contains (only r xs) (r, log)) → Contains (cond b (x ∷ only r xs) (only r xs)) (r, log)
    go true eq (inl same) rest = subst (Contains (x ∷ only r xs)) same (here x (only r xs))
    go true eq (inr i) rest = there x (r, log) (only r xs) (rest i)
    go false eq (inl same) rest = absurd (let num = ap (λ (l : Log). l.0) same in grind (arith, eq, num))
    go false eq (inr i) rest = rest i

-- logs without an entry: each number from the first on has one, and the first may be taken out
pub unused_empty : (k m c : ℕ) (log : List Placed) → Contains (unused k m) (c, log) → [] ≡ log
unused_empty k zero c log a = absurd (not_in (c, log) a)
unused_empty k (suc m) c log a = ⊎_elim (λ (e : ◌≡◌ {A = Log} (k, []) (c, log)). ap (λ (x : Log). x.1) e) (unused_empty (k + 1) m c log) (split (k, []) (c, log) (unused (k + 1) m) a)

pub in_unused : (k m c : ℕ) → k ≤ c → c < k + m → Contains (unused k m) (c, [])
in_unused k zero c le lt = absurd (omega (arith, le, lt))
in_unused k (suc m) c le lt = dite (ℕ_discrete c k)
    (λ same. subst (λ j. Contains (unused k (suc m)) (j, [])) (sym same) (here (k, []) (unused (k + 1) m)))
    (λ apart. there (k, []) (c, []) (unused (k + 1) m) (in_unused (k + 1) m c (omega (arith, le, apart)) (omega (arith, lt))))

same_number : (k : ℕ) → (k == k) ≡ true
same_number k = grind (arith)

pub other_number : (j k : ℕ) → k < j → (j == k) ≡ false
other_number j k lt = at (j == k) refl
  where
    at : (b : Bool) → (j == k) ≡ b → b ≡ false
    at true e = absurd (let same = eq_of j k e in omega (arith, lt, same))
    at false e = refl

without_above : (k j m : ℕ) → k < j → without k (unused j m) ≡ unused j m
without_above k j zero lt = refl
without_above k j (suc m) lt =
    ap (λ b. cond b (without k (unused (j + 1) m)) ((j, []) ∷ without k (unused (j + 1) m))) (other_number j k lt)
    ∙ ap (λ (ls : List Log). (j, []) ∷ ls) (without_above k (j + 1) m (omega (arith, lt)))

only_above : (k j m : ℕ) → k < j → only k (unused j m) ≡ []
only_above k j zero lt = refl
only_above k j (suc m) lt =
    ap (λ b. cond b ((j, []) ∷ only k (unused (j + 1) m)) (only k (unused (j + 1) m))) (other_number j k lt) ∙ only_above k (j + 1) m (omega (arith, lt))

pub without_first : (k m : ℕ) → without k (unused k (suc m)) ≡ unused (k + 1) m
without_first k m =
    ap (λ b. cond b (without k (unused (k + 1) m)) ((k, []) ∷ without k (unused (k + 1) m))) (same_number k) ∙ without_above k (k + 1) m (omega arith)

pub only_first : (k m : ℕ) → only k (unused k (suc m)) ≡ (k, []) ∷ []
only_first k m =
    ap (λ b. cond b ((k, []) ∷ only k (unused (k + 1) m)) (only k (unused (k + 1) m))) (same_number k)
    ∙ ap (λ (ls : List Log). (k, []) ∷ ls) (only_above k (k + 1) m (omega arith))
