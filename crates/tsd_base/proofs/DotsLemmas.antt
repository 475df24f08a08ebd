-- Points of one series.
use Rattle.std.proofs.Common.{◌≡◌, suc, ℕ, ℤ, ◌<◌, List, [], ◌∷◌, ◌++◌, sym, subst, arith}
use Rattle.std.specs.Prelude.{All, Result, Ok, Err, OnOk, OnErr}
use Rattle.std.proofs.lemmas.List.Elements.{All-append, All-weaker}
use Rattle.std.proofs.lemmas.List.Kept.{AllPairs-cons}
use Rattle.tsd_base.specs.Dots.{IsRising, IsAboveAll}

-- later points behind rising ones rise
pub append_rising : (xs ys : List (ℕ × ℤ)) → IsRising xs → IsRising ys → All (λ d. IsAboveAll d.0 xs) ys → IsRising (xs ++ ys)
append_rising [] ys ux uy above = uy
append_rising (x ∷ xs) ys ux uy above =
    AllPairs-cons (λ (p q : ℕ × ℤ). p.0 < q.0) x (xs ++ ys)
    (All-append (λ (q : ℕ × ℤ). x.0 < q.0) xs ys
    (λ k d lt. ux 0 (suc k) d (omega arith) (omega (arith, lt)))
    (All-weaker (λ (d : ℕ × ℤ). IsAboveAll d.0 (x ∷ xs)) (λ (q : ℕ × ℤ). x.0 < q.0) (λ d p. p.0) ys above))
    (append_rising xs ys (λ i j d lt within. ux (suc i) (suc j) d (omega (arith, lt)) (omega (arith, within))) uy
    (All-weaker (λ (d : ℕ × ℤ). IsAboveAll d.0 (x ∷ xs)) (λ (d : ℕ × ℤ). IsAboveAll d.0 xs) (λ d p. p.1) ys above))

-- whether or not there was memory for them
pub rising_either : {T E : Type 0} (r : Result T E) (xs ys now : List (ℕ × ℤ)) → OnOk r (now ≡ xs ++ ys) → OnErr r (now ≡ xs) → IsRising xs → IsRising ys → All (λ d. IsAboveAll d.0 xs) ys → IsRising now
rising_either (Ok x) xs ys now ok err ux uy above = subst IsRising (sym ok) (append_rising xs ys ux uy above)
rising_either (Err x) xs ys now ok err ux uy above = subst IsRising (sym err) ux
