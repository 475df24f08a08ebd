-- What the crates above cite.
use Rattle.std.proofs.Common.{◌≡◌, inl, inr, ⊎_elim, ℕ, sym}
use Rattle.std.specs.Prelude.{Contains}
use Rattle.list_lemmas.proofs.ListMembers.{split}
use Rattle.cell_model.specs.Seen.{Seen, IsOwn}
use Rattle.region_locks.specs.CallerViews.{numbers_of}

-- a number of a caller is its own, or of one whose place it took
pub own_number : (s : Seen) (number : ℕ) → Contains (numbers_of s) number → IsOwn s number
own_number s number has = ⊎_elim (λ (is : s.caller ≡ number). inl (sym is)) (λ i. inr i) (split s.caller number s.absorbed has)
