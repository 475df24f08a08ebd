-- How often a halt was asked, and a list that was written whole.
use Rattle.std.proofs.Common.{◌≡◌, ℕ, ◌+◌, ◌-◌, ◌≤◌, List, [], ◌++◌, length, take, drop, sym, ap, subst, append-nil, ◌∙◌, arith}
use Rattle.std.proofs.Math.Seq.{take-length, drop-length}
use Rattle.std.specs.Prelude.{Bool, true}
use Rattle.link_acceptor.specs.Accepting.{Allows, AsksEach, LastAsk, lost_by}
use Rattle.link_acceptor.specs.declared.accept_loop.AcceptEnd.{AcceptEnd}
use Rattle.link_acceptor.specs.declared.accept_loop.AcceptEnd.TheVariants.{NoneLeft, Stopped, DoorFault, OutOfMemory}

-- a part of a list that was written whole
pub whole_written : {X : Type 0} (n : ℕ) (now before : List X) → length now ≡ length before → n ≡ length before → take n (now ++ drop (length now) before) ≡ now
whole_written n now before same len =
    let none : drop (length now) before ≡ [] = ap (λ k. drop k before) same ∙ drop-length before in
    ap (λ l. take n (now ++ l)) none ∙ ap (λ l. take n l) (append-nil now) ∙ ap (λ k. take k now) (len ∙ sym same) ∙ take-length now

module _ {H : Type 0} (answers : H → Bool → H → Type 0) (base out out' : ℕ) (old last new : H) (few : base ≤ out) (so_far : Allows answers (out - base) old last) where
  pub one_more_ask : out' ≡ out + 1 → answers last true new → Allows answers (out' - base) old new
  one_more_ask is asked = subst (λ count. Allows answers count old new) (omega (arith, few, is)) (Allows.more so_far asked)

  pub asked_to_end : (end : AcceptEnd) → out' ≡ out + lost_by end → LastAsk answers end last new → AsksEach answers end (out' - base) old new
  asked_to_end NoneLeft is asked = subst (λ count. Allows answers count old new) (omega (arith, few, is)) (Allows.more so_far asked)
  asked_to_end Stopped is asked = (last, subst (λ count. Allows answers count old last) (omega (arith, few, is)) so_far, asked)
  asked_to_end DoorFault is asked = subst (λ count. Allows answers count old new) (omega (arith, few, is)) (Allows.more so_far asked)
  asked_to_end OutOfMemory is asked = one_more_ask is asked
