-- What a caller who accepts nothing has to say of its halt.
use Rattle.std.proofs.Common.{ℕ, ◌-◌, Bool, subst, arith}
use Rattle.link_acceptor.specs.Accepting.{Allows}

-- a halt that wasn't asked
pub none_asked : {H : Type 0} (answers : H → Bool → H → Type 0) (count : ℕ) (halt : H) → Allows answers (count - count) halt halt
none_asked answers count halt = subst (λ n. Allows answers n halt halt) (omega arith) Allows.none
