use Rattle.std.proofs.Common.{◌≡◌, ◌+◌, true, false, ap, subst, arith, List, ℕ, drop}
use Rattle.std.specs.Prelude.{nat_eq, not, slice_index}
use Rattle.std.proofs.lemmas.List.{take_rest}
use Rattle.http_requests.specs.HeadEnds.{IsSearched}
use Rattle.http_requests.specs.HeadSteps.{Fronts}
use Rattle.http_requests.proofs.EndLemmas.{more_fresh, more_plain, more_other, ends_here, short_here}
use Rattle.http_requests.proofs.head_search.look_at.Goals as goal

pub returns-then-not-begun : goal.returns-then-not-begun
returns-then-not-begun c =
    λ s. more_fresh c.args.bytes.now c.args.at _ c.requires (ap not c.is_line_end.ensures) (subst (IsSearched c.args.bytes.now c.args.at) (let h = c.if-not-begun.true in cc) s)

pub returns-then-byte-ne10 : goal.returns-then-byte-ne10
returns-then-byte-ne10 c =
    let b : nat_eq (slice_index c.args.bytes.now c.args.at) 10 ≡ false = (let h = c.if-byte-ne10.true in grind (arith, h)) in
    λ s. more_plain c.args.bytes.now c.args.at c.requires b (subst (IsSearched c.args.bytes.now c.args.at) (let h = c.if-not-begun.false in cc) s)

pub returns-in-Empty : goal.returns-in-Empty
returns-in-Empty c =
    let b : nat_eq (slice_index c.args.bytes.now c.args.at) 10 ≡ true = (let h = c.if-byte-ne10.false in grind (arith, h)) in
    λ s. ends_here c.args.bytes.now c.args.at c.in-Empty.len c.requires b (subst (Fronts (drop (c.args.at + 1) c.args.bytes.now)) c.in-Empty.is (subst (λ (xs : List ℕ). Fronts xs c.look_ahead.result) (take_rest c.args.bytes.now (c.args.at + 1)) c.look_ahead.ensures)) (subst (IsSearched c.args.bytes.now c.args.at) (let h = c.if-not-begun.false in cc) s)

pub returns-in-Other : goal.returns-in-Other
returns-in-Other c =
    let b : nat_eq (slice_index c.args.bytes.now c.args.at) 10 ≡ true = (let h = c.if-byte-ne10.false in grind (arith, h)) in
    λ s. more_other c.args.bytes.now c.args.at c.requires b (subst (Fronts (drop (c.args.at + 1) c.args.bytes.now)) c.in-Other.is (subst (λ (xs : List ℕ). Fronts xs c.look_ahead.result) (take_rest c.args.bytes.now (c.args.at + 1)) c.look_ahead.ensures)) (subst (IsSearched c.args.bytes.now c.args.at) (let h = c.if-not-begun.false in cc) s)

pub returns-in-Short : goal.returns-in-Short
returns-in-Short c =
    let b : nat_eq (slice_index c.args.bytes.now c.args.at) 10 ≡ true = (let h = c.if-byte-ne10.false in grind (arith, h)) in
    λ s. short_here c.args.bytes.now c.args.at c.requires b (subst (Fronts (drop (c.args.at + 1) c.args.bytes.now)) c.in-Short.is (subst (λ (xs : List ℕ). Fronts xs c.look_ahead.result) (take_rest c.args.bytes.now (c.args.at + 1)) c.look_ahead.ensures)) (subst (IsSearched c.args.bytes.now c.args.at) (let h = c.if-not-begun.false in cc) s)
