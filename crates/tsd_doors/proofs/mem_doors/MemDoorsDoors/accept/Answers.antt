use Rattle.std.proofs.Common.{ℕ, List, [], arith, ap, sym, subst, ◌∙◌, ◌≡◌, ◌+◌, length, All}
use Rattle.std.specs.Prelude.{Option, Some, None}
use Rattle.std.proofs.lemmas.List.Elements.{All-head, All-rest}
use Rattle.tsd_doors.specs.Links.{accepted, IsNothing}
use Rattle.tsd_doors.specs.MemLinks.{DoorsInMemory, IsFresh, doors_counts, numbered}
use Rattle.tsd_doors.proofs.mem_doors.MemDoorsDoors.accept.Goals as goal

bytes_in : Option (List ℕ) → List ℕ
bytes_in None = []
bytes_in (Some bytes) = bytes

-- no bytes are told as nothing
nothing : (told : List ℕ) → told ≡ [] → IsNothing (Some told)
unfolding bytes_in
nothing told none bytes is = ap bytes_in (sym is) ∙ none

pub invariant_of-self : goal.invariant_of-self
invariant_of-self c =
    let items = ap length c.in-Some.ensures.items in
    let room = c.self.invariant.1 in (
      All-rest IsFresh _ _ _ c.in-Some.ensures.items c.self.invariant.0,
      omega (arith, items, room),
    )

pub returns-in-Some-clause-ends : goal.returns-in-Some-clause-ends
returns-in-Some-clause-ends c =
    let fresh : IsFresh (c.in-Some.source, c.in-Some.sink) = All-head IsFresh _ _ (subst (All IsFresh) c.in-Some.ensures.items c.self.invariant.0) in
    let back = ap length (ap (λ (d : DoorsInMemory). d.back) c.self.view_is ∙ c.call.ensures.back) in
    let out = ap (λ (d : DoorsInMemory). d.out) c.self.view_is ∙ c.call.ensures.out in
    let len = c.len.ensures in
    rw (c.make.ensures, c.make-in-Some.ensures) (record {
      source = omega (arith, back, out, len);
      sink = omega (arith, back, out, len);
      no_read = fresh.no_read;
      no_write = fresh.no_write;
      none_taken = nothing _ fresh.none_taken;
      none_held = nothing _ fresh.none_held;
    })

pub returns-in-Some-clause-first : goal.returns-in-Some-clause-first
returns-in-Some-clause-first c =
    let links = ap (λ (d : DoorsInMemory). d.links) c.self.view_is ∙ c.call.ensures.links in
    let back = ap length (ap (λ (d : DoorsInMemory). d.back) c.self.view_is ∙ c.call.ensures.back) in
    let out = ap (λ (d : DoorsInMemory). d.out) c.self.view_is ∙ c.call.ensures.out in
    let len = c.len.ensures in
    let number : c.len.result + c.self.inside.out ≡ accepted (doors_counts c.args.self.now) = omega (arith, back, out, len) in (
      (c.in-Some.source, c.in-Some.sink),
      sym links ∙ c.in-Some.ensures.items,
      rw (c.make.ensures, c.make-in-Some.ensures) (ap (numbered (c.in-Some.source, c.in-Some.sink)) number),
    )
