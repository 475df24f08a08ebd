use Rattle.std.proofs.Common.{refl}
use Rattle.tsd_base.proofs.TagLemmas.{find_by_lookup, adds_nothing, adds_entry, other_value}
use Rattle.tsd_base.proofs.tags.add_to_map.Goals as goal

pub returns-then-eq : goal.returns-then-eq
returns-then-eq c =
    let found = find_by_lookup c.args.map.now.entries c.args.key _ c.in-Some.ensures.value in
    let same = rw (c.bytes-earlier.ensures.bytes, c.bytes-text.ensures.bytes) at c.if-eq.ensures in
    adds_nothing _ (c.args.key, c.args.value) _ c.requires found same (rw c.key.view_is at c.key.invariant, c.bytes-text.ensures.named)

pub returns-else-eq : goal.returns-else-eq
returns-else-eq c =
    let found = find_by_lookup c.args.map.now.entries c.args.key _ c.in-Some.ensures.value in
    let other = rw (c.bytes-earlier.ensures.bytes, c.bytes-text.ensures.bytes) at c.if-eq.ensures in
    (refl, other_value _ (c.args.key, c.args.value) _ found other)

pub returns-in_ok-insert-in-None : goal.returns-in_ok-insert-in-None
returns-in_ok-insert-in-None c =
    let none = find_by_lookup c.args.map.now.entries c.args.key _ c.in-None.ensures.value in
    rw c.in_ok-insert-in-None.ensures.entries (adds_entry _ (c.args.key, c.args.value) none (rw c.key.view_is at c.key.invariant, c.bytes-text.ensures.named))
