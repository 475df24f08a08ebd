use Rattle.std.proofs.Common.{refl}
use Rattle.tsd_base.proofs.TagLemmas.{find_at, adds_nothing, adds_new, other_value}
use Rattle.tsd_base.proofs.tags.add.Goals as goal

pub returns-then-eq : goal.returns-then-eq
returns-then-eq c =
    let found = find_at _ _ _ c.index.result.now c.requires (rw (c.deref.ensures.value, c.bytes.ensures.bytes) at c.in-Ok.ensures) in
    let same = rw (c.bytes-earlier.ensures.bytes, c.bytes-text.ensures.bytes, c.index.ensures) at c.if-eq.ensures in
    adds_nothing _ (c.args.key, c.args.value) _ c.requires found same (c.bytes.ensures.named, c.bytes-text.ensures.named)

pub returns-else-eq : goal.returns-else-eq
returns-else-eq c =
    let found = find_at _ _ _ c.index.result.now c.requires (rw (c.deref.ensures.value, c.bytes.ensures.bytes) at c.in-Ok.ensures) in
    let other = rw (c.bytes-earlier.ensures.bytes, c.bytes-text.ensures.bytes, c.index.ensures) at c.if-eq.ensures in
    (refl, other_value _ (c.args.key, c.args.value) _ found other)

pub returns-in_ok-insert-in-Err : goal.returns-in_ok-insert-in-Err
returns-in_ok-insert-in-Err c =
    let gap = rw (c.deref.ensures.value, c.bytes.ensures.bytes) at c.in-Err.ensures in
    rw c.in_ok-insert-in-Err.ensures.items (adds_new _ (c.args.key, c.args.value) _ gap (c.bytes.ensures.named, c.bytes-text.ensures.named))
