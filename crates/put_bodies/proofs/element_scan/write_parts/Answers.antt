use Rattle.put_bodies.proofs.ReadElements.{full_line}
use Rattle.put_bodies.proofs.element_scan.write_parts.Goals as goal

pub returns-then-is_full : goal.returns-then-is_full
returns-then-is_full c front d has read empty =
    full_line c.write_words.result front d c.args.parts.now c.in-Some.metric c.in-Some-time.time c.in-Some-value.value c.args.words.now c.args.line.now.items c.write_words.new.line.items has read c.in-Some.is c.in-Some-time.is c.in-Some-value.is
    c.if-parts.true (c.is_full.ensures c.if-is_full.true) empty c.write_words.ensures
