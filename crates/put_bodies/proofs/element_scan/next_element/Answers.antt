use Rattle.json.specs.Json.{no_members, object}
use Rattle.std.proofs.Common.{List, ℕ, subst, sym}
use Rattle.put_bodies.specs.ElementParts.{HasParts, in_front}
use Rattle.put_bodies.proofs.ReadElements.{object_read}
use Rattle.put_bodies.proofs.element_scan.next_element.Goals as goal

pub returns-clause-stands : goal.returns-clause-stands
returns-clause-stands c =
    let m = c.in_ok-parts.ensures.stands in
    let read = object_read m.front m.read in
    record {
      j = object (in_front m.front no_members);
      at = m.at;
      read = read;
      of = c.write_line.ensures m.front read.d (subst (λ (words : List ℕ). HasParts m.front c.in_ok-parts.parts words) (sym c.as_slice.ensures.value) m.known) read.reads;
    }
