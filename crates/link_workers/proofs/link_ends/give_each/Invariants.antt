use Rattle.std.specs.Prelude.{◌≡◌, ◌≤◌, ◌+◌, ◌++◌, length, map, vec_capacity}
use Rattle.std.specs.Vec.Iter.{into_iter_items, into_iter_len}
use Rattle.link_workers.specs.Returns.{AllEnd, many_returned}
use Rattle.link_workers.proofs.link_ends.give_each.Given as goal

abbrev pub invariant-loop-one : goal.invariant-loop-one
invariant-loop-one g l = record {
  whole : l.fn.served.items ≡ l.yielded ++ into_iter_items l.one-iterator;
  len : into_iter_len l.one-iterator ≡ length (into_iter_items l.one-iterator);
  few : length (into_iter_items l.one-iterator) ≤ (g.D.Doors.counts l.doors).out;
  room : length l.ends.items + length (into_iter_items l.one-iterator) ≤ vec_capacity l.ends;
  ends : l.ends.items ≡ l.fn.ends.items ++ map (λ one. one.1) l.yielded;
  back : AllEnd (g.D.Doors.back l.fn.doors) (g.D.Doors.back l.doors) (map (λ one. g.D.Doors.shown one.0) l.yielded);
  counts : g.D.Doors.counts l.doors ≡ many_returned (length l.yielded) (g.D.Doors.counts l.fn.doors);
  waiting : g.D.Doors.waiting l.doors ≡ g.D.Doors.waiting l.fn.doors;
  faults : g.D.Doors.faults l.doors ≡ g.D.Doors.faults l.fn.doors;
}
