use Rattle.std.proofs.Common.{rules, sym, subst}
use Rattle.std.specs.Fork.{ChangesAt, ChangesEach}
use Rattle.link_acceptor.specs.Changes.{EachChanged}
use Rattle.link_acceptor.proofs.AcceptLemmas.{whole_written}
use Rattle.link_acceptor.proofs.staff.fn.accept_beside.join_mut+arg2.Goals as goal

pub returns : goal.returns
returns g c =
    let whole = whole_written c.captures.servers.now.len c.for_each_mut.new.s c.captures.servers.now.items (search rules) (search rules) in
    let changed = subst (λ xs. ChangesEach g.F.Fn c.captures.serve.now xs c.for_each_mut.new.s) c.deref_mut.ensures.value c.for_each_mut.ensures in
    record {
      len = search rules;
      changes = subst (EachChanged (ChangesAt g.F.Fn c.captures.serve.now) c.captures.servers.now.items) (sym whole) (record { each = λ i d lt. (changed i d lt).1 });
    }
