use Rattle.std.proofs.Common.{◌≡◌, ℕ, ap, arith, cond}
use Rattle.packed_cells.specs.Keyed.{appended}
use Rattle.map_body.specs.TableRows.{row_in}
use Rattle.map_body.proofs.Maps.{appended_some, inserted, none_empty_set}
use Rattle.map_body.proofs.table_rows.TableRows.append.Goals as goal

pub invariant_of-self-then-branch : goal.invariant_of-self-then-branch
invariant_of-self-then-branch c = (
  none_empty_set c.self.inside.rows c.append_to.new.rows c.args.row.now (appended (row_in c.self.inside.rows c.args.row.now) c.args.piece.now 0) c.self.invariant.0 (appended_some (row_in c.self.inside.rows c.args.row.now) c.args.piece.now 0) c.in_ok-append_to.ensures.ok,
  let one : ◌≡◌ {A = ℕ} (cond c.in_ok-append_to.field-0 1 0) 1 = ap (λ b. cond b 1 0) c.if-branch.true in
      omega (arith, one, c.in_ok-append_to.ensures.count, c.self.invariant.1),
)

pub invariant_of-self-else-branch : goal.invariant_of-self-else-branch
invariant_of-self-else-branch c = (
  none_empty_set c.self.inside.rows c.append_to.new.rows c.args.row.now (appended (row_in c.self.inside.rows c.args.row.now) c.args.piece.now 0) c.self.invariant.0 (appended_some (row_in c.self.inside.rows c.args.row.now) c.args.piece.now 0) c.in_ok-append_to.ensures.ok,
  let none : ◌≡◌ {A = ℕ} (cond c.in_ok-append_to.field-0 1 0) 0 = ap (λ b. cond b 1 0) c.if-branch.false in
      omega (arith, none, c.in_ok-append_to.ensures.count, c.self.invariant.1),
)

pub returns-then-branch-clause-ok : goal.returns-then-branch-clause-ok
returns-then-branch-clause-ok c =
    rw (← c.self.view_is)
    (inserted c.self.inside.rows c.append_to.new.rows c.args.row.now (appended (row_in c.self.inside.rows c.args.row.now) c.args.piece.now 0) c.in_ok-append_to.ensures.ok)

pub returns-else-branch-clause-ok : goal.returns-else-branch-clause-ok
returns-else-branch-clause-ok c =
    rw (← c.self.view_is)
    (inserted c.self.inside.rows c.append_to.new.rows c.args.row.now (appended (row_in c.self.inside.rows c.args.row.now) c.args.piece.now 0) c.in_ok-append_to.ensures.ok)
