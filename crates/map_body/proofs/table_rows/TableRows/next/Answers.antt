use Rattle.std.proofs.Common.{sym, ◌∙◌}
use Rattle.std.specs.FinMap.{entries, entries_sorted}
use Rattle.map_body.proofs.Ranges.{none_within, first_within, first_behind}
use Rattle.map_body.proofs.table_rows.TableRows.next.Goals as goal

pub returns-then-is_below-clause-first : goal.returns-then-is_below-clause-first
returns-then-is_below-clause-first c =
    rw (← c.self.view_is)
    (first_within c.args.from.now c.args.to.now (entries c.self.inside.rows) (c.in-Some.found.0.now, c.in-Some.found.1.now) c.next.new.self (sym c.walk_from-walk.ensures ∙ c.in-Some.ensures) (sym c.is_below.ensures ∙ c.if-is_below.true))

pub returns-else-is_below-clause-first : goal.returns-else-is_below-clause-first
returns-else-is_below-clause-first c =
    rw (← c.self.view_is)
    (first_behind c.args.from.now c.args.to.now (entries c.self.inside.rows) (c.in-Some.found.0.now, c.in-Some.found.1.now) c.next.new.self (entries_sorted c.self.inside.rows) (sym c.walk_from-walk.ensures ∙ c.in-Some.ensures) (sym c.is_below.ensures ∙ c.if-is_below.false))

pub returns-in-None-clause-first : goal.returns-in-None-clause-first
returns-in-None-clause-first c = rw (← c.self.view_is) (none_within c.args.from.now c.args.to.now (entries c.self.inside.rows) (sym c.walk_from-walk.ensures ∙ c.in-None.ensures.0))
