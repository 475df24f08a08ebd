use Rattle.std.proofs.Common.{◌≡◌, List, ◌++◌, ap, rules, subst, ◌∙◌}
use Rattle.std.specs.Prelude.{IfOk}
use Rattle.std.proofs.lemmas.List.{nil_from_length}
use Rattle.cell_model.specs.Counts.{lines_of}
use Rattle.cell_model.specs.KindWidths.{Widths}
use Rattle.cell_model.specs.declared.row.ListLine.{ListLine}
use Rattle.listing_check.specs.Laws.{store_in}
use Rattle.listing_fix.proofs.More.{nothing_more, ordered_rise}
use Rattle.listing_fix.proofs.cell_order.with_more.Goals as goal

pub returns-then-is_empty-clause-lines : goal.returns-then-is_empty-clause-lines
returns-then-is_empty-clause-lines c = λ w. nothing_more w c.args.cells.items c.args.more.items c.requires (nil_from_length c.args.more.items (search rules))

pub returns-clause-rising : goal.returns-clause-rising
returns-clause-rising c = ordered_rise c.in_order.result c.append.new.self.items c.in_order.ensures

pub returns-clause-lines : goal.returns-clause-lines
returns-clause-lines c = subst (λ (ls : List ListLine). IfOk c.in_order.result (λ all. (w : Widths) → all.items ≡ lines_of (store_in w ls))) (c.in_ok-append.ensures.items ∙ ap (λ (ls : List ListLine). ls ++ c.args.more.items) c.in_ok-reserve_exact.ensures.items) c.in_order.ensures
