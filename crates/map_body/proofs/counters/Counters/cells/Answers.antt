use Rattle.std.proofs.Common.{List, ◌++◌, map, ap, ◌∙◌}
use Rattle.tsd_base.specs.declared.kinds.Kind.TheVariants.{Metric}
use Rattle.packed_cells.specs.Keyed.{cell_from}
use Rattle.map_body.specs.Counting.{shown}
use Rattle.map_body.proofs.Counted.{cells_shown}
use Rattle.qual_codec.specs.declared.cells.Cell.{Cell}
use Rattle.map_body.proofs.counters.Counters.cells.Goals as goal

pub returns : goal.returns
returns c =
    rw (← c.self.view_is)
    (cells_shown c.self.inside.metric c.self.inside.tag_key c.self.inside.tag_value c.push.new.cells c.push-2.new.cells c.push-3.new.cells
    (c.in_ok-push.ensures.ok ∙ ap (λ (l : List Cell). l ++ map cell_from (shown Metric c.self.inside.metric)) c.make-cells.ensures) c.in_ok-push-2.ensures.ok c.in_ok-push-3.ensures.ok)
