use Rattle.std.proofs.Common.{◌∙◌, sym, subst, ap, [], ◌∷◌, ◌++◌}
use Rattle.tsd_base.specs.Points.{data_point}
use Rattle.cell_solo.specs.PackedTurns.{TurnList, IsOnlyPut}
use Rattle.cell_solo.specs.TurnPlaces.{named_row_of}
use Rattle.cell_solo.proofs.Packing.{put_pushed, item_step, only_there}
use Rattle.cell_solo.proofs.turns.Turns.add_point.Goals as goal

pub find_or_add-place-requires-clause-only : goal.find_or_add-place-requires-clause-only
find_or_add-place-requires-clause-only c =
    let named = named_row_of (data_point c.args.point.now) c.args.row.now in
    only_there c.self.inside.heads.items c.self.inside.bytes.items c.self.inside.drops.items c.self.inside.places.list named c.self.invariant
    (subst (λ (t : TurnList). IsOnlyPut t.list named) (sym c.self.view_is) c.requires.only)

pub invariant_of-self : goal.invariant_of-self
invariant_of-self c =
    let p = put_pushed c.self.inside.heads.items c.self.inside.bytes.items c.self.inside.drops.items c.self.inside.places.list c.args.caller c.args.appends (data_point c.args.point.now) c.args.row.now c.args.value.now
    c.find_or_add-place.result c.push_reserved.new.self.items c.write_value.new.block.items c.find_or_add-place.new.self.list c.self.invariant c.requires.shortest
    c.find_or_add-place.ensures.stands c.find_or_add-place.ensures.also c.push_reserved.ensures.items c.write_value.ensures.items in
    p.fills

pub returns-clause-list : goal.returns-clause-list
returns-clause-list c =
    let p = put_pushed c.self.inside.heads.items c.self.inside.bytes.items c.self.inside.drops.items c.self.inside.places.list c.args.caller c.args.appends (data_point c.args.point.now) c.args.row.now c.args.value.now
    c.find_or_add-place.result c.push_reserved.new.self.items c.write_value.new.block.items c.find_or_add-place.new.self.list c.self.invariant c.requires.shortest
    c.find_or_add-place.ensures.stands c.find_or_add-place.ensures.also c.push_reserved.ensures.items c.write_value.ensures.items in
    p.list ∙ ap (λ (t : TurnList). t.list ++ record { caller = c.args.caller; step = item_step c.args.appends (data_point c.args.point.now) c.args.row.now c.args.value.now } ∷ []) c.self.view_is
