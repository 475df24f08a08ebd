use Rattle.std.proofs.Common.{◌/◌, ◌∙◌, refl, ap, List, ℕ, ◌∷◌, [], ◌++◌, length}
use Rattle.row_hours.specs.declared.hours.TheConstants.{HOUR_MILLIS}
use Rattle.tsd_base.specs.Points.{data_point}
use Rattle.cell_solo.specs.TurnPlaces.{PlaceList, named_row_of}
use Rattle.cell_solo.proofs.Placing.{added, number_added}
use Rattle.cell_solo.proofs.turn_places.Places.add.Goals as goal

pub invariant_of-self : goal.invariant_of-self
invariant_of-self c =
    let p = added c.self.inside.list.items c.self.inside.bytes.items (data_point c.args.point.now) c.args.row.now
    (record { start = c.len-start.result; hour = c.args.point.now.time / HOUR_MILLIS; row = length c.list-row_bytes.result.now; names = c.write_names-names.result; table = c.args.row.now.table; tags = length c.pairs.result.now })
    c.push_reserved.new.self.items c.write_names-names.new.block.items c.write.new.block.items c.self.invariant c.write_names-names.ensures.items
    (c.write.ensures.items ∙ ap (λ (xs : List ℕ). c.write_names-names.new.block.items ++ xs) c.list-row_bytes.ensures) c.push_reserved.ensures.items
    (c.len-start.ensures ∙ c.self.inside.bytes.ok.0) c.write_names-names.ensures.told (ap length c.list-row_bytes.ensures) refl refl (ap length c.pairs.ensures.pairs) in
    p.within

pub returns-clause-stands : goal.returns-clause-stands
returns-clause-stands c =
    let p = added c.self.inside.list.items c.self.inside.bytes.items (data_point c.args.point.now) c.args.row.now
    (record { start = c.len-start.result; hour = c.args.point.now.time / HOUR_MILLIS; row = length c.list-row_bytes.result.now; names = c.write_names-names.result; table = c.args.row.now.table; tags = length c.pairs.result.now })
    c.push_reserved.new.self.items c.write_names-names.new.block.items c.write.new.block.items c.self.invariant c.write_names-names.ensures.items
    (c.write.ensures.items ∙ ap (λ (xs : List ℕ). c.write_names-names.new.block.items ++ xs) c.list-row_bytes.ensures) c.push_reserved.ensures.items
    (c.len-start.ensures ∙ c.self.inside.bytes.ok.0) c.write_names-names.ensures.told (ap length c.list-row_bytes.ensures) refl refl (ap length c.pairs.ensures.pairs) in
    number_added c.self.inside.list.items c.self.inside.bytes.items (named_row_of (data_point c.args.point.now) c.args.row.now) _ c.len-number.result
    (c.len-number.ensures ∙ c.self.inside.list.ok.0) p.list

pub returns-clause-list : goal.returns-clause-list
returns-clause-list c =
    let p = added c.self.inside.list.items c.self.inside.bytes.items (data_point c.args.point.now) c.args.row.now
    (record { start = c.len-start.result; hour = c.args.point.now.time / HOUR_MILLIS; row = length c.list-row_bytes.result.now; names = c.write_names-names.result; table = c.args.row.now.table; tags = length c.pairs.result.now })
    c.push_reserved.new.self.items c.write_names-names.new.block.items c.write.new.block.items c.self.invariant c.write_names-names.ensures.items
    (c.write.ensures.items ∙ ap (λ (xs : List ℕ). c.write_names-names.new.block.items ++ xs) c.list-row_bytes.ensures) c.push_reserved.ensures.items
    (c.len-start.ensures ∙ c.self.inside.bytes.ok.0) c.write_names-names.ensures.told (ap length c.list-row_bytes.ensures) refl refl (ap length c.pairs.ensures.pairs) in
    p.list ∙ ap (λ (t : PlaceList). t.list ++ named_row_of (data_point c.args.point.now) c.args.row.now ∷ []) c.self.view_is
