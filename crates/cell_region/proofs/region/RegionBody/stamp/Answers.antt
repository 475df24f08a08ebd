use Rattle.std.proofs.Common.{ap, subst, sym, ◌∙◌}
use Rattle.row_key.specs.declared.widths.Widths.{Widths}
use Rattle.cell_model.specs.Store.{Store}
use Rattle.cell_model.proofs.CallerLemmas.{stamped_widths}
use Rattle.cell_laws.specs.StoreParts.{is_in}
use Rattle.cell_region.proofs.OwnRows.{Fits, stamp_fits}
use Rattle.cell_region.proofs.region.RegionBody.stamp.Goals as goal

pub invariant_of-self : goal.invariant_of-self
invariant_of-self c =
    let f = subst (Fits c.args.self.now.data_regions c.args.self.now.number) (sym c.stamp.ensures.content) (stamp_fits c.args.self.now.data_regions c.args.self.now.number c.args.self.now.body (record { own = c.args.self.now.own; few = c.args.self.now.few }) c.args.row.now c.args.qual.now c.args.place c.requires.covered) in
    record { own = f.own; few = f.few }

pub returns-clause-covers : goal.returns-clause-covers
returns-clause-covers c =
    ap (λ (w : Widths). is_in w c.args.self.now.data_regions c.args.self.now.number) (ap (λ (s : Store). s.widths) c.stamp.ensures.content ∙ stamped_widths c.args.self.now.body c.args.row.now c.args.qual.now c.args.place)
