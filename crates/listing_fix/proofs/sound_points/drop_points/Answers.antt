use Rattle.std.proofs.Common.{◌≡◌, Bool, List, ap, length, subst, ◌∙◌}
use Rattle.cell_model.specs.declared.row.ListLine.{ListLine}
use Rattle.listing_fix.specs.Steps.{Judges, chosen}
use Rattle.listing_fix.proofs.Judged.{judged_length, judged_sifted}
use Rattle.listing_fix.proofs.Mending.{sifted_rise}
use Rattle.listing_fix.proofs.sound_points.drop_points.Goals as goal

pub keep_flagged-requires : goal.keep_flagged-requires
keep_flagged-requires c =
    ap length c.deref-2.ensures.value ∙ judged_length c.args.widths c.deref.result.now c.deref.result.now c.in_ok-flags.flags.items c.in_ok-flags.ensures ∙ ap length c.deref.ensures.value

pub returns-clause-sifted : goal.returns-clause-sifted
returns-clause-sifted c =
    judged_sifted c.args.widths c.args.cells.items c.keep_flagged.result.items c.in_ok-flags.flags.items
    (subst (λ (ls : List ListLine). Judges c.args.widths ls ls c.in_ok-flags.flags.items) c.deref.ensures.value c.in_ok-flags.ensures)
    (subst (λ (fs : List Bool). c.keep_flagged.result.items ≡ chosen fs c.args.cells.items) c.deref-2.ensures.value c.keep_flagged.ensures)

pub returns-clause-rising : goal.returns-clause-rising
returns-clause-rising c =
    sifted_rise c.args.widths c.args.cells.items c.args.cells.items c.keep_flagged.result.items
    (judged_sifted c.args.widths c.args.cells.items c.keep_flagged.result.items c.in_ok-flags.flags.items
    (subst (λ (ls : List ListLine). Judges c.args.widths ls ls c.in_ok-flags.flags.items) c.deref.ensures.value c.in_ok-flags.ensures)
    (subst (λ (fs : List Bool). c.keep_flagged.result.items ≡ chosen fs c.args.cells.items) c.deref-2.ensures.value c.keep_flagged.ensures))
    c.requires
