use Rattle.std.proofs.Common.{refl, rules, ◌∙◌}
use Rattle.listing_check.specs.Reports.{read_of}
use Rattle.listing_check.proofs.SoundReports.{all_count, base_where, cells_alone, none_other}
use Rattle.listing_check.proofs.check.check_cells.Goals as goal

pub told_among-requires : goal.told_among-requires
told_among-requires c = record { rising = search rules; parts = cells_alone c.lines.result.now (search rules) }

pub returns-clause-faults : goal.returns-clause-faults
returns-clause-faults c =
    (c.in_ok-report.ensures (read_of c.args.listing.now) refl (c.lines.ensures.lines ∙ all_count c.args.listing.now.lines c.lines.ensures.rising) (none_other c.args.listing.now.lines c.lines.ensures.rising)).faults

pub returns-clause-notes : goal.returns-clause-notes
returns-clause-notes c =
    (c.in_ok-report.ensures (read_of c.args.listing.now) refl (c.lines.ensures.lines ∙ all_count c.args.listing.now.lines c.lines.ensures.rising) (none_other c.args.listing.now.lines c.lines.ensures.rising)).notes

pub returns-clause-sound : goal.returns-clause-sound
returns-clause-sound c =
    base_where c.args.listing.now c.in_ok-report.report.faults.items c.lines.ensures.rising
    (c.in_ok-report.ensures (read_of c.args.listing.now) refl (c.lines.ensures.lines ∙ all_count c.args.listing.now.lines c.lines.ensures.rising) (none_other c.args.listing.now.lines c.lines.ensures.rising)).faults
