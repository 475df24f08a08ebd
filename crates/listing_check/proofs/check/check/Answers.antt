use Rattle.std.proofs.Common.{rules}
use Rattle.listing_check.proofs.SoundReports.{sound_where}
use Rattle.listing_check.proofs.check.check.Goals as goal

pub returns-clause-faults : goal.returns-clause-faults
returns-clause-faults c = (c.in_ok-report.ensures c.args.listed.now (search rules) (search rules) (search rules)).faults

pub returns-clause-notes : goal.returns-clause-notes
returns-clause-notes c = (c.in_ok-report.ensures c.args.listed.now (search rules) (search rules) (search rules)).notes

pub returns-clause-sound : goal.returns-clause-sound
returns-clause-sound c = sound_where c.args.listed.now c.in_ok-report.report.faults.items (c.in_ok-report.ensures c.args.listed.now (search rules) (search rules) (search rules)).faults
