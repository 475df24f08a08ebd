use Rattle.tsd_run.proofs.fleet_base.in_regions.Goals as goal

pub of-requires-clause-lines : goal.of-requires-clause-lines
of-requires-clause-lines c =
    let l = c.args.listing in
    let laws = c.flawless_is_base.ensures in
    laws.loads l.widths l.lines ((laws.base l.widths l.lines c.lines.ensures.rising).1 c.requires.base)
