use Rattle.lerp_aggregate.proofs.cursors.Walk.+start.Given as goal

abbrev pub decreases-start : goal.decreases-start
decreases-start l = l.count
