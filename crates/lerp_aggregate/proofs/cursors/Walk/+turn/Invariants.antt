use Rattle.lerp_aggregate.proofs.Walking.{pairs_of}
use Rattle.lerp_aggregate.proofs.cursors.Walk.+turn.Given as goal

abbrev pub decreases-turn : goal.decreases-turn
decreases-turn l = pairs_of l.self.now
