use Rattle.std.proofs.Common.{subst, sym}
use Rattle.std.specs.Prelude.{All}
use Rattle.tsd_base.specs.Dots.{IsRising, IsAboveAll}
use Rattle.tsd_base.proofs.DotsLemmas.{rising_either}
use Rattle.tsd_base.proofs.dots.Dots.append.Goals as goal

pub invariant_of-self : goal.invariant_of-self
invariant_of-self c =
    rising_either c.extend.result c.self.inside.list.items c.list.result.now c.extend.new.list.items c.extend.ensures.ok c.extend.ensures.err c.self.invariant
    (subst IsRising (sym c.list.ensures.list) c.list.ensures.rising)
    (subst (λ l. All (λ d. IsAboveAll d.0 c.self.inside.list.items) l) (sym c.list.ensures.list)
    (subst (λ l. All (λ d. IsAboveAll d.0 l) c.args.later.now) (sym c.self.view_is) c.requires))
