use Rattle.std.proofs.Common.{ℕ, ◌+◌, ap, rules}
use Rattle.listing_dump.proofs.Turns.{zeros_behind}
use Rattle.listing_dump.proofs.point_text.push_zeros.Goals as goal

pub returns : goal.returns
returns c = zeros_behind c.resize.result c.args.text.now.items c.resize.new.self.items _ _ c.args.count c.resize.ensures.items (ap (λ (n : ℕ). n + c.args.count) c.len.ensures) (search rules)
