use Rattle.std.proofs.Common.{ℕ, ◌≤◌, ap, subst, sym, ◌∙◌}
use Rattle.cell_model.specs.KindWidths.{id_bytes, most_ids}
use Rattle.listing_dump.proofs.RankTurns.{rank_added}
use Rattle.listing_dump.proofs.name_ranks.add_rank.Goals as goal

pub returns-in_ok-insert : goal.returns-in_ok-insert
returns-in_ok-insert c =
    rank_added c.args.widths c.args.kind c.args.cell.now c.id_of-id.result c.args.rank c.args.ranks.now c.insert.new.self (sym c.is_name_of.ensures ∙ c.if-is_name_of.true)
    (subst (λ (n : ℕ). c.id_of-id.result ≤ most_ids n) c.width_of.ensures.width c.id_of-id.ensures.most) (sym c.list.ensures ∙ sym c.id_of-id.ensures.bytes ∙ ap (λ (n : ℕ). id_bytes n c.id_of-id.result) c.width_of.ensures.width)
    c.in_ok-insert.ensures.updates.0
