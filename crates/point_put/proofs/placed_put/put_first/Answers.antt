use Rattle.std.proofs.Common.{Ok, Err, sym, subst}
use Rattle.row_key.specs.declared.widths.Widths.{Widths}
use Rattle.row_key.specs.Key.{IsKey}
use Rattle.tsd_base.specs.declared.points.Point.{Point}
use Rattle.tsd_base.specs.Points.{data_point}
use Rattle.point_put.specs.Admissions.{admission}
use Rattle.point_put.specs.PutPoint.{PutSays, StoreMade}
use Rattle.point_put.specs.StoredTexts.{place_of, put_answer}
use Rattle.uid_table.proofs.CallerLemmas.{placed_kept}
use Rattle.point_put.proofs.Asking.{passed_on}
use Rattle.point_put.proofs.Outcomes.{put_failed, put_done, put_unplaced, few_failed, few_done}
use Rattle.point_put.proofs.PlacedPuts.{placed, stored_later}
use Rattle.point_put.proofs.placed_put.put_first.Goals as goal

pub returns-in_err-key-clause-says : goal.returns-in_err-key-clause-says
returns-in_err-key-clause-says g c =
    passed_on (λ r. PutSays (admission c.args.config.now c.args.rule.now.patterns) (data_point c.args.point) (g.R.Rows.seen c.args.names.now.rows) (put_answer r) (g.R.Rows.seen c.key_for.new.names.rows)) c.in_err-key.field-0.0 c.from_residual.result c.from_residual.ensures.1
    (put_failed (admission c.args.config.now c.args.rule.now.patterns) (data_point c.args.point) _ _ c.in_err-key.field-0.0 c.in_err-key.ensures.asked)

pub returns-in_err-key-clause-few : goal.returns-in_err-key-clause-few
returns-in_err-key-clause-few g c = few_failed (admission c.args.config.now c.args.rule.now.patterns) (data_point c.args.point) _ _ _ c.in_err-key.ensures.asked

pub place-requires : goal.place-requires
place-requires g c = subst (λ (w : Widths). IsKey w c.in_ok-key.key) (sym c.widths.ensures) c.in_ok-key.ensures.key.is_key

pub returns-in_default-clause-says : goal.returns-in_default-clause-says
returns-in_default-clause-says g c = put_unplaced (admission c.args.config.now c.args.rule.now.patterns) (data_point c.args.point) _ _ c.in_ok-key.key c.in_ok-key.ensures.asked

pub returns-in_default-clause-few : goal.returns-in_default-clause-few
returns-in_default-clause-few g c = few_failed (admission c.args.config.now c.args.rule.now.patterns) (data_point c.args.point) _ _ _ c.in_ok-key.ensures.asked

pub returns-in-Ok-store_placed-clause-says : goal.returns-in-Ok-store_placed-clause-says
returns-in-Ok-store_placed-clause-says g c =
    put_done (admission c.args.config.now c.args.rule.now.patterns) (data_point c.args.point) _ _ _ c.in_ok-key.key (Ok (place_of c.in-Ok.placed)) c.in_ok-key.ensures.asked
    (subst (λ (q : Point). StoreMade c.args.config.now.appends (data_point q) (g.R.Rows.seen c.key_for.new.names.rows) (Ok (place_of c.in-Ok.placed)) (g.R.Rows.seen c.store_placed.new.names.rows)) c.in-Ok.ensures.point c.in-Ok-store_placed.ensures.made)

pub returns-in-Ok-store_placed-clause-placed : goal.returns-in-Ok-store_placed-clause-placed
returns-in-Ok-store_placed-clause-placed g c = (
  placed_kept _ _ c.in-Ok.placed (stored_later c.args.config.now.appends (data_point c.in-Ok.placed.point) _ _ (Ok (place_of c.in-Ok.placed)) c.in-Ok-store_placed.ensures.made)
      (placed (g.R.Rows.seen c.key_for.new.names.rows) c.widths.result c.args.point c.in_ok-key.key c.in-Ok.placed c.widths.ensures c.in-Ok.ensures.point c.in-Ok.ensures.row c.in_ok-key.ensures.key c.in_ok-key.ensures.asked.answered c.in_ok-key.ensures.leaves.possible),
  c.in-Ok.ensures.point,
)

pub returns-in-Ok-store_placed-clause-few : goal.returns-in-Ok-store_placed-clause-few
returns-in-Ok-store_placed-clause-few g c =
    few_done (admission c.args.config.now c.args.rule.now.patterns) (data_point c.args.point) _ _ _ c.in_ok-key.key (Ok (place_of c.in-Ok.placed)) c.in_ok-key.ensures.asked
    (subst (λ (q : Point). StoreMade c.args.config.now.appends (data_point q) (g.R.Rows.seen c.key_for.new.names.rows) (Ok (place_of c.in-Ok.placed)) (g.R.Rows.seen c.store_placed.new.names.rows)) c.in-Ok.ensures.point c.in-Ok-store_placed.ensures.made)

pub returns-in-Err-clause-says : goal.returns-in-Err-clause-says
returns-in-Err-clause-says g c =
    put_done (admission c.args.config.now c.args.rule.now.patterns) (data_point c.args.point) _ _ _ c.in_ok-key.key (Err c.in-Err.fault) c.in_ok-key.ensures.asked
    (subst (λ (q : Point). StoreMade c.args.config.now.appends (data_point q) (g.R.Rows.seen c.key_for.new.names.rows) (Err c.in-Err.fault) (g.R.Rows.seen c.store_placed.new.names.rows)) c.in-Ok.ensures.point c.in-Err.ensures.made)

pub returns-in-Err-clause-few : goal.returns-in-Err-clause-few
returns-in-Err-clause-few g c =
    few_done (admission c.args.config.now c.args.rule.now.patterns) (data_point c.args.point) _ _ _ c.in_ok-key.key (Err c.in-Err.fault) c.in_ok-key.ensures.asked
    (subst (λ (q : Point). StoreMade c.args.config.now.appends (data_point q) (g.R.Rows.seen c.key_for.new.names.rows) (Err c.in-Err.fault) (g.R.Rows.seen c.store_placed.new.names.rows)) c.in-Ok.ensures.point c.in-Err.ensures.made)
