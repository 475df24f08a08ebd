use Rattle.std.proofs.Common.{ℕ, [], ◌∷◌}
use Rattle.std.specs.Prelude.{Err}
use Rattle.tsd_base.specs.declared.kinds.Kind.TheVariants.{TagKey, TagValue}
use Rattle.cell_model.specs.Layout.{tag_names}
use Rattle.point_put.specs.Admissions.{admission}
use Rattle.point_put.specs.ShownIds.{NamesAsked}
use Rattle.point_put.proofs.Asking.{asked_then, asked_failed, asked_ok_as, asked_err_as, passed_on}
use Rattle.uid_table.proofs.CallerLemmas.{shown_kept}
use Rattle.point_put.proofs.point_key.pair_for.Goals as goal

pub returns-in_err-key-clause-asked : goal.returns-in_err-key-clause-asked
returns-in_err-key-clause-asked g c =
    let k = (TagKey, c.args.tag.now.0) ∷ [] in
    let v = (TagValue, c.args.tag.now.1) ∷ [] in
    let failed = asked_failed {U = ℕ × ℕ} (admission c.args.config.now c.args.rule.now.patterns) k v _ _ c.in_err-key.field-0.0 c.in_err-key.ensures.asked in
    passed_on (λ r. NamesAsked {T = ℕ × ℕ} (admission c.args.config.now c.args.rule.now.patterns) (tag_names (c.args.tag.now ∷ [])) (g.R.Rows.seen c.args.names.now.rows) r (g.R.Rows.seen c.id_for.new.names.rows)) c.in_err-key.field-0.0 c.from_residual.result c.from_residual.ensures.1 failed

pub returns-in_err-value-clause-asked : goal.returns-in_err-value-clause-asked
returns-in_err-value-clause-asked g c =
    let k = (TagKey, c.args.tag.now.0) ∷ [] in
    let v = (TagValue, c.args.tag.now.1) ∷ [] in
    let both = asked_then (admission c.args.config.now c.args.rule.now.patterns) k v _ _ _ c.in_ok-key.key (Err c.in_err-value.field-0.0) c.in_ok-key.ensures.asked c.in_err-value.ensures.asked in
    passed_on (λ r. NamesAsked {T = ℕ × ℕ} (admission c.args.config.now c.args.rule.now.patterns) (tag_names (c.args.tag.now ∷ [])) (g.R.Rows.seen c.args.names.now.rows) r (g.R.Rows.seen c.id_for-2.new.names.rows)) c.in_err-value.field-0.0 c.from_residual-in_err-value.result c.from_residual-in_err-value.ensures.1
    (asked_err_as _ _ _ _ _ both)

pub returns-clause-asked : goal.returns-clause-asked
returns-clause-asked g c =
    let k = (TagKey, c.args.tag.now.0) ∷ [] in
    let v = (TagValue, c.args.tag.now.1) ∷ [] in
    asked_ok_as _ _ _ _ _ _ (asked_then (admission c.args.config.now c.args.rule.now.patterns) k v _ _ _ c.in_ok-key.key _ c.in_ok-key.ensures.asked c.in_ok-value.ensures.asked)

pub returns-clause-ids : goal.returns-clause-ids
returns-clause-ids g c = (shown_kept _ _ TagKey c.args.tag.now.0 c.in_ok-key.key c.in_ok-value.ensures.asked.made.since.extends c.in_ok-key.ensures.id, c.in_ok-value.ensures.id)
