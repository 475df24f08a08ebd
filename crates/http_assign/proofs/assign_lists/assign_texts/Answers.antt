use Rattle.std.proofs.Common.{◌≡◌, ◌+◌, ◌++◌, ◌∷◌, [], ◌∙◌, ℕ, sym, ap, subst, arith, List, take, drop, length}
use Rattle.std.proofs.lemmas.List.{map_push}
use Rattle.list_lemmas.proofs.ListParts.{length_push}
use Rattle.list_lemmas.proofs.MapPlaces.{behind_map, more_map, split_map}
use Rattle.tsd_base.specs.Names.{name_of}
use Rattle.cell_model.specs.IdRows.{NameOf}
use Rattle.http_assign.specs.AssignLists.{IdTold, of_kind, outcome_of, outcomes_of}
use Rattle.http_assign.specs.AssignTexts.{GoesOn, TextBegun, TextSays}
use Rattle.http_assign.proofs.TextRuns.{at_err, ends_more, ends_there, goes_more, goes_none, made_more, made_none}
use Rattle.http_assign.proofs.assign_lists.assign_texts.Goals as goal

pub loop-text-init : goal.loop-text-init
loop-text-init g c = record {
  made = made_none (g.R.Rows.seen c.args.names.now.rows);
  goes_on =
      subst (λ (outs : List IdTold). GoesOn c.args.rule.now.patterns [] (g.R.Rows.seen c.args.names.now.rows) outs (g.R.Rows.seen c.args.names.now.rows)) (sym (ap outcomes_of c.new-outs.ensures.items)) (goes_none c.args.rule.now.patterns (g.R.Rows.seen c.args.names.now.rows));
  each = ap length c.new-outs.ensures.items;
  grows = omega arith;
}

pub loop-text-preserved : goal.loop-text-preserved
loop-text-preserved g c =
    let l = c.loop-text in
    let texts = more_map (λ (text : List ℕ). (c.args.kind, text)) c.args.texts.now l.text-index c.text-item.result c.loop-text-test.true c.text-item.is in
    let outs : outcomes_of c.push.new.self.items ≡ outcomes_of l.outs.items ++ outcome_of c.in_ok-out.out ∷ [] = ap outcomes_of c.in_ok-push.ensures.items ∙ map_push outcome_of l.outs.items c.in_ok-out.out in
    record {
      made = made_more (g.R.Rows.seen c.args.names.now.rows) (g.R.Rows.seen l.names.rows) (g.R.Rows.seen c.assign_text.new.names.rows) l.invariant.made (c.in_ok-out.ensures.ok.own, c.in_ok-out.ensures.ok.made);
      goes_on =
          subst (λ (x : List NameOf × List IdTold). GoesOn c.args.rule.now.patterns x.0 (g.R.Rows.seen c.args.names.now.rows) x.1 (g.R.Rows.seen c.assign_text.new.names.rows)) (λ i. (sym texts i, sym outs i))
          (goes_more c.args.rule.now.patterns (of_kind c.args.kind (take l.text-index c.args.texts.now)) c.args.kind c.text-item.result (g.R.Rows.seen c.args.names.now.rows) (g.R.Rows.seen l.names.rows) (g.R.Rows.seen c.assign_text.new.names.rows) (outcomes_of l.outs.items) (outcome_of c.in_ok-out.out) l.invariant.goes_on
          (subst (λ (text : List ℕ). TextSays c.args.rule.now.patterns c.args.kind (name_of text) (g.R.Rows.seen l.names.rows) (outcome_of c.in_ok-out.out) (g.R.Rows.seen c.assign_text.new.names.rows)) c.list.ensures c.in_ok-out.ensures.ok));
      each = ap length c.in_ok-push.ensures.items ∙ length_push l.outs.items c.in_ok-out.out ∙ ap (λ (n : ℕ). n + 1) l.invariant.each;
      grows = let a = l.invariant.grows in let b = c.in_ok-out.ensures.stops.grows in omega (arith, a, b);
    }

pub returns-in_err-out-clause-made : goal.returns-in_err-out-clause-made
returns-in_err-out-clause-made g c =
    let l = c.loop-text in
    made_more (g.R.Rows.seen c.args.names.now.rows) (g.R.Rows.seen l.names.rows) (g.R.Rows.seen c.assign_text.new.names.rows) l.invariant.made (c.in_err-out.ensures.err.own, c.in_err-out.ensures.err.made)

pub returns-in_err-out-clause-err : goal.returns-in_err-out-clause-err
returns-in_err-out-clause-err g c =
    let l = c.loop-text in
    at_err c.from_residual.result
    (ends_more c.args.rule.now.patterns (of_kind c.args.kind (take l.text-index c.args.texts.now)) (of_kind c.args.kind (drop (l.text-index + 1) c.args.texts.now)) (of_kind c.args.kind c.args.texts.now) c.args.kind c.text-item.result (g.R.Rows.seen c.args.names.now.rows) (g.R.Rows.seen l.names.rows) (g.R.Rows.seen c.assign_text.new.names.rows) (outcomes_of l.outs.items)
    (split_map (λ (text : List ℕ). (c.args.kind, text)) c.args.texts.now l.text-index c.text-item.result c.loop-text-test.true c.text-item.is) l.invariant.goes_on
    (subst (λ (text : List ℕ). TextBegun c.args.rule.now.patterns c.args.kind (name_of text) (g.R.Rows.seen l.names.rows) (g.R.Rows.seen c.assign_text.new.names.rows)) c.list.ensures c.in_err-out.ensures.err))

pub returns-in_err-push-clause-made : goal.returns-in_err-push-clause-made
returns-in_err-push-clause-made g c =
    let l = c.loop-text in
    made_more (g.R.Rows.seen c.args.names.now.rows) (g.R.Rows.seen l.names.rows) (g.R.Rows.seen c.assign_text.new.names.rows) l.invariant.made (c.in_ok-out.ensures.ok.own, c.in_ok-out.ensures.ok.made)

pub returns-in_err-push-clause-err : goal.returns-in_err-push-clause-err
returns-in_err-push-clause-err g c =
    let l = c.loop-text in
    at_err c.from_residual-in_err-push.result (ends_there c.args.rule.now.patterns ((of_kind c.args.kind (take l.text-index c.args.texts.now)) ++ (c.args.kind, c.text-item.result) ∷ []) (of_kind c.args.kind (drop (l.text-index + 1) c.args.texts.now)) (of_kind c.args.kind c.args.texts.now) (g.R.Rows.seen c.args.names.now.rows) (g.R.Rows.seen c.assign_text.new.names.rows) (outcomes_of l.outs.items ++ outcome_of c.in_ok-out.out ∷ [])
    (behind_map (λ (text : List ℕ). (c.args.kind, text)) c.args.texts.now l.text-index c.text-item.result c.loop-text-test.true c.text-item.is)
    (goes_more c.args.rule.now.patterns (of_kind c.args.kind (take l.text-index c.args.texts.now)) c.args.kind c.text-item.result (g.R.Rows.seen c.args.names.now.rows) (g.R.Rows.seen l.names.rows) (g.R.Rows.seen c.assign_text.new.names.rows) (outcomes_of l.outs.items) (outcome_of c.in_ok-out.out) l.invariant.goes_on
    (subst (λ (text : List ℕ). TextSays c.args.rule.now.patterns c.args.kind (name_of text) (g.R.Rows.seen l.names.rows) (outcome_of c.in_ok-out.out) (g.R.Rows.seen c.assign_text.new.names.rows)) c.list.ensures c.in_ok-out.ensures.ok)))
