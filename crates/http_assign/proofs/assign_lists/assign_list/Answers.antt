use Rattle.std.proofs.Common.{◌∙◌, List, ℕ, sym, ap, subst, OnErr}
use Rattle.http_assign.specs.AssignLists.{of_kind, texts_in}
use Rattle.http_assign.specs.AssignTexts.{EndsEarly}
use Rattle.http_assign.proofs.TextRuns.{made_none}
use Rattle.http_assign.proofs.assign_lists.assign_list.Goals as goal

pub returns-in-Some-clause-err : goal.returns-in-Some-clause-err
returns-in-Some-clause-err g c =
    subst (λ (texts : List (List ℕ)). OnErr c.assign_texts.result (EndsEarly c.args.rule.now.patterns (of_kind c.args.kind texts) (g.R.Rows.seen c.args.names.now.rows) (g.R.Rows.seen c.assign_texts.new.names.rows)))
    (c.as_slice.ensures.value ∙ sym (ap texts_in c.in-Some.is)) c.assign_texts.ensures.err

pub returns-in-None-clause-made : goal.returns-in-None-clause-made
returns-in-None-clause-made g c = made_none (g.R.Rows.seen c.args.names.now.rows)
