use Rattle.std.proofs.Common.{List, ◌∷◌, ◌++◌, sym, ap, subst, ◌∙◌}
use Rattle.std.specs.Prelude.{Contains}
use Rattle.std.specs.List.{AllZip}
use Rattle.std.proofs.lemmas.List.{append-nil}
use Rattle.std.proofs.lemmas.List.Elements.{Contains-append_right}
use Rattle.std.proofs.lemmas.Map.Views.{btree_map_get_iff}
use Rattle.list_lemmas.proofs.ListMembers.{here}
use Rattle.metric_scan.specs.Walks.{names_of}
use Rattle.series_meta.specs.SeriesLines.{IsLine}
use Rattle.series_meta.specs.PairsOrder.{pairs_cmp_total}
use Rattle.series_meta.proofs.TimeLists.{pairs_exact}
use Rattle.series_meta.proofs.LineLists.{Entry, lines_more}
use Rattle.series_meta.proofs.series_lines.all_lines.Goals as goal

pub line_of-requires-clause-series : goal.line_of-requires-clause-series
line_of-requires-clause-series c =
    let e : Entry = (c.in-Some.ids, c.in-Some.count) in
    let i : Contains c.args.counts.entries e =
    subst (λ (l : List Entry). Contains l e) (sym (c.loop-ids.invariant.whole ∙ ap (λ (l : List Entry). c.loop-ids.yielded ++ l) c.in-Some.ensures.steps)) (Contains-append_right c.loop-ids.yielded (e ∷ c.next.new.self) e (here e c.next.new.self)) in
    c.requires.series e.0 e.1 ((btree_map_get_iff pairs_cmp_total pairs_exact c.args.counts c.len.ensures.ordered e.0 e.1).1 i)

pub loop-ids-preserved : goal.loop-ids-preserved
loop-ids-preserved c =
    let e : Entry = (c.in-Some.ids, c.in-Some.count) in
    let w = lines_more (IsLine (names_of c.args.rows.now) c.args.widths c.args.metric) c.args.counts.entries c.loop-ids.yielded c.loop-ids.ids-iterator c.next.new.self e c.loop-ids.lines.items c.push.new.self.items _ c.loop-ids.invariant.whole c.in-Some.ensures.steps c.loop-ids.invariant.lines c.in_ok-line_of.ensures c.in_ok-push.ensures.items in
    record { whole = w.0; lines = w.1 }

pub returns-clause-lines : goal.returns-clause-lines
returns-clause-lines c =
    let all = c.loop-ids.invariant.whole ∙ ap (λ (l : List Entry). c.loop-ids.yielded ++ l) c.in-None.ensures.steps.0 ∙ append-nil c.loop-ids.yielded in
    subst (λ (l : List Entry). AllZip (IsLine (names_of c.args.rows.now) c.args.widths c.args.metric) l c.loop-ids.lines.items) (sym all) c.loop-ids.invariant.lines
