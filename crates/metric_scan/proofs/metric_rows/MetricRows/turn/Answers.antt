use Rattle.std.proofs.Common.{◌≡◌, List, Ok, true, false, refl, ap, subst, ◌∙◌}
use Rattle.row_scan.specs.Scans.{after_turn, behind}
use Rattle.metric_scan.specs.declared.id_filter.IdFilter.{IdFilter}
use Rattle.metric_scan.specs.IdFilters.{passes}
use Rattle.metric_scan.specs.RowTurns.{TurnSays}
use Rattle.metric_scan.specs.Walks.{GoesOn}
use Rattle.metric_scan.proofs.Lower as lower
use Rattle.metric_scan.proofs.NameReads.{passed_on}
use Rattle.metric_scan.proofs.WalkSteps.{no_turn, walk_ends, turn_widths, turned, turned_past, turned_to, names_cut, key_there, key_read, ids_known}
use Rattle.metric_scan.proofs.metric_rows.MetricRows.turn.Goals as goal

pub turn-requires : goal.turn-requires
turn-requires g c = let so = c.requires.under_way.3 in turn_widths _ _ _ _ _ _ _ so

pub returns-in_err-found-clause-says : goal.returns-in_err-found-clause-says
returns-in_err-found-clause-says g c =
    passed_on (λ r. TurnSays c.args.self.now (g.R.Rows.seen c.args.names.now.rows) r (record { scan = c.turn.new.self; filters = c.args.self.now.filters; names = c.args.self.now.names }) (g.R.Rows.seen c.turn.new.rows.rows)) c.in_err-found.field-0.0 c.from_residual.result c.from_residual.ensures.1
    (record { extends = c.in_err-found.ensures.made.1.since.extends; filters_are = refl; is = λ r own founds so. no_turn r own founds _ _ _ _ so _ c.in_err-found.field-0.0 c.in_err-found.ensures.made })

pub returns-in_default-clause-says : goal.returns-in_default-clause-says
returns-in_default-clause-says g c = record { extends = c.in_ok-found.ensures.made.1.since.extends; filters_are = refl; is = λ r own founds so. walk_ends r own founds _ _ _ _ so _ c.in_ok-found.field-0 c.in_default.is c.in_ok-found.ensures.made }

pub key_of-key-requires : goal.key_of-key-requires
key_of-key-requires g c =
    let so = c.requires.under_way.3 in
    let t = turned _ _ _ _ _ _ _ so _ c.in_ok-found.field-0 c.in-Some.found c.in-Some.is c.in_ok-found.ensures.made c.in_ok-found.ensures.leaves.possible in
    let left : c.turn.new.self ≡ behind c.args.self.now.scan c.in-Some.found.row = c.in_ok-found.ensures.left ∙ ap (λ o. after_turn c.args.self.now.scan (Ok o)) c.in-Some.is in
    key_there _ _ _ _ _ _ _ so _ c.in-Some.found t c.turn.new.self c.list.result.now left c.list.ensures

pub returns-then-not-passes-clause-says : goal.returns-then-not-passes-clause-says
returns-then-not-passes-clause-says g c =
    let left : c.turn.new.self ≡ behind c.args.self.now.scan c.in-Some.found.row = c.in_ok-found.ensures.left ∙ ap (λ o. after_turn c.args.self.now.scan (Ok o)) c.in-Some.is in
    let fails : passes c.args.self.now.filters.items c.key_of-key.result.pairs.items ≡ false = let e = c.passes.ensures in let v = c.as_slice.ensures.value in let d = c.deref.ensures.value in let t = c.if-not-passes.true in cc in
    record {
      extends = c.in_ok-found.ensures.made.1.since.extends;
      filters_are = refl;
      is = λ r own founds so.
          let t = turned r own founds _ _ _ _ so _ c.in_ok-found.field-0 c.in-Some.found c.in-Some.is c.in_ok-found.ensures.made c.in_ok-found.ensures.leaves.possible in
          turned_past r own founds _ _ _ _ so _ c.in-Some.found t c.key_of-key.result c.turn.new.self c.pass_over.new.scan
          (key_read r own founds _ _ _ _ so _ c.in-Some.found t c.turn.new.self c.list.result.now c.key_of-key.result left c.list.ensures c.key_of-key.ensures.is_key c.key_of-key.ensures.row) fails left
          (subst (λ (l : List IdFilter). GoesOn (passes l) c.turn.new.self c.pass_over.new.scan) c.deref-then-not-passes.ensures.value c.pass_over.ensures);
    }

pub name_pairs-requires-clause-knows : goal.name_pairs-requires-clause-knows
name_pairs-requires-clause-knows g c =
    let so = c.requires.under_way.3 in
    let t = turned _ _ _ _ _ _ _ so _ c.in_ok-found.field-0 c.in-Some.found c.in-Some.is c.in_ok-found.ensures.made c.in_ok-found.ensures.leaves.possible in
    let left : c.turn.new.self ≡ behind c.args.self.now.scan c.in-Some.found.row = c.in_ok-found.ensures.left ∙ ap (λ o. after_turn c.args.self.now.scan (Ok o)) c.in-Some.is in
    ids_known _ _ _ _ _ _ _ so _ c.in-Some.found t c.turn.new.self c.list.result.now c.key_of-key.result left c.list.ensures c.key_of-key.ensures.is_key c.key_of-key.ensures.row c.as_slice-2.result.now c.as_slice-2.ensures.value

pub returns-in_err-name_pairs-clause-says : goal.returns-in_err-name_pairs-clause-says
returns-in_err-name_pairs-clause-says g c =
    let left : c.turn.new.self ≡ behind c.args.self.now.scan c.in-Some.found.row = c.in_ok-found.ensures.left ∙ ap (λ o. after_turn c.args.self.now.scan (Ok o)) c.in-Some.is in
    passed_on (λ r. TurnSays c.args.self.now (g.R.Rows.seen c.args.names.now.rows) r (record { scan = c.turn.new.self; filters = c.args.self.now.filters; names = c.name_pairs.new.list }) (g.R.Rows.seen c.name_pairs.new.names.rows)) c.in_err-name_pairs.field-0.0 c.from_residual-in_err-name_pairs.result
    c.from_residual-in_err-name_pairs.ensures.1
    (record {
      extends = lower.extends_joined _ _ _ c.in_ok-found.ensures.made.1.since.extends c.in_err-name_pairs.ensures.asked.made.since.extends;
      filters_are = refl;
      is = λ r own founds so.
          let t = turned r own founds _ _ _ _ so _ c.in_ok-found.field-0 c.in-Some.found c.in-Some.is c.in_ok-found.ensures.made c.in_ok-found.ensures.leaves.possible in
          names_cut r own founds _ _ _ _ so _ c.in-Some.found t _ c.key_of-key.result c.as_slice-2.result.now
          (key_read r own founds _ _ _ _ so _ c.in-Some.found t c.turn.new.self c.list.result.now c.key_of-key.result left c.list.ensures c.key_of-key.ensures.is_key c.key_of-key.ensures.row) c.as_slice-2.ensures.value c.in_err-name_pairs.ensures.asked;
    })

pub returns-clause-says : goal.returns-clause-says
returns-clause-says g c =
    let left : c.turn.new.self ≡ behind c.args.self.now.scan c.in-Some.found.row = c.in_ok-found.ensures.left ∙ ap (λ o. after_turn c.args.self.now.scan (Ok o)) c.in-Some.is in
    let passes_all : passes c.args.self.now.filters.items c.key_of-key.result.pairs.items ≡ true = let e = c.passes.ensures in let v = c.as_slice.ensures.value in let d = c.deref.ensures.value in let t = c.if-not-passes.false in cc in
    record {
      extends = lower.extends_joined _ _ _ c.in_ok-found.ensures.made.1.since.extends c.in_ok-name_pairs.ensures.asked.made.since.extends;
      filters_are = refl;
      is = λ r own founds so.
          let t = turned r own founds _ _ _ _ so _ c.in_ok-found.field-0 c.in-Some.found c.in-Some.is c.in_ok-found.ensures.made c.in_ok-found.ensures.leaves.possible in
          turned_to r own founds _ _ _ _ so _ c.in-Some.found t _ _ c.key_of-key.result c.as_slice-2.result.now c.turn.new.self
          (key_read r own founds _ _ _ _ so _ c.in-Some.found t c.turn.new.self c.list.result.now c.key_of-key.result left c.list.ensures c.key_of-key.ensures.is_key c.key_of-key.ensures.row) passes_all c.as_slice-2.ensures.value left c.in_ok-name_pairs.ensures.asked;
    }
