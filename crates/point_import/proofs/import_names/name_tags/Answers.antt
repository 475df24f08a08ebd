use Rattle.std.proofs.Common.{[], ◌∷◌, rules, subst, arith}
use Rattle.std.specs.Prelude.{Ok, Option}
use Rattle.tsd_base.specs.declared.kinds.Kind.{Kind}
use Rattle.tsd_base.specs.declared.kinds.Kind.TheVariants.{TagKey, TagValue}
use Rattle.point_import.specs.PutPoints.{Names, PossibleIfNamed}
use Rattle.point_import.proofs.AskedNames.{left_fault, left_full, left_named, none_left, rose_if_longer}
use Rattle.point_import.proofs.import_names.name_tags.Goals as goal

pub loop-pair-init : goal.loop-pair-init
loop-pair-init g c = record { names = λ r later n. n; possible = c.requires.possible; grows = omega arith }

pub loop-pair-preserved : goal.loop-pair-preserved
loop-pair-preserved g c =
    let t = c.pair-item.result in
    let one = subst (λ (o : Option Kind). Names c.args.rule.now.patterns (g.R.Rows.seen c.loop-pair.names.rows) ((TagKey, t.0) ∷ (TagValue, t.1) ∷ []) (Ok o) (g.R.Rows.seen c.name_tag.new.names.rows)) c.in-Ok-None.field-0-is c.in-Ok-None.ensures.names in
    let was = c.loop-pair.invariant.grows in
    let now = c.in-Ok-None.ensures.stops.grows in
    record {
      names = left_named c.args.rule.now.patterns (g.R.Rows.seen c.args.names.now.rows) (g.R.Rows.seen c.loop-pair.names.rows) (g.R.Rows.seen c.name_tag.new.names.rows) c.args.tags.now c.loop-pair.pair-index t (search rules) (search rules) c.loop-pair.invariant.names one;
      possible = subst (λ (o : Option Kind). PossibleIfNamed (Ok o) (g.R.Rows.seen c.name_tag.new.names.rows)) c.in-Ok-None.field-0-is c.in-Ok-None.ensures.possible;
      grows = omega (arith, was, now);
    }

pub returns-in-Ok-Some-clause-names : goal.returns-in-Ok-Some-clause-names
returns-in-Ok-Some-clause-names g c =
    let t = c.pair-item.result in
    let one = subst (λ (o : Option Kind). Names c.args.rule.now.patterns (g.R.Rows.seen c.loop-pair.names.rows) ((TagKey, t.0) ∷ (TagValue, t.1) ∷ []) (Ok o) (g.R.Rows.seen c.name_tag.new.names.rows)) c.in-Ok-Some.field-0-is c.in-Ok-Some.ensures.names in
    left_full c.args.rule.now.patterns (g.R.Rows.seen c.args.names.now.rows) (g.R.Rows.seen c.loop-pair.names.rows) (g.R.Rows.seen c.name_tag.new.names.rows) c.args.tags.now c.loop-pair.pair-index t (search rules) (search rules) c.loop-pair.invariant.names c.in-Ok-Some.kind one

pub returns-in-Err-clause-names : goal.returns-in-Err-clause-names
returns-in-Err-clause-names g c =
    let t = c.pair-item.result in
    left_fault c.args.rule.now.patterns (g.R.Rows.seen c.args.names.now.rows) (g.R.Rows.seen c.loop-pair.names.rows) (g.R.Rows.seen c.name_tag.new.names.rows) c.args.tags.now c.loop-pair.pair-index t (search rules) (search rules) c.loop-pair.invariant.names c.in-Err.fault c.in-Err.ensures.names

pub returns-clause-names : goal.returns-clause-names
returns-clause-names g c =
    none_left c.args.rule.now.patterns (g.R.Rows.seen c.args.names.now.rows) (g.R.Rows.seen c.loop-pair.names.rows) c.args.tags.now c.loop-pair.pair-index (search rules) c.loop-pair.invariant.names

pub returns-in-Ok-Some-clause-stops : goal.returns-in-Ok-Some-clause-stops
returns-in-Ok-Some-clause-stops g c = let was = c.loop-pair.invariant.grows in let now = c.in-Ok-Some.ensures.stops.grows in record { grows = omega (arith, was, now); rose = tt }

pub returns-in-Err-clause-stops : goal.returns-in-Err-clause-stops
returns-in-Err-clause-stops g c =
    let was = c.loop-pair.invariant.grows in
    let now = c.in-Err.ensures.stops.grows in
    record { grows = omega (arith, was, now); rose = rose_if_longer _ (g.R.Rows.stops c.args.names.now.rows) (g.R.Rows.stops c.loop-pair.names.rows) (g.R.Rows.stops c.name_tag.new.names.rows) was c.in-Err.ensures.stops.rose }

pub returns-clause-stops : goal.returns-clause-stops
returns-clause-stops g c = record { grows = c.loop-pair.invariant.grows; rose = tt }

pub returns-clause-possible : goal.returns-clause-possible
returns-clause-possible g c = c.loop-pair.invariant.possible
