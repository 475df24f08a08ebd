use Rattle.std.proofs.Common.{refl}
use Rattle.std.specs.Prelude.{None}
use Rattle.point_put.specs.Admissions.{admission}
use Rattle.stdio_job.proofs.Alone.{none_alone, plain_alone, served_alone}
use Rattle.stdio_job.proofs.lone_connection.serve_plain.Goals as goal

pub returns-in-Ok-clause-served : goal.returns-in-Ok-clause-served
returns-in-Ok-clause-served g c =
    let s = c.serve_conn-served.ensures.served in
    let a = admission c.args.config.now c.args.rule.now.patterns in
    record {
      input = s.input;
      output = s.output;
      times = s.times;
      takes = s.takes;
      leaves = s.leaves;
      gives = s.gives;
      ticks = s.ticks;
      so = plain_alone c.args.widths a c.serve_conn-served.result s.input s.output s.times (served_alone c.args.widths a _ _ s.input s.output s.times c.serve_conn-served.result c.in-Ok.ensures.fresh s.so.0) s.so.1;
    }

pub returns-in-Err-clause-served : goal.returns-in-Err-clause-served
returns-in-Err-clause-served g c =
    let s = g.S.Source in
    none_alone c.args.widths (admission c.args.config.now c.args.rule.now.patterns) None (record { taken = s.taken c.args.source.now; left = s.left c.args.source.now; held = g.K.Sink.held c.args.sink.now; moments = g.C.Clock.moments c.args.clock.now }) _ refl
