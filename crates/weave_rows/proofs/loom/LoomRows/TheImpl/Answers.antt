use Rattle.std.proofs.Common.{arith}
use Rattle.cell_solo.proofs.CallerLemmas.{stayed, lives_on, stopped_never, stands_never, on_ok, if_err}
use Rattle.weave_rows.proofs.loom.LoomRows.TheImpl.Goals as goal

pub put_point-tells : goal.put_point-tells
put_point-tells = λ c. record {
  ok = on_ok c.result (λ s. s.stepped) c.ensures.steps;
  err = if_err c.result (λ e. stayed c.args.self.now.play c.new.self.now.play) c.ensures.stays;
  possible = on_ok c.result (λ s. s.possible) c.ensures.steps;
  lives = if_err c.result (λ e. lives_on c.args.self.now.play c.new.self.now.play) c.ensures.stays;
  grows = omega arith;
  stopped = if_err c.result stopped_never c.ensures.memory;
  stands = stands_never c.result c.ensures.memory;
  spare = on_ok c.result (λ eight. omega (arith, eight)) c.ensures.room;
}

pub append_point-tells : goal.append_point-tells
append_point-tells = λ c. record {
  ok = on_ok c.result (λ s. s.stepped) c.ensures.steps;
  err = if_err c.result (λ e. stayed c.args.self.now.play c.new.self.now.play) c.ensures.stays;
  possible = on_ok c.result (λ s. s.possible) c.ensures.steps;
  lives = if_err c.result (λ e. lives_on c.args.self.now.play c.new.self.now.play) c.ensures.stays;
  grows = omega arith;
  stopped = if_err c.result stopped_never c.ensures.memory;
  stands = stands_never c.result c.ensures.memory;
  spare = on_ok c.result (λ eight. omega (arith, eight)) c.ensures.room;
}
