use Rattle.serde_json.specs.View.{view}
use Rattle.put_bodies.proofs.FloatTexts.{float_read}
use Rattle.put_bodies.proofs.text_numbers.is_float.Goals as goal

pub returns-in-Ok : goal.returns-in-Ok
returns-in-Ok c = float_read c.args.text.now (view c.in-Ok.value) c.is_f64.result c.in-Ok.ensures.ok c.is_f64.ensures
