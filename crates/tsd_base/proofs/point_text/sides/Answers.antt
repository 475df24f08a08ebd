use Rattle.std.proofs.lemmas.List.{take_rest}
use Rattle.tsd_base.specs.Points.{is_equals}
use Rattle.list_lemmas.proofs.FirstPlaces.{list_any-position, list_any-no_position}
use Rattle.tsd_base.proofs.point_text.sides.Goals as goal

pub returns-in_err-at : goal.returns-in_err-at
returns-in_err-at c = rw c.from_residual.ensures (list_any-no_position is_equals c.args.word.now c.in_err-at.ensures)

pub returns : goal.returns
returns c =
    let h = list_any-position is_equals c.args.word.now c.in_ok-at.at c.in_ok-at.ensures in
    record { found = h.0; before = rw h.1; after = rw (take_rest, h.1) }
