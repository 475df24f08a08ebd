use Rattle.cell_laws.proofs.SeenIds.{seen_id_stands, seen_name_stands, given_is_id, given_is_free}
use Rattle.cell_laws.proofs.laws.seen_ids_stand.Goals as goal

pub returns : goal.returns
returns c = record { id = seen_id_stands; name = seen_name_stands; given = given_is_id; free = given_is_free }
