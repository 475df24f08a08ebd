use Rattle.series_meta.proofs.SeriesBytes.{id_least, id_most, id_is}
use Rattle.series_meta.proofs.series_row.series_id.Goals as goal

pub without_hour-requires-clause-least : goal.without_hour-requires-clause-least
without_hour-requires-clause-least c = id_least c.args.widths c.args.key.now _ _ c.as_slice.ensures.value c.write_key-row.ensures

pub without_hour-requires-clause-most : goal.without_hour-requires-clause-most
without_hour-requires-clause-most c = id_most c.args.widths c.args.key.now _ _ c.as_slice.ensures.value c.write_key-row.ensures c.requires

pub returns : goal.returns
returns c = id_is c.args.widths c.args.key.now _ _ c.as_slice.ensures.value c.write_key-row.ensures c.without_hour.result c.without_hour.ensures
