use Rattle.std.proofs.Common.{◌≡◌, ◌-◌}
use Rattle.cell_image.specs.Images.{width_bytes}
use Rattle.cell_image.specs.ImageReads.{image_read}
use Rattle.cell_image.proofs.ReadTurns.{left_to_read}
use Rattle.cell_image.proofs.image_reader.read_fields.Given as goal

abbrev pub invariant-loop-done : goal.invariant-loop-done
invariant-loop-done l = image_read l.fn.bytes ≡ left_to_read (width_bytes l.listing.widths) (l.done-end - l.done) l.listing.lines l.fields
