use Rattle.std.proofs.Common.{◌≡◌, ℕ, List, [], ◌∙◌, ap, sym}
use Rattle.std.specs.Prelude.{Ok}
use Rattle.cell_image.specs.ImageReads.{next_cell}
use Rattle.cell_image.proofs.Growing.{next_grows}
use Rattle.cell_image.proofs.StreamTurns.{used_up}
use Rattle.cell_image.proofs.image_stream.ImageStream.cell.Goals as goal

pub returns-clause-adds : goal.returns-clause-adds
returns-clause-adds c =
    let cells = c.args.listing.now.lines in
    let same : c.of-fields.result ≡ c.args.self.now = c.of-fields.ensures ∙ ap (λ (bytes : List ℕ). record { at = c.self.inside.used; bytes = bytes }) c.bytes.ensures ∙ c.self.view_is in
    let read : next_cell cells c.args.self.now ≡ Ok (c.add_cell.new.listing.lines, c.add_cell.new.fields) = ap (next_cell cells) (sym same) ∙ c.in_ok-add_cell.ensures.adds in
    used_up (next_cell cells) c.args.self.now c.add_cell.new.fields c.add_cell.new.listing.lines (next_grows cells c.args.self.now []) read c.use_up.new.self c.at-end.result c.at-end.ensures c.use_up.ensures
