use Rattle.std.proofs.Common.{rules, ◌≡◌, ℕ, ap, ◌∙◌}
use Rattle.std.specs.Prelude.{None}
use Rattle.cell_image.specs.Images.{fits}
use Rattle.cell_image.specs.StoreImages.{large_with}
use Rattle.cell_image.proofs.Gathered.{gathered_on, is_fitting, none_is, ok_map, some_is}
use Rattle.cell_image.proofs.image_cells.ImageCells.add.Goals as goal

pub returns-then-is_some : goal.returns-then-is_some
returns-then-is_some c =
    gathered_on c.args.cell.now c.args.self.now _ c.in_ok-number.ensures (c.large_with-large.ensures ∙ ap (λ (n : ℕ). large_with c.args.self.now.large n (fits c.args.cell.now)) c.in_ok-number.ensures) (λ none. absurd (some_is _ (search rules) none))

pub push_cell-requires : goal.push_cell-requires
push_cell-requires c =
    let none : c.large_with-large.result ≡ None = none_is _ (search rules) in
    is_fitting c.args.self.now.large c.in_ok-number.number c.args.cell.now c.large_with-large.result c.large_with-large.ensures none

pub returns : goal.returns
returns c =
    ok_map c.push_cell.result _ _
    (λ pushed. gathered_on c.args.cell.now c.args.self.now _ c.in_ok-number.ensures (c.large_with-large.ensures ∙ ap (λ (n : ℕ). large_with c.args.self.now.large n (fits c.args.cell.now)) c.in_ok-number.ensures) (λ none. pushed)) c.push_cell.ensures
