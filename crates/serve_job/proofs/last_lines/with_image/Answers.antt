use Rattle.std.proofs.Common.{rules, ◌≡◌, ◌+◌, ◌++◌, length, subst, ◌∙◌}
use Rattle.cell_image.specs.StoreImages.{ImagesStore}
use Rattle.serve_job.specs.FleetRuns.{size_line}
use Rattle.serve_job.proofs.SavedLemmas.{is_saved}
use Rattle.serve_job.proofs.last_lines.with_image.Goals as goal

pub returns-in_ok-extend_from_slice-in-Whole : goal.returns-in_ok-extend_from_slice-in-Whole
returns-in_ok-extend_from_slice-in-Whole c =
    let store = c.args.rows.now.content in
    let made = subst (ImagesStore store) c.in-Whole.is c.in_ok-cell.ensures in
    let head : c.len.result ≡ length c.in-Whole.head.items = search rules in
    let cells : c.len-in-Whole.result ≡ length c.in-Whole.cells.items = search rules in
    is_saved c.args.text.items store c.in-Whole.head.items c.in-Whole.cells.items _ made.0 made.1
    (c.in_ok-extend_from_slice-in-Whole.ensures.items ∙ (λ i. c.in_ok-push_size-in-Whole.ensures i ++ c.deref.ensures.value i) ∙ (λ i. (c.args.text.items ++ size_line (head i + cells i)) ++ c.in-Whole.head.items))
    (search rules) (search rules)
