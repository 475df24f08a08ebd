-- All regions together are the store.
use Rattle.std.proofs.Common.{sym, ap, ◌∙◌}
use Rattle.cell_model.specs.Store.{get}
use Rattle.row_key.specs.Regions.{region_number}
use Rattle.row_key.proofs.CallerLemmas.{regions_end}
use Rattle.cell_model.proofs.CallerLemmas.{same_store}
use Rattle.list_lemmas.proofs.BoolTests.{nat_eq-refl}
use Rattle.cell_laws.specs.StoreParts.{is_in}
use Rattle.cell_laws.specs.PartLaws.{PartsTellStore}
use Rattle.cell_laws.proofs.Parts.{get-mine}

pub parts_tell_store : PartsTellStore
parts_tell_store w D a b some widths same = same_store a b widths (λ q.
    let k = region_number w D q.row.table q.row.bytes in
    sym (get-mine (is_in w D k) a q (nat_eq-refl k)) ∙ ap (λ s. get s q) (same k (regions_end w D q.row.table q.row.bytes some)) ∙ get-mine (is_in w D k) b q (nat_eq-refl k))
