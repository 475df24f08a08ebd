-- The code of what a caller has seen.
use Rattle.std.specs.Prelude.{ℕ, Bool, List, refl}
use Rattle.std.specs.Coded.{Coded, code_by, coded×, coded_ℕ, coded_list, coded_bool}
use Rattle.cell_model.specs.declared.events.Placed.{Placed}
use Rattle.cell_model.specs.contracts.events.Placed as placed
use Rattle.cell_model.specs.Store.{Store}
use Rattle.cell_model.specs.Codes.{coded_store}
use Rattle.cell_model.specs.Seen.{Seen}

abbrev pub coded_placed : Coded Placed
coded_placed = placed.the_row.coded

abbrev pub coded_seen : Coded Seen
coded_seen =
    code_by (Store × (ℕ × (List ℕ × (ℕ × (List Placed × Bool))))) (coded× coded_store (coded× coded_ℕ (coded× (coded_list coded_ℕ) (coded× coded_ℕ (coded× (coded_list coded_placed) coded_bool)))))
    (λ s. (s.base, (s.caller, (s.absorbed, (s.length, (s.entries, s.alone))))))
    (λ t. record { base = t.0; caller = t.1.0; absorbed = t.1.1.0; length = t.1.1.1.0; entries = t.1.1.1.1.0; alone = t.1.1.1.1.1 })
    (λ _. refl)
