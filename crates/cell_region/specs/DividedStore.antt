-- A store of which each row is in one of the regions.
use Rattle.std.specs.Prelude.{ℕ, refl}
use Rattle.std.specs.Coded.{Coded, code_by, coded×, coded_ℕ}
use Rattle.cell_model.specs.Store.{Store}
use Rattle.cell_model.specs.Codes.{coded_store}

-- how many data regions there are, and the store of all regions
pub record DividedStore : Type 0 where
  pub data_regions : ℕ
  pub content : Store

abbrev pub coded_divided : Coded DividedStore
coded_divided =
    code_by (ℕ × Store) (coded× coded_ℕ coded_store) (λ d. (d.data_regions, d.content)) (λ p. record { data_regions = p.0; content = p.1 }) (λ _. refl)
