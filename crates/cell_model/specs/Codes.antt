-- The code of a store, by which a proof tells stores apart.
use Rattle.std.specs.Prelude.{◌≡◌, ℕ, List, refl}
use Rattle.std.proofs.Common.{zero, suc}
use Rattle.std.specs.Coded.{Coded, code_by, coded×, coded_ℕ, coded_list}
use Rattle.std.specs.FinMap.{code}
use Rattle.row_key.specs.declared.tables.Table.{Table}
use Rattle.row_key.specs.declared.tables.Table.TheVariants.{Ids, Names, Points}
use Rattle.cell_model.specs.declared.events.Place.{Place}
use Rattle.cell_model.specs.declared.events.Content.{Content}
use Rattle.row_key.specs.declared.widths.Widths.{Widths}
use Rattle.row_key.specs.contracts.widths.Widths as widths
use Rattle.cell_model.specs.Store.{StoreCells, Store, table_number}

-- the table of a number
abbrev pub table_at : ℕ → Table
table_at zero = Ids
table_at (suc zero) = Names
table_at (suc (suc n)) = Points

-- each table is that of its number
pub table_at-number : (t : Table) → table_at (table_number t) ≡ t
table_at-number Ids = refl
table_at-number Names = refl
table_at-number Points = refl

-- the codes of places, of contents and of stores
abbrev pub coded_place : Coded Place
coded_place =
    code_by (ℕ × (List ℕ × List ℕ)) (coded× coded_ℕ (coded× (coded_list coded_ℕ) (coded_list coded_ℕ)))
    (λ p. (table_number p.row.table, (p.row.bytes, p.qual)))
    (λ t. record { row = record { table = table_at t.0; bytes = t.1.0 }; qual = t.1.1 })
    (λ p i. record { row = record { table = table_at-number p.row.table i; bytes = p.row.bytes }; qual = p.qual })

abbrev pub coded_content : Coded Content
coded_content = code_by (List ℕ × ℕ) (coded× (coded_list coded_ℕ) coded_ℕ) (λ c. (c.value, c.version)) (λ t. record { value = t.0; version = t.1 }) (λ _. refl)

abbrev pub coded_store : Coded Store
coded_store = code_by (Widths × StoreCells) (coded× widths.the_row.coded (code coded_place coded_content)) (λ s. (s.widths, s.cells)) (λ t. record { widths = t.0; cells = t.1 }) (λ _. refl)
