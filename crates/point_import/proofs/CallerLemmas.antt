-- What a caller's proof cites of an import where nobody else steps.
-- lines that were accepted there are numbered
pub use Rattle.point_import.proofs.Numbering.{import_numbers}
-- names that were asked there have the places in which they first came, and are resolved
pub use Rattle.point_import.proofs.Numbering.{Noted, all_named, resolved_after}
