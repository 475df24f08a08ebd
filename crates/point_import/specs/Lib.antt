pub mod PutPoints
pub mod ImportFaults
pub mod ImportedLines
pub mod LoneImports
