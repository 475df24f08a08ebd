-- What a caller may cite beside the contracts.

-- where there is no memory nothing is served
pub use Rattle.stdio_job.proofs.Alone.{none_alone}
