-- What a caller's proof cites of the job.
-- where there was no memory to begin, nothing was taken and nothing given
pub use Rattle.import_job.proofs.Passes.{not_begun}
