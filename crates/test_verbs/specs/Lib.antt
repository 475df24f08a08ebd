pub mod CaseQueries
