-- What a job's entries change and what its questions answer.
pub mod Entries
pub mod Questions
