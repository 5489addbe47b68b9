-- The sample runs, as lists of calls with their answers.
pub mod SampleRuns
