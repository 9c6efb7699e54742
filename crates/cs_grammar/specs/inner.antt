-- Definitions that only private clauses use: the results of the parser's calls, and lines as they are read
-- step by step.
pub mod Answers
pub mod Reached
pub mod Rows
pub mod Takes
