-- Laws of problems, one subject a file. Each file opens with a list of what it proves.
--
--     Refusal       the numbers of the refusals
--     Rows          all rows, by side: sums, tests and places
--     Points        a point meets a row as an equation, and all rows exactly when it meets both sides
--     WellFormed    the tests decide Shape and Ranges
--     Occurrence    when a coefficient counts, and what follows where a variable does not occur
pub mod Refusal
pub mod Rows
pub mod Points
pub mod WellFormed
pub mod Occurrence
