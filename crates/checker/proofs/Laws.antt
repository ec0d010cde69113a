-- Laws of the checker, one subject a file. Each file opens with a list of what it proves.
--
--     Refusal      each refusal is given exactly in its case
--     Weighed      what a vector makes of rows; the raw fact follows from A and is excluded by B
--     Projected    the raw fact says exactly that A's weighted row can be completed
--     First        the first nonzero coefficient
--     Same         the normal form says the same as the fact
--     Form         the normal form is normal
--     Short        the short form, which the code computes, has the numbers of the normal form
--     Bounds       bounds of the numbers that the code computes
--     Sums         the code's sums, which go over one side at a time
--     Facts        facts whose coefficients stand in a run
pub mod Refusal
pub mod Weighed
pub mod Projected
pub mod First
pub mod Same
pub mod Form
pub mod Short
pub mod Bounds
pub mod Sums
pub mod Facts
