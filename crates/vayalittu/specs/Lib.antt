-- What the functions for C answer.
--
--     Answers    fact_of  answer_of     the checker's and the search's answers as C sees them
pub mod Answers
