-- What a problem is and means, in the order of the paper's section "The problem and its rows".
--
--     Rows         Rows  side_of  both  rows_of         rows, a lent run read as rows, A's rows and then B's
--     Points       MeetsRow  Meets                      a point meets a row, and each row of a side
--     WellFormed   Shape  Ranges  shape  well_formed    the counts, lengths and ranges that refusals 1 and 3 ask for
--     Lent         lent  Lent                           a definition of the parts of a problem that is lent as one value
--     Refusal      number_of  problem_refusal           why a call is refused
--     Answer       rows_answer                          what `Problem::rows` answers
--     Occurrence   counts  occurs  shared  local_a      which variables occur where
pub mod Rows
pub mod Points
pub mod WellFormed
pub mod Lent
pub mod Refusal
pub mod Answer
pub mod Occurrence
