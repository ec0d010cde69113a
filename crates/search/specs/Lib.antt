-- The paper's section "The search, step by step".
--
--     Table      cell  subtract_column  swap_columns  negate_column      the table and what is done to its columns
--     State      State  start                                            the state, and where a search starts
--     Vector     vector_of                                               the vector, when a row refutes
--     Step       step_of                                                 one step: Reduce or Close
--     Run        after                                                   many steps
--     Answer     search_reply  search_vector  search_point  table_run    what the two calls answer, and what their runs then hold
--     Promises   Outnumber  Decided  Exceeds  Demand                     what the theorems of proofs/Theorems say of them
--     Code       what the private functions ask for; a reader of the definitions can pass it over
pub mod Table
pub mod State
pub mod Vector
pub mod Step
pub mod Run
pub mod Answer
pub mod Promises
pub mod Code
