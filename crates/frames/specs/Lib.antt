-- The paper's section "Frames".
--
--     Hex        is_digit  value_at  number_at  hex  hexes             numbers in hexadecimal, read and written
--     Problem    is_frame  is_problem  line_refusal  side_a  side_b    frame 01, and the refusals before any search
--     Answer     answer_of  respond_end  respond_run                   frames 02 to 06, the answer to a line, and what `respond` leaves
--     Promises   IsLine  IsAnswer                                      what the theorems of proofs/Theorems say of them
--     Code       what the private functions ask for; a reader of the public contract can pass it over
pub mod Hex
pub mod Problem
pub mod Answer
pub mod Promises
pub mod Code
