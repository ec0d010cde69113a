-- The paper's section "Frames", of many lines: a stream of bytes, its lines, and their answers.
--
--     Lines      lines_from  answers  out_of  rest_of    what is meant, and a machine that takes byte by byte
--                fed_progress  fed_carry  fed_out        what one call of `feed` answers and leaves
--                finish_end  finish_run                  what one call of `finish` answers and leaves
--     Code       Lawful                                   what the private functions and `calls_end` ask for
--     Promises   with_ends  Calls  Stream                what the theorems of proofs/Theorems speak of
pub mod Lines
pub mod Promises
pub mod Code
