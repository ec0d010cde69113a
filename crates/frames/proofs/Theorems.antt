-- What the definitions of frames promise, in the terms of specs/, one subject a file.
--
--     Round         byte_round  steps_round  number_round  long_round    each number that is written reads back as itself
--     Problem       problem_reads  problem_answered                      a problem that is written as a frame is read back as that
--                                                                        problem, and so it is answered
--     Refused       line_refused_is  refused_answered                    refusals 9 and 1 exactly in their cases
--     WellFormed    answer_well_formed  line_end_last                    "02 and then 05, or one of 03, 04, 06", each a line of an
--                                                                        even number of digits and one line end
--     Refuted       refuted_answered                                     what the search refutes is answered with a vector that the
--                                                                        checker accepts, and its interpolant
--     Length        answer_some  answer_short                            no answer is empty, and none is longer than answer_max
--     Example       example-answered                                     the paper's own line and its answer, by computation
pub mod Round
pub mod Problem
pub mod Refused
pub mod WellFormed
pub mod Refuted
pub mod Length
pub mod Example
