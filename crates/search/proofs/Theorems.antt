-- What the search's definitions promise, in the terms of specs/, one subject a file.
--
--     Refused       search_refused_is  table_refused_is                   each refusal exactly in its case, in the paper's order;
--                   answered_well_formed                                  what is not refused is well formed
--     Unfinished    outnumbered_is
--                   unfinished_is  unfinished_count  unfinished_writes    unfinished exactly when the steps outnumber the budget,
--                                                                         and then it writes nothing
--     Larger        finished_larger  reply_larger  runs_larger            once finished, every larger budget answers the same
--                   table_larger                                          and leaves the same table
--     Enough        enough                                                8,076 steps always finish
--     Right         refuted_accepted  refuted_none  solved_meets          a refutation that the checker accepts, a point that meets
--                   exactly                                               all rows; refuted exactly when there is none
--     TooLarge      too_large_next  too_large_is                          too large exactly when a step would pass a bound
--     Number        search_number_is  table_number_is                     the number of an answer exactly in its case, 8 included
--     Demand        demand                                                demand 3 of a call of `search`, all of the above
pub mod Refused
pub mod Unfinished
pub mod Larger
pub mod Enough
pub mod Right
pub mod TooLarge
pub mod Number
pub mod Demand
