-- What the definitions of lines promise, in the terms of specs/.
--
--     Reading    lines_read                                the lines that are meant are those that a text is made of
--     Cutting    any_cutting  same_input  empty_input      however the input is cut, what is written is the answers to its lines
--                calls_end  stream_ends                    calls take any input to its end
pub mod Reading
pub mod Cutting
