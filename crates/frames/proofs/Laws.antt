-- Laws of frames, one subject a file. Each file opens with a list of what it proves.
--
--     Text      text written into a run, piece by piece
--     Hex       lengths and ranges of numbers in hexadecimal
--     Problem   what the refusals before any search say
--     Frames    lengths of frames, and which answer is given when
--     Digits    digits that are written are digits, and are read back
--     Lines     lines: digits and then a line end
--     Respond   what `respond` answers and leaves
--     Cap       lines that are too long
--     Zeros     runs of zeros
pub mod Text
pub mod Hex
pub mod Problem
pub mod Frames
pub mod Digits
pub mod Lines
pub mod Respond
pub mod Cap
pub mod Zeros
