-- Laws of lines, one subject a file. Each file opens with a list of what it proves.
--
--     Ends      the next line end
--     Kept      what of an unfinished line is kept
--     Fits      what a call of `feed` asks
--     Machine   the machine that takes byte by byte, and what is meant
--     Feed      what one call of `feed` or `finish` makes of the stream
pub mod Ends
pub mod Kept
pub mod Fits
pub mod Machine
pub mod Feed
