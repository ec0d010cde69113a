-- Laws of the search, one subject a file. Each file opens with a list of what it proves.
--
--     Table     the table's rows changed in turn: which cells change, which stay, and that they stay bounded
--     Scan      what the two columns are that a step takes
--     Sound     what a step asks of its state, it leaves to the next
--     Run       many steps: when they go on, when they stop, and how many they are
--     Start     the state that a search starts from, and that it is sound
--     Refusal   what the refusal before any step says
--     Sums      the sums that the code takes stay far below 2^63
--     Close     what Close computes, from the table before any column is swapped
--     Vector    what the code computes of the vector is what the definitions say; what is in order is in range
--     Columns   operations on columns, and what they keep
--     Fuel      a reduction less than halves an entry, and what that leaves for a row
--     Faithful  table, pivots and z stay faithful to the rows that were entered
--     Back      the numerators, going back over the pivot columns
--     Refuting  the vector of a row that refutes does refute
--     Kept      what holds of every state that is reached, and that Reduce keeps it
--     Closing   Close keeps it, or ends with an answer that is right
--     Reached   many steps keep it, and 8,076 of them are enough
--     Rows      what holds at the start, and what an answer about the table says of the rows
--     Exceeds   too large is said exactly when a number is above its bound
pub mod Table
pub mod Scan
pub mod Sound
pub mod Run
pub mod Start
pub mod Made
pub mod Refusal
pub mod Sums
pub mod Close
pub mod Vector
pub mod Columns
pub mod Fuel
pub mod Faithful
pub mod Back
pub mod Refuting
pub mod Kept
pub mod Closing
pub mod Reached
pub mod Rows
pub mod Exceeds
