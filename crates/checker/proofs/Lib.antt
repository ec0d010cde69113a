-- Theorems has what the definitions promise, and is to be read first; Determined says that each contract leaves one result; Laws
-- has what both and the code's proofs rest on. The other folders have the proof of one function each.
pub mod Theorems
pub mod Determined
pub mod Laws
