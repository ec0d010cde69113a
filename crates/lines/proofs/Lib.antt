-- Theorems has what the definitions promise, Laws what those and the code's proofs rest on; Determined says that each contract
-- leaves one result. The other folders have the proof of one function each.
pub mod Laws
pub mod Theorems
pub mod Determined
