-- Laws has the laws of ℤ by subject, for this crate and those above; Determined says that each contract leaves one result.
-- The other folders have the proof of one function each.
pub mod Laws
pub mod Determined
