-- Determined says that each contract leaves one result. The folders have the proof of one function each.
pub mod Determined
