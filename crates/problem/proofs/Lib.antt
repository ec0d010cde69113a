-- Laws has what follows from the definitions, for this crate and those above; Determined says that each contract leaves one
-- result. The other folders have the proof of one function each.
pub mod Laws
pub mod Determined
