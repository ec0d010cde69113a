-- The paper's sections "A refutation" and "The interpolant".
--
--     Refutation   Refutes  refusal               a vector that refutes, and the first refusal in the paper's order
--     Fact         Fact  Holds  raw_fact          a fact about points, and the one that a vector gives
--     NormalForm   normal_form  interpolant_of    the normal form, case by case; the interpolant
--     Answer       judge_answer  judge_run        what `judge` answers, and what the lent run then holds
--     Promises     Says  IsNormal  Completes      what the theorems of proofs/Theorems say of them
--     Code         what private functions ask for and compute, and laws of them; who reads the public contracts passes it over
pub mod Refutation
pub mod Fact
pub mod NormalForm
pub mod Answer
pub mod Promises
pub mod Code
