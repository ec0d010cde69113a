-- Cases: the paper's "Checked by hand" cases that are marked P, with the answers that it gives.
pub mod Cases
