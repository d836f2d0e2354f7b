-- Other ways of saying what specs/ says already: nothing is defined or promised by them, and theorems in proofs/ say that they agree with it.
pub mod Reaching
pub mod Rules
pub mod Obeying
