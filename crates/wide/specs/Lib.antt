-- Numbers of 128 bits: nothing here is cited by a contract of what users call.
pub mod Inner
