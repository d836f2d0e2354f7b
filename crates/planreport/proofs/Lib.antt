-- Laws of the definitions, and theorems about them.
pub mod ProgressLaws
pub mod TextLaws
pub mod CompiledLaws
pub mod ReadBack
pub mod FittingLaws
pub mod LengthLaws
pub mod RejoinedLaws
pub mod RoundTrip
