-- Laws of the check of a text.
pub mod LineNumberLaws
pub mod CursorLaws
pub mod RepeatLaws
pub mod RowLaws
pub mod CircleLaws
pub mod FoundLaws
pub mod ReferenceLaws
pub mod NamesLaws
