pub mod SumLaws
pub mod AddingLaws
pub mod JoinLaws
pub mod SumTheorems
