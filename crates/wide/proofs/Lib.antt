-- Laws of numbers of 128 bits; callers cite SumLaws, OrderLaws and CongruenceLaws.
pub mod ColumnLaws
pub mod CongruenceLaws
pub mod WordLaws
pub mod SignLaws
pub mod ValueLaws
pub mod OrderLaws
pub mod SumLaws
pub mod WideTheorems
