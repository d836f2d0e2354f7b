pub mod RowTheorems
