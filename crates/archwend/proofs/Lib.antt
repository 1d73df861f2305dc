pub mod Forms
pub mod Compared
pub mod One
-- what a caller may rely on
pub mod Headlines
pub mod Comparisons
