-- the loop that lists
pub mod Come
-- the part that is handed back
pub mod Part
-- one outcome
pub mod One
