-- the checks before pass 1
mod Checking
-- the output that holds the image and then zeros
mod Buffers
-- from the checks through both passes
mod Handing
-- the call of build
mod Ending
-- one outcome
pub mod One
