-- What both passes share.

-- Lists: lists with no element twice, and what they count
pub mod Lists
-- Walks: the walk of an address through tables in a memory of words
pub mod Walks
-- Paging: the words of both passes: tables at their new place, the walk in them, what holds of them between any two moves
pub mod Paging
