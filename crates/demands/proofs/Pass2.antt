-- Pass 2, in reading order.

-- One leaf.
-- Leaf: what is said of a leaf that is put in (Inserted), merged (Merges) or refused (Blocked)
pub mod Leaf
-- Write: the leaf at its entry, written or already there
pub mod Write
-- Link: a fresh table on the way
pub mod Link
-- Insert: the leaf, from the root down (put_in)
pub mod Insert
-- All leaves.
-- Growth: the tables taken are one for each place that is needed
pub mod Growth
-- Merges: the leaves merged are those that stood at their new place
pub mod Merges
-- Leaves: all the leaves, one after the other (all_ok)
pub mod Leaves
