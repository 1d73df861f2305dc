-- Pass 1, in reading order. It does not speak of pass 2.

-- What is said of it.
-- Visit: pass 1 by parts of the addresses, which is the definition's walk of the tables
pub mod Visit
-- Passing: what it is given, what it leaves (Fixed), why it refuses (Why)
pub mod Passing
-- Ways: the ways from the root to the tables, in the tables as they were
pub mod Ways
-- What holds while it goes.
-- Cursor: what is done is earlier in walk order than what is not
pub mod Cursor
-- Invariant: each table is done below its cursor and as it was from there on
pub mod Invariant
-- Sources: where each table that is seen and each leaf that is moved comes from
pub mod Sources
-- That it holds.
-- Steps: what is said of a step, and where pass 1 stops
pub mod Steps
-- Entry: one entry
pub mod Entry
-- Tables: the entries of a table, the tables below, all from the root on
pub mod Tables
-- What follows.
-- Reached: where all is done, the tables seen are those reached, and nothing is wrong
pub mod Reached
-- Result: the theorem of pass 1 (pass1_ok)
pub mod Result
-- First: where pass 1 stops is the first entry in walk order at which something is wrong (first_halt)
pub mod First
-- OneFirst: there is one first, with one number and place (first_one)
pub mod OneFirst
