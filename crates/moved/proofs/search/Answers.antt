-- `moved::search` meets its contract: std's binary search by the first word of a slot. No loop.
-- Assumes nothing.
use Rattle.std.proofs.Common.{rules, List, ℕ, get_or, length, take, drop, ◌-◌, ◌≡◌}
use Rattle.std.proofs.lemmas.List.Sorted.{answers_always}
use Rattle.moved.proofs.Seeking.{found, between}
use Rattle.moved.proofs.search.Goals as goal

pub returns-in-Ok : goal.returns-in-Ok
returns-in-Ok c =
    let a = c.args in
    let facts = c.in-Ok.ensures in
    let by_key = facts.position (λ (slot : List ℕ). get_or slot 0 0) (answers_always _ _ _ (λ f a r g called. search rules)) in
    let long : length (take (a.to - a.from) (drop a.from c.as_chunks.result.0.now)) ≡ a.to - a.from = search rules in
    found _ _ _ _ c.requires.1 c.requires.0 c.requires.2 _ c.as_chunks.ensures.front long _ facts.bound by_key

pub returns-in-Err : goal.returns-in-Err
returns-in-Err c =
    let a = c.args in
    let facts = c.in-Err.ensures in
    let by_key = facts.position (λ (slot : List ℕ). get_or slot 0 0) (answers_always _ _ _ (λ f a r g called. search rules)) in
    let long : length (take (a.to - a.from) (drop a.from c.as_chunks.result.0.now)) ≡ a.to - a.from = search rules in
    between _ _ _ _ c.requires.1 c.requires.0 c.requires.2 _ c.as_chunks.ensures.front long _ facts.bound by_key
