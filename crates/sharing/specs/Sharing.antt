-- What is true of an amount that is shared by stakes.
use Rattle.std.specs.Prelude.{◌≡◌, ℕ, ◌+◌, ◌-◌, ◌*◌, ◌/◌, ◌<◌, ◌≤◌, List, length, take, drop, sum, slice_index}

-- no kind's greatest stake is above 60,000 × 67,108,864
abbrev pub limit : ℕ
limit = 4026531840000

-- `before` and `after` are the caller's list of shares
pub record Shared (amount : ℕ) (stakes before after : List ℕ) : Type 0 where
  -- the first k bearers together get the whole part of what their stakes together are due
  pub running : (k : ℕ) → k ≤ length stakes → sum (take k after) ≡ amount * sum (take k stakes) / sum stakes
  -- nothing is lost, nothing is added
  pub whole : sum (take (length stakes) after) ≡ amount
  -- no bearer gets less than the whole part of its due
  pub least : (k : ℕ) → k < length stakes → amount * slice_index stakes k / sum stakes ≤ slice_index after k
  -- nor more than its due rounded up
  pub most : (k : ℕ) → k < length stakes → slice_index after k ≤ (amount * slice_index stakes k + (sum stakes - 1)) / sum stakes
  -- beyond the shares the list keeps its contents
  pub kept : drop (length stakes) after ≡ drop (length stakes) before
