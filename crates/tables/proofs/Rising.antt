-- What holds of each record of a list, and keys that rise: kept by a record put over another, put in or taken out.
use Rattle.std.proofs.Common.{ℕ, ◌+◌, ◌-◌, ◌<◌, ◌≤◌, List, length, set, arith}
use Rattle.std.proofs.lemmas.Grind.{common_steps}
use Rattle.std.proofs.lemmas.List.Edits.{length-insert, get_or-insert_below, get_or-insert_at, get_or-insert_above, length-remove, get_or-remove_below, get_or-remove_above}
use Rattle.std.specs.List.{insert, remove}
use Rattle.tables.specs.Keys.{Rising, Each, Holds, Lacks}

module _ {R : Type 0} (P : R → Type 0) where
  pub each_inserted : (xs : List R) (p : ℕ) (x : R) → p ≤ length xs → Each P xs → P x → Each P (insert xs p x)
  each_inserted xs p x within ps h i d b =
      let long = length-insert xs p x within in
      let at = get_or-insert_at xs p x d within in
      let below = λ (k : ℕ) (h : k < p). get_or-insert_below xs p x d k h within in
      let above = λ (k : ℕ) (h : p ≤ k). get_or-insert_above xs p x d k h within in
      grind (arith, common_steps, below i, above (i - 1), ps i d, ps (i - 1) d)

  pub each_removed : (xs : List R) (p : ℕ) → p < length xs → Each P xs → Each P (remove xs p)
  each_removed xs p within ps i d b =
      let long = length-remove xs p within in
      let below = λ (k : ℕ) (h : k < p). get_or-remove_below xs p d k h within in
      let above = λ (k : ℕ) (h : p ≤ k). get_or-remove_above xs p d k h within in
      grind (arith, below i, above i, ps i d, ps (i + 1) d)

module _ {R : Type 0} (key : R → ℕ) where
  pub rising_set : (xs : List R) (p : ℕ) (x : R) → Rising key xs → Holds key xs (key x) p → Rising key (set xs p x)
  rising_set xs p x up has i j d b = grind (arith, common_steps, up i j d, up i p d, up p j d, has.within, has.here d)

  pub rising_inserted : (xs : List R) (p : ℕ) (x : R) → Rising key xs → Lacks key xs (key x) p → Rising key (insert xs p x)
  rising_inserted xs p x up lack i j d b =
      let within = lack.within in
      let long = length-insert xs p x within in
      let at = get_or-insert_at xs p x d within in
      let below = λ (k : ℕ) (h : k < p). get_or-insert_below xs p x d k h within in
      let above = λ (k : ℕ) (h : p ≤ k). get_or-insert_above xs p x d k h within in
      grind (arith, below i, below j, above (i - 1), above (j - 1), up i j d, up i (j - 1) d, up (i - 1) (j - 1) d, lack.before i d, lack.after (j - 1) d)

  pub rising_removed : (xs : List R) (p : ℕ) → p < length xs → Rising key xs → Rising key (remove xs p)
  rising_removed xs p within up i j d b =
      let long = length-remove xs p within in
      let below = λ (k : ℕ) (h : k < p). get_or-remove_below xs p d k h within in
      let above = λ (k : ℕ) (h : p ≤ k). get_or-remove_above xs p d k h within in
      grind (arith, below i, below j, above i, above j, up i j d, up i (j + 1) d, up (i + 1) (j + 1) d)
