-- What a writer has room for, and what it writes.
use Rattle.std.specs.Prelude.{◌≡◌, ◌+◌, ◌≤◌, ℕ, List, length}
use Rattle.text_bytes.specs.declared.put.Writer.{Writer}
use Rattle.text_bytes.specs.Wrote.{Puts}

-- there is room for k bytes more
abbrev pub Room : Writer → ℕ → Type 0
Room w k = w.at + k ≤ length w.out.now

-- the writer wrote the text into its buffer, from where it stood on
pub record Writes (old : Writer) (text : List ℕ) (new : Writer) : Type 0 where
  pub puts : Puts old.out.now old.at text new.out.now new.at
  pub long : length new.out.now ≡ length old.out.now
  pub within : new.at ≤ length new.out.now
  pub same_buffer : new.out.ghost_name ≡ old.out.ghost_name
