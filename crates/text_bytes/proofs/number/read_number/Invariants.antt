-- What is read so far, and what is still to be read.
use Rattle.std.proofs.Common.{◌≡◌, ◌^◌, ◌<◌, ◌≤◌, length, drop}
use Rattle.text_bytes.specs.Numbers.{read_on}
use Rattle.text_bytes.proofs.number.read_number.Given as goal

abbrev pub invariant-loop-b : goal.invariant-loop-b
invariant-loop-b l = (read_on 0 l.word ≡ read_on l.number (drop l.b-index l.word)) × (l.number < 10 ^ l.b-index) × (length l.word ≤ 9) × (1 ≤ length l.word)
