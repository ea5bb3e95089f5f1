-- A copy over a part of the buffer.
use Rattle.std.proofs.Common.{refl}
use Rattle.text_bytes.proofs.Writing.{writes_part}
use Rattle.text_bytes.proofs.put.Writer.put_bytes.Goals as goal

pub returns : goal.returns
returns c = writes_part c.args.self.now _ c.args.text.now c.copy_from_slice.new.self c.requires c.copy_from_slice.ensures.after refl refl refl
