-- Without a space the whole text is one field.
use Rattle.std.proofs.Common.{refl}
use Rattle.text_bytes.proofs.Cuts.{piece}
use Rattle.text_bytes.proofs.fields.split_field.Goals as goal

pub returns : goal.returns
returns c = rw c.unwrap_or.ensures (piece 32 c.args.text.now c.cut_at.result _ c.cut_at.ensures refl refl)
