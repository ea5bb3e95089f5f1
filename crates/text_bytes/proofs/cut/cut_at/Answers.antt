-- The first mark cuts the text.
use Rattle.std.proofs.Common.{◌+◌, ◌∙◌}
use Rattle.std.proofs.lemmas.List.{take_rest}
use Rattle.text_bytes.proofs.Cuts.{cut}
use Rattle.text_bytes.proofs.cut.cut_at.Goals as goal

pub returns-in_err-at : goal.returns-in_err-at
returns-in_err-at c = rw c.from_residual.ensures (cut c.args.mark c.args.text.now _ c.in_err-at.ensures)

pub returns : goal.returns
returns c =
    let h = cut c.args.mark c.args.text.now _ c.in_ok-at.ensures in
    (h.0, h.1, take_rest c.args.text.now (c.in_ok-at.at + 1) ∙ h.2)
