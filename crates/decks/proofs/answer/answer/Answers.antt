-- The listing or the fault stands at the front of the buffer.
use Rattle.std.proofs.Common.{Ok, Err, refl, arith}
use Rattle.text_bytes.proofs.Writing.{puts_within, puts_kept}
use Rattle.decks.proofs.Pages.{puts_lent, length_lent}
use Rattle.decks.proofs.answer.answer.Goals as goal

pub returns-in-Ok : goal.returns-in-Ok
returns-in-Ok c =
    let d = c.in-Ok.ensures in
    let f = c.in-Some.ensures.cases in
    let p = puts_lent _ _ _ _ 4096 c.in-Ok.written f c.list.array_long d.2 in
    record {
      answered = record { short = λ h. absurd (omega (arith, f.enough)); told = λ _. (Ok d.0, record { comes = d.1; bytes = p; outcome = refl }) };
      bound = puts_within _ _ _ _ p (length_lent _ _ 4096 f.enough c.list.array_long);
      kept = puts_kept _ _ _ _ p;
    }

pub returns-in-Err : goal.returns-in-Err
returns-in-Err c =
    let f = c.in-Some.ensures.cases in
    let w = rw c.in-Err.ensures.1 at c.put_fault.ensures.puts in
    let p = puts_lent _ _ _ _ 4096 c.put_fault.result f c.put_fault.ensures.long w in
    record {
      answered = record { short = λ h. absurd (omega (arith, f.enough)); told = λ _. (Err c.in-Err.refusal, record { comes = c.in-Err.ensures.0; bytes = p; outcome = refl }) };
      bound = puts_within _ _ _ _ p (length_lent _ _ 4096 f.enough c.put_fault.ensures.long);
      kept = puts_kept _ _ _ _ p;
    }
