-- Each turn reads one digit more.
use Rattle.std.proofs.Common.{◌<◌, Some, None, sym, ◌∙◌, arith, rules}
use Rattle.text_bytes.proofs.Reading.{number_reads}
use Rattle.text_bytes.proofs.Steps.{small, grows, in_range, step, stop, end}
use Rattle.text_bytes.proofs.number.read_number.Goals as goal

pub overflow_mul-number : goal.overflow_mul-number
overflow_mul-number c = let i : c.loop-b.b-index < 9 = omega arith in let s = small c.loop-b.b-index c.loop-b.number i c.loop-b.invariant.1 in search rules

pub returns-in_err-number : goal.returns-in_err-number
returns-in_err-number c =
    let w = c.args.word.now in
    let v = sym (in_range w c.loop-b.invariant.3 c.loop-b.invariant.2 ∙ c.loop-b.invariant.0 ∙ stop w c.loop-b.b-index c.loop-b.number c.loop-b-test.true (rw c.from.ensures at c.in_err-number.ensures.value)) in
    rw c.from_residual.ensures (record { value = v; reads = number_reads w None v })

pub overflow_add-number : goal.overflow_add-number
overflow_add-number c =
    let i : c.loop-b.b-index < 9 = omega arith in
    let s = small c.loop-b.b-index c.loop-b.number i c.loop-b.invariant.1 in
    let d : c.in_ok-number.field-0 < 10 = omega (arith, c.in_ok-number.ensures.value) in
    search rules

pub loop-b-preserved : goal.loop-b-preserved
loop-b-preserved c =
    let w = c.args.word.now in
    let d = rw c.from.ensures at c.in_ok-number.ensures.value in
    rw d.1 (c.loop-b.invariant.0 ∙ step w c.loop-b.b-index c.loop-b.number c.loop-b-test.true d.0, grows c.loop-b.b-index c.loop-b.number _ c.loop-b.invariant.1 d.0, c.loop-b.invariant.2, c.loop-b.invariant.3)

pub returns : goal.returns
returns c =
    let w = c.args.word.now in
    let v = sym (in_range w c.loop-b.invariant.3 c.loop-b.invariant.2 ∙ c.loop-b.invariant.0 ∙ end w c.loop-b.b-index c.loop-b.number c.loop-b-test.false) in
    record { value = v; reads = number_reads w (Some c.loop-b.number) v }
