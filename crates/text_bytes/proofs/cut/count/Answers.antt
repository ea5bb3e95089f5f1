-- A piece more for each mark, and no more marks than bytes.
use Rattle.std.proofs.Common.{◌≡◌, ◌<◌, ◌^◌, eqb, count_by, arith, rules, ◌∙◌}
use Rattle.std.proofs.iter.runs.Sources.{sums}
use Rattle.std.proofs.lemmas.List.Sums.{count_by-le-length}
use Rattle.text_bytes.proofs.Cuts.{counted}
use Rattle.text_bytes.proofs.cut.count.Goals as goal

pub sum-requires-clause-fits : goal.sum-requires-clause-fits
sum-requires-clause-fits c =
    let s : count_by (λ b. eqb b c.args.mark) c.args.text.now < 2 ^ 64 = omega (arith, count_by-le-length (λ b. eqb b c.args.mark) c.args.text.now, c.iter.ensures.len, c.iter.ensures.bound) in
    search (rules, sums)

pub returns : goal.returns
returns c = let n : c.sum.result ≡ count_by (λ b. eqb b c.args.mark) c.args.text.now = search rules in n ∙ counted c.args.mark c.args.text.now
