-- At most 64 weights, each from 1 to 60,000.
use Rattle.std.proofs.Common.{rules, ◌≡◌, ◌<◌, ◌^◌, sum_by, arith}
use Rattle.tables.specs.Table.{listed}
use Rattle.records.specs.Level.{weight_of}
use Rattle.records.proofs.Weights.{weights}
use Rattle.records.proofs.levels.total_weight.Goals as goal

pub sum-requires-clause-fits : goal.sum-requires-clause-fits
sum-requires-clause-fits c =
    let t = c.args.levels.now in
    let bound : sum_by weight_of (listed t) < 2 ^ 32 = omega (arith, weights (listed t) t.fit, t.rows.whole) in
    search rules

pub returns : goal.returns
returns c =
    let t = c.args.levels.now in
    let sum : c.sum.result ≡ sum_by weight_of (listed t) = search rules in
    record {
      sum = sum;
      least = omega (arith, sum, weights (listed t) t.fit);
      most = omega (arith, sum, weights (listed t) t.fit, t.rows.whole);
    }
