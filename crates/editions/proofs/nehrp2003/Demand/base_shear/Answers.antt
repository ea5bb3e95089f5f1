-- Rounded up, the governing fraction fits 32 bits.
use Rattle.std.proofs.Common.{ap, ◌∙◌, arith}
use Rattle.editions.specs.Ratios.{up}
use Rattle.editions.specs.Nehrp.{shear_high}
use Rattle.editions.proofs.nehrp2003.Demand.base_shear.Goals as goal

pub overflow_cast-result : goal.overflow_cast-result
overflow_cast-result c =
    let d = c.args.self in
    omega (arith, c.rounded_up.ensures.value ∙ ap up c.governing.ensures, shear_high d.figures d.fair d.weight d.period d.loaded)
