-- The records from the place on go one place further, and the new one goes in.
use Rattle.std.proofs.Common.{arith}
use Rattle.std.proofs.lemmas.Bool.{cases_eq}
use Rattle.std.proofs.lemmas.List.{places, same_lists, length-set, get_or-set_same}
use Rattle.tables.proofs.rows.Rows.insert_at.Goals as goal

pub returns : goal.returns
returns g c = same_lists _ _ (grind (arith, places, length-set)) (λ j d h. grind (arith, places, length-set, get_or-set_same, cases_eq j c.args.place))
