-- The numbers of the editions.
use Rattle.std.specs.Prelude.{◌≡◌, ℕ, ◌==◌, cond, Ok, Err, Result}
use Rattle.grammar.specs.declared.entry.Published.{Published}
use Rattle.grammar.specs.declared.entry.Published.TheVariants.{Nehrp2003}
use Rattle.grammar.specs.declared.entry.UnknownEdition.{UnknownEdition}

-- the edition that the number names, or the number, which names none
abbrev pub Names : ℕ → Result Published UnknownEdition → Type 0
Names n r = r ≡ cond (n == 1) (Ok Nehrp2003) (Err (record { 0 = n }))
