-- The bearers of the table's levels are in order and in range, and the lines that are written keep the laws.
use Rattle.std.proofs.Common.{◌≡◌, List, length, sym, refl, ap, ◌∙◌, subst, arith}
use Rattle.tables.specs.Table.{listed}
use Rattle.sheets.specs.declared.bearing.Bearing.{Bearing}
use Rattle.sheets.specs.Bearings.{Standing, Falling, bearings}
use Rattle.sheets.specs.Sheet.{answer, after, refused}
use Rattle.sheets.proofs.Levels.{levels_fall}
use Rattle.sheets.proofs.Tables.{table_stands}
use Rattle.sheets.proofs.Whole.{sound_made}
use Rattle.sheets.proofs.sheet.sheet_of.Goals as goal

pub from_roof-row-requires-clause-standing : goal.from_roof-row-requires-clause-standing
from_roof-row-requires-clause-standing c = subst Standing (sym c.as_slice.ensures) (table_stands _ c.args.levels.now.rising c.args.levels.now.fit (omega (arith, c.args.levels.now.rows.whole)) c.requires.some)

pub lay_out-requires-clause-falling : goal.lay_out-requires-clause-falling
lay_out-requires-clause-falling c =
    let same : c.as_slice-2.result.now ≡ bearings c.args.answers.exponent (listed c.args.levels.now) = cc in
    subst Falling (sym same) (levels_fall _ _ c.requires.lawful.exponent (table_stands _ c.args.levels.now.rising c.args.levels.now.fit (omega (arith, c.args.levels.now.rows.whole)) c.requires.some))

pub returns-clause-laws : goal.returns-clause-laws
returns-clause-laws c =
    let t = c.args.levels.now in
    let a = c.args.answers in
    let old = c.args.lines.now in
    let same : c.as_slice-2.result.now ≡ bearings a.exponent (listed t) = cc in
    sound_made a (listed t) old c.lay_out.new.lines (refused a (bearings a.exponent (listed t)) (length old)) c.lay_out.result c.requires.lawful (table_stands _ c.args.levels.now.rising c.args.levels.now.fit (omega (arith, c.args.levels.now.rows.whole)) c.requires.some) refl
    (c.lay_out.ensures.answer ∙ ap (λ (bs : List Bearing). answer a bs (length old)) same)
    (c.lay_out.ensures.lines ∙ ap (λ (bs : List Bearing). after a bs old) same)
