-- A text that is none of the names is refused.
use Rattle.std.proofs.Common.{rules, ◌∙◌}
use Rattle.settings.proofs.Called.{unnamed}
use Rattle.settings.proofs.names.number_of.Goals as goal

pub returns-in_err-setting-clause-unnamed : goal.returns-in_err-setting-clause-unnamed
returns-in_err-setting-clause-unnamed c = λ none. let u = c.in_err-setting.ensures.value ∙ unnamed c.args.name.now none in search rules

pub returns-clause-unnamed : goal.returns-clause-unnamed
returns-clause-unnamed c = λ none. let u = c.in_ok-setting.ensures.value ∙ unnamed c.args.name.now none in cc
