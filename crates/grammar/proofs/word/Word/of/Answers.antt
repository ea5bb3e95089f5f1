-- The words are tried in turn: the closure compares a text with how each is spelt.
use Rattle.std.proofs.Common.{rules, bytes_eq, ◌∙◌}
use Rattle.std.proofs.lemmas.Iterator.{YieldsList-from_slice}
use Rattle.std.proofs.lemmas.Iterator.Search.{find_from_yields_List}
use Rattle.grammar.specs.Words.{spelling}
use Rattle.grammar.proofs.word.Word.of.Goals as goal

pub returns : goal.returns
returns c =
    c.copied.ensures ∙ find_from_yields_List (λ w. bytes_eq c.args.text.now (spelling w)) _ _ c.find.result c.find.ensures.ran (YieldsList-from_slice _ c.iter.ensures.rest) (λ x b q k. (search rules, search rules))
