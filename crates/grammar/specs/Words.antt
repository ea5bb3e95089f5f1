-- The words of a deck: how each is spelt, and how many numbers follow it.
use Rattle.std.specs.Prelude.{ℕ, cond, List, [], ◌∷◌, Some, None, codes, Option}
use Rattle.std.specs.Str.{bytes_eq}
use Rattle.grammar.specs.declared.word.Word.{Word}
use Rattle.grammar.specs.declared.word.Word.TheVariants.{Edition, Set, Level, Drop, Sheet}

abbrev pub spelling : Word → List ℕ
spelling Edition = codes "EDITION"
spelling Set = codes "SET"
spelling Level = codes "LEVEL"
spelling Drop = codes "DROP"
spelling Sheet = codes "SHEET"

abbrev pub arity : Word → ℕ
arity Edition = 1
arity Set = 2
arity Level = 3
arity Drop = 1
arity Sheet = 0

-- the first of the words vs that is spelt so
abbrev pub spelt : List Word → List ℕ → Option Word
spelt [] w = None
spelt (v ∷ vs) w = cond (bytes_eq w (spelling v)) (Some v) (spelt vs w)

-- the word that a text is
abbrev pub word_of : List ℕ → Option Word
word_of w = spelt (Edition ∷ Set ∷ Level ∷ Drop ∷ Sheet ∷ []) w
