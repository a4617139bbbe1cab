-- What is told on standard error of a run that ends with status 2: a line.
use Rattle.std.specs.Prelude.{ℕ, List, [], ◌∷◌, ◌++◌, codes}
use Rattle.yaml_base.specs.Quoted.{visible}

-- that memory ran out over the input with this name
abbrev pub no_memory_line : (name : List ℕ) → List ℕ
no_memory_line name = codes "yaml: " ++ (visible name ++ (codes ": out of memory" ++ 10 ∷ []))

-- that the input with this name was not read, and behind it why, in the words of the system
abbrev pub unread_line : (name words : List ℕ) → List ℕ
unread_line name words = codes "yaml: " ++ (visible name ++ (codes ": it can't be read" ++ (words ++ 10 ∷ [])))

-- that the output was not written, and why
abbrev pub unwritten_line : (words : List ℕ) → List ℕ
unwritten_line words = codes "yaml: standard output: it can't be written" ++ (words ++ 10 ∷ [])

-- that a word of the call is no text
abbrev pub no_words_line : List ℕ
no_words_line = codes "yaml: the call: a word of it is not UTF-8" ++ 10 ∷ []
