-- How a tag is written, in the words of the grammar.
use Rattle.std.specs.Prelude.{ℕ, ◌+◌, ◌≡◌, ◌<◌, ◌++◌, ◌∷◌, ◌==◌, [], List, Option, None, Some, All, MatchOption, drop}
use Rattle.std.specs.Prelude.{if◌then◌else◌}
use Rattle.yaml_base.specs.QuotedLines.{before, digits, none}
use Rattle.yaml_direct.specs.Bytes.{at}
use Rattle.yaml_direct.specs.declared.tag.Handle.{Handle}
use Rattle.yaml_direct.specs.declared.tag.Handle.TheVariants.{Core, Local, Verbatim}
use Rattle.yaml_grammar.specs.Names as grammar
use Rattle.yaml_grammar.specs.Names.{decoded}

-- a way to write a tag, as the grammar names it
abbrev pub handle_as : Handle → grammar.Handle
handle_as Verbatim = grammar.verbatim
handle_as Core = grammar.core
handle_as Local = grammar.local

-- the place behind a tag whose text ends here, if it is closed there where it has to be
abbrev pub closed_end : List ℕ → grammar.Handle → (stop : ℕ) → Option ℕ
closed_end text grammar.verbatim stop = if at text stop == 62 then Some (stop + 1) else None
closed_end text grammar.core stop = Some stop
closed_end text grammar.local stop = Some stop

-- bytes of ASCII, none of which is 0
abbrev pub IsSimple : List ℕ → Type 0
IsSimple bytes = All (λ c. (0 < c) × (c < 128)) bytes

-- two digits that stand in a place say an octet, or none do
abbrev pub SaysOctet : List ℕ → (place : ℕ) → Option ℕ → Type 0
SaysOctet text place octet =
    MatchOption octet (decoded (digits 2 0) (drop place text) ≡ None)
    (λ o. decoded (digits 2 0) (drop place text) ≡ before (o ∷ []) (decoded none (drop (place + 2) text)))

-- what such bytes of a tag stand for was put behind a text
pub record Unescapes (written old new : List ℕ) : Type 0 where
  pub said : List ℕ
  pub read : decoded none written ≡ Some said
  pub added : new ≡ old ++ said
