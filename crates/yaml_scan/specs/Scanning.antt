-- What the scanner says of a text.
use Rattle.std.specs.Prelude.{ℕ, List}
use Rattle.yaml_scan.specs.AllowedText.{IsAllowed, IsOfReader}
use Rattle.yaml_scan.specs.declared.start.Scanned.{Scanned}
use Rattle.yaml_scan.specs.declared.start.Scanned.TheVariants.{Tokens, Unread}

-- a text that is allowed has tokens, and any other has the reader's fault alone
abbrev pub IsScanned : List ℕ → Scanned → Type 0
IsScanned text (Tokens tokens) = IsAllowed text
IsScanned text (Unread fault) = IsOfReader text fault.kind fault.offset
