-- Why no value was read from a reader.
use Rattle.std.specs.Prelude.{ℕ, List, Option, None, Some}
use Rattle.yaml_base.specs.declared.error.Cause.{Cause}
use Rattle.yaml_base.specs.ErrorText.{error_text}
use Rattle.yaml_documents.specs.declared.input.ReaderFault.{ReaderFault}
use Rattle.yaml_documents.specs.declared.input.ReaderFault.TheVariants.{Text, Reader}

-- the fault is the reader's, and not that of its text
abbrev pub IsOfReader : ReaderFault → Type 0
IsOfReader (Text fault) = ⊥
IsOfReader (Reader fault) = Unit {0}

-- if the fault is that of the text, and not the reader's, this holds of it
abbrev pub IfOfText : (Cause → Type 0) → ReaderFault → Type 0
IfOfText Holds (Text fault) = Holds fault
IfOfText Holds (Reader fault) = Unit {0}

-- what a fault prints, where that is known: of the reader's own it is not
abbrev pub reader_fault_text : ReaderFault → Option (List ℕ)
reader_fault_text (Text fault) = Some (error_text fault)
reader_fault_text (Reader fault) = None
