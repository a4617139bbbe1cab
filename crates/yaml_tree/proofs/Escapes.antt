-- What a run of an escaping writer wrote.
use Rattle.std.specs.declared.fmt.Formatter.{Formatter}
use Rattle.std.specs.declared.fmt.Error.{Error}
use Rattle.std.specs.Prelude.{Option, None, Some, Result, Ok, Err, OnOk, IsUtf8}
use Rattle.std.specs.Fmt.{DisplaysOnOk, WritesText, HasWritten, IsPlainFormatter}
use Rattle.std.specs.List.{flat_map, FoldsTo, concat}
use Rattle.std.specs.Option.{option_map}
use Rattle.std.specs.Str.{chars}
use Rattle.std.proofs.Common.{◌≡◌, List, [], ◌∷◌, ◌++◌, ℕ, refl, sym, ap, ◌∙◌, subst}
use Rattle.std.proofs.Output.{has_written_append, has_written_of_eq, writes_in_calls_nil}
use Rattle.std.proofs.lemmas.List.Concat.{flat_map-append}
use Rattle.std.proofs.lemmas.Str.{chars-append, chars-nil}
use Rattle.yaml_tree.specs.declared.quoted.Escaping.{Escaping}
use Rattle.yaml_tree.specs.Quoted.{readable_character}

-- a text as it stands between quotes
abbrev within_quotes : List ℕ → List ℕ
within_quotes text = flat_map readable_character (chars text)

-- one text behind another, where the first ends no character's bytes early
both_within : (text rest : List ℕ) → IsUtf8 text
    → within_quotes (text ++ rest) ≡ within_quotes text ++ within_quotes rest
both_within text rest whole =
    ap (flat_map readable_character) (chars-append text rest whole)
    ∙ flat_map-append readable_character (chars text) (chars rest)

module _ {W : Type 0} (took : W → List ℕ → W → Type 0) where
  -- the formatter within has the text, as it stands between quotes, and is still the same one
  abbrev pub WritesEscaped : Escaping W → List ℕ → Escaping W → Type 0
  WritesEscaped s text t = IsUtf8 text
      × (IsPlainFormatter s.out.now → HasWritten took s.out.now (within_quotes text) t.out.now)
      × (t.out.ghost_name ≡ s.out.ghost_name)

  -- what several writes wrote, one after the other
  pub along : (s : Escaping W) (parts : List (List ℕ)) (t : Escaping W) → FoldsTo WritesEscaped s parts t
      → IsPlainFormatter s.out.now
      → HasWritten took s.out.now (within_quotes (concat parts)) t.out.now × (t.out.ghost_name ≡ s.out.ghost_name)
  along s [] t path plain =
      let nothing : HasWritten took s.out.now [] s.out.now = record {
        wrote = writes_in_calls_nil took _;
        plain = plain;
      } in
      subst (λ (e : Escaping W). HasWritten took s.out.now (within_quotes []) e.out.now
      × (e.out.ghost_name ≡ s.out.ghost_name)) path
      (has_written_of_eq took _ _ _ _ (ap (flat_map readable_character) (sym chars-nil)) nothing, refl)
  along s (part ∷ parts) t path plain =
      let first = path.1.1 plain in
      let rest = along path.0 parts t path.2 first.plain in
      let both = has_written_append took _ _ _ _ _ first rest.0 in
      (rw (both_within part (concat parts) path.1.0) both, rest.1 ∙ path.1.2)

  -- what was written in a run that ends well is the text, as it stands between quotes
  pub written : (s t : Escaping W) (text : Option (List ℕ)) (result : Result (Unit {0}) Error) (after : Formatter W)
      → (s.out.ghost_name ≡ t.out.ghost_name → after ≡ t.out.now) → OnOk result (WritesText WritesEscaped s text t)
      → DisplaysOnOk took s.out.now result (option_map within_quotes text) after
  written s t None result after tie run = tt
  written s t (Some bytes) (Ok u) after tie run = λ plain ok.
      let whole = along s run.parts t run.calls plain in
      rw (tie (sym whole.1)) (has_written_of_eq took _ _ _ _ (ap within_quotes run.whole) whole.0)
  written s t (Some bytes) (Err e) after tie run = λ plain ok. cc
