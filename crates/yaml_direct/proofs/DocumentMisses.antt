-- Where no document is read none stands.
use Rattle.std.proofs.Common.{ℕ, ◌+◌, ◌≡◌, ◌≢◌, ◌==◌, ◌&&◌, ◌||◌, Bool, true, false, List, Option, Some, None}
use Rattle.std.proofs.Common.{refl, sym, ap, ◌∙◌, arith, drop}
use Rattle.std.proofs.lemmas.Bool.{false≢true}
use Rattle.std.specs.List.{starts_with}
use Rattle.std.specs.Prelude.{codes, if◌then◌else◌, nat_eq}
use Rattle.yaml_direct.specs.Documents.{HasRead}
use Rattle.yaml_direct.specs.Places.{no_place}
use Rattle.yaml_direct.specs.Standing.{earlier_of}
use Rattle.yaml_direct.specs.declared.document.Documents.{Documents}
use Rattle.yaml_direct.proofs.ReaderLaws.{short_text}
use Rattle.yaml_direct.proofs.RootLaws.{end_on}
use Rattle.yaml_grammar.specs.Bytes.{at, column}
use Rattle.yaml_grammar.specs.Documents.{directive_end, ends_document, has_document}
use Rattle.yaml_grammar.specs.Gaps.{ends_its_line}
use Rattle.yaml_grammar.specs.Names.{count_while}
use Rattle.yaml_grammar.specs.Nodes.{Document}
use Rattle.yaml_reading.specs.Refused.{NothingStands}

both : {b : Bool} → b ≡ true → b ≡ false → ⊥
both t f = false≢true (sym f ∙ t)

had_begun : (begun ended : Bool) → has_document (earlier_of begun ended) ≡ true → begun ≡ true
had_begun true ended h = refl
had_begun false ended h = absurd (false≢true h)

-- a token stands where documents were read up to
pub read_some : (d : Documents) (ds : List Document) → HasRead d ds → d.next ≢ no_place
read_some d ds h = λ e. omega (arith, e, short_text d.reader, h.counted.within)

-- `...` that no document comes before, or that does not end its line
pub end_left : (old : Documents) (ds : List Document) → HasRead old ds
    → ends_document old.reader.text.now old.next ≡ true
    → (old.begun ≡ true → ends_its_line old.reader.text.now (old.next + 3) ≡ false)
    → NothingStands old.reader.text.now
end_left old ds h ends line all s =
    let m = h.before.on all s.from_first_token in
    let e = end_on old.reader.text.now (earlier_of old.begun old.ended) old.next ends m.0 m.1 in
    both e.line (line (had_begun old.begun old.ended e.had))

-- no directive, by the tests of its bytes
pub no_directive : (text : List ℕ) (i n : ℕ) → n ≡ i + 6 + count_while (nat_eq 32) (drop (i + 6) text)
    → (starts_with nat_eq (drop i text) (codes "%YAML ") && (at text n == 49
    && (at text (n + 1) == 46 && (at text (n + 2) == 49 || at text (n + 2) == 50)))) ≡ false
    → directive_end text i ≡ None
no_directive text i n there none = ap by_number (sym there) ∙ by_test (column text i == 0) none
  where
    by_number : ℕ → Option ℕ
    by_number n =
        if column text i == 0 && (starts_with nat_eq (drop i text) (codes "%YAML ") && (at text n == 49
        && (at text (n + 1) == 46 && (at text (n + 2) == 49 || at text (n + 2) == 50))))
        then Some (n + 3) else None

    by_test : (a : Bool) {b : Bool} → b ≡ false
        → ◌≡◌ {A = Option ℕ} (if a && b then Some (n + 3) else None) None
    by_test false e = refl
    by_test true e = rw e refl
