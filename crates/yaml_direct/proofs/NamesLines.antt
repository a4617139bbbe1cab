-- Names stand in a line.
use Rattle.std.proofs.Common.{ℕ, suc, ◌+◌, ◌-◌, ◌≡◌, ◌≢◌, ◌==◌, ◌&&◌, ◌||◌, not, Bool, true, false, List, Some}
use Rattle.std.proofs.Common.{refl, sym, subst, ap, ◌∙◌, arith, inl, inr, drop}
use Rattle.std.proofs.lemmas.Bool.{and_parts, cases_Bool, eqb-true, false≢true}
use Rattle.std.proofs.lemmas.List.{get_or-drop}
use Rattle.std.specs.Prelude.{Option, None, if◌then◌else◌, is_none, nat_eq, nat_lt, option_map, slice_range}
use Rattle.yaml_direct.specs.Gaps.{InLine}
use Rattle.yaml_direct.proofs.LeafLines.{byte_line, name_line, passed}
use Rattle.yaml_direct.proofs.LineLaws.{line_none, line_on}
use Rattle.yaml_grammar.specs.Bytes.{at}
use Rattle.yaml_grammar.specs.Names.{Handle, Names, core, count_while, ends_tag, handle_of, is_local, is_tag_byte, is_whole}
use Rattle.yaml_grammar.specs.Names.{local, name_end, names_at, one_name, opening_size, prefix_of, tag_at, tag_end, tag_of}
use Rattle.yaml_grammar.specs.Names.{unnamed, verbatim}
use Rattle.yaml_reading.proofs.Options.{map_some, no_some, pair_is, then_some}

one_more : (i : ℕ) → i + 1 ≡ suc i
one_more i = omega arith

byte_on : (text : List ℕ) (i : ℕ) → at text i ≢ 10 → InLine text i (suc i)
byte_on text i other = subst (λ k. InLine text i k) (one_more i) (byte_line text i other)

-- bytes that pass a test that no line feed does
run_in : (text : List ℕ) (test : ℕ → Bool) (i : ℕ) → test 10 ≡ false
    → InLine text i (i + count_while test (drop i text))
run_in text test i none k low high feed =
    let there : i + (k - i) ≡ k = omega (arith, low) in
    let byte : at (drop i text) (k - i) ≡ 10 = get_or-drop i text (k - i) 0 ∙ ap (at text) there ∙ feed in
    false≢true (sym none ∙ ap test (sym byte) ∙ passed test (drop i text) (k - i) (omega (arith, low, high)))

-- a tag by its handle
abbrev pub TagBy : List ℕ → (flow : Bool) → ℕ → Handle → Option (List ℕ × ℕ)
TagBy text flow i handle =
    let start = i + opening_size handle in
    let stop = start + count_while (is_tag_byte (is_whole handle)) (drop start text) in
    let end = tag_end handle stop in
    if (is_local handle || nat_lt start stop) && ((not (is_whole handle) || at text stop == 62)
    && ends_tag flow (at text end))
    then option_map (λ t. (t, end)) (tag_of (prefix_of handle) (slice_range text start stop)) else None

pub taken : {A : Type 0} (b : Bool) (r : Option A) (x : A) → (if b then r else None) ≡ Some x → (b ≡ true) × (r ≡ Some x)
taken true r x h = (refl, h)
taken false r x h = absurd (no_some x h)

pub end_of : (r : Option (List ℕ)) (end e : ℕ) (t : List ℕ) → option_map {U = List ℕ × ℕ} (λ s. (s, end)) r ≡ Some (t, e)
    → e ≡ end
end_of r end e t h =
    let m = map_some {B = List ℕ × ℕ} r (λ s. (s, end)) (t, e) h in sym (ap (λ x. x.1) m.2)

no_feed_behind : (c : ℕ) (h : Handle) → handle_of c ≡ h → (local ≡ h → ⊥) → c ≢ 10
no_feed_behind c h is other feed = other (sym (ap handle_of feed) ∙ is)

tag_by : (text : List ℕ) (flow : Bool) (i e : ℕ) (t : List ℕ) (h : Handle) → at text i ≢ 10
    → handle_of (at text (suc i)) ≡ h → TagBy text flow i h ≡ Some (t, e) → InLine text i e
tag_by text flow i e t local first is x =
    let start = i + 1 in
    let stop = start + count_while (is_tag_byte false) (drop start text) in
    let parts = taken _ _ (t, e) x in
    let end = end_of _ stop e t parts.1 in
    subst (λ k. InLine text i k) (sym end)
    (line_on text i start stop (byte_line text i first) (run_in text (is_tag_byte false) start refl))
tag_by text flow i e t core first is x =
    let start = i + 2 in
    let two : suc (suc i) ≡ start = omega arith in
    let stop = start + count_while (is_tag_byte false) (drop start text) in
    let parts = taken _ _ (t, e) x in
    let end = end_of _ stop e t parts.1 in
    subst (λ k. InLine text i k) (sym end)
    (line_on text i start stop
    (subst (λ k. InLine text i k) two
    (line_on text i (suc i) (suc (suc i)) (byte_on text i first)
    (byte_on text (suc i) (no_feed_behind (at text (suc i)) core is (λ f. cc)))))
    (run_in text (is_tag_byte false) start refl))
tag_by text flow i e t verbatim first is x =
    let start = i + 2 in
    let two : suc (suc i) ≡ start = omega arith in
    let stop = start + count_while (is_tag_byte true) (drop start text) in
    let parts = taken _ _ (t, e) x in
    let end = end_of _ (suc stop) e t parts.1 in
    let closed = (and_parts (at text stop == 62) _ (and_parts (nat_lt start stop) _ parts.0).1).0 in
    let byte = eqb-true (at text stop) 62 closed in
    subst (λ k. InLine text i k) (sym end)
    (line_on text i start (suc stop)
    (subst (λ k. InLine text i k) two
    (line_on text i (suc i) (suc (suc i)) (byte_on text i first)
    (byte_on text (suc i) (no_feed_behind (at text (suc i)) verbatim is (λ f. cc)))))
    (line_on text start stop (suc stop) (run_in text (is_tag_byte true) start refl)
    (byte_on text stop (λ f. omega (arith, f, byte)))))

tag_line : (text : List ℕ) (flow : Bool) (i e : ℕ) (t : List ℕ) → at text i ≢ 10 → tag_at text flow i ≡ Some (t, e)
    → InLine text i e
tag_line text flow i e t first h = tag_by text flow i e t (handle_of (at text (suc i))) first refl h

-- one name, behind spaces
one_line : (text : List ℕ) (flow : Bool) (names ms : Names) (i p : ℕ)
    → one_name text flow (names, i) ≡ Some (ms, p) → InLine text i p
one_line text flow names ms i p h =
    let place = i + count_while (nat_eq 32) (drop i text) in
    let spaces : InLine text i place = run_in text (nat_eq 32) i refl in
    elim (cases_Bool (at text place == 38 && is_none names.anchor)) [
      | inl anchor ↦
          let byte = eqb-true (at text place) 38 (and_parts (at text place == 38) _ anchor).0 in
          let m = map_some (name_end text flow (suc place)) _ (ms, p) (rw anchor at h) in
          let end : m.0 ≡ p = ap (λ x. x.1) m.2 in
          line_on text i place p spaces
          (line_on text place (suc place) p (byte_on text place (λ f. omega (arith, f, byte)))
          (subst (λ k. InLine text (suc place) k) end (name_line text flow (suc place) m.0 m.1)))
      | inr no_anchor ↦ elim (cases_Bool (at text place == 33 && is_none names.tag)) [
        | inl tag ↦
            let byte = eqb-true (at text place) 33 (and_parts (at text place == 33) _ tag).0 in
            let m = map_some (tag_at text flow place) _ (ms, p) (rw (no_anchor, tag) at h) in
            let end : m.0.1 ≡ p = ap (λ x. x.1) m.2 in
            line_on text i place p spaces
            (subst (λ k. InLine text place k) end
            (tag_line text flow place m.0.1 m.0.0 (λ f. omega (arith, f, byte)) m.1))
        | inr none ↦
            let same = pair_is names ms i p (rw (no_anchor, none) at h) in
            subst (λ k. InLine text i k) same.1 (line_none text i)
      ]
    ]

pub names_line : (text : List ℕ) (flow : Bool) (i p : ℕ) (names : Names) → names_at text flow i ≡ Some (names, p)
    → InLine text i p
names_line text flow i p names h =
    let t = then_some (one_name text flow (unnamed, i)) (one_name text flow) (names, p) h in
    line_on text i t.0.1 p (one_line text flow unnamed t.0.0 i t.0.1 t.1)
    (one_line text flow t.0.0 names t.0.1 p t.2)
