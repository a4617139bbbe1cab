-- The steps of a reader by columns where a mapping may begin with a key in its line.
use Rattle.std.proofs.Common.{ℕ, ◌-◌, ◌<◌, ◌≤◌, ◌≡◌, ◌≢◌, ◌⊎◌, ◌&&◌, not, false, List, Some}
use Rattle.std.proofs.Common.{refl, sym, subst, ap, ◌∙◌, inl, inr, length, slice_range, take}
use Rattle.std.proofs.lemmas.Bool.{and_from, cases_eq, cases_lt, false≢true}
use Rattle.yaml_direct.specs.Added.{HasNoLeaf}
use Rattle.yaml_direct.specs.ByColumns.{BeginsColumns, BeginsWithKey, key_behind_names}
use Rattle.yaml_direct.specs.Gaps.{InLine}
use Rattle.yaml_direct.specs.Held.{names_of}
use Rattle.yaml_direct.specs.InBrackets.{IsOf}
use Rattle.yaml_direct.specs.Leaves.{IsLeaf, whole_plain}
use Rattle.yaml_direct.specs.LeftByColumns.{IsKeyed, keyed_leaf, keyed_names}
use Rattle.yaml_direct.specs.Places.{Grows, no_place}
use Rattle.yaml_direct.specs.Tokens.{EndsKey}
use Rattle.yaml_direct.specs.declared.block.Room as code
use Rattle.yaml_direct.specs.declared.block.Room.TheVariants as rooms
use Rattle.yaml_direct.specs.declared.leaf.Leaf as leaves
use Rattle.yaml_direct.specs.declared.leaf.LeafKind.TheVariants.{Plain}
use Rattle.yaml_direct.specs.declared.reader.Reader.{Reader}
use Rattle.yaml_direct.proofs.Growing.{given_up, grows_same}
use Rattle.yaml_grammar.specs.Blocks.{Room}
use Rattle.yaml_grammar.specs.Bytes.{at, is_mark}
use Rattle.yaml_grammar.specs.Gaps.{breaks, next}
use Rattle.yaml_grammar.specs.Names.{Names}
use Rattle.yaml_grammar.specs.Plain.{Context, as_key, plain_at}
use Rattle.yaml_tape.specs.Pushes.{marked_on}

pub is_value_room : (room : code.Room) → (room ≡ rooms.Value) ⊎ (room ≢ rooms.Value)
is_value_room rooms.Item = inr (λ e. cc)
is_value_room rooms.Part = inr (λ e. cc)
is_value_room rooms.Value = inl refl

-- the `:` of the key
keyed_colon : (text : List ℕ) (d least : ℕ) (room : code.Room) (where' : Room) (r : Reader) (leaf : leaves.Leaf)
    → IsKeyed text d least room where' r leaf → EndsKey text leaf.end (next text leaf.end)
keyed_colon text d least room where' r leaf (keyed_leaf place x l k) = k
keyed_colon text d least room where' r leaf
    (keyed_names names some dash mark early kind begin stop k takes refuses lined) = k

pub keyed_lined : (text : List ℕ) (d least : ℕ) (room : code.Room) (where' : Room) (r : Reader) (leaf : leaves.Leaf)
    → IsKeyed text d least room where' r leaf → room ≢ rooms.Value → r.line_start ≤ r.start.index
keyed_lined text d least room where' r leaf (keyed_leaf place x l k) other = x.lined other
keyed_lined text d least room where' r leaf
    (keyed_names names some dash mark early kind begin stop k takes refuses lined) other = lined other

-- it was found where it stands
pub keyed_there : (text : List ℕ) (d least : ℕ) (room : code.Room) (where' : Room) (r : Reader) (leaf : leaves.Leaf)
    (k : ℕ) → IsKeyed text d least room where' r leaf → r.text.now ≡ text
    → (k ≢ no_place → EndsKey r.text.now leaf.end k)
    → (k ≡ no_place → (not (breaks r.text.now leaf.end) && is_mark r.text.now 58 (next r.text.now leaf.end)) ≡ false)
    → k ≡ next text leaf.end
keyed_there text d least room where' r leaf k x same found missed = elim (cases_eq k no_place) [
  | inr some ↦ (found some).there ∙ ap (λ t. next t leaf.end) same
  | inl none ↦
      let colon = keyed_colon text d least room where' r leaf x in
      absurd (false≢true
      (sym (subst (λ t. (not (breaks t leaf.end) && is_mark t 58 (next t leaf.end)) ≡ false) same (missed none))
      ∙ and_from (not (breaks text leaf.end)) (is_mark text 58 (next text leaf.end)) (ap not colon.in_line) colon.mark))
]

pub colon_next : (text : List ℕ) (r : Reader) (end k : ℕ) → r.text.now ≡ text → EndsKey r.text.now end k
    → EndsKey text end (next text end)
colon_next text r end k same colon =
    let h = subst (λ t. EndsKey t end k) same colon in
    subst (λ q. EndsKey text end q) h.there h

-- a leaf that is none
pub no_leaf_kept : (text : List ℕ) (context : Context) (place : ℕ) (old a : Reader) → IsOf text a → a.names ≡ old.names
    → HasNoLeaf a.text.now context (names_of a) place → HasNoLeaf text context (names_of old) place
no_leaf_kept text context place old a of names none =
    subst (λ n. HasNoLeaf text context (let m : Names = record { anchor = n.anchor; tag = n.tag } in m) place) names
    (subst (λ t. HasNoLeaf t context (names_of a) place) of.same none)

-- a leaf behind names, and a mapping may begin with it
pub content_key : (text : List ℕ) (r : Reader) (leaf : leaves.Leaf) (place : ℕ) → BeginsColumns text r place
    → IsLeaf text as_key place leaf → InLine text place leaf.end → BeginsWithKey text r leaf
content_key text r leaf place c l line = record {
  key = key_behind_names place c.behind l (λ k a z. by_place k a z c.behind.line);
  counted = c.counted;
  here = c.here;
}
  where
    by_place : (k : ℕ) → r.start.index ≤ k → k < leaf.end → InLine text r.start.index place → at text k ≢ 10
    by_place k a z f = elim (cases_lt k place) [ inl before ↦ f k a before | inr behind ↦ line k behind z ]

-- plain text that was found in its line
pub plain_whole : (text : List ℕ) (leaf : leaves.Leaf) (place e : ℕ) → leaf.kind ≡ Plain → leaf.begin ≡ place
    → leaf.stop ≡ e → leaf.end ≡ e → place ≤ e
    → plain_at text as_key place ≡ Some (e - place, slice_range text place e) → IsLeaf text as_key place leaf
plain_whole text leaf place e kind begin stop end low read =
    whole_plain kind begin (stop ∙ sym end) (subst (λ q. place ≤ q) (sym end) low)
    (subst (λ q. plain_at text as_key place ≡ Some (q - place, slice_range text place q)) (sym end) read)

-- events that were read are taken back
pub gone_back : (old m u : Reader) (count : ℕ) → Grows old m → marked_on u.tape ≡ take count (marked_on m.tape)
    → count ≡ length old.tape.entries.items → Grows old u
gone_back old m u count grown taken first =
    grows_same old u (given_up old m u.tape grown (taken ∙ ap (λ n. take n (marked_on m.tape)) first))
