-- A scalar or an empty collection in its line, behind its tag.
use Rattle.std.proofs.Common.{◌≡◌, ℕ, suc, ◌+◌, Bool, true, false, not, ◌||◌, refl, sym}
use Rattle.std.proofs.Common.{subst, ap, ◌∙◌, arith, List, [], ◌∷◌, ◌++◌, length, Option, Some, nat_le, nat_lt}
use Rattle.std.proofs.Common.{append_assoc}
use Rattle.std.proofs.lemmas.Bool.{lt-ltb}
use Rattle.std.specs.Prelude.{IsTrue, slice_range}
use Rattle.yaml_base.specs.EmitTree.{EmitNode, emit_scalar_node}
use Rattle.yaml_base.specs.Renders.{permits}
use Rattle.yaml_base.specs.declared.emitter.AskedStyle.{AskedStyle}
use Rattle.yaml_base.specs.declared.event.ScalarStyle.TheVariants as style
use Rattle.yaml_emit.specs.Places.{behind_tag, in_line, tag_in_line}
use Rattle.yaml_emit.specs.StreamTexts.{leaf_end, tag_or_empty}
use Rattle.yaml_emit.specs.Tags.{printed_tag}
use Rattle.yaml_emit.specs.declared.open.Lead.TheVariants.{Fresh}
use Rattle.yaml_grammar.specs.Blocks.{Room, BlockNode, is_own}
use Rattle.yaml_grammar.specs.Blocks.{names_alone}
use Rattle.yaml_grammar.specs.Bytes.{parts}
use Rattle.yaml_grammar.specs.Gaps.{follows, is_within, next}
use Rattle.yaml_grammar.specs.Names.{names_at}
use Rattle.yaml_grammar.specs.Nodes.{mark, no_content}
use Rattle.yaml_grammar.proofs.LineLaws.{IsWord}
use Rattle.yaml_printed.specs.Printable.{IsTag, no_tag, a_tag}
use Rattle.yaml_printed.proofs.Aheads.{Ahead, gone, next_ahead}
use Rattle.yaml_printed.proofs.Collections.{names_of}
use Rattle.yaml_printed.proofs.Finds.{Here}
use Rattle.yaml_printed.proofs.Rests.{Rest, rest_is, rest_on, rest_skip, rest_place, rest_inside, begins_token}
use Rattle.yaml_printed.proofs.Rests.{line_goes_on, line_ends, next_space, next_token, Next}
use Rattle.yaml_printed.proofs.TagNames.{names_plain, names_tag}
use Rattle.yaml_printed.proofs.TagBytes.{a_line, a_word, tag_begins}

-- some bytes that begin a token, and no document
pub record Token (xs : List ℕ) : Type 0 where
  pub some : xs ≡ [] → ⊥
  pub token : begins_token xs ≡ true
  pub whole : parts xs ≡ false

pub word_token : (c : ℕ) (cs : List ℕ) → IsWord c → begins_token (c ∷ cs) ≡ true
word_token c cs w = rw (w.no_space, w.no_feed, w.no_hash) refl

pub token_inside : {text : List ℕ} {i : ℕ} {xs : List ℕ} → Token xs → Rest text i xs → nat_le (length text) i ≡ false
token_inside {text = text} {i = i} {xs = xs} t r = go xs t.some r
  where
    go : (xs : List ℕ) → (xs ≡ [] → ⊥) → Rest text i xs → nat_le (length text) i ≡ false
    go [] some r = absurd (some refl)
    go (c ∷ cs) some r = rest_inside r

-- a node as a token, which begins what is left of the text
pub record HereAt (text : List ℕ) (d least : ℕ) (room : Room) (i j : ℕ) (n : EmitNode) (xs : List ℕ) : Type 0 where
  pub here : Here text d least room i j n
  pub token : Token xs

-- the node is there behind its names, whatever these are
abbrev pub Completes : List ℕ → (d least j : ℕ) → Option (List ℕ) → (k : ℕ) → EmitNode → Type 0
Completes text d least j tag k n = (room : Room) (i p : ℕ) → names_at text false i ≡ Some (names_of tag, p)
    → next text p ≡ k → follows text least p ≡ true → Here text d least room i j n

-- a line begins with the node
abbrev pub fresh_text : (tag : Option (List ℕ)) → (content : List ℕ) → (is_block : Bool) → List ℕ
fresh_text tag content is_block =
    tag_in_line Fresh (tag_or_empty tag)
    ++ (in_line (behind_tag Fresh (tag_or_empty tag)) content ++ leaf_end false is_block)

pub follows_in_line : {text : List ℕ} {p k : ℕ} (least : ℕ) → Next text p k false → nat_le (length text) k ≡ false
    → follows text least p ≡ true
follows_in_line {text = text} {p = p} least s inside =
    ap (λ b. not b || is_within text least (next text p)) (line_goes_on s inside)

pub tag_token : (t xs ys : List ℕ) → Token ((printed_tag t ++ xs) ++ ys)
tag_token t xs ys =
    let b = tag_begins t in
    subst (λ l. Token ((l ++ xs) ++ ys)) (sym b.1) (record { some = λ e. absurd (cc); token = refl; whole = refl })

-- a content behind its tag
pub content_here : {text : List ℕ} {d least j : ℕ} {n : EmitNode} (tag : Option (List ℕ)) → IsTag tag
    → (c : ℕ) (cs : List ℕ) (is_block : Bool)
    (room : Room) (i : ℕ) (after : List ℕ)
    → Rest text i (fresh_text tag (c ∷ cs) is_block ++ after) → IsWord c
    → ((ys : List ℕ) → parts ((c ∷ cs) ++ (leaf_end false is_block ++ ys)) ≡ false)
    → ((k : ℕ) → Rest text k ((c ∷ cs) ++ (leaf_end false is_block ++ after)) → Completes text d least j tag k n)
    → HereAt text d least room i j n (fresh_text tag (c ∷ cs) is_block ++ after)
content_here {least = least} _ no_tag c cs is_block room i after r w clear whole =
    let rest = cs ++ (leaf_end false is_block ++ after) in
    let r1 = rest_is (append_assoc (c ∷ cs) (leaf_end false is_block) after) r in
    let s = next_token r1 (word_token c rest w) in
    record {
      here = whole i r1 room i i (names_plain r1 w) s.there (follows_in_line least s (rest_inside r1));
      token = record {
        some = λ e. absurd (cc);
        token = word_token c ((cs ++ leaf_end false is_block) ++ after) w;
        whole = ap parts (append_assoc (c ∷ cs) (leaf_end false is_block) after) ∙ clear after;
      };
    }
content_here {least = least} _ (a_tag {c = t} {cs = ts} u z) c cs is_block room i after r w clear whole =
    let tag = printed_tag (t ∷ ts) in
    let rest = cs ++ (leaf_end false is_block ++ after) in
    let r1 : Rest _ i (tag ++ (32 ∷ c ∷ rest))
    = rest_is (append_assoc tag (32 ∷ ((c ∷ cs) ++ leaf_end false is_block)) after
    ∙ ap (λ l. tag ++ (32 ∷ l)) (append_assoc (c ∷ cs) (leaf_end false is_block) after)) r in
    let r2 = rest_skip tag r1 in
    let s = next_space r2 (word_token c rest w) in
    record {
      here = whole (suc (i + length tag)) (rest_on r2) room i (i + length tag)
          (names_tag (32 ∷ c ∷ rest) (t ∷ ts) (a_tag u z) r1 (a_word w)) s.there
          (follows_in_line least s (rest_inside (rest_on r2)));
      token = tag_token (t ∷ ts) (32 ∷ ((c ∷ cs) ++ leaf_end false is_block)) after;
    }

-- a tag alone is a node
pub tag_here : {text : List ℕ} {d least e j : ℕ} (t : ℕ) (ts : List ℕ) → IsTag (Some (t ∷ ts)) → (ask : AskedStyle)
    → IsTrue (permits ask style.Plain) → (room : Room) (i : ℕ) (after : List ℕ)
    → Rest text i (fresh_text (Some (t ∷ ts)) [] false ++ after) → Ahead text least e j after
    → is_own text room least j ≡ false
    → HereAt text d least room i j (emit_scalar_node (Some (t ∷ ts)) [] ask)
    (fresh_text (Some (t ∷ ts)) [] false ++ after)
tag_here {text = text} {d = d} {least = least} {j = j} t ts f ask allowed room i after r a own =
    let tag = printed_tag (t ∷ ts) in
    let r1 : Rest text i (tag ++ (10 ∷ after)) = rest_is (append_assoc tag (10 ∷ []) after) r in
    let p = i + length tag in
    let r2 = rest_skip tag r1 in
    let be = rest_place (rest_on r2) a.rest in
    let s : Next text p j true = next_ahead after r2 be a in
    record {
      here = record {
        node = no_content (mark text i) (names_of (Some (t ∷ ts))) (slice_range text i p);
        stands =
            subst (λ q. BlockNode text d least room i q (no_content (mark text i) (names_of (Some (t ∷ ts)))
            (slice_range text i p))) s.there
            (names_alone (names_tag (10 ∷ after) (t ∷ ts) f r1 a_line) (moves tag (tag_begins (t ∷ ts)) i) (line_ends s)
            (ap (is_within text least) s.there ∙ gone a) (ap (is_own text room least) s.there ∙ own));
        same = (((_, refl, record { unanchored = refl; same_tag = refl; same_text = refl; permitted = allowed })), tt);
      };
      token = tag_token (t ∷ ts) (10 ∷ []) after;
    }
  where
    moves : (tag : List ℕ) → ((rest : List ℕ) × (tag ≡ 33 ∷ rest)) → (i : ℕ) → nat_lt i (i + length tag) ≡ true
    moves tag b i = lt-ltb i (i + length tag) (omega (arith, ap length b.1))
