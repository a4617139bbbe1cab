-- What is left by columns: a node without names, and what stands behind an indicator.
use Rattle.std.proofs.Common.{ℕ, suc, ◌+◌, ◌≤◌, ◌≡◌, ◌≢◌, ◌⊎◌, ◌==◌, ◌||◌, not, Bool, true, false, List, Some}
use Rattle.std.proofs.Common.{sym, subst, ap, ◌∙◌, arith, inl, inr}
use Rattle.std.proofs.lemmas.Bool.{and_left, false≢true, ne_eqb}
use Rattle.yaml_direct.specs.ByColumns.{room_of}
use Rattle.yaml_direct.specs.Gaps.{begins_token}
use Rattle.yaml_direct.specs.Held.{IsUnnamed}
use Rattle.yaml_direct.specs.LeftByColumns.{EndsAmiss, EndsAtTab, IsContent, LeavesBehind, in_line}
use Rattle.yaml_direct.specs.Tokens.{IsCounted}
use Rattle.yaml_direct.specs.declared.block.Room as code
use Rattle.yaml_direct.specs.declared.block.Room.TheVariants as rooms
use Rattle.yaml_direct.specs.declared.reader.Reader.{Reader}
use Rattle.yaml_direct.proofs.BracketBytes.{token_stays}
use Rattle.yaml_direct.proofs.ColumnSteps.{named_none, room_takes}
use Rattle.yaml_direct.proofs.PartMisses.{gap_mark, line_here, tab_mapping, tab_none, tab_sequence}
use Rattle.yaml_grammar.specs.Blocks.{Behind, Room, takes_columns}
use Rattle.yaml_grammar.specs.Bytes.{at, is_mark, is_over}
use Rattle.yaml_grammar.specs.Names.{Names, names_at}
use Rattle.yaml_grammar.specs.Nodes.{Marked, Node}
use Rattle.yaml_reading.specs.BlockReader.{Kind, columns_at}
use Rattle.yaml_reading.proofs.Begins.{stays}
use Rattle.yaml_reading.proofs.BlockSteps.{behind_within, no_columns, node_within}

-- a token begins with this byte
abbrev is_token_byte : ℕ → Bool
is_token_byte c = not (c == 32 || (c == 10 || (c == 13 || c == 35)))

-- no anchor, no tag and no collection by columns begins here
pub record BeginsNothing (text : List ℕ) (i : ℕ) : Type 0 where
  pub anchor : at text i ≢ 38
  pub tag : at text i ≢ 33
  pub dash : is_mark text 45 i ≡ false
  pub mark : is_mark text 63 i ≡ false

pub begins_nothing : (text : List ℕ) (i : ℕ) → at text i ≢ 38 → at text i ≢ 33 → at text i ≢ 45 → at text i ≢ 63
    → BeginsNothing text i
begins_nothing text i anchor tag dash mark = record {
  anchor = anchor;
  tag = tag;
  dash = and_left (at text i == 45) _ (ne_eqb (at text i) 45 dash);
  mark = and_left (at text i == 63) _ (ne_eqb (at text i) 63 mark);
}

-- `-` and `?` before no gap
pub gap_nothing : (text : List ℕ) (c i : ℕ) → at text i ≡ c → (c ≡ 45) ⊎ (c ≡ 63) → is_mark text c i ≡ false
    → BeginsNothing text i
gap_nothing text c i byte dash none = record {
  anchor = λ e. apart 38 (λ z. omega (arith, z)) (λ z. omega (arith, z)) (sym e ∙ byte) dash;
  tag = λ e. apart 33 (λ z. omega (arith, z)) (λ z. omega (arith, z)) (sym e ∙ byte) dash;
  dash = gap_mark text 45 c i byte none;
  mark = gap_mark text 63 c i byte none;
}
  where
    apart : (b : ℕ) → b ≢ 45 → b ≢ 63 → b ≡ c → (c ≡ 45) ⊎ (c ≡ 63) → ⊥
    apart b f g same (inl e) = f (same ∙ e)
    apart b f g same (inr e) = g (same ∙ e)

-- the content of a node, where no names stand and no collection begins
pub content_here : (text : List ℕ) (d least : ℕ) (room : code.Room) (r : Reader) (place : ℕ) → r.start.index ≡ place
    → r.start.late ≡ false → IsUnnamed r → is_over text place ≡ false → (room ≢ rooms.Value → IsCounted r place)
    → r.line_start ≤ place → begins_token text place ≡ true → BeginsNothing text place
    → IsContent text d least room (room_of room) r place
content_here text d least room r place there early gone over counted low token none =
    let w = token_stays text place token none.anchor none.tag in
    let s = stays text place w in
    record {
      end = place;
      names = ap (names_at text false) there ∙ s.names false ∙ ap (λ (n : Names). Some (n, place)) (sym gone);
      there = s.here;
      alone = λ z. absurd (omega (arith, z, there));
      stands = in_line (line_here text place w over) (ap (is_mark text 45) there ∙ none.dash)
          (ap (is_mark text 63) there ∙ none.mark);
      early = early;
      takes = room_takes room;
      refuses = λ line same. ap (λ q. takes_columns (room_of q)) same;
      columns = λ other _. (named_none text least room r place there early gone over counted w).columns other;
      lined = λ other. omega (arith, low, there);
      some = λ other. subst (λ i. at text i ≢ 32) (sym there) (λ e. false≢true (sym (ap is_token_byte e) ∙ token));
    }

-- a collection by columns in a room that takes none
pub no_room : (text : List ℕ) (d least i c : ℕ) (room : Room) (es : List Marked) → is_mark text c i ≡ true
    → (c ≡ 45) ⊎ (c ≡ 63) → is_over text i ≡ false → takes_columns room ≡ false
    → EndsAmiss text least (node_within text d least room es i)
no_room text d least i c room es here (inl dash) inside none =
    tab_sequence text d least room es i (subst (λ b. is_mark text b i ≡ true) dash here)
    (λ takes. absurd (false≢true (sym none ∙ takes)))
no_room text d least i c room es here (inr mark) inside none =
    tab_mapping text d least room es i (subst (λ b. is_mark text b i ≡ true) mark here) inside
    (λ takes. absurd (false≢true (sym none ∙ takes)))

pub second_byte : (c a b : ℕ) → (c ≡ a) ⊎ (c ≡ b) → c ≢ a → c ≡ b
second_byte c a b (inl e) other = absurd (other e)
second_byte c a b (inr e) other = e

-- within no nesting
pub no_columns_left : (text : List ℕ) (d : ℕ) (kind : Kind) (names : Names) (start c : ℕ) (es : List Marked) (i : ℕ)
    → d ≡ 0 → EndsAtTab text (columns_at text d kind names start c es i)
no_columns_left text d kind names start c es i none =
    tab_none text (columns_at text d kind names start c es i)
    (ap (λ q. columns_at text q kind names start c es i) none ∙ no_columns text kind names start c es i)

-- a place behind an indicator
next_place : (k : ℕ) → k + 1 ≡ suc k
next_place k = omega arith

pub behind_one : (text : List ℕ) (d c k : ℕ) (room : Room) → LeavesBehind text d c room (k + 1)
    → (es : List Marked) → EndsAmiss text (suc c) (behind_within text d c room es (suc k))
behind_one text d c k room left es =
    subst (λ q. EndsAmiss text (suc c) (behind_within text d c room es q)) (next_place k) (left es)

pub behind_suc : (text : List ℕ) (d c k j : ℕ) (room : Room) (n : Node) → Behind text d c room (k + 1) j n
    → Behind text d c room (suc k) j n
behind_suc text d c k j room n stands = subst (λ q. Behind text d c room q j n) (next_place k) stands
