-- What was read by columns, put together.
use Rattle.std.proofs.Common.{ℕ, suc, ◌+◌, ◌-◌, ◌<◌, ◌≤◌, ◌≡◌, ◌≢◌, ◌++◌, ◌∷◌, ◌==◌, ◌||◌, true, false, List, [], Some}
use Rattle.std.proofs.Common.{refl, sym, subst, ap, ap₂, ◌∙◌, arith, append_assoc, append-nil, drop, length, take}
use Rattle.std.proofs.lemmas.Bool.{and_from, and_parts, eqb-true, lt-ltb}
use Rattle.std.specs.Prelude.{None, slice_range}
use Rattle.yaml_base.specs.PlainEvent.{mapping_end, mapping_start, sequence_end, sequence_start}
use Rattle.yaml_base.specs.Position.{Position}
use Rattle.yaml_base.specs.declared.event.ScalarStyle.TheVariants as style
use Rattle.yaml_direct.specs.Added.{Adds, AddsBlock, AddsLeaf, AddsScalar}
use Rattle.yaml_direct.specs.ByColumns.{AreEntriesBehind, AreLastEntries, IsBehind, IsBlockNamed, IsBlockNode, IsEntry}
use Rattle.yaml_direct.specs.ByColumns.{IsKeyLeaf, IsMapping, IsSequence, Reads, key_behind_names, key_names_alone}
use Rattle.yaml_direct.specs.Gaps.{InLine}
use Rattle.yaml_direct.specs.Held.{IsUnnamed, names_of}
use Rattle.yaml_direct.specs.InBrackets.{Has, IsBrackets, IsOf}
use Rattle.yaml_direct.specs.Keys.{IsKey}
use Rattle.yaml_direct.specs.Leaves.{IsLeaf}
use Rattle.yaml_direct.specs.Tokens.{EndsKey, IsCounted}
use Rattle.yaml_direct.specs.declared.block.Room as block
use Rattle.yaml_direct.specs.declared.leaf.Leaf as code
use Rattle.yaml_direct.specs.declared.leaf.LeafKind.TheVariants.{Plain}
use Rattle.yaml_direct.specs.declared.reader.Reader.{Reader}
use Rattle.yaml_direct.proofs.BracketReads.{behind_kept, scalar_is}
use Rattle.yaml_direct.proofs.BracketSteps.{key_colon, line_to}
use Rattle.yaml_grammar.specs.BlockTexts.{block_at}
use Rattle.yaml_grammar.specs.Blocks.{Behind, BlockNode, Entries, Items, Key, Room, a_block, a_collection, a_leaf}
use Rattle.yaml_grammar.specs.Blocks.{a_mapping, a_sequence, in_a_later_line, in_its_line, in_its_own_column, later}
use Rattle.yaml_grammar.specs.Blocks.{nothing, an_entry, an_item, anything, block_style, collection_key, ends_key}
use Rattle.yaml_grammar.specs.Blocks.{in_line, is_own, is_value, key_alone, leaf_key, named_mapping, named_sequence}
use Rattle.yaml_grammar.specs.Blocks.{names_alone, names_key, no_entry, no_item, part, takes_columns, value, with_marks}
use Rattle.yaml_grammar.specs.Brackets.{Brackets, has_colon, nothing_here}
use Rattle.yaml_grammar.specs.Bytes.{at, column, is_mark, is_over}
use Rattle.yaml_grammar.specs.Gaps.{breaks, ends_its_line, is_at, is_item, is_within, next}
use Rattle.yaml_grammar.specs.Leaves.{leaf_at, leaf_node}
use Rattle.yaml_grammar.specs.Names.{Names, names_at, unnamed}
use Rattle.yaml_grammar.specs.Nodes.{Marked, Node, Nodes, Pairs, end_mark, mapping, mark, no_content, no_nodes}
use Rattle.yaml_grammar.specs.Nodes.{no_pairs, node, node_events, nodes_events, pair, pairs_events, scalar_at, sequence}
use Rattle.yaml_grammar.specs.Plain.{Context, as_key, by_columns}
use Rattle.yaml_tape.specs.OnTape.{position_at}
use Rattle.yaml_tape.specs.Pushes.{marked_on}
use Rattle.yaml_tape.specs.declared.entry.Spot.{Spot}

one_more : (i : ℕ) → suc i ≡ i + 1
one_more i = omega arith

pub less_one : (d : ℕ) → d ≢ 0 → suc (d - 1) ≡ d
less_one d some = omega (arith, some)

-- steps that add nothing
pub has_marked : (a b c : Reader) (What : List Marked → Type 0) → marked_on b.tape ≡ marked_on a.tape → Has b c What
    → Has a c What
has_marked a b c What tape x = record {
  events = x.events;
  what = x.what;
  added = x.added ∙ ap (λ l. l ++ x.events) tape;
  unnamed = x.unnamed;
}

pub reads_marked : (a b c : Reader) (to : ℕ) (What : List Marked → Type 0) → marked_on b.tape ≡ marked_on a.tape
    → Reads b c to What → Reads a c to What
reads_marked a b c to What tape x = record { has = has_marked a b c What tape x.has; counted = x.counted }

pub reads_from : (a b c : Reader) (to : ℕ) (What : List Marked → Type 0) → b.tape ≡ a.tape → Reads b c to What
    → Reads a c to What
reads_from a b c to What tape x = reads_marked a b c to What (ap marked_on tape) x

pub reads_as : (a b : Reader) (to : ℕ) (What Other : List Marked → Type 0) → ((es : List Marked) → What es → Other es)
    → Reads a b to What → Reads a b to Other
reads_as a b to What Other f x = record {
  has = record {
    events = x.has.events;
    what = f x.has.events x.has.what;
    added = x.has.added;
    unnamed = x.has.unnamed;
  };
  counted = x.counted;
}

-- columns are counted on
pub counted_on : (a b : Reader) (place : ℕ) → b.text.now ≡ a.text.now → b.line_start ≡ a.line_start → IsCounted a place
    → IsCounted b place
counted_on a b place text line c = record {
  within = subst (λ t. place ≤ length t) (sym text) c.within;
  column = subst (λ t. place < length t → column t place ≡ place - b.line_start) (sym text)
      (subst (λ n. place < length a.text.now → column a.text.now place ≡ place - n) (sym line) c.column);
}

-- a node
pub node_reads : (text : List ℕ) (old new : Reader) (d least : ℕ) (room : Room) (i j : ℕ) (n : Node)
    → BlockNode text d least room i j n → marked_on new.tape ≡ marked_on old.tape ++ node_events n → IsUnnamed new
    → IsCounted new j → Reads old new j (IsBlockNode text d least room i j)
node_reads text old new d least room i j n stands added gone counted = record {
  has = record {
    events = node_events n;
    what = record { node = n; stands = stands; events = refl };
    added = added;
    unnamed = gone;
  };
  counted = counted;
}

unnamed_on : (a b : Reader) → b.names ≡ a.names → IsUnnamed a → IsUnnamed b
unnamed_on a b same h = ap (λ n. let r : Names = record { anchor = n.anchor; tag = n.tag } in r) same ∙ h

-- a leaf that ends its line
pub leaf_reads : (text : List ℕ) (old m new : Reader) (d least : ℕ) (room : block.Room) (in_room : Room) (place e k : ℕ)
    → IsOf text old → IsBlockNamed text least room old place → AddsLeaf old m (by_columns least) place e
    → ends_its_line text e ≡ true → k ≡ next text e → new.tape ≡ m.tape → new.names ≡ m.names → IsCounted new k
    → Reads old new k (IsBlockNode text d least in_room old.start.index k)
leaf_reads text old m new d least room in_room place e k of b a ends there tape names counted =
    let i = old.start.index in
    let stands = a_leaf {d = d} {room = in_room} b.names b.goes
    (ap (leaf_at text (by_columns least)) (sym b.there) ∙ ap (λ t. leaf_at t (by_columns least) place) (sym of.same)
    ∙ a.read)
    (ap (λ t. leaf_node t i (names_of old) a.leaf e) (sym of.same) ∙ a.is) ends in
    node_reads text old new d least in_room i k a.node
    (subst (λ q. BlockNode text d least in_room i q a.node) (sym there) stands)
    (ap marked_on tape ∙ a.added.events) (unnamed_on m new names a.added.unnamed) counted

-- a block of lines
pub block_reads : (text : List ℕ) (old new : Reader) (d least : ℕ) (room : block.Room) (in_room : Room) (place k : ℕ)
    → IsOf text old → IsBlockNamed text least room old place → AddsBlock old new least place k
    → Reads old new k (IsBlockNode text d least in_room old.start.index k)
block_reads text old new d least room in_room place k of b a =
    let i = old.start.index in
    let how = block_style (at text place) in
    let n = scalar_at text i (names_of old) how a.said a.end in
    let stands = a_block {d = d} {room = in_room} b.names b.goes
    (ap (block_at text least) (sym b.there) ∙ ap (λ t. block_at t least place) (sym of.same) ∙ a.read) in
    let same : ◌≡◌ {A = Node} (scalar_at text i (names_of old) (block_style (at text
    (next text b.end))) a.said a.end) n =
    ap (λ q. scalar_at text i (names_of old) (block_style (at text q)) a.said a.end) (sym b.there) in
    let there : k ≡ next text a.end = a.there ∙ ap (λ t. next t a.end) of.same in
    let added = subst (λ t. AddsScalar old new a.said (block_style (at t place)) a.end) of.same a.added in
    node_reads text old new d least in_room i k n
    (subst (λ q. BlockNode text d least in_room i q n) (sym there)
    (subst (λ m. BlockNode text d least in_room i (next text a.end) m) same stands))
    (scalar_is text old new a.said a.said how a.end i of b.early refl refl added) added.unnamed a.counted

-- a collection in brackets
pub collection_reads : (text : List ℕ) (old m new : Reader) (d least : ℕ) (room : block.Room) (in_room : Room)
    (place e k : ℕ) → IsBlockNamed text least room old place
    → Has old m (IsBrackets text d old.start.index (names_of old) place e) → ends_its_line text e ≡ true
    → k ≡ next text e → new.tape ≡ m.tape → new.names ≡ m.names → IsCounted new k
    → Reads old new k (IsBlockNode text d least in_room old.start.index k)
collection_reads text old m new d least room in_room place e k b x ends there tape names counted =
    let i = old.start.index in
    let n = x.what.node in
    let stands = a_collection {room = in_room} b.names b.goes
    (subst (λ q. Brackets text d i (names_of old) q e n) b.there x.what.stands) ends in
    node_reads text old new d least in_room i k n
    (subst (λ q. BlockNode text d least in_room i q n) (sym there) stands)
    (ap marked_on tape ∙ x.added ∙ ap (λ l. marked_on old.tape ++ l) x.what.events) (unnamed_on m new names x.unnamed)
    counted

-- a leaf as a key, or names alone
pub record KeyRead (text : List ℕ) (old new : Reader) (d i e : ℕ) : Type 0 where
  pub node : Node
  pub stands : Key text d i (next text e) node
  pub added : marked_on new.tape ≡ marked_on old.tape ++ node_events node
  pub unnamed : IsUnnamed new

pub key_line : (text : List ℕ) (r : Reader) (leaf : code.Leaf) → IsKeyLeaf text r leaf
    → InLine text r.start.index leaf.end
key_line text r leaf (key_behind_names place b l line) = line
key_line text r leaf (key_names_alone names some early kind begins stops line) = line

pub key_early : (text : List ℕ) (r : Reader) (leaf : code.Leaf) → IsKeyLeaf text r leaf → r.start.late ≡ false
key_early text r leaf (key_behind_names place b l line) = b.early
key_early text r leaf (key_names_alone names some early kind begins stops line) = early

pub key_kept : (text : List ℕ) (a b : Reader) (leaf : code.Leaf) → b.start ≡ a.start → b.names ≡ a.names
    → IsKeyLeaf text a leaf → IsKeyLeaf text b leaf
key_kept text a b leaf start names (key_behind_names place x l line) =
    key_behind_names place (behind_kept text false a b place start names x) l
    (subst (λ s. InLine text s.index leaf.end) (sym start) line)
key_kept text a b leaf start names (key_names_alone read some early kind begins stops line) =
    key_names_alone
    (ap (λ s. names_at text false s.index) start ∙ read
    ∙ ap (λ n. let r : Names = record { anchor = n.anchor; tag = n.tag } in Some (r, leaf.end)) (sym names))
    (subst (λ s. s.index < leaf.end) (sym start) some) (ap (λ s. s.late) start ∙ early) kind begins stops
    (subst (λ s. InLine text s.index leaf.end) (sym start) line)

no_bytes : (text : List ℕ) (i j : ℕ) → i ≡ j → slice_range text i j ≡ []
no_bytes text i j same =
    let none : j - i ≡ 0 = omega (arith, same) in
    ap (λ n. take n (drop i text)) none

pub key_reads : (text : List ℕ) (old new : Reader) (d : ℕ) (leaf : code.Leaf) → IsOf text old → IsKeyLeaf text old leaf
    → ends_key text old.start.index leaf.end ≡ true → breaks text leaf.end ≡ false
    → ((context : Context) (i : ℕ) → IsLeaf old.text.now context i leaf → old.start.late ≡ false
    → AddsLeaf old new context i leaf.end)
    → (leaf.kind ≡ Plain → AddsScalar old new (slice_range old.text.now leaf.begin leaf.stop) style.Plain leaf.end)
    → KeyRead text old new d old.start.index leaf.end
key_reads text old new d leaf of (key_behind_names place b l line) ends whole found plain =
    let a = found as_key place (subst (λ t. IsLeaf t as_key place leaf) (sym of.same) l) b.early in
    record {
      node = a.node;
      stands = leaf_key b.names b.in_line
          (ap (leaf_at text as_key) (sym b.there) ∙ ap (λ t. leaf_at t as_key place) (sym of.same) ∙ a.read)
          (ap (λ t. leaf_node t old.start.index (names_of old) a.leaf leaf.end) (sym of.same) ∙ a.is) ends;
      added = a.added.events;
      unnamed = a.added.unnamed;
    }
key_reads text old new d leaf of (key_names_alone names some early kind begins stops line) ends whole found plain =
    let i = old.start.index in
    let a = plain kind in
    record {
      node = no_content (mark text i) (names_of old) (slice_range text i leaf.end);
      stands = names_key names (lt-ltb i leaf.end some) whole ends;
      added = scalar_is text old new [] (slice_range old.text.now leaf.begin leaf.stop) style.Plain leaf.end i of early
          refl (no_bytes old.text.now leaf.begin leaf.stop (begins ∙ sym stops)) a;
      unnamed = a.unnamed;
    }

-- the `:` of a key
pub ends_by : (text : List ℕ) (i e k : ℕ) → EndsKey text e k → at text k ≡ 58 → i ≤ k → k ≤ i + 1024 → InLine text i e
    → ends_key text i e ≡ true
ends_by text i e k h byte low near line =
    and_from (has_colon text i e) (is_mark text 58 (next text e))
    (key_colon text i e k h.there byte low near (line_to text i e k line h.in_line h.there))
    (ap (is_mark text 58) (sym h.there) ∙ h.mark)

pub mark_byte : (text : List ℕ) (c i : ℕ) → is_mark text c i ≡ true → at text i ≡ c
mark_byte text c i h = eqb-true (at text i) c (and_parts (at text i == c) _ h).0

key_end_byte : (text : List ℕ) (i e : ℕ) → ends_key text i e ≡ true → at text (next text e) ≡ 58
key_end_byte text i e h = mark_byte text 58 (next text e) (and_parts (has_colon text i e) _ h).1

pub key_byte : (text : List ℕ) (d i k : ℕ) (n : Node) → Key text d i k n → at text k ≡ 58
key_byte text d i k n (leaf_key {e = e} names whole leaf is ends) = key_end_byte text i e ends
key_byte text d i k n (collection_key {e = e} names whole b ends) = key_end_byte text i e ends
key_byte text d i k n (names_key {p = p} names some whole ends) = key_end_byte text i p ends

-- the items from a token on
pub record AreItems (text : List ℕ) (d c i j : ℕ) (es : List Marked) : Type 0 where
  pub nodes : Nodes
  pub stand : Items text d c i j nodes
  pub events : es ≡ nodes_events nodes

-- what was read of a sequence that has begun, up to a token
pub record ItemsRead (text : List ℕ) (d c from i : ℕ) (start : Marked) (old new : Reader) : Type 0 where
  pub before : List Marked
  pub rest : (j : ℕ) (es : List Marked) → AreItems text d c i j es → AreItems text d c from j (before ++ es)
  pub added : marked_on new.tape ≡ marked_on old.tape ++ start ∷ before
  pub unnamed : IsUnnamed new
  pub counted : IsCounted new i

item_on : (text : List ℕ) (d c i k j : ℕ) (es rest : List Marked) → is_item text c i ≡ true
    → IsBehind text d c anything (i + 1) k es → AreItems text d c k j rest → AreItems text d c i j (es ++ rest)
item_on text d c i k j es rest item x r = record {
  nodes = node x.node r.nodes;
  stand = an_item item (subst (λ q. Behind text d c anything q k x.node) (sym (one_more i)) x.stands) r.stand;
  events = ap₂ (λ a b. a ++ b) x.events r.events;
}

pub items_first : (text : List ℕ) (d c from k : ℕ) (start : Marked) (old a b : Reader)
    → marked_on a.tape ≡ marked_on old.tape ++ start ∷ [] → is_item text c from ≡ true
    → Reads a b k (IsBehind text d c anything (from + 1) k) → ItemsRead text d c from k start old b
items_first text d c from k start old a b begun item x = record {
  before = x.has.events;
  rest = λ j es r. item_on text d c from k j x.has.events es item x.has.what r;
  added = x.has.added ∙ ap (λ l. l ++ x.has.events) begun ∙ append_assoc (marked_on old.tape) (start ∷ []) x.has.events;
  unnamed = x.has.unnamed;
  counted = x.counted;
}

pub items_turn : (text : List ℕ) (d c from i k : ℕ) (start : Marked) (old a b : Reader)
    → ItemsRead text d c from i start old a → is_item text c i ≡ true
    → Reads a b k (IsBehind text d c anything (i + 1) k) → ItemsRead text d c from k start old b
items_turn text d c from i k start old a b x item y =
    let es = y.has.events in
    record {
      before = x.before ++ es;
      rest = λ j more r. subst (λ l. AreItems text d c from j l) (sym (append_assoc x.before es more))
          (x.rest j (es ++ more) (item_on text d c i k j es more item y.has.what r));
      added = y.has.added ∙ ap (λ l. l ++ es) x.added ∙ append_assoc (marked_on old.tape) (start ∷ x.before) es;
      unnamed = y.has.unnamed;
      counted = y.counted;
    }

pub items_whole : (text : List ℕ) (d c from i at_start : ℕ) (names : Names) (old b new : Reader) (s : Spot)
    → ItemsRead text d c from i (sequence_start names.anchor names.tag, mark text at_start) old b
    → is_item text c i ≡ false → is_within text (c + 1) i ≡ false → b.text.now ≡ text
    → position_at b.text.now s.index s.late ≡ end_mark b.text.now c i → Adds b new sequence_end s
    → new.names ≡ b.names → IsCounted new i → Reads old new i (IsSequence text d c at_start names from i)
items_whole text d c from i at_start names old b new s x item within same ended added kept counted =
    let start : Marked = (sequence_start names.anchor names.tag, mark text at_start) in
    let end : Marked = (sequence_end, end_mark text c i) in
    let less = ap (λ k. is_within text k i) (one_more c) ∙ within in
    let r = x.rest i [] (record { nodes = no_nodes; stand = no_item item less; events = refl }) in
    let place : position_at b.text.now s.index s.late ≡ end_mark text c i = ended ∙ ap (λ t. end_mark t c i) same in
    record {
      has = record {
        events = start ∷ (x.before ++ end ∷ []);
        what = record {
          nodes = r.nodes;
          stand = r.stand;
          events = ap (λ l. start ∷ (l ++ end ∷ [])) (sym (append-nil x.before) ∙ r.events);
        };
        added = added ∙ ap (λ p. marked_on b.tape ++ (sequence_end, p) ∷ []) place
            ∙ ap (λ l. l ++ end ∷ []) x.added ∙ append_assoc (marked_on old.tape) (start ∷ x.before) (end ∷ []);
        unnamed = unnamed_on b new kept x.unnamed;
      };
      counted = counted;
    }

-- the entries from a token on
pub record AreEntries (text : List ℕ) (d c i j : ℕ) (es : List Marked) : Type 0 where
  pub pairs : Pairs
  pub stand : Entries text d c i j pairs
  pub events : es ≡ pairs_events pairs

-- what was read of a mapping's entries, up to a token
pub record EntriesRead (text : List ℕ) (d c from i : ℕ) (old new : Reader) : Type 0 where
  pub before : List Marked
  pub rest : (j : ℕ) (es : List Marked) → AreEntries text d c i j es → AreEntries text d c from j (before ++ es)
  pub added : marked_on new.tape ≡ marked_on old.tape ++ before
  pub unnamed : IsUnnamed new
  pub counted : IsCounted new i

pub entries_first : (text : List ℕ) (d c from : ℕ) (r : Reader) → IsUnnamed r → IsCounted r from
    → EntriesRead text d c from from r r
entries_first text d c from r gone counted = record {
  before = [];
  rest = λ j es x. x;
  added = sym (append-nil (marked_on r.tape));
  unnamed = gone;
  counted = counted;
}

pub entries_turn : (text : List ℕ) (d c from i k : ℕ) (old a b : Reader) → EntriesRead text d c from i old a
    → is_at text c i ≡ true → Reads a b k (IsEntry text d c i k) → EntriesRead text d c from k old b
entries_turn text d c from i k old a b x here y =
    let es = y.has.events in
    let e = y.has.what in
    record {
      before = x.before ++ es;
      rest = λ j more r.
          let whole : AreEntries text d c i j (es ++ more) = record {
            pairs = pair e.key e.value r.pairs;
            stand = an_entry here e.stands r.stand;
            events = ap₂ (λ a b. a ++ b) e.events r.events
                ∙ append_assoc (node_events e.key) (node_events e.value) (pairs_events r.pairs);
          } in
          subst (λ l. AreEntries text d c from j l) (sym (append_assoc x.before es more)) (x.rest j (es ++ more) whole);
      added = y.has.added ∙ ap (λ l. l ++ es) x.added ∙ append_assoc (marked_on old.tape) x.before es;
      unnamed = y.has.unnamed;
      counted = y.counted;
    }

pub entries_whole : (text : List ℕ) (d c from i : ℕ) (old b new : Reader) (s : Spot) → EntriesRead text d c from i old b
    → is_at text c i ≡ false → is_within text (c + 1) i ≡ false → b.text.now ≡ text
    → position_at b.text.now s.index s.late ≡ end_mark b.text.now c i → Adds b new mapping_end s
    → new.names ≡ b.names → IsCounted new i → Reads old new i (AreLastEntries text d c from i)
entries_whole text d c from i old b new s x here within same ended added kept counted =
    let end : Marked = (mapping_end, end_mark text c i) in
    let less = ap (λ k. is_within text k i) (one_more c) ∙ within in
    let r = x.rest i [] (record { pairs = no_pairs; stand = no_entry here less; events = refl }) in
    let place : position_at b.text.now s.index s.late ≡ end_mark text c i = ended ∙ ap (λ t. end_mark t c i) same in
    record {
      has = record {
        events = x.before ++ end ∷ [];
        what = record {
          pairs = r.pairs;
          stand = r.stand;
          events = ap (λ l. l ++ end ∷ []) (sym (append-nil x.before) ∙ r.events);
        };
        added = added ∙ ap (λ p. marked_on b.tape ++ (mapping_end, p) ∷ []) place
            ∙ ap (λ l. l ++ end ∷ []) x.added ∙ append_assoc (marked_on old.tape) x.before (end ∷ []);
        unnamed = unnamed_on b new kept x.unnamed;
      };
      counted = counted;
    }

-- a mapping: its start, its first entry and the others
regroup : (k v p z : List Marked) → (k ++ v) ++ (p ++ z) ≡ (k ++ (v ++ p)) ++ z
regroup k v p z = simp append_assoc

begun_by : (es xs ys zs ps qs : List Marked) (a : Marked) → xs ≡ es ++ a ∷ [] → ys ≡ xs ++ ps → zs ≡ ys ++ qs
    → zs ≡ es ++ (a ∷ (ps ++ qs))
begun_by es xs ys zs ps qs a p q r =
    r ∙ ap (λ l. l ++ qs) (q ∙ ap (λ l. l ++ ps) p) ∙ ap (λ l. l ++ qs) (append_assoc es (a ∷ []) ps)
    ∙ append_assoc es (a ∷ ps) qs

pub mapping_reads : (text : List ℕ) (d c at_start place k j : ℕ) (names : Names) (old a b new : Reader)
    → marked_on a.tape ≡ marked_on old.tape ++ (mapping_start names.anchor names.tag, mark text at_start) ∷ []
    → is_at text c place ≡ true → Reads a b k (IsEntry text d c place k) → Reads b new j (AreLastEntries text d c k j)
    → Reads old new j (IsMapping text d c at_start names place j)
mapping_reads text d c at_start place k j names old a b new begun here x y =
    let start : Marked = (mapping_start names.anchor names.tag, mark text at_start) in
    let end : Marked = (mapping_end, end_mark text c j) in
    let e = x.has.what in
    let r = y.has.what in
    record {
      has = record {
        events = start ∷ (x.has.events ++ y.has.events);
        what = record {
          pairs = pair e.key e.value r.pairs;
          stand = an_entry here e.stands r.stand;
          events = ap (λ l. start ∷ l) (ap₂ (λ l m. l ++ m) e.events r.events
              ∙ regroup (node_events e.key) (node_events e.value) (pairs_events r.pairs) (end ∷ []));
        };
        added = begun_by (marked_on old.tape) (marked_on a.tape) (marked_on b.tape) (marked_on new.tape) x.has.events
            y.has.events start begun x.has.added y.has.added;
        unnamed = y.has.unnamed;
      };
      counted = y.counted;
    }

-- the value of a mapping's first key, and the other entries
pub behind_first : (text : List ℕ) (d c colon k j : ℕ) (a b new : Reader)
    → Reads a b k (IsBehind text d c value (colon + 1) k) → Reads b new j (AreLastEntries text d c k j)
    → Reads a new j (AreEntriesBehind text d c colon j)
behind_first text d c colon k j a b new x y = record {
  has = record {
    events = x.has.events ++ y.has.events;
    what = record {
      place = k;
      first = x.has.what.node;
      pairs = y.has.what.pairs;
      stands = subst (λ q. Behind text d c value q k x.has.what.node) (sym (one_more colon)) x.has.what.stands;
      stand = y.has.what.stand;
      events = ap₂ (λ l m. l ++ m) x.has.what.events y.has.what.events;
    };
    added = y.has.added ∙ ap (λ l. l ++ y.has.events) x.has.added
        ∙ append_assoc (marked_on a.tape) x.has.events y.has.events;
    unnamed = y.has.unnamed;
  };
  counted = y.counted;
}

pub keyed_reads : (text : List ℕ) (d c i e k j : ℕ) (old a b new : Reader)
    → marked_on a.tape ≡ marked_on old.tape ++ (mapping_start None None, mark text i) ∷ []
    → is_at text c i ≡ true → KeyRead text a b d i e → k ≡ next text e → Reads b new j (AreEntriesBehind text d c k j)
    → Reads old new j (IsMapping text d c i unnamed i j)
keyed_reads text d c i e k j old a b new begun here x there y =
    let start : Marked = (mapping_start None None, mark text i) in
    let end : Marked = (mapping_end, end_mark text c j) in
    let r = y.has.what in
    record {
      has = record {
        events = start ∷ (node_events x.node ++ y.has.events);
        what = record {
          pairs = pair x.node r.first r.pairs;
          stand = an_entry here
              (in_line (subst (λ q. Key text d i q x.node) (sym there) x.stands) r.stands) r.stand;
          events = ap (λ l. start ∷ (node_events x.node ++ l)) r.events
              ∙ ap (λ l. start ∷ l)
              (regroup_key (node_events x.node) (node_events r.first) (pairs_events r.pairs) (end ∷ []));
        };
        added = begun_by (marked_on old.tape) (marked_on a.tape) (marked_on b.tape) (marked_on new.tape)
            (node_events x.node) y.has.events start begun x.added y.has.added;
        unnamed = y.has.unnamed;
      };
      counted = y.counted;
    }
  where
    regroup_key : (k v p z : List Marked) → k ++ (v ++ (p ++ z)) ≡ (k ++ (v ++ p)) ++ z
    regroup_key k v p z = simp append_assoc

-- an entry
pub line_entry : (text : List ℕ) (d c i k j : ℕ) (a b new : Reader) → Has a b (IsKey text d i k)
    → Reads b new j (IsBehind text d c value (k + 1) j) → Reads a new j (IsEntry text d c i j)
line_entry text d c i k j a b new x y = record {
  has = record {
    events = x.events ++ y.has.events;
    what = record {
      key = x.what.node;
      value = y.has.what.node;
      stands = in_line x.what.stands
          (subst (λ q. Behind text d c value q j y.has.what.node) (sym (one_more k)) y.has.what.stands);
      events = ap₂ (λ l m. l ++ m) x.what.events y.has.what.events;
    };
    added = y.has.added ∙ ap (λ l. l ++ y.has.events) x.added ∙ append_assoc (marked_on a.tape) x.events y.has.events;
    unnamed = y.has.unnamed;
  };
  counted = y.counted;
}

pub marked_entry_reads : (text : List ℕ) (d c i k j : ℕ) (a b new : Reader) → is_mark text 63 i ≡ true
    → Reads a b k (IsBehind text d c part (i + 1) k) → is_value text c k ≡ true
    → Reads b new j (IsBehind text d c part (k + 1) j) → Reads a new j (IsEntry text d c i j)
marked_entry_reads text d c i k j a b new here x colon y = record {
  has = record {
    events = x.has.events ++ y.has.events;
    what = record {
      key = x.has.what.node;
      value = y.has.what.node;
      stands = with_marks here
          (subst (λ q. Behind text d c part q k x.has.what.node) (sym (one_more i)) x.has.what.stands) colon
          (subst (λ q. Behind text d c part q j y.has.what.node) (sym (one_more k)) y.has.what.stands);
      events = ap₂ (λ l m. l ++ m) x.has.what.events y.has.what.events;
    };
    added = y.has.added ∙ ap (λ l. l ++ y.has.events) x.has.added
        ∙ append_assoc (marked_on a.tape) x.has.events y.has.events;
    unnamed = y.has.unnamed;
  };
  counted = y.counted;
}

pub key_alone_reads : (text : List ℕ) (d c i k : ℕ) (a b new : Reader) → is_mark text 63 i ≡ true
    → Reads a b k (IsBehind text d c part (i + 1) k) → is_value text c k ≡ false
    → marked_on new.tape ≡ marked_on b.tape ++ node_events (no_content (end_mark text c k) unnamed [])
    → IsUnnamed new → IsCounted new k → Reads a new k (IsEntry text d c i k)
key_alone_reads text d c i k a b new here x none added gone counted =
    let n = no_content (end_mark text c k) unnamed [] in
    record {
      has = record {
        events = x.has.events ++ node_events n;
        what = record {
          key = x.has.what.node;
          value = n;
          stands = key_alone here
              (subst (λ q. Behind text d c part q k x.has.what.node) (sym (one_more i)) x.has.what.stands) none;
          events = ap (λ l. l ++ node_events n) x.has.what.events;
        };
        added = added ∙ ap (λ l. l ++ node_events n) x.has.added
            ∙ append_assoc (marked_on a.tape) x.has.events (node_events n);
        unnamed = gone;
      };
      counted = counted;
    }

-- what stands behind an indicator
pub behind_in_line : (text : List ℕ) (d c i k j : ℕ) (room : Room) (a b : Reader) → ends_its_line text i ≡ false
    → k ≡ next text i → Reads a b j (IsBlockNode text d (suc c) room k j) → Reads a b j (IsBehind text d c room i j)
behind_in_line text d c i k j room a b ends there x =
    reads_as a b j (IsBlockNode text d (suc c) room k j) (IsBehind text d c room i j)
    (λ es w. record {
      node = w.node;
      stands = in_its_line ends (subst (λ q. BlockNode text d (suc c) room q j w.node) there w.stands);
      events = w.events;
    }) x

pub behind_later : (text : List ℕ) (d c i k j : ℕ) (room in_room : Room) (a b : Reader) → ends_its_line text i ≡ true
    → k ≡ next text i → is_within text (suc c) k ≡ true → in_room ≡ later room
    → Reads a b j (IsBlockNode text d (suc c) in_room k j) → Reads a b j (IsBehind text d c room i j)
behind_later text d c i k j room in_room a b ends there within same x =
    reads_as a b j (IsBlockNode text d (suc c) in_room k j) (IsBehind text d c room i j)
    (λ es w. record {
      node = w.node;
      stands = in_a_later_line ends (subst (λ q. is_within text (suc c) q ≡ true) there within)
          (subst (λ r. BlockNode text d (suc c) r (next text i) j w.node) same
          (subst (λ q. BlockNode text d (suc c) in_room q j w.node) there w.stands));
      events = w.events;
    }) x

pub behind_own : (text : List ℕ) (d c c' i k j : ℕ) (room : Room) (names : Names) (a b : Reader) → d ≢ 0
    → ends_its_line text i ≡ true → k ≡ next text i → is_own text room (suc c) k ≡ true → c' ≡ c → names ≡ unnamed
    → Reads a b j (IsSequence text (d - 1) c' k names k j) → Reads a b j (IsBehind text d c room i j)
behind_own text d c c' i k j room names a b some ends there own same none x =
    reads_as a b j (IsSequence text (d - 1) c' k names k j) (IsBehind text d c room i j)
    (λ es w.
    let n = sequence (mark text k) names w.nodes (end_mark text c' j) in
    let m = sequence (mark text (next text i)) unnamed w.nodes (end_mark text c j) in
    let equal : ◌≡◌ {A = Node} n m =
    ap (λ q. sequence (mark text q) names w.nodes (end_mark text c' j)) there
    ∙ ap (λ r. sequence (mark text (next text i)) r w.nodes (end_mark text c' j)) none
    ∙ ap (λ q. sequence (mark text (next text i)) unnamed w.nodes (end_mark text q j)) same in
    record {
      node = m;
      stands = subst (λ q. Behind text q c room i j m) (less_one d some)
          (in_its_own_column ends (subst (λ q. is_own text room (suc c) q ≡ true) there own)
          (subst (λ q. Items text (d - 1) c q j w.nodes) there
          (subst (λ q. Items text (d - 1) q k j w.nodes) same w.stand)));
      events = w.events ∙ ap node_events equal;
    }) x

pub behind_nothing : (text : List ℕ) (d c i k : ℕ) (room : Room) (a b : Reader) → ends_its_line text i ≡ true
    → k ≡ next text i → is_within text (suc c) k ≡ false → is_own text room (suc c) k ≡ false
    → marked_on b.tape ≡ marked_on a.tape ++ node_events (nothing_here text i) → IsUnnamed b → IsCounted b k
    → Reads a b k (IsBehind text d c room i k)
behind_nothing text d c i k room a b ends there within own added gone counted = record {
  has = record {
    events = node_events (nothing_here text i);
    what = record {
      node = nothing_here text i;
      stands = subst (λ q. Behind text d c room i q (nothing_here text i)) (sym there)
          (nothing ends (subst (λ q. is_within text (suc c) q ≡ false) there within)
          (subst (λ q. is_own text room (suc c) q ≡ false) there own));
      events = refl;
    };
    added = added;
    unnamed = gone;
  };
  counted = counted;
}

-- a collection as a node
pub sequence_node : (text : List ℕ) (d least i k j : ℕ) (room : Room) (names : Names) (a b : Reader) → d ≢ 0
    → takes_columns room ≡ true → is_mark text 45 i ≡ true → k ≡ i → names ≡ unnamed
    → Reads a b j (IsSequence text (d - 1) (column text i) k names i j)
    → Reads a b j (IsBlockNode text d least room i j)
sequence_node text d least i k j room names a b some takes here there none x =
    reads_as a b j (IsSequence text (d - 1) (column text i) k names i j) (IsBlockNode text d least room i j)
    (λ es w. record {
      node = sequence (mark text i) unnamed w.nodes (end_mark text (column text i) j);
      stands = subst (λ q. BlockNode text q least room i j
          (sequence (mark text i) unnamed w.nodes (end_mark text (column text i) j))) (less_one d some)
          (a_sequence takes here w.stand);
      events = w.events
          ∙ ap (λ q. node_events (sequence (mark text q) names w.nodes (end_mark text (column text i) j))) there
          ∙ ap (λ r. node_events (sequence (mark text i) r w.nodes (end_mark text (column text i) j))) none;
    }) x

pub mapping_node : (text : List ℕ) (d least i k j : ℕ) (room : Room) (names : Names) (a b : Reader) → d ≢ 0
    → takes_columns room ≡ true → is_over text i ≡ false → k ≡ i → names ≡ unnamed
    → Reads a b j (IsMapping text (d - 1) (column text i) k names i j)
    → Reads a b j (IsBlockNode text d least room i j)
mapping_node text d least i k j room names a b some takes here there none x =
    reads_as a b j (IsMapping text (d - 1) (column text i) k names i j) (IsBlockNode text d least room i j)
    (λ es w. record {
      node = mapping (mark text i) unnamed w.pairs (end_mark text (column text i) j);
      stands = subst (λ q. BlockNode text q least room i j
          (mapping (mark text i) unnamed w.pairs (end_mark text (column text i) j))) (less_one d some)
          (a_mapping takes here w.stand);
      events = w.events
          ∙ ap (λ q. node_events (mapping (mark text q) names w.pairs (end_mark text (column text i) j))) there
          ∙ ap (λ r. node_events (mapping (mark text i) r w.pairs (end_mark text (column text i) j))) none;
    }) x

-- and behind its names
pub named_sequence_node : (text : List ℕ) (d least i p k j : ℕ) (room : Room) (names : Names) (a b : Reader) → d ≢ 0
    → names_at text false i ≡ Some (names, p) → ends_its_line text p ≡ true → k ≡ next text p
    → (is_within text least k || is_own text room least k) ≡ true → is_mark text 45 k ≡ true
    → Reads a b j (IsSequence text (d - 1) (column text k) i names k j)
    → Reads a b j (IsBlockNode text d least room i j)
named_sequence_node text d least i p k j room names a b some read ends there here item x =
    reads_as a b j (IsSequence text (d - 1) (column text k) i names k j) (IsBlockNode text d least room i j)
    (λ es w.
    let n = sequence (mark text i) names w.nodes (end_mark text (column text k) j) in
    let stands = subst (λ q. (is_within text least q || is_own text room least q) ≡ true → is_mark text 45 q ≡ true
    → Items text (d - 1) (column text q) q j w.nodes
    → BlockNode text (suc (d - 1)) least room i j (sequence (mark text i) names w.nodes (end_mark text
    (column text q) j)))
    (sym there) (λ f g h. named_sequence {least = least} {room = room} read ends f g h) in
    record {
      node = n;
      stands = subst (λ q. BlockNode text q least room i j n) (less_one d some) (stands here item w.stand);
      events = w.events;
    }) x

pub named_mapping_node : (text : List ℕ) (d least i p k j : ℕ) (room : Room) (names : Names) (a b : Reader) → d ≢ 0
    → names_at text false i ≡ Some (names, p) → ends_its_line text p ≡ true → k ≡ next text p
    → is_within text least k ≡ true → Reads a b j (IsMapping text (d - 1) (column text k) i names k j)
    → Reads a b j (IsBlockNode text d least room i j)
named_mapping_node text d least i p k j room names a b some read ends there here x =
    reads_as a b j (IsMapping text (d - 1) (column text k) i names k j) (IsBlockNode text d least room i j)
    (λ es w.
    let n = mapping (mark text i) names w.pairs (end_mark text (column text k) j) in
    let stands = subst (λ q. is_within text least q ≡ true → Entries text (d - 1) (column text q) q j w.pairs
    → BlockNode text (suc (d - 1)) least room i j (mapping (mark text i) names w.pairs (end_mark text
    (column text q) j)))
    (sym there) (λ f h. named_mapping {least = least} {room = room} read ends f h) in
    record {
      node = n;
      stands = subst (λ q. BlockNode text q least room i j n) (less_one d some) (stands here w.stand);
      events = w.events;
    }) x

-- names alone
pub names_node : (text : List ℕ) (old p new : Reader) (d least i e k : ℕ) (room : Room) → IsOf text p
    → p.start.late ≡ false → p.start.index ≡ i → names_at text false i ≡ Some (names_of p, e) → i < e
    → ends_its_line text e ≡ true → k ≡ next text e → is_within text least k ≡ false → is_own text room least k ≡ false
    → marked_on p.tape ≡ marked_on old.tape → AddsScalar p new [] style.Plain e → IsCounted new k
    → Reads old new k (IsBlockNode text d least room i k)
names_node text old p new d least i e k room of early index read some ends there within own tape a counted =
    let n = no_content (mark text i) (names_of p) (slice_range text i e) in
    let stands = names_alone {d = d} read (lt-ltb i e some) ends (subst
    (λ q. is_within text least q ≡ false) there within)
    (subst (λ q. is_own text room least q ≡ false) there own) in
    node_reads text old new d least room i k n (subst (λ q. BlockNode text d least room i q n) (sym there) stands)
    (scalar_is text p new [] [] style.Plain e i of early index refl a ∙ ap (λ l. l ++ node_events n) tape) a.unnamed
    counted

-- nothing, where a collection ends
pub end_nothing : (text : List ℕ) (r new : Reader) (k : ℕ) (p : Position) → IsOf text r → IsUnnamed r
    → r.start.index ≡ k → position_at r.text.now r.start.index r.start.late ≡ p → AddsScalar r new [] style.Plain k
    → marked_on new.tape ≡ marked_on r.tape ++ node_events (no_content p unnamed [])
end_nothing text r new k p of none there place a =
    a.added
    ∙ ap (λ q. marked_on r.tape ++ node_events (no_content q (names_of r)
    (slice_range r.text.now r.start.index k))) place
    ∙ ap₂ (λ (n : Names) (l : List ℕ). marked_on r.tape ++ node_events (no_content p n l)) none
    (no_bytes r.text.now r.start.index k there)
