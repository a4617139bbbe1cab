-- The events of a tree are printed as the tree's text.
use Rattle.std.proofs.Common.{◌≡◌, ℕ, Bool, true, false, List, [], ◌∷◌, ◌++◌, append_assoc, append-nil}
use Rattle.std.proofs.Common.{Option, Some, refl, sym, ap, ◌∙◌}
use Rattle.std.specs.Prelude.{codes, if◌then◌else◌}
use Rattle.std.specs.List.{flat_map}
use Rattle.std.specs.Option.{option_map}
use Rattle.yaml_base.specs.EmitEvents.{PlainEmit, emit_stream_start, emit_stream_end, emit_document_start}
use Rattle.yaml_base.specs.EmitEvents.{emit_document_end, emit_sequence_start, emit_sequence_end}
use Rattle.yaml_base.specs.EmitEvents.{emit_mapping_start, emit_mapping_end}
use Rattle.yaml_base.specs.EmitTree.{EmitNode, emit_scalar_node, emit_sequence_node, emit_mapping_node}
use Rattle.yaml_base.specs.EmitTree.{EmitNodes, no_emit_nodes, emit_node, EmitPairs, no_emit_pairs, emit_pair}
use Rattle.yaml_base.specs.EmitTree.{emit_node_events, emit_nodes_events, emit_pairs_events, emit_documents_events}
use Rattle.yaml_emit.specs.LayoutMachine.{LayoutState, before_stream, between_documents, before_root, within}
use Rattle.yaml_emit.specs.LayoutMachine.{after_stream}
use Rattle.yaml_emit.specs.LayoutMachine.{Laid, unbegun, printed_from, begun, with_text, with_node_text, with_open}
use Rattle.yaml_emit.specs.LayoutMachine.{with_collection}
use Rattle.yaml_emit.specs.LayoutMachine.{margin_and_indicator, part_begun, part_place, parts_column, root_lead}
use Rattle.yaml_emit.specs.Places.{root_place, item_place, far_place, key_place, value_place, tag_in_line, behind_tag}
use Rattle.yaml_emit.specs.Places.{margin}
use Rattle.yaml_emit.specs.StreamTexts.{tag_or_empty, is_simple_key, node_text, items_text, pairs_text, later_document}
use Rattle.yaml_emit.specs.StreamTexts.{emit_stream_events, stream_text}
use Rattle.yaml_emit.specs.declared.open.Awaits.{Awaits}
use Rattle.yaml_emit.specs.declared.open.Awaits.TheVariants.{Item, Key, Value, FarValue}
use Rattle.yaml_emit.specs.declared.open.Lead.{Lead}
use Rattle.yaml_emit.specs.declared.open.Lead.TheVariants.{Fresh, Text}
use Rattle.yaml_emit.specs.declared.open.Open.{Open}
use Rattle.yaml_emit.specs.declared.open.Place.{Place}

abbrev standing : List ℕ → (first : Bool) → LayoutState → Laid
standing out first state = record { out = out; first = first; state = state }

abbrev opening : Awaits → (column : ℕ) → Lead → Open
opening awaits column lead = record { awaits = awaits; column = column; lead = lead }

-- the events that are left are printed as this text, and then the rest, with the innermost collection closed
abbrev PrintsParts : Awaits → Bool → (parts : Lead → ℕ → List ℕ) → (more rest : List PlainEmit) → Type 0
PrintsParts awaits first parts more rest = (o : List ℕ) (l : Lead) (col : ℕ) (outer : List Open)
    → printed_from (Some (standing o first (within (opening awaits col l ∷ outer)))) more
    ≡ printed_from (Some (standing (o ++ parts l col) first (within outer))) rest

-- lists that are joined one after another
four : (o m d t r : List ℕ) → ((o ++ (m ++ d)) ++ t) ++ r ≡ o ++ (m ++ (d ++ (t ++ r)))
four o m d t r = append_assoc (o ++ (m ++ d)) t r ∙ (append_assoc o (m ++ d) (t ++ r)
    ∙ ap (λ x. o ++ x) (append_assoc m d (t ++ r)))

-- the text of a pair in a line, part by part
pair_in_line : (o m k v r : List ℕ) → ((((o ++ m) ++ k) ++ []) ++ v) ++ r ≡ o ++ (m ++ ((k ++ v) ++ r))
pair_in_line o m k v r =
    ap (λ x. (x ++ v) ++ r) (append-nil ((o ++ m) ++ k))
    ∙ (append_assoc ((o ++ m) ++ k) v r ∙ (append_assoc (o ++ m) k (v ++ r)
    ∙ (append_assoc o m (k ++ (v ++ r)) ∙ ap (λ x. o ++ (m ++ x)) (sym (append_assoc k v r)))))

-- the text of a pair behind `?` and `:`, part by part
far_pair : (o m q k f c v r : List ℕ)
    → ((((o ++ (m ++ q)) ++ k) ++ (f ++ c)) ++ v) ++ r ≡ o ++ (m ++ ((q ++ (k ++ (f ++ (c ++ v)))) ++ r))
far_pair o m q k f c v r =
    four ((o ++ (m ++ q)) ++ k) f c v r ∙ (four o m q k (f ++ (c ++ (v ++ r)))
    ∙ ap (λ x. o ++ (m ++ x)) (sym (append_assoc q (k ++ (f ++ (c ++ v))) r
    ∙ ap (λ x. q ++ x) (append_assoc k (f ++ (c ++ v)) r
    ∙ ap (λ x. k ++ x) (append_assoc f (c ++ v) r ∙ ap (λ x. f ++ x) (append_assoc c v r))))))

-- a sequence that has items is opened
at_sequence : (n : EmitNode) (s : Laid) (tag : Option (List ℕ)) (fs more : List PlainEmit)
    → printed_from (Some s) (emit_sequence_start tag ∷ ((emit_node_events n ++ fs) ++ more))
    ≡ printed_from (with_open s (tag_or_empty tag) Item) ((emit_node_events n ++ fs) ++ more)
at_sequence (emit_scalar_node t text style) s tag fs more = refl
at_sequence (emit_sequence_node t nodes) s tag fs more = refl
at_sequence (emit_mapping_node t pairs) s tag fs more = refl

-- a mapping that has pairs is opened
at_mapping : (n : EmitNode) (s : Laid) (tag : Option (List ℕ)) (fs more : List PlainEmit)
    → printed_from (Some s) (emit_mapping_start tag ∷ ((emit_node_events n ++ fs) ++ more))
    ≡ printed_from (with_open s (tag_or_empty tag) Key) ((emit_node_events n ++ fs) ++ more)
at_mapping (emit_scalar_node t text style) s tag fs more = refl
at_mapping (emit_sequence_node t nodes) s tag fs more = refl
at_mapping (emit_mapping_node t pairs) s tag fs more = refl

-- a collection in its place: its parts behind its tag
abbrev behind : Awaits → (tag : List ℕ) → (parts : Lead → ℕ → List ℕ) → Place → List ℕ
behind awaits tag parts place = tag_in_line place.lead tag
    ++ parts (behind_tag place.lead tag) (parts_column awaits place (behind_tag place.lead tag))

-- a collection is opened in a place, and its parts and its end are printed
opened_at : (awaits : Awaits) (tag : List ℕ) (parts : Lead → ℕ → List ℕ) (out : List ℕ) (first : Bool)
    (outer : List Open) (place : Place) (more rest : List PlainEmit) → PrintsParts awaits first parts more rest
    → printed_from (Some (with_collection tag awaits (standing out first (within outer)) place)) more
    ≡ printed_from (Some (standing (out ++ behind awaits tag parts place) first (within outer))) rest
opened_at awaits tag parts out first outer place more rest ih =
    ih (out ++ tag_in_line place.lead tag) (behind_tag place.lead tag)
    (parts_column awaits place (behind_tag place.lead tag)) outer
    ∙ ap (λ x. printed_from (Some (standing x first (within outer))) rest)
    (append_assoc out (tag_in_line place.lead tag)
    (parts (behind_tag place.lead tag) (parts_column awaits place (behind_tag place.lead tag))))

-- the same wherever a node may stand
opened_then : (awaits : Awaits) (tag : List ℕ) (parts : Lead → ℕ → List ℕ) (out : List ℕ) (first : Bool)
    (st : LayoutState)
    (more rest : List PlainEmit) → PrintsParts awaits first parts more rest
    → printed_from (with_open (standing out first st) tag awaits) more
    ≡ printed_from (option_map (λ b. with_text b.0 (behind awaits tag parts b.1)) (begun (standing out first st) false))
    rest
opened_then awaits tag parts out first before_stream more rest ih = refl
opened_then awaits tag parts out first between_documents more rest ih = refl
opened_then awaits tag parts out first after_stream more rest ih = refl
opened_then awaits tag parts out first (within []) more rest ih = refl
opened_then awaits tag parts out first before_root more rest ih =
    opened_at awaits tag parts out first [] (root_place (root_lead first)) more rest ih
opened_then awaits tag parts out first (within (o ∷ outer)) more rest ih =
    opened_at awaits tag parts (out ++ margin_and_indicator o.awaits o.lead o.column false) first
    (part_begun o false ∷ outer)
    (part_place o.awaits o.column false) more rest ih

-- a sequence, empty or not, is printed where its items are
sequence_then : (nodes : EmitNodes) (tag : Option (List ℕ)) (s : Laid) (rest : List PlainEmit)
    → PrintsParts Item s.first (λ l col. items_text l col nodes)
    (emit_nodes_events nodes ++ (emit_sequence_end ∷ rest)) rest
    → printed_from (Some s) (emit_sequence_start tag ∷ ((emit_nodes_events nodes ++ emit_sequence_end ∷ []) ++ rest))
    ≡ printed_from (with_node_text s (emit_sequence_node tag nodes)) rest
sequence_then no_emit_nodes tag s rest ih = refl
sequence_then (emit_node n nodes) tag s rest ih =
    ap (λ es. printed_from (Some s) (emit_sequence_start tag ∷ es))
    (append_assoc (emit_node_events n ++ emit_nodes_events nodes) (emit_sequence_end ∷ []) rest)
    ∙ (at_sequence n s tag (emit_nodes_events nodes) (emit_sequence_end ∷ rest)
    ∙ opened_then Item (tag_or_empty tag) (λ l col. items_text l col (emit_node n nodes)) s.out s.first s.state
    ((emit_node_events n ++ emit_nodes_events nodes) ++ (emit_sequence_end ∷ rest)) rest ih)

-- a mapping, empty or not, is printed where its pairs are
mapping_then : (pairs : EmitPairs) (tag : Option (List ℕ)) (s : Laid) (rest : List PlainEmit)
    → PrintsParts Key s.first (λ l col. pairs_text l col pairs)
    (emit_pairs_events pairs ++ (emit_mapping_end ∷ rest)) rest
    → printed_from (Some s) (emit_mapping_start tag ∷ ((emit_pairs_events pairs ++ emit_mapping_end ∷ []) ++ rest))
    ≡ printed_from (with_node_text s (emit_mapping_node tag pairs)) rest
mapping_then no_emit_pairs tag s rest ih = refl
mapping_then (emit_pair key value pairs) tag s rest ih =
    ap (λ es. printed_from (Some s) (emit_mapping_start tag ∷ es))
    (append_assoc (emit_node_events key ++ (emit_node_events value ++ emit_pairs_events pairs)) (emit_mapping_end ∷ [])
    rest)
    ∙ (at_mapping key s tag (emit_node_events value ++ emit_pairs_events pairs) (emit_mapping_end ∷ rest)
    ∙ opened_then Key (tag_or_empty tag) (λ l col. pairs_text l col (emit_pair key value pairs)) s.out s.first s.state
    ((emit_node_events key ++ (emit_node_events value ++ emit_pairs_events pairs)) ++ (emit_mapping_end ∷ rest)) rest
    ih)

-- the text of a pair, where its key stands in a line with its value or not
abbrev pair_text : (simple : Bool) → (col : ℕ) → EmitNode → EmitNode → List ℕ
pair_text simple col key value =
    if simple then node_text (key_place col) key ++ node_text (value_place col) value
    else codes "?" ++ (node_text (far_place col) key
    ++ (margin Fresh col ++ (codes ":" ++ node_text (far_place col) value)))

-- a key, its value and the pairs behind them are printed
pair_then : (simple : Bool) (key value : EmitNode) (pairs : EmitPairs) (out : List ℕ) (first : Bool) (l : Lead)
    (col : ℕ) (outer : List Open) (more rest : List PlainEmit)
    → ((s : Laid) (more : List PlainEmit) → printed_from (Some s) (emit_node_events value ++ more)
    ≡ printed_from (with_node_text s value) more)
    → ((o : List ℕ) → printed_from (Some (standing o first (within (opening Key col Fresh ∷ outer)))) more
    ≡ printed_from (Some (standing (o ++ pairs_text Fresh col pairs) first (within outer))) rest)
    → printed_from (option_map (λ b. with_text b.0 (node_text b.1 key))
    (begun (standing out first (within (opening Key col l ∷ outer))) simple)) (emit_node_events value ++ more)
    ≡ printed_from (Some (standing
    (out ++ (margin l col ++ (pair_text simple col key value ++ pairs_text Fresh col pairs)))
    first (within outer))) rest
pair_then true key value pairs out first l col outer more rest ihv ihp =
    ihv (standing ((out ++ margin l col) ++ node_text (key_place col) key) first
    (within (opening Value col Fresh ∷ outer))) more
    ∙ (ihp ((((out ++ margin l col) ++ node_text (key_place col) key) ++ []) ++ node_text (value_place col) value)
    ∙ ap (λ x. printed_from (Some (standing x first (within outer))) rest)
    (pair_in_line out (margin l col) (node_text (key_place col) key) (node_text (value_place col) value)
    (pairs_text Fresh col pairs)))
pair_then false key value pairs out first l col outer more rest ihv ihp =
    ihv (standing ((out ++ (margin l col ++ codes "?")) ++ node_text (far_place col) key) first
    (within (opening FarValue col Fresh ∷ outer))) more
    ∙ (ihp ((((out ++ (margin l col ++ codes "?")) ++ node_text (far_place col) key)
    ++ (margin Fresh col ++ codes ":")) ++ node_text (far_place col) value)
    ∙ ap (λ x. printed_from (Some (standing x first (within outer))) rest)
    (far_pair out (margin l col) (codes "?") (node_text (far_place col) key) (margin Fresh col) (codes ":")
    (node_text (far_place col) value) (pairs_text Fresh col pairs)))

mutual
  -- the events of a node print the node
  prints_node : (n : EmitNode) (s : Laid) (rest : List PlainEmit)
      → printed_from (Some s) (emit_node_events n ++ rest) ≡ printed_from (with_node_text s n) rest
  prints_node (emit_scalar_node tag text style) s rest = refl
  prints_node (emit_sequence_node tag nodes) s rest =
      sequence_then nodes tag s rest (λ o l col outer. prints_items nodes o s.first l col outer rest)
  prints_node (emit_mapping_node tag pairs) s rest =
      mapping_then pairs tag s rest (λ o l col outer. prints_pairs pairs o s.first l col outer rest)

  -- the events of items and the end of their sequence print them
  prints_items : (nodes : EmitNodes) (out : List ℕ) (first : Bool) (l : Lead) (col : ℕ) (outer : List Open)
      (rest : List PlainEmit)
      → printed_from (Some (standing out first (within (opening Item col l ∷ outer))))
      (emit_nodes_events nodes ++ (emit_sequence_end ∷ rest))
      ≡ printed_from (Some (standing (out ++ items_text l col nodes) first (within outer))) rest
  prints_items no_emit_nodes out first l col outer rest =
      ap (λ x. printed_from (Some (standing x first (within outer))) rest) (sym (append-nil out))
  prints_items (emit_node n nodes) out first l col outer rest =
      ap (λ es. printed_from (Some (standing out first (within (opening Item col l ∷ outer)))) es)
      (append_assoc (emit_node_events n) (emit_nodes_events nodes) (emit_sequence_end ∷ rest))
      ∙ (prints_node n (standing out first (within (opening Item col l ∷ outer)))
      (emit_nodes_events nodes ++ (emit_sequence_end ∷ rest))
      ∙ (prints_items nodes ((out ++ (margin l col ++ codes "-")) ++ node_text (item_place col) n) first Fresh col outer
      rest
      ∙ ap (λ x. printed_from (Some (standing x first (within outer))) rest)
      (four out (margin l col) (codes "-") (node_text (item_place col) n) (items_text Fresh col nodes))))

  -- the events of pairs and the end of their mapping print them
  prints_pairs : (pairs : EmitPairs) (out : List ℕ) (first : Bool) (l : Lead) (col : ℕ) (outer : List Open)
      (rest : List PlainEmit)
      → printed_from (Some (standing out first (within (opening Key col l ∷ outer))))
      (emit_pairs_events pairs ++ (emit_mapping_end ∷ rest))
      ≡ printed_from (Some (standing (out ++ pairs_text l col pairs) first (within outer))) rest
  prints_pairs no_emit_pairs out first l col outer rest =
      ap (λ x. printed_from (Some (standing x first (within outer))) rest) (sym (append-nil out))
  prints_pairs (emit_pair key value pairs) out first l col outer rest =
      ap (λ es. printed_from (Some (standing out first (within (opening Key col l ∷ outer)))) es)
      (append_assoc (emit_node_events key) (emit_node_events value ++ emit_pairs_events pairs) (emit_mapping_end ∷ rest)
      ∙ ap (λ es. emit_node_events key ++ es)
      (append_assoc (emit_node_events value) (emit_pairs_events pairs) (emit_mapping_end ∷ rest)))
      ∙ (prints_node key (standing out first (within (opening Key col l ∷ outer)))
      (emit_node_events value ++ (emit_pairs_events pairs ++ (emit_mapping_end ∷ rest)))
      ∙ pair_then (is_simple_key key) key value pairs out first l col outer
      (emit_pairs_events pairs ++ (emit_mapping_end ∷ rest)) rest (λ s more. prints_node value s more)
      (λ o. prints_pairs pairs o first Fresh col outer rest))

-- a document and what follows
pub document_then : (root : EmitNode) (roots : List EmitNode)
    → ((emit_node_events root ++ emit_document_end ∷ []) ++ emit_documents_events roots) ++ emit_stream_end ∷ []
    ≡ emit_node_events root ++ (emit_document_end ∷ (emit_documents_events roots ++ emit_stream_end ∷ []))
document_then root roots =
    append_assoc (emit_node_events root ++ emit_document_end ∷ []) (emit_documents_events roots) (emit_stream_end ∷ [])
    ∙ append_assoc (emit_node_events root) (emit_document_end ∷ [])
    (emit_documents_events roots ++ emit_stream_end ∷ [])

-- the events of documents behind another one print them
prints_documents : (roots : List EmitNode) (out : List ℕ)
    → printed_from (Some (standing out false between_documents)) (emit_documents_events roots ++ emit_stream_end ∷ [])
    ≡ Some (out ++ flat_map later_document roots)
prints_documents [] out = ap Some (sym (append-nil out))
prints_documents (root ∷ roots) out =
    ap (λ es. printed_from (Some (standing out false between_documents)) (emit_document_start ∷ es))
    (document_then root roots)
    ∙ (prints_node root (standing (out ++ codes "---") false before_root)
    (emit_document_end ∷ (emit_documents_events roots ++ emit_stream_end ∷ []))
    ∙ (prints_documents roots ((out ++ codes "---") ++ node_text (root_place Text) root)
    ∙ ap Some (ap (λ x. x ++ flat_map later_document roots)
    (append_assoc out (codes "---") (node_text (root_place Text) root))
    ∙ append_assoc out (later_document root) (flat_map later_document roots))))

-- the events of a stream print its text
pub prints_stream : (roots : List EmitNode)
    → printed_from (Some unbegun) (emit_stream_events roots) ≡ Some (stream_text roots)
prints_stream [] = refl
prints_stream (root ∷ roots) =
    ap (λ es. printed_from (Some unbegun) (emit_stream_start ∷ emit_document_start ∷ es)) (document_then root roots)
    ∙ (prints_node root (standing [] true before_root)
    (emit_document_end ∷ (emit_documents_events roots ++ emit_stream_end ∷ []))
    ∙ prints_documents roots (node_text (root_place Fresh) root))
