-- Where no content of a node stands, and where no entry begins.
use Rattle.std.proofs.Common.{ℕ, ◌+◌, ◌≤◌, ◌≡◌, ◌≢◌, ◌⊎◌, ◌==◌, ◌&&◌, ◌||◌, not, Bool, true, false, List, []}
use Rattle.std.proofs.Common.{Some, None, refl, sym, ap, ◌∙◌, arith, inl, inr, drop}
use Rattle.std.proofs.lemmas.Bool.{and_parts, eqb-true, false≢true, ne_eqb, not-true, or_from, or_parts}
use Rattle.std.specs.Prelude.{Option, is_some, slice_range}
use Rattle.yaml_base.specs.declared.event.ScalarStyle.TheVariants as style
use Rattle.yaml_direct.specs.Gaps.{begins_token}
use Rattle.yaml_direct.specs.InBrackets.{opens}
use Rattle.yaml_direct.specs.Leaves.{IsFound, IsLeaf, an_alias, in_quotes, is_open, plain_text, whole_alias}
use Rattle.yaml_direct.specs.Leaves.{whole_plain, whole_quotes}
use Rattle.yaml_direct.specs.LeftByColumns.{HasNoContent}
use Rattle.yaml_direct.specs.LeftInBrackets.{IsLeftOpen}
use Rattle.yaml_direct.specs.Quoted.{quote_of}
use Rattle.yaml_direct.specs.Tokens.{EndsKey}
use Rattle.yaml_direct.specs.declared.leaf.Leaf as code
use Rattle.yaml_direct.specs.declared.quote.Quote.{Quote}
use Rattle.yaml_direct.specs.declared.quote.Quote.TheVariants.{Double, Single}
use Rattle.yaml_direct.proofs.AddedLeaves.{none_leaf, plain_read}
use Rattle.yaml_direct.proofs.BracketBytes.{open_forward}
use Rattle.yaml_direct.proofs.ContentMisses.{leaf_in_line_content, no_leaf_content}
use Rattle.yaml_direct.proofs.FeedPlaces.{two_lines}
use Rattle.yaml_direct.proofs.KeyFails.{leaf_end, quotes_read}
use Rattle.yaml_direct.proofs.KeyMisses.{NoKey, ends_lines, ends_no_colon, key_none, leaf_no_key, no_leaf_key}
use Rattle.yaml_direct.proofs.NodesLeft.{colon_goes_on}
use Rattle.yaml_direct.proofs.SinglePasses.{open_feed}
use Rattle.yaml_grammar.specs.Blocks.{ends_key}
use Rattle.yaml_grammar.specs.Bytes.{at, is_mark, is_over}
use Rattle.yaml_grammar.specs.Gaps.{before, breaks, ends_its_line, gap, next}
use Rattle.yaml_grammar.specs.Leaves.{Leaf, in_style, leaf_at}
use Rattle.yaml_grammar.specs.Names.{unnamed}
use Rattle.yaml_grammar.specs.Nodes.{Marked}
use Rattle.yaml_grammar.specs.Plain.{as_key, by_columns}
use Rattle.yaml_reading.specs.BlockReader.{begins_entry, content_at}
use Rattle.yaml_reading.specs.BracketReader.{brackets_at}
use Rattle.yaml_reading.specs.Readers.{Read}
use Rattle.yaml_reading.proofs.Begins.{Stays, no_leaf_at, no_leaf_byte, no_leaf_mark, stays}
use Rattle.yaml_reading.proofs.BlockApart.{dash_inside, goes_on, leaf_no_lines, leaf_no_open, lines_byte}
use Rattle.yaml_reading.proofs.BlockSteps.{begins_is}
use Rattle.yaml_reading.proofs.KeyLines.{key_as_leaf}
use Rattle.yaml_reading.proofs.Options.{no_some, pair_is}

module _ (text : List ℕ) (d : ℕ) where
  -- where a bracket or a block of lines does not begin, a leaf may, behind which the line ends
  pub no_content : (i : ℕ) → opens (at text i) ≡ false → lines_byte (at text i) ≡ false
      → ((least e : ℕ) (x : Leaf) → leaf_at text (by_columns least) i ≡ Some (x, e) → ends_its_line text e ≡ false)
      → HasNoContent text d i
  no_content i shut lines line least start names es = by_leaf (leaf_at text (by_columns least) i) refl
    where
      by_leaf : (o : Option (Leaf × ℕ)) → leaf_at text (by_columns least) i ≡ o
          → ◌≡◌ {A = Read} (content_at text (brackets_at text d) least es start names i) None
      by_leaf None h =
          no_leaf_content text d least es start names i shut lines (none_leaf text (by_columns least) names i h)
      by_leaf (Some y) h =
          leaf_in_line_content text d least es start names i y.0 y.1 shut lines h (line least y.1 y.0 h)

  -- no leaf
  pub no_leaf_no_content : (i : ℕ) → opens (at text i) ≡ false → lines_byte (at text i) ≡ false
      → ((least : ℕ) → leaf_at text (by_columns least) i ≡ None) → HasNoContent text d i
  no_leaf_no_content i shut lines none =
      no_content i shut lines (λ least e x h. absurd (no_some (x, e) (sym (none least) ∙ h)))

  pub byte_no_content : (i c : ℕ) → at text i ≡ c → no_leaf_byte c ≡ true → opens c ≡ false → lines_byte c ≡ false
      → HasNoContent text d i
  byte_no_content i c e none shut lines =
      no_leaf_no_content i (ap opens e ∙ shut) (ap lines_byte e ∙ lines)
      (λ least. no_leaf_at text (by_columns least) i c e none)

  pub mark_no_content : (i : ℕ) → is_mark text 63 i ≡ true → HasNoContent text d i
  mark_no_content i mark =
      let byte = eqb-true (at text i) 63 (and_parts (at text i == 63) _ mark).0 in
      no_leaf_no_content i (ap opens byte) (ap lines_byte byte)
      (λ least. no_leaf_mark text (by_columns least) i 63 refl mark)

  pub names_no_content : (i : ℕ) → (at text i ≡ 38) ⊎ (at text i ≡ 33) → HasNoContent text d i
  names_no_content i (inl e) = byte_no_content i 38 e refl refl refl
  names_no_content i (inr e) = byte_no_content i 33 e refl refl refl

  -- what begins a leaf begins nothing else
  leaf_shut : (i : ℕ) (leaf : code.Leaf) → IsLeaf text as_key i leaf
      → (opens (at text i) ≡ false) × (lines_byte (at text i) ≡ false)
  leaf_shut i leaf (whole_plain kind begins stops low read) =
      let x = in_style style.Plain (slice_range text i leaf.end) in
      let h = plain_read text as_key i leaf.end (slice_range text i leaf.end) low read in
      (leaf_no_open text as_key i (x, leaf.end) h, leaf_no_lines text as_key i (x, leaf.end) h)
  leaf_shut i leaf (whole_alias star a) = (ap opens star, ap lines_byte star)
  leaf_shut i leaf (whole_quotes Single byte q shut) = (ap opens byte, ap lines_byte byte)
  leaf_shut i leaf (whole_quotes Double byte q shut) = (ap opens byte, ap lines_byte byte)

  -- a leaf that is a key ends in the same place where it is none
  same_end : (least i e : ℕ) (leaf : code.Leaf) (x : Leaf) → IsLeaf text as_key i leaf → leaf.begin ≤ leaf.end
      → breaks text leaf.end ≡ false → leaf_at text (by_columns least) i ≡ Some (x, e) → e ≡ leaf.end
  same_end least i e leaf x (whole_plain kind begins stops low read) part line h =
      let y = in_style style.Plain (slice_range text i leaf.end) in
      sym (pair_is y x leaf.end e (sym (key_as_leaf text least i leaf.end y line
      (plain_read text as_key i leaf.end (slice_range text i leaf.end) low read)) ∙ h)).1
  same_end least i e leaf x (whole_alias star a) part line h =
      leaf_end text (by_columns least) i e leaf x (whole_alias star a) part h
  same_end least i e leaf x (whole_quotes quote byte q shut) part line h =
      leaf_end text (by_columns least) i e leaf x (whole_quotes quote byte q shut) part h

  -- a leaf with `:` behind it in its line
  pub keyed_no_content : (i colon : ℕ) (leaf : code.Leaf) → IsLeaf text as_key i leaf → leaf.begin ≤ leaf.end
      → EndsKey text leaf.end colon → HasNoContent text d i
  keyed_no_content i colon leaf l part k =
      let shut = leaf_shut i leaf l in
      no_content i shut.0 shut.1 (λ least e x h.
      ap (ends_its_line text) (same_end least i e leaf x l part k.in_line h) ∙ colon_goes_on text leaf.end colon k)

  -- neither `?` nor a key
  pub no_entry : (i : ℕ) → is_mark text 63 i ≡ false → NoKey text d i → begins_entry text (brackets_at text d) i ≡ false
  no_entry i mark none =
      begins_is text (brackets_at text d) i (is_over text i) false None refl mark (key_none text d i none [])
      ∙ by_over (is_over text i)
    where
      by_over : (b : Bool) → (not b && (false || is_some {T = List Marked × ℕ} None)) ≡ false
      by_over true = refl
      by_over false = refl

  -- no leaf that is a key
  pub no_leaf_here : (i : ℕ) → Stays text i → opens (at text i) ≡ false → leaf_at text as_key i ≡ None → NoKey text d i
  no_leaf_here i s shut none =
      no_leaf_key text d i i unnamed (s.names false)
      (none_leaf text as_key unnamed (next text i) (ap (leaf_at text as_key) s.here ∙ none))
      (ap (λ q. opens (at text q)) s.here ∙ shut) (λ less. absurd (omega (arith, less)))

  by_leaf : (i : ℕ) → Stays text i → opens (at text i) ≡ false
      → ((x : Leaf) (e : ℕ) → leaf_at text as_key i ≡ Some (x, e) → ends_key text i e ≡ false) → NoKey text d i
  by_leaf i s shut other = by_answer (leaf_at text as_key i) refl
    where
      by_answer : (o : Option (Leaf × ℕ)) → leaf_at text as_key i ≡ o → NoKey text d i
      by_answer None h = no_leaf_here i s shut h
      by_answer (Some y) h =
          leaf_no_key text d i i y.1 unnamed y.0 (s.names false) (ap (leaf_at text as_key) s.here ∙ h) (other y.0 y.1 h)

  -- a leaf with no `:` behind it
  pub loose_leaf : (i : ℕ) (leaf : code.Leaf) → Stays text i → opens (at text i) ≡ false → IsLeaf text as_key i leaf
      → i ≤ leaf.end → leaf.begin ≤ leaf.end
      → (not (breaks text leaf.end) && is_mark text 58 (next text leaf.end)) ≡ false → NoKey text d i
  loose_leaf i leaf s shut l low part colon = by_leaf i s shut (λ x e h.
      ap (ends_key text i) (leaf_end text as_key i e leaf x l part h) ∙ ends_no_colon text i leaf.end low colon)

  -- quotes that are not closed in their line
  open_by : (i stop : ℕ) (quote : Quote) → Stays text i → at text i ≡ quote_of quote
      → IsLeftOpen text quote (i + 1) stop → opens (at text i) ≡ false → NoKey text d i
  open_by i stop quote s byte opened shut = by_leaf i s shut (λ x e h.
      let q = quotes_read text as_key quote i e x byte h in
      let f = open_feed text quote (i + 1) stop q.size q.said opened (open_forward text quote (i + 1) stop opened)
      q.read in
      let far : next text e ≡ e + (gap (before text e) (drop e text)).0 = refl in
      ends_lines text i e
      (two_lines text i (next text e) f.place (omega (arith, f.low)) (omega (arith, f.high, q.there, far)) f.feed))

  pub open_leaf : (i : ℕ) (leaf : code.Leaf) → Stays text i → opens (at text i) ≡ false → IsFound text false i leaf
      → ((quote : Quote) → at text i ≡ quote_of quote → IsLeftOpen text quote (i + 1) leaf.stop)
      → is_open leaf.kind ≡ true → NoKey text d i
  open_leaf i leaf s shut (plain_text p) opened left = absurd (false≢true (sym (ap is_open p.kind) ∙ left))
  open_leaf i leaf s shut (an_alias star a) opened left = absurd (false≢true (sym (ap is_open a.kind) ∙ left))
  open_leaf i leaf s shut (in_quotes quote byte q) opened left =
      open_by i leaf.stop quote s byte (opened quote byte) shut

-- a token is no space
pub token_no_space : (text : List ℕ) (i : ℕ) → begins_token text i ≡ true → at text i ≢ 32
token_no_space text i token e =
    false≢true (sym (ap (λ c. not (c == 32 || (c == 10 || (c == 13 || c == 35)))) e) ∙ token)

-- a token that begins no names
pub token_stays : (text : List ℕ) (i : ℕ) → begins_token text i ≡ true → at text i ≢ 38 → at text i ≢ 33 → Stays text i
token_stays text i token anchor tag =
    let c = at text i in
    let all = or_parts (c == 32) _ (not-true (c == 32 || (c == 10 || (c == 13 || c == 35))) token) in
    let rest = or_parts (c == 10) (c == 13 || c == 35) all.1 in
    let last = or_parts (c == 13) (c == 35) rest.1 in
    stays text i (or_from (c == 32) _ all.0 (or_from (c == 10) _ rest.0 (or_from (c == 35) _ last.1
    (or_from (c == 38) (c == 33) (ne_eqb c 38 anchor) (ne_eqb c 33 tag)))))
