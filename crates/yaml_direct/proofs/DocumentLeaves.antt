-- Where a document is left none stands: neither in its place nor in the text.
use Rattle.std.proofs.Common.{ℕ, ◌+◌, ◌<◌, ◌≡◌, ◌≢◌, ◌⊎◌, ◌==◌, Bool, not, true, false, List, [], length}
use Rattle.std.proofs.Common.{Some, None, refl, sym, subst, ap, ◌∙◌, arith, drop, inl, inr, nat_le}
use Rattle.std.proofs.lemmas.Bool.{and_parts, false≢true, leb-true, or_cases}
use Rattle.std.proofs.lemmas.List.{get_or-drop}
use Rattle.yaml_direct.specs.Bytes as code
use Rattle.yaml_direct.specs.Documents.{HasRead}
use Rattle.yaml_direct.specs.Gaps.{begins_token}
use Rattle.yaml_direct.specs.LeftByColumns.{LeavesBlockNode}
use Rattle.yaml_direct.specs.LeftDocuments.{LeavesContent, LeavesDirective, NoBareRoot, NoDocument, NoRoot}
use Rattle.yaml_direct.specs.Standing.{HasRoot, IsContentAt, bare_root, behind_dashes, earlier_of, marked_root}
use Rattle.yaml_direct.specs.Standing.{without_dashes}
use Rattle.yaml_direct.specs.Tokens.{HasNoToken}
use Rattle.yaml_direct.specs.declared.document.Documents.{Documents}
use Rattle.yaml_direct.specs.declared.reader.Reader.{Reader}
use Rattle.yaml_direct.proofs.BracketNothing.{parts_byte}
use Rattle.yaml_direct.proofs.NextLaws.{sharp_moves}
use Rattle.yaml_direct.proofs.RootLaws.{MarkedBy, begins_over, by_dashes, by_directive, marked_by, one_root, splits}
use Rattle.yaml_direct.proofs.StandReads.{Directed}
use Rattle.yaml_grammar.specs.Blocks.{BlockNode, Room, anything, value}
use Rattle.yaml_grammar.specs.Bytes.{at, is_gap, is_over, is_triple, parts_documents}
use Rattle.yaml_grammar.specs.Documents.{Earlier, Root, begins_document, directive_end, ends_document}
use Rattle.yaml_grammar.specs.Documents.{most_nestings, no_root, none, root_in_a_later_line, root_in_its_line}
use Rattle.yaml_grammar.specs.Documents.{takes_directive}
use Rattle.yaml_grammar.specs.Gaps.{ends_its_line, is_within, next}
use Rattle.yaml_grammar.specs.Nodes.{Document, Node}
use Rattle.yaml_reading.proofs.Begins.{byte_behind}
use Rattle.yaml_reading.proofs.BlockComplete.{node_of}
use Rattle.yaml_reading.proofs.BlockReading.{one_block_node}
use Rattle.yaml_reading.proofs.DocumentSteps.{begins_byte, node_no_percent}
use Rattle.yaml_reading.proofs.Options.{no_some, same_some}
use Rattle.yaml_reading.specs.Readers.{and_node}
use Rattle.yaml_reading.specs.Refused.{NothingStands}

pub both : {b : Bool} → b ≡ true → b ≡ false → ⊥
both t f = false≢true (sym f ∙ t)

-- a document ends at the text's end, or before `-` or `.`
over_byte : (text : List ℕ) (i : ℕ) → is_over text i ≡ true
    → (at text i ≡ 0) ⊎ ((at text i ≡ 45) ⊎ (at text i ≡ 46))
over_byte text i over = elim (or_cases (nat_le (length text) i) (parts_documents text i) over) [
  | inl past ↦ inl (byte_behind text i (leb-true (length text) i past))
  | inr parted ↦ inr (parts_byte text i parted)
]

-- a token begins there, or the text ends
pub over_token : (text : List ℕ) (i : ℕ) → is_over text i ≡ true → begins_token text i ≡ true
over_token text i over = by_byte (over_byte text i over)
  where
    by_byte : (at text i ≡ 0) ⊎ ((at text i ≡ 45) ⊎ (at text i ≡ 46)) → begins_token text i ≡ true
    by_byte (inl e) = rw e refl
    by_byte (inr (inl e)) = rw e refl
    by_byte (inr (inr e)) = rw e refl

over_no_tab : (text : List ℕ) (i : ℕ) → is_over text i ≡ true → at text i ≢ 9
over_no_tab text i over tab = by_byte (over_byte text i over)
  where
    by_byte : (at text i ≡ 0) ⊎ ((at text i ≡ 45) ⊎ (at text i ≡ 46)) → ⊥
    by_byte (inl e) = omega (arith, e, tab)
    by_byte (inr (inl e)) = omega (arith, e, tab)
    by_byte (inr (inr e)) = omega (arith, e, tab)

over_not_within : (text : List ℕ) (least i : ℕ) → is_over text i ≡ true → is_within text least i ≡ true → ⊥
over_not_within text least i over within = both (and_parts (not (is_over text i)) _ within).0 (ap not over)

-- a gap stands behind `---`
pub gap_behind : (text : List ℕ) (i : ℕ) → is_triple 45 (drop i text) ≡ true → code.is_gap text (i + 3) ≡ true
gap_behind text i t =
    let first = and_parts (at (drop i text) 0 == 45) _ t in
    let second = and_parts (at (drop i text) 1 == 45) _ first.1 in
    let third = and_parts (at (drop i text) 2 == 45) _ second.1 in
    low_gap (at text (i + 3)) (ap is_gap (sym (get_or-drop i text 3 0)) ∙ third.1)
  where
    low_gap : (c : ℕ) → is_gap c ≡ true → nat_le c 32 ≡ true
    low_gap c h = grind (arith, h)

-- a node that is left has no end where the document has
left_ends : (text : List ℕ) (room : Room) (i j : ℕ) (n : Node) → LeavesBlockNode text most_nestings 0 room i
    → BlockNode text most_nestings 0 room i j n → is_over text j ≡ true → ⊥
left_ends text room i j n left x over =
    elim (left [] (and_node [] n) j (node_of text x most_nestings (omega arith) [])) [
      | inl tab ↦ over_no_tab text j over tab
      | inr within ↦ over_not_within text 0 j over within
    ]

pub no_bare_root : (text : List ℕ) (i : ℕ) → LeavesBlockNode text most_nestings 0 anything i → NoBareRoot text i
no_bare_root text i left j n x over = left_ends text anything i j n left x over

-- behind `---` in its line, and in a later one
pub no_root_here : (text : List ℕ) (i k : ℕ) → k ≡ next text i → ends_its_line text i ≡ false
    → LeavesBlockNode text most_nestings 0 value k → NoRoot text i
no_root_here text i k there line left j n (root_in_its_line line' x) over =
    left_ends text value k j n left (subst (λ q. BlockNode text most_nestings 0 value q j n) (sym there) x) over
no_root_here text i k there line left j n (root_in_a_later_line line' inside x) over = absurd (both line' line)
no_root_here text i k there line left j n (no_root line' end) over = absurd (both line' line)

pub no_root_later : (text : List ℕ) (i k : ℕ) → k ≡ next text i → ends_its_line text i ≡ true
    → is_over text k ≡ false → LeavesBlockNode text most_nestings 0 anything k → NoRoot text i
no_root_later text i k there line inside left j n (root_in_its_line line' x) over = absurd (both line line')
no_root_later text i k there line inside left j n (root_in_a_later_line line' inside' x) over =
    left_ends text anything k j n left (subst (λ q. BlockNode text most_nestings 0 anything q j n) (sym there) x) over
no_root_later text i k there line inside left j n (no_root line' end) over =
    absurd (both end (ap (is_over text) (sym there) ∙ inside))

-- a document that begins in a place goes on in another: in the same, or behind a directive
pub data GoesFrom (text : List ℕ) (i k : ℕ) : Type 0 where
  from_here : k ≡ i → directive_end text i ≡ None → GoesFrom text i k
  from_directive : (e : ℕ) → at text i ≡ 37 → directive_end text i ≡ Some e → k ≡ next text e → GoesFrom text i k

pub goes_from : (text : List ℕ) (directed : Bool) (old m : Reader) (i k : ℕ) → old.text.now ≡ text
    → Directed directed old m i k → (k ≡ i → directive_end old.text.now i ≡ None) → GoesFrom text i k
goes_from text directed old m i k same (inl here) nothing =
    from_here here.0 (ap (λ t. directive_end t i) (sym same) ∙ nothing here.0)
goes_from text directed old m i k same (inr d) nothing =
    from_directive d.1.end (ap (λ t. at t i) (sym same) ∙ d.1.sign) (ap (λ t. directive_end t i) (sym same) ∙ d.1.read)
    (d.1.there ∙ ap (λ t. next t d.1.end) same)

-- its root stands there, bare or behind `---`
data RootFrom (text : List ℕ) (earlier : Earlier) (i k j : ℕ) (n : Node) : Type 0 where
  bare_from : earlier ≡ none → k ≡ i → is_over text i ≡ false → BlockNode text most_nestings 0 anything k j n
      → is_over text j ≡ true → RootFrom text earlier i k j n
  dashes_from : begins_document text k ≡ true → Root text (k + 3) j n → is_over text j ≡ true
      → RootFrom text earlier i k j n

marked_from : (text : List ℕ) (earlier : Earlier) (i k j m : ℕ) (n : Node) → MarkedBy text earlier i m
    → Root text (m + 3) j n → is_over text j ≡ true → GoesFrom text i k → RootFrom text earlier i k j n
marked_from text earlier i k j m n (by_dashes begins here) x over (from_here same nothing) =
    dashes_from (ap (begins_document text) same ∙ begins)
    (subst (λ q. Root text (q + 3) j n) (here ∙ sym same) x) over
marked_from text earlier i k j m n (by_dashes begins here) x over (from_directive e sign read there) =
    absurd (omega (arith, begins_byte text i begins, sign))
marked_from text earlier i k j m n (by_directive e takes read ends begins there) x over (from_here same nothing) =
    absurd (no_some e (sym nothing ∙ read))
marked_from text earlier i k j m n (by_directive e takes read ends begins there) x over
    (from_directive e' sign read' there') =
    let same : m ≡ k = there ∙ ap (next text) (same_some e e' (sym read ∙ read')) ∙ sym there' in
    dashes_from (ap (begins_document text) (sym same) ∙ begins) (subst (λ q. Root text (q + 3) j n) same x) over

root_from : (text : List ℕ) (earlier : Earlier) (i k j : ℕ) (n : Node) → HasRoot text earlier i n j → GoesFrom text i k
    → RootFrom text earlier i k j n
root_from text earlier i k j n (bare_root first inside x over) (from_here same nothing) =
    bare_from first same inside (subst (λ q. BlockNode text most_nestings 0 anything q j n) (sym same) x) over
root_from text earlier i k j n (bare_root first inside x over) (from_directive e sign read there) =
    absurd (node_no_percent text x sign)
root_from text earlier i k j n (marked_root m marker x over) g =
    marked_from text earlier i k j m n (marked_by text earlier i m marker) x over g

-- nothing that a document may hold stands there
pub no_content : (text : List ℕ) (earlier : Earlier) (bare : Bool) (i k : ℕ) → (earlier ≡ none → bare ≡ true)
    → GoesFrom text i k → LeavesContent text bare i k → NoDocument text earlier i
no_content text earlier bare i k first g left j n x = by_root (root_from text earlier i k j n x g)
  where
    by_root : RootFrom text earlier i k j n → ⊥
    by_root (bare_from is same inside y over) =
        left.without_dashes (first is) same (ap (is_over text) same ∙ inside) j n y over
    by_root (dashes_from begins y over) = left.behind_dashes begins j n y over

-- what the document holds was read, and the document does not end behind it
pub no_end : (text : List ℕ) (earlier : Earlier) (bare : Bool) (i k j : ℕ) (m new : Reader) → GoesFrom text i k
    → IsContentAt text bare i m new k j → is_over text j ≡ false → NoDocument text earlier i
no_end text earlier bare i k j m new g c out j' n x = by_root c (root_from text earlier i k j' n x g)
  where
    apart : is_over text j' ≡ true → j ≡ j' → ⊥
    apart over same = both (ap (is_over text) same ∙ over) out

    by_root : IsContentAt text bare i m new k j → RootFrom text earlier i k j' n → ⊥
    by_root (behind_dashes begins r) (dashes_from begins' y over) =
        apart over (one_root text (k + 3) j j' r.has.what.root n r.has.what.stands y)
    by_root (behind_dashes begins r) (bare_from is same inside y over) =
        both (begins_over text k begins) (ap (is_over text) same ∙ inside)
    by_root (without_dashes is here other r) (dashes_from begins y over) = both begins other
    by_root (without_dashes is here other r) (bare_from is' same inside y over) =
        apart over (one_block_node text most_nestings most_nestings 0 anything k j j' r.has.what.node n
        r.has.what.stands y).0

-- a directive that is left
pub no_directive_document : (text : List ℕ) (earlier : Earlier) (directed : Bool) (i : ℕ)
    → LeavesDirective text directed i → (takes_directive earlier ≡ true → directed ≡ true)
    → NoDocument text earlier i
no_directive_document text earlier directed i left takes j n (bare_root first inside x over) =
    node_no_percent text x left.sign
no_directive_document text earlier directed i left takes j n (marked_root m marker x over) =
    by_marker (marked_by text earlier i m marker)
  where
    by_marker : MarkedBy text earlier i m → ⊥
    by_marker (by_dashes begins here) = omega (arith, begins_byte text i begins, left.sign)
    by_marker (by_directive e is read ends begins there) = both ends (left.none (takes is) e read)

-- behind the documents that were read none stands, and so none in the text
pub document_left : (d : Documents) (ds : List Document) → HasRead d ds → d.next < length d.reader.text.now
    → ends_document d.reader.text.now d.next ≡ false
    → NoDocument d.reader.text.now (earlier_of d.begun d.ended) d.next → NothingStands d.reader.text.now
document_left d ds h inside content nothing all s =
    let m = h.before.on all s.from_first_token in
    let p = splits d.reader.text.now (earlier_of d.begun d.ended) d.next inside content m.0 m.1 in
    nothing p.end p.root p.has

-- `#` that begins the text is a comment's
pub token_first : (text : List ℕ) → HasNoToken text 0 → ⊥
token_first text h = sharp_moves text 0 h.sharp refl h.here
