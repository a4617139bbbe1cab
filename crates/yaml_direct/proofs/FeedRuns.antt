-- Spaces and line feeds, as a reader steps over them.
use Rattle.std.proofs.Common.{ℕ, zero, suc, ◌+◌, ◌-◌, ◌≡◌, ◌≢◌, ◌<◌, ◌≤◌, true, List, sym, subst, arith}
use Rattle.yaml_direct.specs.Bytes.{AreBlanks, at}
use Rattle.yaml_direct.specs.Lines.{AreFeeds, a_feed, a_space, no_feed}
use Rattle.yaml_direct.proofs.TextLaws.{no_return}
use Rattle.yaml_grammar.specs.Bytes.{is_text}

blanks_by : (text : List ℕ) (n i : ℕ) → ((k : ℕ) → i ≤ k → k < i + n → at text k ≡ 32) → AreFeeds text 0 i (i + n)
blanks_by text zero i blank = let same : i ≡ i + 0 = omega arith in subst (λ k. AreFeeds text 0 i k) same no_feed
blanks_by text (suc n) i blank =
    let there : i + 1 + n ≡ i + suc n = omega arith in
    subst (λ k. AreFeeds text 0 i k) there (a_space (blank i (omega arith) (omega arith))
    (blanks_by text n (i + 1) (λ k low high. blank k (omega (arith, low)) (omega (arith, high)))))

blanks_are : (text : List ℕ) (i j : ℕ) → i ≤ j → AreBlanks text i j → AreFeeds text 0 i j
blanks_are text i j low blank =
    let there : i + (j - i) ≡ j = omega (arith, low) in
    subst (λ k. AreFeeds text 0 i k) there (blanks_by text (j - i) i (λ k a b. blank k a (omega (arith, b, there))))

joined : (text : List ℕ) (n m i j k : ℕ) → AreFeeds text n i j → AreFeeds text m j k → AreFeeds text (n + m) i k
joined text n m i j k no_feed g = let same : m ≡ 0 + m = omega arith in subst (λ c. AreFeeds text c i k) same g
joined text n m i j k (a_space e f) g = a_space e (joined text n m (i + 1) j k f g)
joined text n m i j k (a_feed {n = q} e f) g =
    let size : suc (q + m) ≡ suc q + m = omega arith in
    subst (λ c. AreFeeds text c i k) size (a_feed e (joined text q m (i + 1) j k f g))

-- up to a byte that is no space
pub record FeedsTo (text : List ℕ) (count from end : ℕ) : Type 0 where
  pub feeds : AreFeeds text count from end
  pub no_space : at text end ≢ 32

pub feeds_begin : (text : List ℕ) (from place end : ℕ) → is_text text ≡ true → from ≤ place → AreBlanks text from place
    → at text place ≢ 32 → (at text place ≢ 13 → end ≡ place) → FeedsTo text 0 from end
feeds_begin text from place end h low blank space there =
    subst (λ k. FeedsTo text 0 from k) (sym (there (no_return text place h)))
    (record { feeds = blanks_are text from place low blank; no_space = space })

pub feeds_next : (text : List ℕ) (n from i place end : ℕ) → is_text text ≡ true → FeedsTo text n from i
    → at text i ≡ 10 → i + 1 ≤ place → AreBlanks text (i + 1) place → at text place ≢ 32
    → (at text place ≢ 13 → end ≡ place) → FeedsTo text (n + 1) from end
feeds_next text n from i place end h f feed low blank space there =
    let later = feeds_begin text (i + 1) place end h low blank space there in
    record { feeds = joined text n 1 from i end f.feeds (a_feed feed later.feeds); no_space = later.no_space }
