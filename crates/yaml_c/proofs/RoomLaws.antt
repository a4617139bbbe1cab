-- What is added to the room that is taken stays, whatever comes behind it.
use Rattle.std.proofs.Common.{arith, ◌≡◌, ℕ, ◌+◌, ◌-◌, ◌≤◌, ◌∙◌, ap, sym, subst, List, [], ◌++◌, length}
use Rattle.std.proofs.Common.{drop, take}
use Rattle.std.proofs.lemmas.List.{append_assoc, append-nil, drop_at, length-take-le, take_at}
use Rattle.std.proofs.lemmas.Slice.{take-put_mid}
use Rattle.yaml_c.specs.Rows.{part}
use Rattle.yaml_c.specs.inner.Room.{Grows, HasText}
use borrow.Rule.Slice.PartMut.{put_mid}

-- nothing was added
pub grows_none : (bytes : List ℕ) (n : ℕ) → Grows bytes n bytes n
grows_none bytes n = record {
  room = λ (h : n ≤ length bytes). h;
  added = λ (h : n ≤ length bytes). ([], sym (append-nil (take n bytes)));
}

-- what holds of the bytes taken, whatever comes behind them, holds of more of them
pub holds_on : (P : List ℕ → Type 0) {a b : List ℕ} {n m : ℕ} → Grows a n b m
    → (n ≤ length a → (more : List ℕ) → P (take n a ++ more))
    → m ≤ length b → (more : List ℕ) → P (take m b ++ more)
holds_on P {a} {b} {n} {m} g h room more =
    let s = g.added room in
    let e : take m b ++ more ≡ take n a ++ (s.0 ++ more) =
    ap (λ (x : List ℕ). x ++ more) s.1 ∙ append_assoc (take n a) s.0 more in
    subst P (sym e) (h (g.room room) (s.0 ++ more))

-- first this was added, then that
pub grows_on : {a b c : List ℕ} {n m k : ℕ} → Grows a n b m → Grows b m c k → Grows a n c k
grows_on {a} {b} {c} {n} {m} {k} f g = record {
  room = λ (h : k ≤ length c). f.room (g.room h);
  added = λ (h : k ≤ length c).
      let s = g.added h in
      let t = f.added (g.room h) in
      (t.0 ++ s.0, s.1 ∙ (ap (λ (x : List ℕ). x ++ s.0) t.1 ∙ append_assoc (take n a) t.0 s.0));
}

-- a text in the middle
part_is : (front text more : List ℕ) (at : ℕ) → length front ≡ at
    → part ((front ++ text) ++ more) at (length text) ≡ text
part_is front text more at e =
    let behind : drop at ((front ++ text) ++ more) ≡ text ++ more =
    ap (drop at) (append_assoc front text more) ∙ drop_at front (text ++ more) at e in
    let size : length text ≡ at + length text - at = omega arith in
    ap (take (at + length text - at)) behind ∙ take_at text more (at + length text - at) size

-- a text that was written behind what was taken
pub wrote : (old text : List ℕ) (at k : ℕ) {new : List ℕ} {end : ℕ} → new ≡ put_mid at k old text
    → end ≡ at + length text
    → end ≤ length old
    → Grows old at new end
wrote old text at k {new} {end} is size room = record {
  room = λ (h : end ≤ length new). omega arith;
  added = λ (h : end ≤ length new).
      (text, ap (take end) is ∙ take-put_mid at k old text end size (omega arith));
}

-- it stands there
pub wrote_text : (old text : List ℕ) (at k : ℕ) {new : List ℕ} {end : ℕ} → new ≡ put_mid at k old text
    → end ≡ at + length text
    → end ≤ length old
    → HasText new end at (length text) text
wrote_text old text at k {new} {end} is size room h more =
    let taken : take end new ≡ take at old ++ text =
    ap (take end) is ∙ take-put_mid at k old text end size (omega arith) in
    ap (λ (x : List ℕ). part (x ++ more) at (length text)) taken
    ∙ part_is (take at old) text more at (length-take-le at old (omega arith))
