-- Going through the members of a set: a turn of a `for`, and what `any` and `all` answer.
-- Assumes nothing.
use Rattle.std.specs.Prelude.{Option, Some, None, MatchOption}
use Rattle.std.specs.List.{FoldsTo}
use Rattle.std.specs.Iterator.{Yields, YieldsThen, CallableAtEachTurn}
use Rattle.std.specs.Fn.{Called}
use denote.Param.Members.{Mut}
use Rattle.laws.proofs.Prelude.{ℕ, ◌+◌, ◌≤◌, ◌<◌, ◌≡◌, sym, ap, ◌∙◌, Bool, true, false, not, ◌&&◌, ◌||◌, and-false, and-true, List, [], ◌∷◌, eqb, ltb, leb, eqb-true, eqb-false, lt-ltb, le-leb, lt-leb, ltb-true, leb-true, ltb-false, arith, split, and_parts, no_bit}
use Rattle.laws.proofs.Prelude.{bit, any_below, any_found, any_more, all_below, all_more, all_broken}
use Rattle.laws.specs.Below.{all_upto, any_upto}
use Rattle.laws.specs.Sets.{bit_removed}
use Rattle.slots.specs.declared.next.Rest.{Rest}
use Rattle.slots.specs.Forms.Members.{Between, Least, gives_least}

-- no member is from `from` on and below k, which is at most n
pub record Gap (set from n k : ℕ) : Type 0 where
  pub low : from ≤ k
  pub high : k ≤ n
  pub none : (j : ℕ) → from ≤ j → j < k → bit set j ≡ false

-- k is the next member from `from` on, and r is what is left after it
pub record Turn (set from n k r : ℕ) : Type 0 where
  pub gap : Gap set from n k
  pub high : k < n
  pub here : bit set k ≡ true
  pub left : Between set (k + 1) n r

module _ (set from n m : ℕ) (few : n ≤ 32) (b : Between set from n m) where
  -- a number from `from` on and below n is left where it is a member
  inside : (k : ℕ) → from ≤ k → k < n → bit set k ≡ bit m k
  inside k i j = sym (b.at k (omega (arith, j, few)) ∙ rw (le-leb from k i, lt-ltb k n j) (and-true (bit set k)))

  module _ (k r : ℕ) (w : Least m k r) where
    parts : (bit set k ≡ true) × (from ≤ k) × (k < n)
    parts =
        let a = and_parts (bit set k) (leb from k && ltb k n) (sym (b.at k w.low) ∙ w.here) in
        let c = and_parts (leb from k) (ltb k n) a.1 in
        (a.0, leb-true from k c.0, ltb-true k n c.1)

    after : (j : ℕ) → j < 32 → bit r j ≡ (bit set j && (leb (k + 1) j && ltb j n))
    after j l =
        let e : bit r j ≡ (bit m j && not (eqb j k)) = rw w.rest (bit_removed m k j w.low l) in
        split (ltb j k)
        (λ y.
        let i = ltb-true j k y in
        rw (e, w.gap j i, lt-leb (k + 1) j (omega (arith, i))) (sym (and-false (bit set j))))
        (λ y.
        let i = ltb-false j k y in
        split (eqb j k)
        (λ z. rw (e, z, and-false (bit m j), lt-leb (k + 1) j (omega (arith, eqb-true j k z))) (sym (and-false (bit set j))))
        (λ z.
        let d = eqb-false j k z in
        rw (e, b.at j l, z, le-leb from j (omega (arith, i, parts.1)), le-leb (k + 1) j (omega (arith, i, d))) (and-true (bit set j && ltb j n))))

    pub turn_at : Turn set from n k r
    turn_at = record {
      gap = record { low = parts.1; high = omega (arith, parts.2); none = λ j i l. inside j i (omega (arith, l, parts.2)) ∙ w.gap j l };
      high = parts.2;
      here = parts.0;
      left = record { at = after };
    }

  pub turn_end : from ≤ n → m ≡ 0 → Gap set from n n
  turn_end l e = record { low = l; high = omega arith; none = λ j i h. inside j i h ∙ rw e (no_bit j) }

-- ---- a `for` over the members below n: P holds of the number that it has come to
pub record Walked (set n : ℕ) (P : ℕ → Type 0) (left : ℕ) : Type 0 where
  pub from : ℕ
  pub few : n ≤ 32
  pub fits : from ≤ n
  pub between : Between set from n left
  pub done : P from

pub walk_start : {P : ℕ → Type 0} (set n left : ℕ) → n ≤ 32 → Between set 0 n left → P 0 → Walked set n P left
walk_start set n left l b p = record { from = 0; few = l; fits = omega arith; between = b; done = p }

module _ {set n left : ℕ} {P : ℕ → Type 0} (w : Walked set n P left) where
  pub walk_turn : (k r : ℕ) → Least left k r → Turn set w.from n k r
  walk_turn k r g = turn_at set w.from n left w.few w.between k r g

  pub walk_on : {Q : ℕ → Type 0} (k r : ℕ) → Turn set w.from n k r → Q (k + 1) → Walked set n Q r
  walk_on k r h q = record { from = k + 1; few = w.few; fits = omega (arith, h.high); between = h.left; done = q }

  pub walk_end : left ≡ 0 → Gap set w.from n n
  walk_end e = turn_end set w.from n left w.few w.between w.fits e

-- ---- `any` and `all`, whose closure computes p
module _ (set n : ℕ) (p : ℕ → Bool) where
  -- none before the next member
  none_upto : (from k : ℕ) → any_below from (λ j. bit set j && p j) ≡ false → Gap set from n k → any_below k (λ j. bit set j && p j) ≡ false
  none_upto from k e h = any_upto from k (λ j. bit set j && p j) e (λ j i l. rw (h.none j i l))

  pub any_members : {F : Type 0} {g : Mut F (ℕ × Unit {0}) Bool} {f : F} (r : Bool) (s u : Rest) (from : ℕ) → from ≤ n → n ≤ 32 → Between set from n s.left
      → any_below from (λ k. bit set k && p k) ≡ false
      → (xs : List ℕ) × (o : Option ℕ) × (j : F) × YieldsThen gives_least s xs o u × FoldsTo (λ a x b. Called g a (x, tt) false b) f xs j × MatchOption o (r ≡ false) (λ x. (r ≡ true) × ((h : F) × Called g j (x, tt) true h))
      → ((x : ℕ) (b : Bool) (q : F) → Called g f (x, tt) b q → (q ≡ f) × (b ≡ p x))
      → r ≡ any_below n (λ k. bit set k && p k)
  any_members r s u from l few b none ([], None, j, y, e, m) c =
      m ∙ sym (none_upto from n none (turn_end set from n s.left few b l (ap (λ z. z.left) y.1 ∙ y.2)))
  any_members r s u from l few b none ([], Some x, j, y, e, m) c =
      let h = turn_at set from n y.0.left few (rw y.1 at b) x u.left y.2 in
      let q = (c x true m.1.0 (rw (sym e) at m.1.1)).1 in
      m.0 ∙ sym (any_found n x (λ k. bit set k && p k) h.high (rw (h.here, sym q)))
  any_members r s u from l few b none (x ∷ xs, o, j, y, e, m) c =
      let h = turn_at set from n s.left few b x y.1.0.left y.1.1 in
      let q = c x false e.0 e.1 in
      any_members r y.1.0 u (x + 1) (omega (arith, h.high)) few h.left
      (any_more x (λ k. bit set k && p k) (none_upto from x none h.gap) (rw (sym q.1, and-false (bit set x))))
      (xs, o, j, (y.0, y.1.2, y.2), (rw q.0 at e.2), m) c

  -- none fails before the next member
  all_passed : (from k : ℕ) → all_below from (λ j. not (bit set j) || p j) ≡ true → Gap set from n k → all_below k (λ j. not (bit set j) || p j) ≡ true
  all_passed from k e h = sym (all_upto from k (λ j. not (bit set j) || p j) h.low (λ j i l. rw (h.none j i l))) ∙ e

  pub all_members : {F : Type 0} {g : Mut F (ℕ × Unit {0}) Bool} {f : F} (r : Bool) (s u : Rest) (from : ℕ) → from ≤ n → n ≤ 32 → Between set from n s.left
      → all_below from (λ k. not (bit set k) || p k) ≡ true
      → (xs : List ℕ) × (o : Option ℕ) × (j : F) × YieldsThen gives_least s xs o u × FoldsTo (λ a x b. Called g a (x, tt) true b) f xs j × MatchOption o (r ≡ true) (λ x. (r ≡ false) × ((h : F) × Called g j (x, tt) false h))
      → ((x : ℕ) (b : Bool) (q : F) → Called g f (x, tt) b q → (q ≡ f) × (b ≡ p x))
      → r ≡ all_below n (λ k. not (bit set k) || p k)
  all_members r s u from l few b passed ([], None, j, y, e, m) c =
      m ∙ sym (all_passed from n passed (turn_end set from n s.left few b l (ap (λ z. z.left) y.1 ∙ y.2)))
  all_members r s u from l few b passed ([], Some x, j, y, e, m) c =
      let h = turn_at set from n y.0.left few (rw y.1 at b) x u.left y.2 in
      let q = (c x false m.1.0 (rw (sym e) at m.1.1)).1 in
      m.0 ∙ sym (all_broken n x (λ k. not (bit set k) || p k) h.high (rw (h.here, sym q)))
  all_members r s u from l few b passed (x ∷ xs, o, j, y, e, m) c =
      let h = turn_at set from n s.left few b x y.1.0.left y.1.1 in
      let q = c x true e.0 e.1 in
      all_members r y.1.0 u (x + 1) (omega (arith, h.high)) few h.left
      (all_more x (λ k. not (bit set k) || p k) (all_passed from x passed h.gap) (rw (h.here, sym q.1)))
      (xs, o, j, (y.0, y.1.2, y.2), (rw q.0 at e.2), m) c

-- where a closure is called: at members, which are below n
called : {F : Type 0} (R : F → ℕ → F → Type 0) (Q : F → ℕ → Type 0) (f : F) (set n : ℕ) → n ≤ 32
    → ((x : ℕ) (q : F) → R f x q → q ≡ f) → ((x : ℕ) → x < n → bit set x ≡ true → Q f x)
    → (s : Rest) (from : ℕ) → Between set from n s.left → (xs : List ℕ) (t : Rest) (q : F) (x : ℕ) (u : Rest)
    → Yields gives_least s xs t → FoldsTo R f xs q → gives_least t (Some x) u → Q q x
called R Q f set n few same may s from b [] t q x u y e m =
    let h = turn_at set from n t.left few (rw y at b) x u.left m in
    rw (sym e) (may x h.high h.here)
called R Q f set n few same may s from b (z ∷ xs) t q x u y e m =
    let h = turn_at set from n s.left few b z y.0.left y.1 in
    called R Q f set n few same may y.0 (z + 1) h.left xs t q x u y.2 (rw (same z e.0 e.1) at e.2) m

pub calls_members : {F : Type 0} {R : F → ℕ → F → Type 0} {Q : F → ℕ → Type 0} {f : F} {s : Rest} (set from n : ℕ) → n ≤ 32 → Between set from n s.left
    → ((x : ℕ) (q : F) → R f x q → q ≡ f) → ((x : ℕ) → x < n → bit set x ≡ true → Q f x) → CallableAtEachTurn gives_least R Q s f
calls_members {F} {R} {Q} {f} {s} set from n few b same may = record { at = λ xs t q x u y e m. called R Q f set n few same may s from b xs t q x u y e m }
