-- The view carried over a step: outside a set the slots stay as they are, and no confirmation and no shared signature goes. It is made
-- over all members of the set, or over its only one, or where it has none of what is kept.
-- Assumes nothing.
use Rattle.laws.proofs.Prelude.{ℕ, zero, suc, ◌+◌, ◌^◌, ◌≤◌, ◌<◌, ◌≡◌, refl, sym, ap, ◌∙◌, Bool, true, false, not, ◌&&◌, and-false, List, eqb, ltb, eqb-true, eqb-false}
use Rattle.laws.proofs.Prelude.{ltb-true, ltb-false, eq-eqb, ne_eqb, lt-ltb, le-ltb, arith, eq-or-lt_of_le, le_of_suc-le-suc, le_antisymm, and-true, bit_or, pick, split}
use Rattle.laws.proofs.Prelude.{either, clash, bit, union_below, no_bit, joined, removed, set_below, set_same, bit_joined}
use native.Mathlib.Numerals.{add-one}
use lib.Bits.{or_self}
use lib.Pow.{pow-lt, pow_mono}
use Rattle.laws.specs.Sets.{set_outside, bit_removed}
use Rattle.laws.specs.Unions.{or_assoc, set_grown, union_grown, union_same}
use Rattle.slots.specs.declared.Slot.{Slot}
use Rattle.slots.specs.Slot.{shared_any}
use Rattle.slots.proofs.Walks.{Gap}
use Rattle.steps.specs.declared.View.{View}
use Rattle.steps.specs.Forms.View.{view_with, view_after, view_passed}
use Rattle.position.specs.declared.Position.{Position}
use Rattle.position.specs.Position.{slot, in_pool, in_block, block_of, is_confirmed}
use Rattle.position.specs.Forms.View.{view_below}
use Rattle.position.specs.Forms.Seen.{view_kept, view_joined}

-- a loop over the members of a set: up to the next member nothing is joined, and then it is
joined_upto : (m n : ℕ) (member : ℕ → Bool) (q : Position) (v : View) → m ≤ n → ((k : ℕ) → m ≤ k → k < n → member k ≡ false)
    → view_joined m member q v ≡ view_joined n member q v
unfolding view_joined
joined_upto m zero member q v l h = rw (le_antisymm l (omega arith)) refl
joined_upto m (suc n) member q v l h =
    either (eq-or-lt_of_le l)
    (λ e. rw e refl)
    (λ a. joined_upto m n member q v (le_of_suc-le-suc a) (λ k b c. h k b (omega (arith, c))) ∙ rw (h n (le_of_suc-le-suc a) (omega arith)) refl)

module _ (members : ℕ) (q : Position) (v : View) where
  pub joined_start : v ≡ view_joined 0 (bit members) q v
  unfolding view_joined
  joined_start = refl

  pub joined_more : (n t k : ℕ) (w z : View) (x : Slot) → Gap members t n k → w ≡ view_joined t (bit members) q v → bit members k ≡ true → z ≡ view_with w k x
      → x ≡ slot q k → z ≡ view_joined (k + 1) (bit members) q v
  unfolding view_joined
  joined_more n t k w z x h e b f g =
      let a : w ≡ view_joined k (bit members) q v = e ∙ joined_upto t k (bit members) q v h.low h.none in
      rw (add-one, b) (f ∙ rw (a, g) refl)

  pub joined_done : (n t : ℕ) (w : View) → Gap members t n n → w ≡ view_joined t (bit members) q v → w ≡ view_joined n (bit members) q v
  joined_done n t w h e = e ∙ joined_upto t n (bit members) q v h.low h.none

-- the first t places by a, the others by b
abbrev mixed : {A : Type 0} → ℕ → (ℕ → A) → (ℕ → A) → ℕ → A
mixed t a b k = pick (ltb k t) (a k) (b k)

mixed_here : {A : Type 0} (t : ℕ) (a b : ℕ → A) → mixed (suc t) a b t ≡ a t
mixed_here t a b = rw (lt-ltb t (suc t) (omega arith))

mixed_before : {A : Type 0} (t : ℕ) (a b : ℕ → A) → mixed t a b t ≡ b t
mixed_before t a b = rw (le-ltb t t (omega arith))

-- one place more by a
mixed_other : {A : Type 0} (t : ℕ) (a b : ℕ → A) (k : ℕ) → eqb k t ≡ false → mixed (suc t) a b k ≡ mixed t a b k
mixed_other t a b k n =
    let o = eqb-false k t n in
    split (ltb k t)
    (λ y. let l = ltb-true k t y in rw (y, lt-ltb k (suc t) (omega (arith, l))) refl)
    (λ y. let l = ltb-false k t y in rw (y, le-ltb k (suc t) (omega (arith, l, o))) refl)

-- where both agree at t, it makes no difference by which it is
passed_over : {A : Type 0} (t : ℕ) (a b : ℕ → A) → a t ≡ b t → (k : ℕ) → mixed t a b k ≡ mixed (suc t) a b k
passed_over t a b e k =
    split (eqb k t)
    (λ y. let z = eqb-true k t y in rw (z, le-ltb t t (omega arith), lt-ltb t (suc t) (omega arith)) (sym e))
    (λ y. sym (mixed_other t a b k y))

-- the members below n, first none, then one more, at last all by a
module _ (n : ℕ) (a b : ℕ → Bool) where
  set_none_yet : set_below n b ≡ set_below n (mixed 0 a b)
  set_none_yet = set_same n _ _ (λ k l. rw (le-ltb k 0 (omega arith)) refl)

  set_passed : (t : ℕ) → a t ≡ b t → set_below n (mixed t a b) ≡ set_below n (mixed (suc t) a b)
  set_passed t e = set_same n _ _ (λ k l. passed_over t a b e k)

  set_joined : (t : ℕ) → t < n → (b t ≡ true → a t ≡ true) → joined (set_below n (mixed t a b)) (a t) t ≡ set_below n (mixed (suc t) a b)
  set_joined t l more =
      ap (λ x. joined (set_below n (mixed t a b)) x t) (sym (mixed_here t a b))
      ∙ set_grown t n (mixed t a b) (mixed (suc t) a b) l (mixed_other t a b) (λ y. rw (mixed_here t a b) (more (rw (mixed_before t a b) at y)))

  set_all : set_below n (mixed n a b) ≡ set_below n a
  set_all = set_same n _ _ (λ k l. rw (lt-ltb k n l) refl)

-- those that pass outside a set
abbrev out_of : ℕ → (ℕ → Bool) → ℕ → Bool
out_of members passes k = passes k && not (bit members k)

out_member : {X : Type 0} (members : ℕ) (passes : ℕ → Bool) (k : ℕ) → bit members k ≡ true → out_of members passes k ≡ true → X
out_member members passes k y h = clash {b = true} refl (rw (y, and-false (passes k)) at (sym h))

out_other : (members : ℕ) (passes : ℕ → Bool) (k : ℕ) → bit members k ≡ false → out_of members passes k ≡ passes k
out_other members passes k y = rw y (and-true (passes k))

-- no confirmation and no shared signature goes from x to y
abbrev pub Keeps : Slot → Slot → Type 0
Keeps x y = (ltb 0 x.height ≡ true → ltb 0 y.height ≡ true) × (bit_or (shared_any x) (shared_any y) ≡ shared_any y)

pub keeps_same : (x : Slot) → Keeps x x
keeps_same x = ((λ h. h), or_self (shared_any x))

pub keeps_on : (x y z : Slot) → Keeps x y → Keeps y z → Keeps x z
keeps_on x y z a b = (
  (λ h. b.0 (a.0 h)),
  ap (bit_or (shared_any x)) (sym b.1) ∙ sym (or_assoc (shared_any x) (shared_any y) (shared_any z)) ∙ ap (λ (m : ℕ). bit_or m (shared_any z)) a.1 ∙ b.1,
)

-- from p to q, of the slots below n those outside a set, whose members are below n, stay as they are, and the others keep these
pub record Moved (n : ℕ) (p q : Position) (members : ℕ) : Type 0 where
  pub small : members < 2 ^ n
  pub out : (k : ℕ) → k < n → bit members k ≡ false → slot q k ≡ slot p k
  pub keeps : (k : ℕ) → k < n → Keeps (slot p k) (slot q k)

-- tests of a slot that stays
slot_same : (p q : Position) (t : ℕ) → slot q t ≡ slot p t → (in_pool q t ≡ in_pool p t) × (in_block q t ≡ in_block p t) × (is_confirmed q t ≡ is_confirmed p t)
unfolding in_pool in_block is_confirmed block_of
slot_same p q t e = (rw e refl, rw e refl, ap (λ (x : Slot). ltb 0 x.height) e)

module _ (s : List ℕ) (n members : ℕ) (p q : Position) (v : View) (few : n ≤ 32) (e : v ≡ view_below s n p) (moved : Moved n p q members) where
  word : members < 4294967296
  word = let m : 2 ^ n ≤ 2 ^ 32 = pow_mono few in omega (arith, m, moved.small)

  -- the first t transactions seen in q, of the others what is kept of p
  halfway : ℕ → View
  halfway t =
      record {
        pool = set_below n (mixed t (in_pool q) (out_of members (in_pool p)));
        block = set_below n (mixed t (in_block q) (out_of members (in_block p)));
        confirmed = set_below n (mixed t (is_confirmed q) (is_confirmed p));
        expiring = v.expiring;
        mined = q.mined;
        shared = union_below n (mixed t (λ k. shared_any (slot q k)) (λ k. shared_any (slot p k)));
        keys = q.keys;
      }

  none_yet : view_kept v members q ≡ halfway 0
  unfolding view_kept halfway view_below
  none_yet =
      let x = set_outside n (in_pool p) members few word ∙ set_none_yet n (in_pool q) (out_of members (in_pool p)) in
      let y = set_outside n (in_block p) members few word ∙ set_none_yet n (in_block q) (out_of members (in_block p)) in
      let z = set_none_yet n (is_confirmed q) (is_confirmed p) in
      let w : union_below n (λ k. shared_any (slot p k)) ≡ union_below n (mixed 0 (λ k. shared_any (slot q k)) (λ k. shared_any (slot p k))) = union_same n _ _ (λ k l. rw (le-ltb k 0 (omega arith)) refl) in
      rw (e, x, y, z, w) refl

  -- a member is joined
  member_joined : (t : ℕ) → t < n → bit members t ≡ true → view_with (halfway t) t (slot q t) ≡ halfway (suc t)
  unfolding view_with halfway in_pool in_block is_confirmed block_of
  member_joined t l o =
      let x = set_joined n (in_pool q) (out_of members (in_pool p)) t l (out_member members (in_pool p) t o) in
      let y = set_joined n (in_block q) (out_of members (in_block p)) t l (out_member members (in_block p) t o) in
      let z = set_joined n (is_confirmed q) (is_confirmed p) t l (moved.keeps t l).0 in
      let f = mixed t (λ k. shared_any (slot q k)) (λ k. shared_any (slot p k)) in
      let g = mixed (suc t) (λ k. shared_any (slot q k)) (λ k. shared_any (slot p k)) in
      let w : bit_or (union_below n f) (g t) ≡ union_below n g =
      union_grown t n f g l (mixed_other t (λ k. shared_any (slot q k)) (λ k. shared_any (slot p k)))
      (rw (
        mixed_here t (λ k. shared_any (slot q k)) (λ k. shared_any (slot p k)),
        mixed_before t (λ k. shared_any (slot q k))
            (λ k. shared_any (slot p k)),
      ) (moved.keeps t l).1) in
      rw (← x, ← y, ← z, ← w, mixed_here t (λ k. shared_any (slot q k)) (λ k. shared_any (slot p k))) refl

  -- nothing changes by another
  other_passed : (t : ℕ) → t < n → bit members t ≡ false → halfway t ≡ halfway (suc t)
  unfolding halfway
  other_passed t l o =
      let h = moved.out t l o in
      let same = slot_same p q t h in
      let x = set_passed n (in_pool q) (out_of members (in_pool p)) t (same.0 ∙ sym (out_other members (in_pool p) t o)) in
      let y = set_passed n (in_block q) (out_of members (in_block p)) t (same.1 ∙ sym (out_other members (in_block p) t o)) in
      let z = set_passed n (is_confirmed q) (is_confirmed p) t same.2 in
      let w : union_below n (mixed t (λ k. shared_any (slot q k)) (λ k. shared_any (slot p k))) ≡ union_below n (mixed (suc t) (λ k. shared_any (slot q k)) (λ k. shared_any (slot p k))) =
      union_same n _ _ (λ k m. passed_over t (λ k. shared_any (slot q k)) (λ k. shared_any (slot p k)) (ap shared_any h) k) in
      rw (x, y, z, w) refl

  upto : (t : ℕ) → t ≤ n → view_joined t (bit members) q (view_kept v members q) ≡ halfway t
  unfolding view_joined
  upto zero l = none_yet
  upto (suc t) l =
      split (bit members t)
      (λ y. rw (y, upto t (omega (arith, l))) (member_joined t l y))
      (λ y. rw (y, upto t (omega (arith, l))) (other_passed t l y))

  pub renewed_right : view_joined n (bit members) q (view_kept v members q) ≡ view_below s n q
  unfolding view_below halfway
  renewed_right =
      let x = set_all n (in_pool q) (out_of members (in_pool p)) in
      let y = set_all n (in_block q) (out_of members (in_block p)) in
      let z = set_all n (is_confirmed q) (is_confirmed p) in
      let w : union_below n (mixed n (λ k. shared_any (slot q k)) (λ k. shared_any (slot p k))) ≡ union_below n (λ k. shared_any (slot q k)) = union_same n _ _ (λ k l. rw (lt-ltb k n l) refl) in
      upto n (omega arith) ∙ rw (x, y, z, w, e) refl

-- a set of one member
power : (t k : ℕ) → t < 32 → k < 32 → bit (2 ^ t) k ≡ eqb k t
unfolding joined
power t k l m = bit_joined 0 true t k l m ∙ rw (no_bit k) refl

pub power_here : (t : ℕ) → t < 32 → bit (2 ^ t) t ≡ true
power_here t l = power t t l l ∙ eq-eqb t t refl

module _ (n t : ℕ) (few : n ≤ 32) (l : t < n) where
  power_other : (k : ℕ) → k < n → (k ≡ t → ⊥) → bit (2 ^ t) k ≡ false
  power_other k m o = power t k (omega (arith, few, l)) (omega (arith, few, m)) ∙ ne_eqb k t o

  up_to_it : Gap (2 ^ t) 0 n t
  up_to_it =
      record {
        low = omega arith;
        high = omega (arith, l);
        none = λ k i j. power_other k (omega (arith, j, l)) (λ z. omega (arith, z, j));
      }

  from_it : Gap (2 ^ t) (t + 1) n n
  from_it =
      record {
        low = omega (arith, l);
        high = omega arith;
        none = λ k i j. power_other k j (λ z. omega (arith, z, i));
      }

  one_joined : (q : Position) (w : View) → view_with w t (slot q t) ≡ view_joined n (bit (2 ^ t)) q w
  one_joined q w =
      joined_done (2 ^ t) q w n (t + 1) (view_with w t (slot q t)) from_it
      (joined_more (2 ^ t) q w n 0 t w (view_with w t (slot q t)) (slot q t) up_to_it (joined_start (2 ^ t) q w) (power_here t (omega (arith, few, l))) refl refl)

  pub one_member : (p q : Position) (members : ℕ) → removed members t ≡ 0 → Moved n p q members → Moved n p q (2 ^ t)
  one_member p q members z moved =
      record {
        small = pow-lt l;
        out = λ k m h.
            let o : eqb k t ≡ false = sym (power t k (omega (arith, few, l)) (omega (arith, few, m))) ∙ h in
            let w : (bit members k && not (eqb k t)) ≡ false = sym (bit_removed members t k (omega (arith, few, l)) (omega (arith, few, m))) ∙ ap (λ (x : ℕ). bit x k) z ∙ no_bit k in
            moved.out k m (sym (and-true (bit members k)) ∙ (rw o at w));
        keeps = moved.keeps;
      }

  pub one_right : (s : List ℕ) (p q : Position) (v : View) → v ≡ view_below s n p → Moved n p q (2 ^ t)
      → view_after v t (slot q t) q.mined q.keys ≡ view_below s n q
  unfolding view_after view_with view_kept removed
  one_right s p q v e moved = one_joined q (view_kept v (2 ^ t) q) ∙ renewed_right s n (2 ^ t) p q v few e moved

-- a set without members
pub none_right : (s : List ℕ) (n : ℕ) (p q : Position) (v : View) → v ≡ view_below s n p → Moved n p q 0 → view_passed v q.mined q.keys ≡ view_below s n q
unfolding view_passed view_below
none_right s n p q v e moved =
    let same : (k : ℕ) → k < n → slot q k ≡ slot p k = λ k l. moved.out k l (no_bit k) in
    let x = set_same n (in_pool p) (in_pool q) (λ k l. sym (slot_same p q k (same k l)).0) in
    let y = set_same n (in_block p) (in_block q) (λ k l. sym (slot_same p q k (same k l)).1) in
    let z = set_same n (is_confirmed p) (is_confirmed q) (λ k l. sym (slot_same p q k (same k l)).2) in
    let w = union_same n (λ k. shared_any (slot q k)) (λ k. shared_any (slot p k)) (λ k l. ap shared_any (sym (same k l))) in
    rw (e, x, y, z, w) refl
