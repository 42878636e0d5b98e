-- Members and places of a list, and the places of one whose elements rise.
-- Assumes nothing.
use Rattle.laws.proofs.Prelude.{ℕ, zero, suc, ◌<◌, ◌≡◌, refl, sym, ◌∙◌, Bool, true, ◌&&◌, List, [], ◌∷◌, eqb, ltb, eqb-true, ltb-true, ltb-false, lt-ltb, arith}
use Rattle.laws.proofs.Prelude.{List-as-Memᴰ, List·Memᴰ·head, List·Memᴰ·not-nil, some, get_elem?, split, either, and_parts, or_parts, All, empty, also, none_some, some_same}
use Rattle.position.proofs.Rules.{Entry, before, in_order}
use mathlib.Core.List.Memᴰ
use Rattle.laws.specs.Members.{Rising}
use Rattle.ledger.proofs.Rising.{before_le, before_number}

module _ {A : Type 0} where
  pub place_member : (l : List A) (i : ℕ) (x : A) → get_elem? l i ≡ some x → List-as-Memᴰ x l
  place_member [] i x k = none_some k
  place_member (y ∷ l) zero x k = List·Memᴰ·head (sym (some_same k))
  place_member (y ∷ l) (suc i) x k = Memᴰ.tail (place_member l i x k)

  pub member_place : {x : A} {l : List A} → List-as-Memᴰ x l → (i : ℕ) × (get_elem? l i ≡ some x)
  member_place (List·Memᴰ·head e) = (0, rw e)
  member_place (Memᴰ.tail m) = let w = member_place m in (suc w.0, w.1)

  pub all_member : {P : A → Type 0} (l : List A) → ((x : A) → List-as-Memᴰ x l → P x) → All P l
  all_member [] h = empty
  all_member (x ∷ l) h = also (h x (List·Memᴰ·head refl)) (all_member l (λ y m. h y (Memᴰ.tail m)))

  pub rising_places : (b : A → A → Bool) (l : List A) → Rising b l → (i j : ℕ) (x y : A) → i < j → get_elem? l i ≡ some x → get_elem? l j ≡ some y → b x y ≡ true
  unfolding Rising
  rising_places b [] r i j x y h k m = none_some k
  rising_places b (z ∷ l) r zero zero x y h k m = absurd (omega arith)
  rising_places b (z ∷ l) r zero (suc j) x y h k m = rw (← some_same k) (r.0 y (place_member l j y m))
  rising_places b (z ∷ l) r (suc i) zero x y h k m = absurd (omega arith)
  rising_places b (z ∷ l) r (suc i) (suc j) x y h k m = rising_places b l r.1 i j x y (omega arith) k m

pub rising_order : (l : List Entry) → Rising before l → in_order l ≡ true
unfolding Rising in_order
rising_order [] r = refl
rising_order (x ∷ []) r = refl
rising_order (x ∷ y ∷ l) r = rw (r.0 y (List·Memᴰ·head refl)) (rising_order (y ∷ l) r.1)

pub before_block : (a b : Entry) → a.block < b.block → before a b ≡ true
unfolding before
before_block a b h = rw (lt-ltb a.block b.block h)

-- what one entry before another says of their numbers and blocks
before_says : (a b : Entry) → before a b ≡ true → (a.block < b.block → ⊥) → (a.block ≡ b.block) × (a.transaction < b.transaction)
unfolding before
before_says a b h n =
    either (or_parts (ltb a.block b.block) (eqb a.block b.block && ltb a.transaction b.transaction) h)
    (λ y. absurd (n (ltb-true a.block b.block y)))
    (λ y.
    let w = and_parts (eqb a.block b.block) (ltb a.transaction b.transaction) y in
    (eqb-true a.block b.block w.0, ltb-true a.transaction b.transaction w.1))

before_all : (a b c : Entry) → before a b ≡ true → before b c ≡ true → before a c ≡ true
before_all a b c h k =
    let m = before_le a b h in
    let n = before_le b c k in
    split (ltb a.block c.block)
    (λ y. before_block a c (ltb-true a.block c.block y))
    (λ y.
    let o = ltb-false a.block c.block y in
    let w = before_says a b h (λ z. omega arith) in
    let v = before_says b c k (λ z. omega arith) in
    before_number a c (omega arith) (omega (arith, w.1, v.1)))

-- entries in order: each stands before every later one
pub order_rising : (l : List Entry) → in_order l ≡ true → Rising before l
unfolding Rising in_order
order_rising [] h = tt
order_rising (x ∷ []) h = (λ y m. absurd (List·Memᴰ·not-nil m), tt)
order_rising (x ∷ y ∷ l) h =
    let w = and_parts (before x y) (in_order (y ∷ l)) h in
    let r = order_rising (y ∷ l) w.1 in
    (λ z m. either (Memᴰ.cases_cons m) (λ e. rw e w.0) (λ n. before_all x y z w.0 (r.0 z n)), r)

pub before_once : (a b : Entry) → before a b ≡ true → before b a ≡ true → ⊥
before_once a b h k =
    split (ltb a.block b.block)
    (λ y. let m = ltb-true a.block b.block y in let w = before_says b a k (λ z. omega arith) in omega (arith, w.0))
    (λ y.
    let m = ltb-false a.block b.block y in
    let w = before_says a b h (λ z. omega arith) in
    let e = w.0 in
    let v = before_says b a k (λ z. omega arith) in
    omega (arith, w.1, v.1))

-- of two entries of a rising list, the one before the other has the lower place
pub place_before : (l : List Entry) → Rising before l → (i j : ℕ) (e f : Entry) → get_elem? l i ≡ some e → get_elem? l j ≡ some f → before e f ≡ true → i < j
place_before l r i j e f k m b =
    split (ltb i j) (ltb-true i j)
    (λ y.
    split (ltb j i)
    (λ z. absurd (before_once e f b (rising_places before l r j i f e (ltb-true j i z) m k)))
    (λ z.
    let q : i ≡ j = omega (arith, ltb-false i j y, ltb-false j i z) in
    let g : e ≡ f = some_same (sym k ∙ rw q m) in
    let c : before f f ≡ true = rw g at b in
    absurd (before_once f f c c)))
