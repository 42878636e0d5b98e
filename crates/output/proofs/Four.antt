-- The four destinations of a kind and a transaction byte.
-- Assumes nothing.
use Rattle.laws.proofs.Prelude.{ℕ, ◌+◌, ◌*◌, ◌/◌, ◌^◌, ◌<◌, ◌≡◌, refl, sym, ap, ◌∙◌, fun_ext, Bool, false, List, [], ◌∷◌, get_or, arith, add-zero, one-mul, bit_or}
use Rattle.laws.proofs.Prelude.{or_neither, bit_or_lem, no_bit, bit_above, gather, gather_empty, bit}
use native.Mathlib.Nat.{one-le-pow, div-lt_iff_lt-mul}
use Rattle.output.specs.Forms.Emitted.{emitted, emitted_at, opens, opens_for, opens_below, opens_last, below_bytes, last_bytes}

-- four tests in a list
four : (f : ℕ → Bool) (a b c d : Bool) (kind actor t : ℕ) → a ≡ f 0 → b ≡ f 1 → c ≡ f 2 → d ≡ f 3
    → emitted_at (opens (a ∷ b ∷ c ∷ d ∷ [])) kind actor t ≡ emitted_at f kind actor t
unfolding emitted_at gather opens
four f a b c d kind actor t x y z w = rw (x, y, z, w)

-- those of a transaction, from four sets
pub four_for : (alice bob contract carol t : ℕ) (a b c d : Bool) → a ≡ bit alice t → b ≡ bit bob t → c ≡ bit contract t → d ≡ bit carol t
    → opens_for alice bob contract carol t ≡ opens (a ∷ b ∷ c ∷ d ∷ [])
unfolding opens_for
four_for alice bob contract carol t a b c d x y z w = rw (x, y, z, w)

four_at : (below : List ℕ) (actor k t : ℕ)
    → below_bytes below actor k t ≡ emitted_at (opens_for (get_or below (4 * k) 0) (get_or below (4 * k + 1) 0) (get_or below (4 * k + 2) 0) (get_or below (4 * k + 3) 0) t) (k + 1) actor t
unfolding below_bytes opens_below opens_for
four_at below actor k t =
    sym (four (opens_below below k t) _ _ _ _ (k + 1) actor t (ap (λ i. bit (get_or below i 0) t) (sym (add-zero (4 * k)))) refl refl refl)

pub four_below : (below : List ℕ) (actor k : ℕ)
    → below_bytes below actor k ≡ (λ t. emitted_at (opens_for (get_or below (4 * k) 0) (get_or below (4 * k + 1) 0) (get_or below (4 * k + 2) 0) (get_or below (4 * k + 3) 0) t) (k + 1) actor t)
four_below below actor k = fun_ext (four_at below actor k)

-- those of byte 255
pub four_last : (last actor k : ℕ) (a b c d : Bool) → a ≡ bit last (4 * k) → b ≡ bit last (4 * k + 1) → c ≡ bit last (4 * k + 2) → d ≡ bit last (4 * k + 3)
    → emitted_at (opens (a ∷ b ∷ c ∷ d ∷ [])) (k + 1) actor 255 ≡ last_bytes last actor k
unfolding last_bytes opens_last
four_last last actor k a b c d x y z w = four (opens_last last k) a b c d (k + 1) actor 255 (x ∙ ap (bit last) (sym (add-zero (4 * k)))) y z w

none_at : (f : ℕ → Bool) (kind actor t : ℕ) → f 0 ≡ false → f 1 ≡ false → f 2 ≡ false → f 3 ≡ false → emitted_at f kind actor t ≡ []
unfolding emitted_at gather emitted
none_at f kind actor t x y z w = rw (x, y, z, w)

-- masks that have no bit together have none each
no_bits : (a b c d i : ℕ) → bit_or (bit_or (bit_or a b) c) d ≡ 0 → (bit a i ≡ false) × (bit b i ≡ false) × (bit c i ≡ false) × (bit d i ≡ false)
no_bits a b c d i e =
    let x = or_neither (bit (bit_or (bit_or a b) c) i) (bit d i) (sym (bit_or_lem (bit_or (bit_or a b) c) d i) ∙ ap (λ m. bit m i) e ∙ no_bit i) in
    let w = or_neither (bit (bit_or a b) i) (bit c i) (sym (bit_or_lem (bit_or a b) c i) ∙ x.0) in
    let v = or_neither (bit a i) (bit b i) (sym (bit_or_lem a b i) ∙ w.0) in
    (v.0, v.1, w.1, x.1)

-- no step of kind k + 1 where its four sets are empty
pub none_below : (below : List ℕ) (actor k : ℕ)
    → bit_or (bit_or (bit_or (get_or below (4 * k) 0) (get_or below (4 * k + 1) 0)) (get_or below (4 * k + 2) 0)) (get_or below (4 * k + 3) 0) ≡ 0 → gather 32 (below_bytes below actor k) ≡ []
unfolding below_bytes opens_below
none_below below actor k e =
    gather_empty (below_bytes below actor k) 32
    (λ t.
    let w = no_bits _ _ _ _ t e in
    none_at (opens_below below k t) (k + 1) actor t (ap (λ i. bit (get_or below i 0) t) (add-zero (4 * k)) ∙ w.0) w.1 w.2 w.3)

-- none with byte 255 where the set has no bit from place 4 k on
pub none_last : (last actor k : ℕ) → last / 2 ^ (4 * k) ≡ 0 → last_bytes last actor k ≡ []
unfolding last_bytes opens_last
none_last last actor k e =
    let z : last / 2 ^ (4 * k) < 1 = rw e (omega arith) in
    let h : last < 2 ^ (4 * k) = rw (one-mul (2 ^ (4 * k))) at ((div-lt_iff_lt-mul (one-le-pow (4 * k) 2 (omega arith))).0 z) in
    let none : (d : ℕ) → bit last (4 * k + d) ≡ false = λ d. bit_above last (4 * k) (4 * k + d) h (omega arith) in
    none_at (opens_last last k) (k + 1) actor 255 (none 0) (none 1) (none 2) (none 3)
