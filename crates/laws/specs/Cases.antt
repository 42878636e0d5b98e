-- The cases of a small number and of a two-way choice, and where an element of a changed list comes from.
-- Assumes nothing.
use Rattle.std.specs.Prelude.{ℕ, ◌<◌, ◌≡◌, refl, ◌⊎◌, Bool, true, false, List, eqb, ltb, length, get_or, set}
use Rattle.std.proofs.Common.{inl, inr, get_or-set_same, get_or-set_other, eqb-true, ltb-true, ltb-false}
use Rattle.std.proofs.Math.ListN.{get_or-eq_default}
use Rattle.std.proofs.Math.Seq.{set_out}
use Rattle.std.proofs.lemmas.Bool.{eqb-false}
use Rattle.laws.specs.Booleans.{pick, split}
use Rattle.laws.specs.Each.{rewrite_first, length_rewrite_first, rewritten, not_rewritten}

pub picked : {A : Type 0} (b : Bool) {x y w : A} → w ≡ pick b x y → ((b ≡ true) × (w ≡ x)) ⊎ ((b ≡ false) × (w ≡ y))
picked true q = inl (refl, q)
picked false q = inr (refl, q)

-- what both have, the chosen one has
pub picked_has : {A : Type 0} (P : A → Type 0) (b : Bool) {x y : A} → P x → P y → P (pick b x y)
picked_has P true h k = h
picked_has P false h k = k

-- after a store, an element is the one from before, or the one stored
pub stored : {A : Type 0} (l : List A) (i k : ℕ) (v d : A) → (get_or (set l i v) k d ≡ get_or l k d) ⊎ ((k ≡ i) × (get_or (set l i v) k d ≡ v))
stored l i k v d =
    split (eqb k i)
    (λ y.
    let e = eqb-true k i y in
    split (ltb i (length l))
    (λ z. inr (e, rw e (get_or-set_same l i v d (ltb-true i (length l) z))))
    (λ z. inl (rw (set_out l i v (ltb-false i (length l) z)))))
    (λ y. inl (get_or-set_other l i k v d (eqb-false k i y)))

-- after a rewriting of the first n, an element is the one from before, or what the rule makes of it
pub rewrote : {A : Type 0} (n : ℕ) (f : ℕ → A → A) (l : List A) (k : ℕ) (d : A)
    → (get_or (rewrite_first n f l) k d ≡ get_or l k d) ⊎ ((k < n) × (get_or (rewrite_first n f l) k d ≡ f k (get_or l k d)))
rewrote n f l k d =
    split (ltb k n)
    (λ y.
    split (ltb k (length l))
    (λ z. inr (ltb-true k n y, rewritten n f l k d (ltb-true k n y) (ltb-true k (length l) z)))
    (λ z.
    let o = ltb-false k (length l) z in
    inl (rw (get_or-eq_default l d o) (get_or-eq_default (rewrite_first n f l) d (rw (length_rewrite_first n f l) o)))))
    (λ y. inl (not_rewritten n f l k d (ltb-false k n y)))
