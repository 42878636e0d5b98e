-- What a transaction that comes for a destination passes, part by part, and that a larger set brings no less.
-- Assumes nothing.
use Rattle.laws.proofs.Prelude.{ℕ, ◌<◌, ◌≡◌, refl, Bool, true, false, not, ◌&&◌, ◌||◌, List, ◌⊎◌, inl, inr, eqb, not-true, bit_or, pick, split, either, clash, and_parts}
use Rattle.laws.proofs.Prelude.{or_parts, or_right, bit, union_below, or_bit, union_bit, no_bit, subset_bit}
use Rattle.position.proofs.Rules.{count, parent, opening, signatures, required, Checked, has_parent, shared_any, shared_secrets, sender_mask, signed, slot}
use Rattle.position.specs.declared.Position.{Position}
use Rattle.position.proofs.Rules.{is_confirmed, shared, sends_to, shares_to}
use Rattle.slots.proofs.Parents.{parent_below}
use Rattle.attainable.specs.Attainable.{gone, secrets_of, others_keys, shown_by, known_from, never_sent, waits_for, signable, comes}
use Rattle.attainable.proofs.Masks.{or_left, or_last, union_has, subset_from}

-- the signatures that the others have for t and d, by a set
abbrev pub others_have : List ℕ → Position → ℕ → ℕ → ℕ → ℕ → ℕ
others_have s p x members t d = sender_mask (others_keys s p x) (known_from s p members) (shared p t d)

-- how it comes: it waits, X sends it, or the others do
pub data Way (s u : List ℕ) (p : Position) (x : ℕ) (also : ℕ → Bool) (members t d : ℕ) : Type 0 where
  waits : waits_for p t d ≡ true → Way s u p x also members t d
  lent : also t ≡ true → sends_to s x t d ≡ true → Way s u p x also members t d
  signs : never_sent s u p x t ≡ false → shares_to s t d ≡ true → eqb d x ≡ false → signed s (others_have s p x members t d) t ≡ true
      → Way s u p x also members t d

-- the parent is none, confirmed, or in the set
abbrev pub Parent : List ℕ → Position → ℕ → ℕ → Type 0
Parent s p members t = (opening s t ≡ true) ⊎ ((is_confirmed p (parent s t) ≡ true) ⊎ (bit members (parent s t) ≡ true))

pub record Comes (s u : List ℕ) (p : Position) (x : ℕ) (also : ℕ → Bool) (members t d : ℕ) : Type 0 where
  pub live : gone s p t ≡ false
  pub below : Parent s p members t
  pub way : Way s u p x also members t d

module _ (s u : List ℕ) (p : Position) (x : ℕ) (also : ℕ → Bool) (members t d : ℕ) where
  pub parent_parts : has_parent s (λ k. is_confirmed p k || bit members k) t ≡ true → Parent s p members t
  unfolding has_parent
  parent_parts h =
      either (or_parts (opening s t) (is_confirmed p (parent s t) || bit members (parent s t)) h)
      inl
      (λ y. inr (or_parts (is_confirmed p (parent s t)) (bit members (parent s t)) y))

  pub parent_from : Parent s p members t → has_parent s (λ k. is_confirmed p k || bit members k) t ≡ true
  unfolding has_parent
  parent_from h =
      let rest = is_confirmed p (parent s t) || bit members (parent s t) in
      either h
      (λ o. rw o)
      (λ y.
      or_right (opening s t) rest
      (either y (λ c. rw c) (λ b. or_right (is_confirmed p (parent s t)) (bit members (parent s t)) b)))

  way_parts : (waits_for p t d || ((also t && sends_to s x t d) || (not (never_sent s u p x t) && signable s p x members t d))) ≡ true
      → Way s u p x also members t d
  unfolding signable
  way_parts h =
      let apart = not (eqb d x) && signed s (others_have s p x members t d) t in
      either (or_parts (waits_for p t d) _ h)
      waits
      (λ y.
      either (or_parts (also t && sends_to s x t d) _ y)
      (λ z. let w = and_parts (also t) (sends_to s x t d) z in lent w.0 w.1)
      (λ z.
      let a = and_parts (not (never_sent s u p x t)) _ z in
      let b = and_parts (shares_to s t d) apart a.1 in
      let c = and_parts (not (eqb d x)) (signed s (others_have s p x members t d) t) b.1 in
      signs (not-true (never_sent s u p x t) a.0) b.0 (not-true (eqb d x) c.0) c.1))

  way_from : Way s u p x also members t d
      → (waits_for p t d || ((also t && sends_to s x t d) || (not (never_sent s u p x t) && signable s p x members t d))) ≡ true
  unfolding signable
  way_from (waits h) = rw h
  way_from (lent a b) = or_right (waits_for p t d) _ (rw (a, b))
  way_from (signs n a b c) = or_right (waits_for p t d) _ (or_right (also t && sends_to s x t d) _ (rw (n, a, b, c)))

  pub comes_parts : comes s u p x also members t d ≡ true → Comes s u p x also members t d
  unfolding comes
  comes_parts h =
      let a = and_parts (not (gone s p t)) _ h in
      let b = and_parts (has_parent s (λ k. is_confirmed p k || bit members k) t) _ a.1 in
      record { live = not-true (gone s p t) a.0; below = parent_parts b.0; way = way_parts b.1 }

  pub comes_from : Comes s u p x also members t d → comes s u p x also members t d ≡ true
  unfolding comes
  comes_from c = rw (c.live, parent_from c.below) (way_from c.way)

-- a secret of a member is known, and so is a shared one
module _ (s : List ℕ) (p : Position) (members : ℕ) where
  pub known_shared : (i : ℕ) → bit (shared_secrets s (λ k. shared_any (slot p k))) i ≡ true → bit (known_from s p members) i ≡ true
  unfolding known_from
  known_shared i h = or_left (shared_secrets s (λ k. shared_any (slot p k))) _ i h

  pub known_member : (t i : ℕ) → t < count s → bit members t ≡ true → bit (secrets_of s t) i ≡ true → bit (known_from s p members) i ≡ true
  unfolding known_from shown_by
  known_member t i l m h =
      or_last (shared_secrets s (λ k. shared_any (slot p k))) (union_below (count s) (shown_by s members)) i
      (union_has (count s) (shown_by s members) i t l (rw m h))

-- what the others have, by its three parts
module _ (s : List ℕ) (p : Position) (x members t d i : ℕ) where
  pub have_keys : bit (others_keys s p x) i ≡ true → bit (others_have s p x members t d) i ≡ true
  unfolding sender_mask
  have_keys h = or_left (others_keys s p x) (bit_or (known_from s p members) (shared p t d)) i h

  pub have_known : bit (known_from s p members) i ≡ true → bit (others_have s p x members t d) i ≡ true
  unfolding sender_mask
  have_known h =
      or_last (others_keys s p x) (bit_or (known_from s p members) (shared p t d)) i (or_left (known_from s p members) (shared p t d) i h)

  pub have_shared : bit (shared p t d) i ≡ true → bit (others_have s p x members t d) i ≡ true
  unfolding sender_mask
  have_shared h =
      or_last (others_keys s p x) (bit_or (known_from s p members) (shared p t d)) i (or_last (known_from s p members) (shared p t d) i h)

-- a mask where a test holds, else none
pub picked_bit : (on : Bool) (m i : ℕ) → bit (pick on m 0) i ≡ true → (on ≡ true) × (bit m i ≡ true)
picked_bit true m i h = (refl, h)
picked_bit false m i h = clash h (no_bit i)

-- a larger set
module _ (s u : List ℕ) (ok : Checked s) (p : Position) (x : ℕ) (also : ℕ → Bool) (a b : ℕ)
    (within : (t : ℕ) → t < count s → bit a t ≡ true → bit b t ≡ true) where
  known_more : (i : ℕ) → bit (known_from s p a) i ≡ true → bit (known_from s p b) i ≡ true
  unfolding known_from shown_by
  known_more i h =
      either (or_bit (shared_secrets s (λ k. shared_any (slot p k))) (union_below (count s) (shown_by s a)) i h)
      (known_shared s p b i)
      (λ y.
      let w = union_bit (count s) (shown_by s a) i y in
      let z = picked_bit (bit a w.0) (secrets_of s w.0) i w.2 in
      known_member s p b w.0 i w.1 (within w.0 w.1 z.0) z.1)

  have_more : (t d i : ℕ) → bit (others_have s p x a t d) i ≡ true → bit (others_have s p x b t d) i ≡ true
  unfolding sender_mask
  have_more t d i h =
      either (or_bit (others_keys s p x) (bit_or (known_from s p a) (shared p t d)) i h)
      (have_keys s p x b t d i)
      (λ y.
      either (or_bit (known_from s p a) (shared p t d) i y)
      (λ z. have_known s p x b t d i (known_more i z))
      (have_shared s p x b t d i))

  signed_more : (t d : ℕ) → signed s (others_have s p x a t d) t ≡ true → signed s (others_have s p x b t d) t ≡ true
  unfolding signed
  signed_more t d h =
      subset_from (signatures s) (required s t) (others_have s p x b t d)
      (λ i l n. have_more t d i (subset_bit (signatures s) (required s t) (others_have s p x a t d) h i l n))

  way_more : (t d : ℕ) → Way s u p x also a t d → Way s u p x also b t d
  way_more t d (waits h) = waits h
  way_more t d (lent h k) = lent h k
  way_more t d (signs n k e h) = signs n k e (signed_more t d h)

  parent_more : (t : ℕ) → t < count s → Parent s p a t → Parent s p b t
  parent_more t l h =
      split (opening s t)
      inl
      (λ o.
      either h
      inl
      (λ y. inr (either y inl (λ z. inr (within (parent s t) (parent_below ok t l o) z)))))

  pub comes_more : (t d : ℕ) → t < count s → comes s u p x also a t d ≡ true → comes s u p x also b t d ≡ true
  comes_more t d l h =
      let c = comes_parts s u p x also a t d h in
      comes_from s u p x also b t d
      (record { live = c.live; below = parent_more t l c.below; way = way_more t d c.way })
