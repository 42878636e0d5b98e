-- The attainable set is the least closed one: growing keeps what there is, and as many rounds as there are transactions suffice.
-- Assumes nothing.
use Rattle.laws.proofs.Prelude.{ℕ, zero, suc, ◌≤◌, ◌<◌, ◌≡◌, sym, ◌∙◌, Bool, true, not, ◌&&◌, List, ◌⊎◌, inl, inr, not-true, arith, split, either, clash, and_parts}
use Rattle.laws.proofs.Prelude.{any_below, any_some, any_none, any_found, bit, no_bit, set_below, set_bit, set_same, none_set}
use Rattle.position.proofs.Rules.{count, Checked, destinations}
use Rattle.position.specs.declared.Position.{Position}
use Rattle.attainable.specs.Attainable.{comes, grown, rounds, attainable, Closed, Least}
use Rattle.attainable.proofs.Masks.{size, size_grows, size_all}
use Rattle.attainable.proofs.Parts.{comes_more}

module _ (s u : List ℕ) (ok : Checked s) (p : Position) (x : ℕ) (also : ℕ → Bool) where
  abbrev Within : ℕ → ℕ → Type 0
  Within a b = (t : ℕ) → t < count s → bit a t ≡ true → bit b t ≡ true

  grow : ℕ → ℕ
  grow members = grown s u p x also members

  -- a member of the grown set comes, for some destination
  grown_some : (members t : ℕ) → t < count s → bit (grow members) t ≡ true → (d : ℕ) × (d < destinations) × (comes s u p x also members t d ≡ true)
  unfolding grow grown
  grown_some members t l h =
      any_some destinations (comes s u p x also members t)
      (sym (set_bit (count s) (λ k. any_below destinations (comes s u p x also members k)) ok.sized.few t l) ∙ h)

  grown_has : (members t d : ℕ) → t < count s → d < destinations → comes s u p x also members t d ≡ true → bit (grow members) t ≡ true
  unfolding grow grown
  grown_has members t d l m h =
      set_bit (count s) (λ k. any_below destinations (comes s u p x also members k)) ok.sized.few t l
      ∙ any_found destinations d (comes s u p x also members t) m h

  grown_more : (a b : ℕ) → Within a b → Within (grow a) (grow b)
  grown_more a b w t l h =
      let z = grown_some a t l h in
      grown_has b t z.0 l z.1 (comes_more s u ok p x also a b w t z.0 l z.2)

  -- a set that the grown one is within is closed, and then the grown one is closed too
  closed_by : (members : ℕ) → Within (grow members) members → Closed s u p x also members
  closed_by members w t l d m h = w t l (grown_has members t d l m h)

  within_closed : (members : ℕ) → Closed s u p x also members → Within (grow members) members
  within_closed members c t l h = let z = grown_some members t l h in c t l z.0 z.1 z.2

  round : ℕ → ℕ
  round k = rounds s u p x also k

  round_more : (k : ℕ) → Within (round k) (round (suc k))
  unfolding round rounds grow
  round_more zero = λ t l h. clash h (no_bit t)
  round_more (suc k) = grown_more (round k) (round (suc k)) (round_more k)

  -- each round adds a member, or the set is closed
  missing : ℕ → ℕ → Bool
  missing members t = bit (grow members) t && not (bit members t)

  next_closed : (k : ℕ) → Within (round (suc k)) (round k) → Within (round (suc (suc k))) (round (suc k))
  unfolding round rounds grow
  next_closed k w = grown_more (round (suc k)) (round k) w

  grows : (k : ℕ) → (k ≤ size (count s) (bit (round k))) ⊎ Within (round (suc k)) (round k)
  unfolding round rounds grow missing
  grows zero = inl (omega arith)
  grows (suc k) =
      either (grows k)
      (λ h.
      split (any_below (count s) (missing (round k)))
      (λ y.
      let w = any_some (count s) (missing (round k)) y in
      let z = and_parts (bit (round (suc k)) w.0) (not (bit (round k) w.0)) w.2 in
      let m = size_grows (count s) (bit (round k)) (bit (round (suc k))) (round_more k) w.0 w.1 (not-true (bit (round k) w.0) z.1) z.0 in
      inl (omega (arith, h, m)))
      (λ y.
      inr
      (next_closed k
      (λ t l b.
      split (bit (round k) t)
      (λ e. e)
      (λ e. clash {b = missing (round k) t} (rw (b, e)) (any_none (count s) (missing (round k)) y t l))))))
      (λ w. inr (next_closed k w))

  closes : Within (round (suc (count s))) (round (count s))
  closes =
      either (grows (count s))
      (λ h t l b. size_all (count s) (bit (round (count s))) h t l)
      (λ w. w)

  -- every round is within every closed set
  inside : (members : ℕ) → Closed s u p x also members → (k : ℕ) → Within (round k) members
  unfolding round rounds grow
  inside members c zero t l h = clash h (no_bit t)
  inside members c (suc k) t l h = within_closed members c t l (grown_more (round k) members (inside members c k) t l h)

  pub least : Least s u p x also
  unfolding attainable round rounds grow
  least = record { closed = closed_by (round (count s)) closes; least = λ members c. inside members c (count s) }

  -- a member of it comes by it, for some destination
  pub attained_comes : (t : ℕ) → t < count s → bit (attainable s u p x also) t ≡ true
      → (d : ℕ) × (d < destinations) × (comes s u p x also (attainable s u p x also) t d ≡ true)
  unfolding attainable round rounds grow
  attained_comes t l h = grown_some (round (count s)) t l (round_more (count s) t l h)

  -- it has no bits but those of transactions
  round_set : (k : ℕ) → round k ≡ set_below (count s) (bit (round k))
  unfolding round rounds grow grown
  round_set zero = sym (none_set (count s) (bit 0) (λ k l. no_bit k))
  round_set (suc k) =
      let came : ℕ → Bool = λ t. any_below destinations (comes s u p x also (round k) t) in
      set_same (count s) came (bit (set_below (count s) came)) (λ t l. sym (set_bit (count s) came ok.sized.few t l))

  pub attained_set : attainable s u p x also ≡ set_below (count s) (bit (attainable s u p x also))
  unfolding attainable round
  attained_set = round_set (count s)
