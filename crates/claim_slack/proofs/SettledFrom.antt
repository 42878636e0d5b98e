-- A position in which some entries of the block being filled count as confirmed, beside the one it is made from.
-- Assumes nothing.
use Rattle.laws.proofs.Prelude.{ℕ, ◌+◌, ◌<◌, ◌≡◌, refl, ◌∙◌, true, false, not, ◌&&◌, List, ◌⊎◌, inl, inr, eqb, ltb, eqb-false, ltb-true, ltb-false, eq-eqb, lt-ltb}
use Rattle.laws.proofs.Prelude.{arith, pick, split, either, clash, or_right, fails_by, bit, Bool}
use Rattle.position.proofs.Rules.{count, parent, opening, Checked, destinations, conflict, exposed_mask, in_pool, pool_to, in_block, block_to, block_of, is_confirmed, confirmed_to}
use Rattle.position.specs.declared.Position.{Position}
use Rattle.position.proofs.Rules.{shared}
use Rattle.position.specs.Position as at
use Rattle.slots.proofs.Conflicts.{conflict_self, conflict_sym}
use Rattle.slots.proofs.Ancestors.{Above, up, above_le}
use Rattle.slots.proofs.Parents.{parent_lower}
use Rattle.step_laws.proofs.AfterBlocks.{out_block}
use Rattle.claim_ledger.proofs.Sound.{Sound}
use Rattle.claim_ledger.proofs.EachKind.{wide}
use Rattle.claim_ledger.proofs.BumpedBlock.{settled_up, waits_up}
use Rattle.attainable.specs.Attainable.{gone, waits_for}
use Rattle.claim_attainable.proofs.Alive.{has_block}
use Rattle.slack.proofs.Dead.{gone_confirmed, gone_met, gone_find}

-- p' is p with the entries of `set` confirmed in the next block for their destinations, and what they show shared
pub record SettledFrom (s : List ℕ) (p p' : Position) (set : ℕ → Bool) : Type 0 where
  pub mined : p'.mined ≡ p.mined
  pub keys : (y : ℕ) → at.keys p' y ≡ at.keys p y
  pub pool : (t : ℕ) → in_pool p' t ≡ in_pool p t
  pub pool_to_lem : (t : ℕ) → pool_to p' t ≡ pool_to p t
  pub there : (t : ℕ) → set t ≡ true → in_block p t ≡ true
  pub blocks : (t : ℕ) → block_of p' t ≡ pick (set t) (p.mined + 1) (block_of p t)
  pub to : (t : ℕ) → confirmed_to p' t ≡ pick (set t) (block_to p t) (confirmed_to p t)
  pub block : (t : ℕ) → in_block p' t ≡ (in_block p t && not (set t))
  pub block_to_lem : (t : ℕ) → set t ≡ false → block_to p' t ≡ block_to p t
  pub kept : (t d i : ℕ) → d < destinations → bit (shared p t d) i ≡ true → bit (shared p' t d) i ≡ true
  pub shows : (t i : ℕ) → set t ≡ true → block_to p t < destinations → bit (exposed_mask s t) i ≡ true → bit (shared p' t (block_to p t)) i ≡ true
  pub from : (t d i : ℕ) → d < destinations → bit (shared p' t d) i ≡ true
      → (bit (shared p t d) i ≡ true) ⊎ ((set t ≡ true) × (block_to p t ≡ d) × (bit (exposed_mask s t) i ≡ true))

-- what is not gone is not confirmed, and neither is its parent gone unless that is confirmed
module _ (s : List ℕ) (p : Position) (t : ℕ) (live : gone s p t ≡ false) where
  pub live_open : is_confirmed p t ≡ false
  live_open = fails_by (is_confirmed p t) (λ c. clash (gone_confirmed s p t c) live)

  pub parent_live : Checked s → t < count s → opening s t ≡ false → is_confirmed p (parent s t) ≡ false → gone s p (parent s t) ≡ false
  parent_live ok l o n =
      fails_by (gone s p (parent s t))
      (λ h.
      let z = gone_find s p (parent s t) h n in
      clash (gone_met s p z.0 t z.1 (up (parent_lower ok t l o) z.2) z.3 z.4 z.5 z.6) live)

-- in the block being filled, or confirmed
abbrev pub Placed : Position → ℕ → Type 0
Placed p t = (in_block p t ≡ true) ⊎ (0 < block_of p t)

module _ (s u : List ℕ) (ok : Checked s) (p : Position) (g : Sound s u p) where
  placed_up : {y t : ℕ} → Above s y t → t < count s → Placed p t → Placed p y
  placed_up a l (inl i) = waits_up ok g.settled g.block a l i
  placed_up a l (inr c) = inr (settled_up ok g.settled a l c)

  placed_alone : (y k : ℕ) → y < count s → k < count s → Placed p y → Placed p k → conflict s k y ≡ true → k ≡ y
  placed_alone y k l m (inl i) (inl j) c = g.block.alone y k l m i j c
  placed_alone y k l m (inl i) (inr b) c = absurd (omega (arith, g.block.free y k l m i c, b))
  placed_alone y k l m (inr a) (inl j) c = absurd (omega (arith, g.block.free k y m l j (conflict_sym s k y c), a))
  placed_alone y k l m (inr a) (inr b) c = g.settled.alone y k l m a b c

  -- what is placed is not dead in a position whose confirmed ones are placed too
  pub placed_live : (r : Position) → ((k : ℕ) → k < count s → is_confirmed r k ≡ true → Placed p k) → (t : ℕ) → t < count s → Placed p t
      → is_confirmed r t ≡ false → gone s r t ≡ false
  placed_live r f t l i n =
      fails_by (gone s r t)
      (λ h.
      let z = gone_find s r t h n in
      eqb-false z.1 z.0 z.6
      (placed_alone z.0 z.1 (omega (arith, above_le z.2, l)) z.3 (placed_up z.2 l i) (f z.1 z.3 z.5) z.4))

  module _ (p' : Position) (set : ℕ → Bool) (k : SettledFrom s p p' set) where
    pub settled_confirmed : (t : ℕ) → set t ≡ true → is_confirmed p' t ≡ true
    unfolding is_confirmed
    settled_confirmed t y = rw (k.blocks t, y) (lt-ltb 0 (p.mined + 1) (omega arith))

    pub still_confirmed : (t : ℕ) → is_confirmed p t ≡ true → is_confirmed p' t ≡ true
    unfolding is_confirmed
    still_confirmed t h = split (set t) (settled_confirmed t) (λ n. rw (k.blocks t, n) h)

    pub confirmed_by : (t : ℕ) → is_confirmed p' t ≡ true → (is_confirmed p t ≡ true) ⊎ (set t ≡ true)
    unfolding is_confirmed
    confirmed_by t h = split (set t) inr (λ n. inl (rw (k.blocks t, n) at h))

    pub placed_by : (t : ℕ) → is_confirmed p' t ≡ true → Placed p t
    placed_by t h = either (confirmed_by t h) (λ c. inr (has_block p t c)) (λ y. inl (k.there t y))

    -- an entry of the block is not confirmed
    pub block_low : (t : ℕ) → in_block p t ≡ true → t < count s
    block_low t i =
        split (ltb t (count s))
        (ltb-true t (count s))
        (λ y. clash i (out_block s p (wide s u ok p g) g.beyond t (ltb-false t (count s) y)))

    pub block_open : (t : ℕ) → in_block p t ≡ true → block_of p t ≡ 0
    block_open t i = let l = block_low t i in g.block.free t t l l i (conflict_self s t)

    -- it waits there still, or is settled
    pub waits_still : (t : ℕ) → in_block p t ≡ true → is_confirmed p' t ≡ false → waits_for p' t (block_to p t) ≡ true
    unfolding waits_for
    waits_still t i c =
        let n : set t ≡ false = fails_by (set t) (λ y. clash (settled_confirmed t y) c) in
        or_right (in_pool p' t && eqb (pool_to p' t) (block_to p t)) _ (rw (k.block t, i, n, k.block_to_lem t n, eq-eqb (block_to p t) (block_to p t) refl))

    -- each block stays, or is new
    pub new_blocks : (t : ℕ) → (block_of p' t ≡ block_of p t) ⊎ ((block_of p t ≡ 0) × (p.mined < block_of p' t))
    new_blocks t =
        split (set t)
        (λ y. inr (block_open t (k.there t y), rw (k.blocks t, y) (omega arith)))
        (λ y. inl (k.blocks t ∙ rw y))
