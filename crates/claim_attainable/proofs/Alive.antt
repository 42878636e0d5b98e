-- What stands is not dead, and what is gone stays gone.
-- Assumes nothing.
use Rattle.laws.proofs.Prelude.{ℕ, ◌<◌, ◌≡◌, Bool, true, false, not, ◌&&◌, ◌||◌, List, ◌⊎◌, eqb-false, ltb-true, arith, either, clash, and_parts, or_parts, fails_by}
use Rattle.position.proofs.Rules.{count, parent, opening, per_day, Checked, conflict, meets_other, invalidated, in_pool, in_block, block_of, is_confirmed}
use Rattle.position.specs.declared.Position.{Position}
use Rattle.slots.proofs.Ancestors.{Above, here, up, above_le, other_find}
use Rattle.slots.proofs.Parents.{parent_has}
use Rattle.claim_ledger.proofs.Sound.{Waits, Sound}
use Rattle.claim_ledger.proofs.BumpedBlock.{settled_up, waits_up}
use Rattle.claim_outage.proofs.Play.{LaterIn}
use Rattle.attainable.specs.Attainable.{gone}
use Rattle.claim_attainable.proofs.Actors.{There, pool, block, chain}

pub has_block : (p : Position) (t : ℕ) → is_confirmed p t ≡ true → 0 < block_of p t
unfolding is_confirmed
has_block p t h = ltb-true 0 (block_of p t) h

-- confirmed before, confirmed later
pub stays : (s : List ℕ) (p q : Position) → LaterIn s p q → (t : ℕ) → t < count s → 0 < block_of p t → 0 < block_of q t
stays s p q later t l h = either (later.blocks t l) (λ e. rw e h) (λ y. omega (arith, h, y.0))

module _ (s u : List ℕ) (ok : Checked s) (q : Position) (g : Sound s u q) where
  -- no other rival of what is above one that waits, or is confirmed, is confirmed
  waits_free : (members : ℕ → Bool) → Waits s (per_day u) members (block_of q) q.mined → {y t : ℕ} → Above s y t → t < count s → members t ≡ true
      → (k : ℕ) → k < count s → conflict s k y ≡ true → 0 < block_of q k → k ≡ y
  waits_free members w {y} {t} r l h k n c b =
      let low : y < count s = omega (arith, above_le r, l) in
      either (waits_up ok g.settled w r l h)
      (λ z. absurd (omega (arith, w.free y k low n z c, b)))
      (λ z. g.settled.alone y k low n z b c)

  pub there_free : {y t : ℕ} → Above s y t → t < count s → There q t → (k : ℕ) → k < count s → conflict s k y ≡ true → 0 < block_of q k → k ≡ y
  there_free r l (pool h) k n c b = waits_free (in_pool q) g.pool r l h k n c b
  there_free r l (block h) k n c b = waits_free (in_block q) g.block r l h k n c b
  there_free {y} r l (chain h) k n c b =
      let low : y < count s = omega (arith, above_le r, l) in
      g.settled.alone y k low n (settled_up ok g.settled r l (has_block q _ h)) b c

  -- no other rival of t's line is confirmed, where none of t's own is and its parent stands
  line_free : {y t : ℕ} → Above s y t → t < count s → ((k : ℕ) → k < count s → conflict s k t ≡ true → block_of q k ≡ 0) → (opening s t ≡ true) ⊎ There q (parent s t)
      → (k : ℕ) → k < count s → conflict s k y ≡ true → 0 < block_of q k → k ≡ y
  line_free here l free above k n c b = absurd (omega (arith, free k n c, b))
  line_free {y} {t} (up a r) l free above k n c b =
      either above
      (λ o. clash o (parent_has ok t l a))
      (λ w. there_free r (omega arith) w k n c b)

  module _ (p : Position) (later : LaterIn s p q) (t : ℕ) (l : t < count s) where
    -- so t was not gone in an earlier position
    pub not_gone : block_of q t ≡ 0 → ((y : ℕ) → Above s y t → (k : ℕ) → k < count s → conflict s k y ≡ true → 0 < block_of q k → k ≡ y) → gone s p t ≡ false
    unfolding gone invalidated
    not_gone new free =
        fails_by (is_confirmed p t || (not (is_confirmed p t) && meets_other s (is_confirmed p) t))
        (λ h.
        either (or_parts (is_confirmed p t) (not (is_confirmed p t) && meets_other s (is_confirmed p) t) h)
        (λ c. omega (arith, stays s p q later t l (has_block p t c), new))
        (λ y.
        let f = other_find s (is_confirmed p) t (and_parts (not (is_confirmed p t)) (meets_other s (is_confirmed p) t) y).1 in
        let now = stays s p q later f.1 f.3 (has_block p f.1 f.5) in
        eqb-false f.1 f.0 f.6 (free f.0 f.2 f.1 f.3 f.4 now)))

    pub sent_alive : ((k : ℕ) → k < count s → conflict s k t ≡ true → block_of q k ≡ 0) → block_of q t ≡ 0 → (opening s t ≡ true) ⊎ There q (parent s t) → gone s p t ≡ false
    sent_alive free new above = not_gone new (λ y r k n c b. line_free r l free above k n c b)

    pub there_alive : block_of q t ≡ 0 → There q t → gone s p t ≡ false
    there_alive new w = not_gone new (λ y r k n c b. there_free r l w k n c b)
