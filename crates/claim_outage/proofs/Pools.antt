-- Entries keep their destination while they stand, in the pool or confirmed, and without stealth the block being filled is of pool entries.
-- Assumes nothing.
use Rattle.laws.proofs.Prelude.{ℕ, ◌<◌, ◌≡◌, refl, sym, ◌∙◌, true, false, not, ◌&&◌, ◌||◌, false≢true, List, [], ◌∷◌, ◌⊎◌, inl, inr, eqb, ltb, length, eqb-true, ltb-true}
use Rattle.laws.proofs.Prelude.{not-true, arith, split, either, clash, and_parts, or_parts, or_neither, passed}
use Rattle.position.proofs.Rules.{count, sheet_refusal, setup_refusal, stealth, Checked, Step, Share, Give, SendToPool, HandToMiner, Include, Mine, Bump, miner, contract}
use Rattle.position.proofs.Rules.{destination_number, meets_conflict, invalidated, start, in_pool, pool_to, in_block, block_to, block_of, is_confirmed, confirmed_to, sent, fields_right}
use Rattle.position.specs.declared.Position.{Position}
use Rattle.position.proofs.Rules.{enters, send_tests, pool_tests, miner_tests, include_tests, step_refusal, after_share, after_give, after_send, leaves_pool, after_mine, after_bump}
use Rattle.position.proofs.Rules.{effect, FourBytes, step, play}
use Rattle.sheet.proofs.Theorems.{sheet_checked}
use Rattle.slots.proofs.Conflicts.{conflict_self, no_conflict_lem}
use Rattle.position.specs.StepRefusal.{tests}
use Rattle.position.proofs.Starts.{start_slot}
use Rattle.position.proofs.StepCases.{StepCase, taken, turned_down, step_case}
use Rattle.step_laws.proofs.Untouched.{SamePool, SameBlock, SameConfirmed}
use Rattle.step_laws.proofs.AfterShares.{share_pool, share_block, share_confirmed, give_pool, give_block, give_confirmed}
use Rattle.step_laws.proofs.AfterSends.{send_pool, send_to, send_block, send_confirmed, hand_pool, hand_confirmed, include_block, include_to, include_pool, include_confirmed}
use Rattle.step_laws.proofs.AfterBlocks.{none_stands, mine_to, mine_block, mine_pool, mine_pool_to, bump_block, bump_to_entered, bump_to_kept, bump_pool, bump_confirmed, enters_in_lem}
use Rattle.step_laws.proofs.Sending.{sent_to_pool}
use Rattle.claim_ledger.proofs.Sound.{Sound}
use Rattle.claim_ledger.proofs.EachKind.{wide}
use Rattle.claim_ledger.proofs.PoolLeft.{mined_confirmed, left_by}
use Rattle.claim_ledger.proofs.SoundSteps.{sound_step}
use Rattle.claim_outage.proofs.Play.{later_step}

-- each entry of p's pool is one of q's
abbrev pub PoolIn : Position → Position → Type 0
PoolIn p q = (t : ℕ) → in_pool p t ≡ true → (in_pool q t ≡ true) × (pool_to q t ≡ pool_to p t)

-- each entry of p's block is one of q's pool
abbrev BlockIn : List ℕ → Position → Position → Type 0
BlockIn s p q = (t : ℕ) → t < count s → in_block p t ≡ true → (in_pool q t ≡ true) × (pool_to q t ≡ block_to p t)

-- without stealth each block entry is one of the pool
abbrev pub Pooled : List ℕ → List ℕ → Position → Type 0
Pooled s u p = stealth u ≡ 0 → BlockIn s p p

same_in : (p q : Position) → SamePool p q → PoolIn p q
same_in p q a t h = (rw a.there h, rw a.to)

module _ (s u : List ℕ) (ok : Checked s) (p : Position) (g : Sound s u p) where
  -- what is sent was not in the pool
  module _ (party t : ℕ) (to : _) (f : fields_right s u (SendToPool party t to) ≡ true) (r : step_refusal s u p (SendToPool party t to) ≡ 0) where
    outside : in_pool p t ≡ false
    unfolding step_refusal tests pool_tests send_tests sent
    outside =
        let low = (sent_to_pool s u p party t to f r).low in
        let test = passed (tests s u p (SendToPool party t to)) refl r 14 in
        (or_neither (in_pool p t) (is_confirmed p t) (no_conflict_lem s (sent p) t test t low (conflict_self s t))).0

    room : t < length p.slots
    room = let low = (sent_to_pool s u p party t to f r).low in omega (arith, wide s u ok p g, low)

    send_in : PoolIn p (effect s p (SendToPool party t to))
    unfolding effect
    send_in k h =
        let d = destination_number to in
        split (eqb k t)
        (λ e. clash h (rw (eqb-true k t e) outside))
        (λ e. (rw (send_pool s t d p room, e) h, rw (send_to s t d p room, e)))

  -- every step keeps the pool entries, but for a mined block
  pub pool_in : (y : Step) → fields_right s u y ≡ true → step_refusal s u p y ≡ 0 → PoolIn p (effect s p y) ⊎ (effect s p y ≡ after_mine s p)
  unfolding effect
  pool_in (Share party t to) f r = inl (same_in p _ (share_pool s party t (destination_number to) p))
  pool_in (Give party i to) f r = inl (same_in p _ (give_pool i (destination_number to) p))
  pool_in (SendToPool party t to) f r = inl (send_in party t to f r)
  pool_in (HandToMiner party t to) f r = inl (same_in p _ (hand_pool t (destination_number to) p))
  pool_in (Include party t to) f r = inl (same_in p _ (include_pool t p))
  pool_in (Mine party t to) f r = inr refl
  pool_in (Bump party t to) f r = inl (same_in p _ (bump_pool s p (wide s u ok p g) g.beyond t))

  -- a mined block takes those from the pool that are confirmed or dead afterwards
  pub mine_in : (t : ℕ) → in_pool p t ≡ true → is_confirmed (after_mine s p) t ≡ false → invalidated s (is_confirmed (after_mine s p)) t ≡ false
      → (in_pool (after_mine s p) t ≡ true) × (pool_to (after_mine s p) t ≡ pool_to p t)
  mine_in t h c d =
      let q = after_mine s p in
      let there : in_pool q t ≡ true =
      split (in_pool q t)
      (λ y. y)
      (λ y.
      let b : (in_block p t || false) ≡ true = sym (rw (y, d) at (left_by s u ok p g t h)) in
      either (or_parts (in_block p t) false b) (λ z. clash (mined_confirmed s u ok p g t z) c) (λ z. absurd (false≢true z))) in
      let w = and_parts (in_pool p t) (not (leaves_pool s (in_block p) t)) (rw (mine_pool s p (wide s u ok p g) g.beyond) at there) in
      (there, mine_pool_to s p (wide s u ok p g) g.beyond t (not-true (leaves_pool s (in_block p) t) w.1))

  -- every step keeps what is confirmed, and for whom
  same_chain : (y : Step) → fields_right s u y ≡ true → step_refusal s u p y ≡ 0 → SameConfirmed p (effect s p y) ⊎ (effect s p y ≡ after_mine s p)
  unfolding effect
  same_chain (Share party t to) f r = inl (share_confirmed s party t (destination_number to) p)
  same_chain (Give party i to) f r = inl (give_confirmed i (destination_number to) p)
  same_chain (SendToPool party t to) f r = inl (send_confirmed s t (destination_number to) p)
  same_chain (HandToMiner party t to) f r = inl (hand_confirmed t (destination_number to) p)
  same_chain (Include party t to) f r = inl (include_confirmed t p)
  same_chain (Mine party t to) f r = inr refl
  same_chain (Bump party t to) f r = inl (bump_confirmed s p (wide s u ok p g) g.beyond t)

  to_mined : (t : ℕ) → t < count s → 0 < block_of p t → confirmed_to (after_mine s p) t ≡ confirmed_to p t
  to_mined t l c =
      split (in_block p t)
      (λ b. absurd (omega (arith, c, g.block.free t t l l b (conflict_self s t))))
      (λ b. rw (mine_to s p (wide s u ok p g) g.beyond, b))

  to_case : (b : FourBytes) → StepCase s u p b → (t : ℕ) → t < count s → 0 < block_of p t → confirmed_to (step s u p b).position t ≡ confirmed_to p t
  to_case b (taken y d f r e) t l c = rw e (either (same_chain y f r) (λ z. rw z.to) (λ z. rw z (to_mined t l c)))
  to_case b (turned_down n m e) t l c = rw e

  module _ (e : stealth u ≡ 0) (in_pool_lem : BlockIn s p p) where
    same_from : (q : Position) → SameBlock p q → BlockIn s q p
    same_from q b t l h =
        let w = in_pool_lem t l (rw b.there at h) in
        (w.0, rw b.to w.1)

    no_hand_in : (party t : ℕ) (to : _) → step_refusal s u p (HandToMiner party t to) ≡ 0 → ⊥
    unfolding step_refusal tests miner_tests send_tests
    no_hand_in party t to r =
        let b = eqb-true (stealth u) 1 (passed (tests s u p (HandToMiner party t to)) refl r 12) in
        omega (arith, e, b)

    -- an included entry has its destination from the pool
    include_from : (party t : ℕ) (to : _) → fields_right s u (Include party t to) ≡ true → step_refusal s u p (Include party t to) ≡ 0
        → BlockIn s (effect s p (Include party t to)) p
    unfolding effect step_refusal tests include_tests fields_right
    include_from party t to f r k l h =
        let there = passed (tests s u p (Include party t to)) refl r 19 in
        let d = eqb (destination_number to) contract in
        let low = ltb-true t (count s) (and_parts (ltb t (count s)) d (and_parts (eqb party miner) (ltb t (count s) && d) f).1).0 in
        let room : t < length p.slots = omega (arith, wide s u ok p g, low) in
        split (eqb k t)
        (λ y. (rw (eqb-true k t y) there, rw (include_to t p room, y)))
        (λ y.
        let w = in_pool_lem k l (rw (include_block t p room there, y) at h) in
        (w.0, rw (include_to t p room, y) w.1))

    bump_from : (t : ℕ) → BlockIn s (after_bump s t p) p
    bump_from t k l h =
        let few = wide s u ok p g in
        split (enters s p t k)
        (λ y. (enters_in_lem s p few g.beyond t k y, sym (bump_to_entered s p few g.beyond t k y)))
        (λ y.
        let w = and_parts (in_block p k) (not (meets_conflict s (enters s p t) k)) (rw (bump_block s p few g.beyond t, y) at h) in
        let z = in_pool_lem k l w.0 in
        (z.0, rw (bump_to_kept s p few g.beyond t k y (not-true (meets_conflict s (enters s p t) k) w.1)) z.1))

    -- each entry of the block after a step was one of the pool before it
    block_from_lem : (y : Step) → fields_right s u y ≡ true → step_refusal s u p y ≡ 0 → BlockIn s (effect s p y) p
    unfolding effect
    block_from_lem (Share party t to) f r =
        let d = destination_number to in
        same_from (after_share s party t d p) (share_block s party t d p)
    block_from_lem (Give party i to) f r =
        let d = destination_number to in
        same_from (after_give i d p) (give_block i d p)
    block_from_lem (SendToPool party t to) f r =
        let d = destination_number to in
        same_from (after_send s t d p) (send_block s t d p)
    block_from_lem (HandToMiner party t to) f r = absurd (no_hand_in party t to r)
    block_from_lem (Include party t to) f r = include_from party t to f r
    block_from_lem (Mine party t to) f r = λ k l h. absurd (false≢true (rw (mine_block s p (wide s u ok p g) g.beyond) at h))
    block_from_lem (Bump party t to) f r = bump_from t

    pooled_after : (y : Step) → fields_right s u y ≡ true → step_refusal s u p y ≡ 0 → BlockIn s (effect s p y) (effect s p y)
    pooled_after y f r k l h =
        let w = block_from_lem y f r k l h in
        either (pool_in y f r)
        (λ a. let z = a k w.0 in (z.0, z.1 ∙ w.1))
        (λ e. absurd (false≢true (rw (e, mine_block s p (wide s u ok p g) g.beyond) at h)))

  pub came_pooled : Pooled s u p → (b : FourBytes) → stealth u ≡ 0 → BlockIn s (step s u p b).position p
  came_pooled w b z = by (step_case s u p b)
    where
      by : StepCase s u p b → BlockIn s (step s u p b).position p
      by (taken y d f r e) = rw e (block_from_lem z (w z) y f r)
      by (turned_down n m e) = rw e (w z)

  pooled_case : Pooled s u p → (b : FourBytes) → StepCase s u p b → Pooled s u (step s u p b).position
  pooled_case w b (taken y d f r e) z = rw e (pooled_after z (w z) y f r)
  pooled_case w b (turned_down n m e) z = rw e (w z)

module _ (s u : List ℕ) (h : sheet_refusal s ≡ 0) (k : setup_refusal s u ≡ 0) where
  pub pooled_play : (bs : List FourBytes) (p : Position) → Sound s u p → Pooled s u p → Pooled s u (play s u bs p)
  unfolding play
  pooled_play [] p g w = w
  pooled_play (b ∷ bs) p g w =
      pooled_play bs (step s u p b).position (sound_step s u h k p b g) (pooled_case s u (sheet_checked s h) p g w b (step_case s u p b))

  -- what is confirmed stays so for whom it is
  pub to_play : (bs : List FourBytes) (p : Position) → Sound s u p → (t : ℕ) → t < count s → 0 < block_of p t → confirmed_to (play s u bs p) t ≡ confirmed_to p t
  unfolding play
  to_play [] p g t l c = refl
  to_play (b ∷ bs) p g t l c =
      let q = (step s u p b).position in
      let stays : 0 < block_of q t = either ((later_step s u h k p b g).blocks t l) (λ e. rw e c) (λ e. absurd (omega (arith, c, e.0))) in
      to_play bs q (sound_step s u h k p b g) t l stays ∙ to_case s u (sheet_checked s h) p g b (step_case s u p b) t l c

pub pooled_start : (s u : List ℕ) → Pooled s u (start s)
unfolding in_block
pooled_start s u z t l h = absurd (false≢true (rw (start_slot s t, none_stands) at h))
