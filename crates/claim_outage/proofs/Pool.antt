-- Pool entries: before their deadline; and where the parent is confirmed or there is none, in the pool until they or a rival are confirmed.
-- Assumes nothing.
use Rattle.laws.proofs.Prelude.{ℕ, ◌+◌, ◌≤◌, ◌<◌, ◌≡◌, refl, sym, ap, ◌∙◌, true, false, not, false≢true, List, [], ◌∷◌, ◌⊎◌, inl, inr, eqb, ltb, eqb-true, eqb-false}
use Rattle.laws.proofs.Prelude.{ltb-true, ltb-false, not-true, arith, split, either, clash, and_parts, or_parts, or_neither}
use Rattle.position.proofs.Rules.{count, parent, opening, lock_height, sheet_refusal, per_day, stealth, setup_refusal, Checked, Step, Share, Give, SendToPool, HandToMiner, Include}
use Rattle.position.proofs.Rules.{Mine, Bump, destination_number, conflict, meets_other, start, in_pool, pool_to, in_block, block_to, is_confirmed, confirmed_to, block_of, lock_height_in, deadline_in}
use Rattle.position.specs.declared.Position.{Position}
use Rattle.position.proofs.Rules.{fields_right, any_owed, step_refusal, leaves_pool, after_mine, effect, FourBytes, step, play}
use Rattle.sheet.proofs.Theorems.{sheet_checked, setup_checked}
use Rattle.slots.proofs.Parents.{parent_below}
use Rattle.slots.proofs.Conflicts.{conflict_self, conflict_opening, conflict_parent}
use Rattle.slots.proofs.Ancestors.{other_find}
use Rattle.slots.proofs.Deadlines.{deadline_opening}
use Rattle.slots.proofs.Since.{lock_height_since, deadline_since}
use Rattle.position.proofs.StepCases.{StepCase, taken, turned_down, step_case}
use Rattle.position.proofs.Starts.{start_slot}
use Rattle.step_laws.proofs.AfterShares.{share_pool, give_pool}
use Rattle.step_laws.proofs.AfterSends.{send_pool, hand_pool, include_pool}
use Rattle.step_laws.proofs.AfterBlocks.{none_stands, mine_blocks, mine_to, mine_pool, mine_pool_to, mine_mined, bump_pool}
use Rattle.step_laws.proofs.Sending.{sent_to_pool, before_deadline}
use Rattle.step_laws.proofs.Quiet.{Quiet, lasting}
use Rattle.claim_ledger.proofs.Sound.{Sound}
use Rattle.claim_ledger.proofs.PoolLeft.{mined_confirmed}
use Rattle.claim_ledger.proofs.Standing.{Stands, met_at, not_owed}
use Rattle.claim_ledger.proofs.SoundSteps.{sound_step}
use Rattle.claim_outage.specs.Claim.{Fate, waits, done, replaced, ousted}
use Rattle.claim_outage.proofs.Pools.{PoolIn, Pooled, pool_in, to_play, pooled_play}
use Rattle.soonest.specs.Soonest.{lock_at}
use Rattle.soonest.proofs.Locks.{lock_is_lem, rival_lock, lock_after, lock_reached}
use Rattle.soonest.proofs.Deadlines.{deadline_le, deadline_from}
use Rattle.claim_outage.proofs.Play.{LaterIn, later_step, later_play}
use Rattle.claim_ledger.proofs.EachKind.{wide}

-- every pool entry is before its deadline
abbrev pub Early : List ℕ → List ℕ → Position → Type 0
Early s u p = (t : ℕ) → t < count s → in_pool p t ≡ true → p.mined < deadline_in s u p t

-- no block changes an opening's deadline
never_now : (s u : List ℕ) (p q : Position) (t : ℕ) → opening s t ≡ true → deadline_in s u q t ≡ deadline_in s u p t
unfolding deadline_in
never_now s u p q t o = sym (deadline_opening s (per_day u) (block_of q) t o) ∙ deadline_opening s (per_day u) (block_of p) t o

-- a rival or t itself has the same lock height, and t the same deadline, with the parent in the same block
module _ (s u : List ℕ) (p q : Position) (t : ℕ) (e : block_of q (parent s t) ≡ block_of p (parent s t)) where
  same_lock : (k : ℕ) → conflict s k t ≡ true → lock_height_in s u q k ≡ lock_height_in s u p k
  unfolding lock_height_in
  same_lock k c =
      lock_height_since s (per_day u) (block_of q) (block_of p (parent s t)) k (ap (block_of q) (conflict_parent s k t c) ∙ e)
      ∙ sym (lock_height_since s (per_day u) (block_of p) (block_of p (parent s t)) k (ap (block_of p) (conflict_parent s k t c)))

  same_deadline : deadline_in s u q t ≡ deadline_in s u p t
  unfolding deadline_in
  same_deadline =
      deadline_since s (per_day u) (block_of q) (block_of p (parent s t)) t e
      ∙ sym (deadline_since s (per_day u) (block_of p) (block_of p (parent s t)) t refl)

-- where it stands, all of this lasts
module _ (s u : List ℕ) (ok : Checked s) (p q : Position) (later : LaterIn s p q) (t : ℕ) (l : t < count s) (at : Stands s p t) where
  parent_kept : opening s t ≡ false → (0 < block_of p (parent s t)) × (block_of q (parent s t) ≡ block_of p (parent s t))
  parent_kept o =
      either at
      (λ y. clash y o)
      (λ y. (y, either (later.blocks (parent s t) (parent_below ok t l o)) (λ z. z) (λ z. absurd (omega (arith, z.0)))))

  pub stands_on : Stands s q t
  stands_on = split (opening s t) inl (λ o. let w = parent_kept o in inr (rw w.1 w.0))

  pub no_later_on : (k : ℕ) → conflict s k t ≡ true → lock_height_in s u p k ≤ lock_height_in s u p t → lock_height_in s u q k ≤ lock_height_in s u q t
  no_later_on k c h =
      split (opening s t)
      (λ o. rw (conflict_opening s k t o c) (omega arith))
      (λ o.
      let e = (parent_kept o).1 in
      rw (same_lock s u p q t e k c, same_lock s u p q t e t (conflict_self s t)) h)

  pub confirmed_on : (k : ℕ) → k < count s → is_confirmed p k ≡ true → is_confirmed q k ≡ true
  unfolding is_confirmed
  confirmed_on k lk h =
      let c = ltb-true 0 (block_of p k) h in
      either (later.blocks k lk) (λ z. rw z h) (λ z. absurd (omega (arith, z.0)))

module _ (s u : List ℕ) (ok : Checked s) (p : Position) (g : Sound s u p) where
  -- an entry after a step was there before, or was sent before its deadline
  came : (x : Step) → fields_right s u x ≡ true → step_refusal s u p x ≡ 0 → (t : ℕ) → in_pool (effect s p x) t ≡ true
      → (in_pool p t ≡ true) ⊎ (p.mined < deadline_in s u p t)
  unfolding effect
  came (Share party k to) f r t h = inl (rw (share_pool s party k (destination_number to) p).there at h)
  came (Give party i to) f r t h = inl (rw (give_pool i (destination_number to) p).there at h)
  came (SendToPool party k to) f r t h =
      let low = (sent_to_pool s u p party k to f r).low in
      let w = wide in
      either (or_parts (eqb t k) (in_pool p t) (rw (send_pool s k (destination_number to) p (omega arith)) at h))
      (λ y. inr (rw (eqb-true t k y) (before_deadline s u p party k to r)))
      inl
  came (HandToMiner party k to) f r t h = inl (rw (hand_pool k (destination_number to) p).there at h)
  came (Include party k to) f r t h = inl (rw (include_pool k p).there at h)
  came (Mine party k to) f r t h = inl (and_parts (in_pool p t) (not (leaves_pool s (in_block p) t)) (rw (mine_pool s p (wide s u ok p g) g.beyond) at h)).0
  came (Bump party k to) f r t h = inl (rw (bump_pool s p (wide s u ok p g) g.beyond k).there at h)

  abbrev mined : Position
  mined = after_mine s p

  -- what has a block now and had none is in the new one
  first_block : (k : ℕ) → block_of p k ≡ 0 → p.mined < block_of mined k → block_of mined k ≡ p.mined + 1
  first_block k z h =
      split (in_block p k)
      (λ b. rw (mine_blocks s p (wide s u ok p g) g.beyond, b))
      (λ b. let y : p.mined < block_of p k = rw (mine_blocks s p (wide s u ok p g) g.beyond, b) at h in absurd (omega arith))

  staying : (t : ℕ) → leaves_pool s (in_block p) t ≡ false → (in_block p t ≡ false) × (meets_other s (in_block p) t ≡ false)
  unfolding leaves_pool
  staying t n = or_neither (in_block p t) (meets_other s (in_block p) t) n

  module _ (early : Early s u p) where
    -- the parent is in the block: a rival's lock height stays, or is above that block
    parent_mined : 0 < per_day u → (t : ℕ) → t < count s → in_pool p t ≡ true → block_of p (parent s t) ≡ 0 → block_of mined (parent s t) ≡ p.mined + 1
        → p.mined + 1 < deadline_in s u p t → p.mined + 1 < deadline_in s u mined t
    unfolding deadline_in
    parent_mined day t l i z b h =
        let limit = g.settled.limit in
        let from =
        deadline_from s (per_day u) (block_of mined) t (p.mined + 2) (omega arith) (λ k lk c f.
        let lock = g.pool.locks t l i in
        let t0 : lock_height s (per_day u) (block_of p) t ≡ lock_at s (per_day u) 0 t = lock_is_lem s (per_day u) (block_of p) t ∙ ap (λ x. lock_at s (per_day u) x t) z in
        let t1 : lock_height s (per_day u) (block_of mined) t ≡ lock_at s (per_day u) (p.mined + 1) t = lock_is_lem s (per_day u) (block_of mined) t ∙ ap (λ x. lock_at s (per_day u) x t) b in
        let k0 : lock_height s (per_day u) (block_of p) k ≡ lock_at s (per_day u) 0 k = rival_lock s (per_day u) (block_of p) t k c ∙ ap (λ x. lock_at s (per_day u) x k) z in
        let k1 : lock_height s (per_day u) (block_of mined) k ≡ lock_at s (per_day u) (p.mined + 1) k = rival_lock s (per_day u) (block_of mined) t k c ∙ ap (λ x. lock_at s (per_day u) x k) b in
        let same = lock_reached ok (per_day u) t l (p.mined + 1) (omega arith) in
        either (lock_after ok (per_day u) k day lk (p.mined + 1) (omega arith))
        (λ y. let w = deadline_le s (per_day u) (block_of p) t k lk c (omega arith) in omega arith)
        (λ y. omega arith)) in
        omega arith

    early_mine : 0 < per_day u → LaterIn s p mined → any_owed s u p ≡ false → Early s u mined
    early_mine day later none t l i =
        let w = and_parts (in_pool p t) (not (leaves_pool s (in_block p) t)) (rw (mine_pool s p (wide s u ok p g) g.beyond) at i) in
        let out = (staying t (not-true (leaves_pool s (in_block p) t) w.1)).0 in
        let e = early t l w.0 in
        let m = mine_mined s p (wide s u ok p g) g.beyond in
        let next : p.mined + 1 < deadline_in s u p t =
        split (eqb (p.mined + 1) (deadline_in s u p t))
        (λ y. absurd (not_owed s u p none t l w.0 out (eqb-true (p.mined + 1) (deadline_in s u p t) y)))
        (λ y. let z = eqb-false (p.mined + 1) (deadline_in s u p t) y in omega arith) in
        split (opening s t)
        (λ o. let d = never_now s u p mined t o in omega arith)
        (λ o.
        either (later.blocks (parent s t) (parent_below ok t l o))
        (λ q. let d = same_deadline s u p mined t q in omega arith)
        (λ q.
        let b : block_of mined (parent s t) ≡ p.mined + 1 = first_block (parent s t) q.0 q.1 in
        let d = parent_mined day t l w.0 q.0 b next in
        omega arith))

    early_quiet : (x : Step) → fields_right s u x ≡ true → step_refusal s u p x ≡ 0 → Quiet p (effect s p x) → Early s u (effect s p x)
    early_quiet x f r y t l i =
        let d = same_deadline s u p (effect s p x) t (y.heights (parent s t)) in
        let m = y.mined in
        either (came x f r t i) (λ a. let e = early t l a in omega arith) (λ a. omega arith)

    -- an entry whose block rival is mined is ousted by one locked no later
    ousted_by : (t : ℕ) → t < count s → in_pool p t ≡ true → (k : ℕ) → k < count s → conflict s k t ≡ true → in_block p k ≡ true → lock_height_in s u p k ≤ lock_height_in s u p t
    unfolding lock_height_in deadline_in
    ousted_by t l i k lk c b =
        let e = early t l i in
        let low = g.block.locks k lk b in
        split (ltb (lock_height s (per_day u) (block_of p) t) (lock_height s (per_day u) (block_of p) k))
        (λ y.
        let z = deadline_le s (per_day u) (block_of p) t k lk c (ltb-true (lock_height s (per_day u) (block_of p) t) (lock_height s (per_day u) (block_of p) k) y) in
        absurd (omega arith))
        (λ y. ltb-false (lock_height s (per_day u) (block_of p) t) (lock_height s (per_day u) (block_of p) k) y)

    -- an entry of t in the mined block: for its destination, or handed in for another
    fate_block : stealth u ≤ 1 → Pooled s u p → (t : ℕ) → t < count s → in_block p t ≡ true → Fate s u mined t (pool_to p t)
    fate_block flag in_pool_lem t l b =
        let c = mined_confirmed s u ok p g t b in
        let to : confirmed_to mined t ≡ block_to p t = rw (mine_to s p (wide s u ok p g) g.beyond, b) in
        split (eqb (block_to p t) (pool_to p t))
        (λ y. done c (to ∙ eqb-true (block_to p t) (pool_to p t) y))
        (λ y.
        let other = eqb-false (block_to p t) (pool_to p t) y in
        split (eqb (stealth u) 0)
        (λ z. absurd (other (sym (in_pool_lem (eqb-true (stealth u) 0 z) t l b).1)))
        (λ z. replaced (omega (arith, eqb-false (stealth u) 0 z, flag)) c (λ e. other (sym to ∙ e))))

    fate_mine : stealth u ≤ 1 → Pooled s u p → LaterIn s p mined → Early s u mined → (t : ℕ) → t < count s → in_pool p t ≡ true → Stands s p t → Fate s u mined t (pool_to p t)
    unfolding leaves_pool
    fate_mine flag in_pool_lem later after t l i at =
        split (in_block p t)
        (fate_block flag in_pool_lem t l)
        (λ b.
        split (meets_other s (in_block p) t)
        (λ h.
        let w = other_find s (in_block p) t h in
        let c = met_at s u ok p g w.2 l at w.1 w.3 w.4 w.5 in
        ousted w.1 w.3 (λ e. clash (rw e at w.5) b) c (mined_confirmed s u ok p g w.1 w.5) (no_later_on s u ok p mined later t l at w.1 c (ousted_by t l i w.1 w.3 c w.5)))
        (λ h.
        let j : in_pool mined t ≡ true = rw (mine_pool s p (wide s u ok p g) g.beyond, i, b, h) in
        waits j (mine_pool_to s p (wide s u ok p g) g.beyond t (rw (b, h))) (after t l j)))

    -- without a mined block an entry keeps its destination
    quiet_in : (x : Step) → fields_right s u x ≡ true → step_refusal s u p x ≡ 0 → Quiet p (effect s p x) → PoolIn p (effect s p x)
    quiet_in x f r y =
        either (pool_in s u ok p g x f r)
        (λ z. z)
        (λ e. absurd (omega (arith, mine_mined s p (wide s u ok p g) g.beyond, rw e at y.mined)))

    abbrev Next : Position → Type 0
    Next q = Early s u q × (Pooled s u p → (t : ℕ) → t < count s → in_pool p t ≡ true → Stands s p t → Fate s u q t (pool_to p t))

    next_case : 0 < per_day u → stealth u ≤ 1 → (b : FourBytes) → LaterIn s p (step s u p b).position → StepCase s u p b → Next (step s u p b).position
    next_case day flag b later (taken x d f r e) =
        rw e
        (either (lasting s u p (wide s u ok p g) g.beyond x f r)
        (λ y.
        let a = early_quiet x f r y in
        (a, λ w t l i at. let j = quiet_in x f r y t i in waits j.0 j.1 (a t l j.0)))
        (λ y.
        let z : LaterIn s p mined = rw (e, y.0) at later in
        let a = early_mine day z y.1 in
        rw y.0 (a, λ w. fate_mine flag w z a)))
    next_case day flag b later (turned_down n m e) = rw e (early, λ w t l i at. waits i refl (early t l i))

-- a fate lasts through what comes later, but for an entry that waits
fate_on : (s u : List ℕ) (ok : Checked s) (q r : Position) (t to : ℕ) → t < count s → Stands s q t → LaterIn s q r
    → (is_confirmed q t ≡ true → confirmed_to r t ≡ confirmed_to q t) → (in_pool q t ≡ true → pool_to q t ≡ to → Fate s u r t to) → Fate s u q t to → Fate s u r t to
fate_on s u ok q r t to l at later same f (waits i e h) = f i e
fate_on s u ok q r t to l at later same f (done h e) = done (confirmed_on s u ok q r later t l at t l h) (same h ∙ e)
fate_on s u ok q r t to l at later same f (replaced z h n) = replaced z (confirmed_on s u ok q r later t l at t l h) (λ e. n (sym (same h) ∙ e))
fate_on s u ok q r t to l at later same f (ousted k lk other c h n) =
    ousted k lk other c (confirmed_on s u ok q r later t l at k lk h) (no_later_on s u ok q r later t l at k c n)

module _ (s u : List ℕ) (h : sheet_refusal s ≡ 0) (k : setup_refusal s u ≡ 0) where
  next_step : (p : Position) (b : FourBytes) (g : Sound s u p) (e : Early s u p) → Next s u (sheet_checked s h) p g e (step s u p b).position
  next_step p b g e = next_case s u (sheet_checked s h) p g e (setup_checked s u k).blocks_some (setup_checked s u k).stealth_flag b (later_step s u h k p b g) (step_case s u p b)

  pub early_play : (bs : List FourBytes) (p : Position) → Sound s u p → Early s u p → Early s u (play s u bs p)
  unfolding play
  early_play [] p g e = e
  early_play (b ∷ bs) p g e = early_play bs (step s u p b).position (sound_step s u h k p b g) (next_step p b g e).0

  pub fate_play : (bs : List FourBytes) (p : Position) → Sound s u p → Early s u p → Pooled s u p → (t : ℕ) → t < count s → in_pool p t ≡ true → Stands s p t
      → Fate s u (play s u bs p) t (pool_to p t)
  unfolding play is_confirmed
  fate_play [] p g e in_pool_lem t l i at = waits i refl (e t l i)
  fate_play (b ∷ bs) p g e in_pool_lem t l i at =
      let ok = sheet_checked s h in
      let q = (step s u p b).position in
      let w = next_step p b g e in
      let o = sound_step s u h k p b g in
      let on = stands_on s u ok p q (later_step s u h k p b g) t l at in
      fate_on s u ok q (play s u bs q) t (pool_to p t) l on (later_play s u h k bs q o) (λ c. to_play s u h k bs q o t l (ltb-true 0 (block_of q t) c))
      (λ j z. rw (← z) (fate_play bs q o w.0 (pooled_play s u h k (b ∷ []) p g in_pool_lem) t l j on)) (w.1 in_pool_lem t l i at)

start_pool : (s : List ℕ) (t : ℕ) → in_pool (start s) t ≡ false
unfolding in_pool
start_pool s t = rw (start_slot s t) none_stands

pub early_start : (s u : List ℕ) → Early s u (start s)
early_start s u t l i = absurd (false≢true (rw (start_pool s t) at i))
