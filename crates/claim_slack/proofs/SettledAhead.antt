-- A step without X leads ahead from the settled position to the next one: what the laws of slack ask for holds between the two.
-- Assumes nothing.
use Rattle.laws.proofs.Prelude.{ℕ, ◌+◌, ◌≤◌, ◌<◌, ◌≡◌, refl, sym, ap, ◌∙◌, true, false, ◌&&◌, false≢true, List, ◌⊎◌, inr, eqb, length, eq-eqb, arith, lt-ltb, split, either, clash}
use Rattle.laws.proofs.Prelude.{and_parts, or_neither, or_right, fails_by, bit, bit_and_lem}
use Rattle.position.proofs.Rules.{count, parent, opening, secrets, sheet_refusal, per_day, setup_refusal, stealth, Checked, is_party, contract, destinations, has_parent, exposed_mask, success}
use Rattle.position.specs.declared.Position.{Position}
use Rattle.position.proofs.Rules.{in_pool, pool_to, in_block, block_to, block_of, is_confirmed, confirmed_to, shared, holds, lock_height_in, after_mine, FourBytes, step}
use Rattle.sheet.proofs.Theorems.{sheet_checked, fit}
use Rattle.slots.proofs.Parents.{parent_below, parent_lower}
use Rattle.soonest.specs.Soonest.{greater, lock_at}
use Rattle.soonest.proofs.Bounds.{greater_left}
use Rattle.soonest.proofs.SoonestParents.{soonest_open, parent_soonest}
use Rattle.step_laws.proofs.AfterBlocks.{mine_blocks, mine_to, mine_block}
use Rattle.claim_ledger.proofs.Sound.{Sound}
use Rattle.claim_ledger.proofs.EachKind.{wide}
use Rattle.claim_ledger.proofs.SoundSteps.{sound_step}
use Rattle.claim_outage.proofs.Pool.{Early}
use Rattle.attainable.specs.Attainable.{gone, secrets_of, waits_for}
use Rattle.claim_attainable.specs.Words.{step_of}
use Rattle.claim_attainable.proofs.Alive.{has_block}
use Rattle.claim_attainable.proofs.Bounded.{right_small}
use Rattle.claim_attainable.proofs.Shown.{secret_shown}
use Rattle.slack.specs.Beaten.{fixed}
use Rattle.slack.specs.Kept.{kept_to}
use Rattle.slack.specs.Settled.{settles, settled}
use Rattle.slack.proofs.Onward.{Fewer, soonest_above, secrets_shown}
use Rattle.slack.proofs.Ahead.{Came, Ahead}
use Rattle.slack.proofs.Keeping.{keeping}
use Rattle.claim_slack.proofs.Secrets.{secrets_by, block_shows}
use Rattle.claim_outage.proofs.Pools.{Pooled, came_pooled}
use Rattle.claim_slack.proofs.Onwards.{step_moved, onward}
use Rattle.claim_slack.proofs.SettledSlots.{settles_in, settled_mined, settled_keys, settled_pool, settled_pool_to, new_block, new_to, old_block, old_to}
use Rattle.claim_slack.proofs.SettledSlots.{settled_kept, settled_shows, settled_from}
use Rattle.claim_slack.proofs.SettledFewer.{fewer, fewer_elsewhere, came_comes, came_elsewhere}
use Rattle.claim_slack.proofs.SettledStays.{Course, quiet, mined, course, settles_low, settles_new, stays_settled}
use Rattle.claim_slack.proofs.SettledHeights.{soonest_settled, settles_next, lock_met}
use Rattle.claim_slack.proofs.SettledLinks.{confirmed_parts, confirmed_still, linked, pending, gone_before, waits_before_lem, waits_met}

module _ (s u : List ℕ) (h : sheet_refusal s ≡ 0) (k : setup_refusal s u ≡ 0) (x : ℕ) (who : is_party s x ≡ true) where
  abbrev ok : Checked s
  ok = sheet_checked s h

  -- what is confirmed does not settle
  module _ (p : Position) (g : Sound s u p) where
    confirmed_out : (t : ℕ) → is_confirmed p t ≡ true → settles s u p x t ≡ false
    confirmed_out t c = fails_by (settles s u p x t) (λ y. omega (arith, has_block p t c, settles_new s u h k p g x who t y))

    -- a settled entry's destination
    to_small : (t : ℕ) → settles s u p x t ≡ true → block_to p t < destinations
    to_small t y = right_small s t (block_to p t) (g.block_to_lem t (settles_low s u h k p g x who t y) (settles_in s u p x t y))

    unconfirmed : (t : ℕ) → is_confirmed (settled s u p x) t ≡ false → is_confirmed p t ≡ false
    unconfirmed t n = fails_by (is_confirmed p t) (λ y. clash (confirmed_still s u h k p g x who t y) n)

  module _ (p : Position) (g : Sound s u p) (early : Early s u p) (in_pool_lem : Pooled s u p) (b : FourBytes) (i : step_of x b ≡ false) where
    abbrev q : Position
    q = (step s u p b).position

    abbrev now : Position
    now = settled s u p x

    abbrev then : Position
    then = settled s u q x

    abbrev few : count s ≤ length p.slots
    few = wide s u ok p g

    g' : Sound s u q
    g' = sound_step s u h k p b g

    few' : count s ≤ length q.slots
    few' = wide s u ok q g'

    on : Ahead s u p q x
    on = onward s u h k p g early in_pool_lem x who b i

    -- after a mined block nothing settles
    pub none_settles : q ≡ after_mine s p → (t : ℕ) → settles s u q x t ≡ false
    none_settles e t = fails_by (settles s u q x t) (λ y. false≢true (rw (e, mine_block s p few g.beyond) at (settles_in s u q x t y)))

    -- what settles stays, or is confirmed
    settles_stays : Course s u p x q → (t : ℕ) → settles s u p x t ≡ true → (block_of then t ≡ block_of now t) × (confirmed_to then t ≡ confirmed_to now t)
    settles_stays (quiet z w) t y =
        let still = stays_settled s u h k p g x who b i z w t y in (
          new_block s u q x few' g'.beyond t still ∙ ap (λ m. m + 1) z.mined ∙ sym (new_block s u p x few g.beyond t y),
          new_to s u q x few' g'.beyond t still ∙ (w t y).1 ∙ sym (new_to s u p x few g.beyond t y),
        )
    settles_stays (mined e) t y =
        let n = none_settles e t in
        let there = settles_in s u p x t y in
        let block : block_of q t ≡ p.mined + 1 = rw (e, mine_blocks s p few g.beyond, there) in
        let to : confirmed_to q t ≡ block_to p t = rw (e, mine_to s p few g.beyond, there) in (
          old_block s u q x few' g'.beyond t n ∙ block ∙ sym (new_block s u p x few g.beyond t y),
          old_to s u q x few' g'.beyond t n ∙ to ∙ sym (new_to s u p x few g.beyond t y),
        )

    still_confirmed : (t : ℕ) → t < count s → is_confirmed p t ≡ true → is_confirmed q t ≡ true
    unfolding is_confirmed
    still_confirmed t l c = lt-ltb 0 (block_of q t) (rw (on.stays t l c).0 (has_block p t c))

    stays : (t : ℕ) → t < count s → is_confirmed now t ≡ true → (block_of then t ≡ block_of now t) × (confirmed_to then t ≡ confirmed_to now t)
    stays t l c =
        either (confirmed_parts s u h k p g x who t c)
        (settles_stays (course s u h k p g x who b) t)
        (λ y.
        let w = on.stays t l y in
        let n = confirmed_out p g t y in
        let n' = confirmed_out q g' t (still_confirmed t l y) in (
          old_block s u q x few' g'.beyond t n' ∙ w.0 ∙ sym (old_block s u p x few g.beyond t n),
          old_to s u q x few' g'.beyond t n' ∙ w.1 ∙ sym (old_to s u p x few g.beyond t n),
        ))

    -- the lock of what waited or was sent is met
    met : (t d : ℕ) → t < count s → (waits_for p t d ≡ true) ⊎ (lock_height_in s u p t ≤ p.mined) → lock_height_in s u now t ≤ now.mined
    met t d l y =
        let low = either y (waits_met s u h k p g x who t d l) (λ z. z) in
        omega (arith, settled_mined s u p x, lock_met s u h k p g x who t l low)

    waits_from : (t d : ℕ) → t < count s → d < destinations → waits_for then t d ≡ true → (waits_for now t d ≡ true) ⊎ (lock_height_in s u now t ≤ now.mined)
    waits_from t d l n y = inr (met t d l (on.waits_from t d l n (waits_before_lem s u h k q g' x who t d y)))

    block_waits : (t : ℕ) → in_block q t ≡ true → waits_for q t (block_to q t) ≡ true
    unfolding waits_for
    block_waits t y = or_right (in_pool q t && eqb (pool_to q t) (block_to q t)) _ (rw (y, eq-eqb (block_to q t) (block_to q t) refl))

    -- what is new among the confirmed and settled came from the block or pool, or was sent
    record New (t d : ℕ) : Type 0 where
      small : d < destinations
      in_time_lem : lock_height_in s u now t ≤ now.mined
      pooled : stealth u ≡ 0 → (in_pool now t ≡ true) × (pool_to now t ≡ d)

    new : (t : ℕ) → t < count s → is_confirmed now t ≡ false → is_confirmed then t ≡ true → New t (confirmed_to then t)
    new t l n c =
        either (confirmed_parts s u h k q g' x who t c)
        (λ y.
        let there = settles_in s u q x t y in
        rw (new_to s u q x few' g'.beyond t y)
        (record {
          small = to_small q g' t y;
          in_time_lem = met t (block_to q t) l (on.waits_from t (block_to q t) l (to_small q g' t y) (block_waits t there));
          pooled = λ z. rw (settled_pool s u p x, settled_pool_to s u p x) (came_pooled s u ok p g in_pool_lem b z t l there);
        }))
        (λ y.
        let w = on.came t l (unconfirmed p g t n) y in
        rw (old_to s u q x few' g'.beyond t (confirmed_out q g' t y))
        (record {
          small = w.small;
          in_time_lem = met t (confirmed_to q t) l w.in_time_lem;
          pooled = λ z. rw (settled_pool s u p x, settled_pool_to s u p x) (w.pooled z);
        }))

    pool_stays : (t : ℕ) → t < count s → in_pool now t ≡ true → gone s then t ≡ false → (in_pool then t ≡ true) × (pool_to then t ≡ pool_to now t)
    pool_stays t l y n =
        rw (settled_pool s u q x, settled_pool_to s u q x, settled_pool_to s u p x)
        (on.pool_stays t l (rw (settled_pool s u p x) at y) (gone_before s u h k q g' x who t n))

    keys : (j : ℕ) → j < 32 → holds now x j ≡ true → holds then x j ≡ true
    unfolding holds
    keys j l y = rw (settled_keys s u q x) (on.keys j l (rw (settled_keys s u p x) at y))

    -- the signatures that a settled entry shows
    shows_still : Course s u p x q → (t j : ℕ) → t < count s → settles s u p x t ≡ true → bit (exposed_mask s t) j ≡ true
        → bit (shared then t (block_to p t)) j ≡ true
    shows_still (quiet z w) t j l y e =
        let still = stays_settled s u h k p g x who b i z w t y in
        rw (w t y).1 at (settled_shows s u q x few' g'.beyond t j still (to_small q g' t still) e)
    shows_still (mined z) t j l y e =
        let small = to_small p g t y in
        let shown = block_shows s p t j l (omega (arith, few, l)) (settles_in s u p x t y) small e in
        settled_kept s u q x few' g'.beyond t (block_to p t) j small (rw z shown)

    shares : (t d j : ℕ) → d < destinations → bit (shared now t d) j ≡ true → bit (shared then t d) j ≡ true
    shares t d j n y =
        either (settled_from s u p x few g.beyond t d j n y)
        (λ z. settled_kept s u q x few' g'.beyond t d j n (((step_moved s u h k p g b).slots t).kept d j n z))
        (λ z. rw z.1 at (shows_still (course s u h k p g x who b) t j (settles_low s u h k p g x who t z.0) z.0 z.2))

    of_success : (j : ℕ) → bit (shared now success contract) j ≡ true → bit (shared then success contract) j ≡ true
    of_success j = shares success contract j (omega arith)

    shown : (t : ℕ) → t < count s → is_confirmed now t ≡ false → is_confirmed then t ≡ true → Fewer (secrets_of s t) (secrets_shown s then)
    unfolding secrets_of
    shown t l n c j m y =
        either (confirmed_parts s u h k q g' x who t c)
        (λ z.
        let w = and_parts (bit (secrets s) j) (bit (exposed_mask s t) j) (sym (bit_and_lem (secrets s) (exposed_mask s t) j) ∙ y) in
        let small = to_small q g' t z in
        secret_shown s then t (block_to q t) j l small w.0 (settled_shows s u q x few' g'.beyond t j z small w.1))
        (λ z.
        secrets_by s q then j (λ r d a e. settled_kept s u q x few' g'.beyond r d j e)
        (on.shown t l (unconfirmed p g t n) z j m y))

    rises : (t : ℕ) → t < count s → soonest_above s u now t ≤ soonest_above s u then t
    rises t l = let up = on.rises t l in omega (arith, up, soonest_settled s u h k p g x who t l, soonest_settled s u h k q g' x who t l)

    -- the parent settles: it comes in the next block, in p as in q
    same_next : Course s u p x q → (t : ℕ) → t < count s → opening s t ≡ false → settles s u q x (parent s t) ≡ true → soonest_above s u q t ≡ soonest_above s u p t
    same_next (quiet z w) t l o y =
        let low = parent_below ok t l o in
        let lower = parent_lower ok t l o in
        let new = settles_new s u h k q g' x who (parent s t) y in
        let next = settles_next s u h k q g' x who (parent s t) low (settles_in s u q x (parent s t) y) in
        let is = parent_soonest s (per_day u) (block_of q) q.mined t lower in
        let first = parent_soonest s (per_day u) (block_of p) p.mined t lower
        ∙ soonest_open s (per_day u) (block_of p) p.mined (parent s t) (sym (z.heights (parent s t)) ∙ new) in
        let e = soonest_above s u p (parent s t) in
        let least = greater_left (p.mined + 1) (greater e (lock_at s (per_day u) e (parent s t) + 1)) in
        omega (arith, on.rises t l, is, next, first, least, z.mined)
    same_next (mined z) t l o y = clash y (none_settles z (parent s t))

    same_by : (t : ℕ) → t < count s → fixed s then t ≡ true → soonest_above s u q t ≡ soonest_above s u p t
    unfolding fixed has_parent
    same_by t l f =
        split (fixed s q t)
        (on.same t l)
        (λ n.
        let w = or_neither (opening s t) (is_confirmed q (parent s t)) n in
        let c : is_confirmed then (parent s t) ≡ true = rw w.0 at f in
        either (confirmed_parts s u h k q g' x who (parent s t) c)
        (same_next (course s u h k p g x who b) t l w.0)
        (λ y. clash y w.1))

    same : (t : ℕ) → t < count s → fixed s then t ≡ true → soonest_above s u then t ≡ soonest_above s u now t
    same t l f = soonest_settled s u h k q g' x who t l ∙ same_by t l f ∙ sym (soonest_settled s u h k p g x who t l)

    -- with what can come
    stay : (t : ℕ) → t < count s → is_confirmed now t ≡ true → block_of then t ≡ block_of now t
    stay t l c = (stays t l c).0

    came : (t : ℕ) → t < count s → is_confirmed now t ≡ false → is_confirmed then t ≡ true → Came s u now x t (confirmed_to then t)
    came t l n c =
        let w = new t l n c in
        record {
          small = w.small;
          in_time_lem = inr w.in_time_lem;
          pooled = w.pooled;
          comes = came_comes s u h k p g x who b i stay of_success t l n c;
          elsewhere = came_elsewhere s u h k p g x who b i stay of_success t l n c;
        }

    pub ahead_settled : Ahead s u now then x
    ahead_settled =
        record {
          before = linked s u h k p g x who;
          after = linked s u h k q g' x who;
          waiting = pending s u h k p g x who early;
          stays = stays;
          came = came;
          rises = rises;
          same = same;
          pool_stays = pool_stays;
          waits_from = waits_from;
          keys = keys;
          shares = λ t d j l n m y. shares t d j n y;
          secrets = λ j m y. secrets_by s now then j (λ t d l n z. shares t d j n z) y;
          shown = shown;
          fewer = fewer s u h k p g x who b i stay of_success;
          fewer_elsewhere = fewer_elsewhere s u h k p g x who b i stay of_success;
        }

    pub settled_keeps : (off : ℕ) → p.mined ≤ off → off ≤ 20000 → kept_to s u now x off ≡ true → kept_to s u then x off ≡ true
    settled_keeps off late small y = keeping s u (fit s u h k) now then x ahead_settled off (omega (arith, settled_mined s u p x, late)) small y
