-- What settles in the block stays: no step without X throws it out, and a mined block confirms it. Its line settles with it.
-- Assumes nothing.
use Rattle.laws.proofs.Prelude.{ℕ, ◌+◌, ◌<◌, ◌≡◌, refl, sym, fun_ext, true, false, not, ◌&&◌, List, ◌⊎◌, inl, inr, eqb, ltb, length, eqb-true, ltb-true}
use Rattle.laws.proofs.Prelude.{ltb-false, eq-eqb, ne_eqb, not-true, arith, split, either, clash, and_parts, or_neither, fails_by, any_all_false, passed, bit}
use Rattle.position.proofs.Rules.{count, parent, opening, sheet_refusal, per_day, setup_refusal, Checked, Step, Share, Give, SendToPool, HandToMiner, Include, Mine, Bump}
use Rattle.position.proofs.Rules.{miner, contract, is_party, destination_number, deadline, is_self_or_ancestor, meets_conflict, meets_other, in_pool, pool_to, in_block, block_to}
use Rattle.position.specs.declared.Position.{Position}
use Rattle.position.proofs.Rules.{block_of, is_confirmed, placed, deadline_in, fields_right, waiting, owed, enters, miner_tests, send_tests, include_tests, bump_tests}
use Rattle.position.proofs.Rules.{step_refusal, after_mine, effect, FourBytes, step}
use Rattle.sheet.proofs.Theorems.{sheet_checked}
use Rattle.slots.proofs.Ancestors.{meets_find, other_met, line_up}
use Rattle.slots.proofs.Conflicts.{conflict_self, no_conflict_lem}
use Rattle.slots.proofs.Parents.{parent_lower}
use Rattle.slots.specs.Conflict.{other_conflict_in}
use Rattle.position.specs.StepRefusal.{tests}
use Rattle.position.proofs.StepCases.{StepCase, taken, turned_down, step_case}
use Rattle.step_laws.proofs.Untouched.{SameBlock}
use Rattle.step_laws.proofs.AfterShares.{share_block, give_block}
use Rattle.step_laws.proofs.AfterSends.{send_block, hand_block, hand_to, include_block, include_to}
use Rattle.step_laws.proofs.AfterBlocks.{bump_block, bump_to_kept}
use Rattle.step_laws.proofs.Sending.{handed_in_lem}
use Rattle.step_laws.proofs.Quiet.{Quiet, lasting}
use Rattle.claim_ledger.proofs.Sound.{Sound}
use Rattle.claim_ledger.proofs.EachKind.{wide}
use Rattle.claim_ledger.proofs.BumpedBlock.{waits_up}
use Rattle.attainable.specs.Attainable.{attainable}
use Rattle.attainable.proofs.Rounds.{least}
use Rattle.claim_attainable.specs.Words.{step_of}
use Rattle.claim_attainable.proofs.Actors.{in_pool_lem}
use Rattle.claim_attainable.proofs.Alive.{has_block}
use Rattle.claim_attainable.proofs.Bounded.{right_small, first}
use Rattle.slack.specs.Settled.{throws_out, settles}
use Rattle.claim_slack.proofs.Fewer.{fewer}
use Rattle.claim_slack.proofs.SettledSlots.{settles_in, settles_safe, settles_out}

-- what settles in p is in q's block, for the same destination
abbrev pub SettledIn : List ℕ → List ℕ → Position → ℕ → Position → Type 0
SettledIn s u p x q = (t : ℕ) → settles s u p x t ≡ true → (in_block q t ≡ true) × (block_to q t ≡ block_to p t)

-- a step, in short: the chain stays and what settles does, or the block is mined
pub data Course (s u : List ℕ) (p : Position) (x : ℕ) (q : Position) : Type 0 where
  quiet : Quiet p q → SettledIn s u p x q → Course s u p x q
  mined : q ≡ after_mine s p → Course s u p x q

module _ (s u : List ℕ) (h : sheet_refusal s ≡ 0) (k : setup_refusal s u ≡ 0) (p : Position) (g : Sound s u p) (x : ℕ) (who : is_party s x ≡ true) where
  abbrev ok : Checked s
  ok = sheet_checked s h

  -- a transaction of the sheet, not confirmed
  pub settles_low : (t : ℕ) → settles s u p x t ≡ true → t < count s
  settles_low t y =
      split (ltb t (count s)) (ltb-true t (count s)) (λ n. clash y (settles_out s u p x (wide s u ok p g) g.beyond t (ltb-false t (count s) n)))

  pub settles_new : (t : ℕ) → settles s u p x t ≡ true → block_of p t ≡ 0
  settles_new t y = let l = settles_low t y in g.block.free t t l l (settles_in s u p x t y) (conflict_self s t)

  -- a pool entry can come
  pool_comes : (t : ℕ) → t < count s → in_pool p t ≡ true → bit (attainable s u p x (bit 0)) t ≡ true
  pool_comes t l i =
      let closed = (least s u ok p x (bit 0)).closed in
      let here = first s u ok p x who (bit 0) (attainable s u p x (bit 0)) closed g in
      either (here.entries t (pool_to p t) (in_pool_lem i refl))
      (λ c. absurd (omega (arith, has_block p t c, g.pool.free t t l l i (conflict_self s t))))
      (closed t l (pool_to p t) (right_small s t (pool_to p t) (g.pool_to_lem t l i)))

  -- a bump that throws an entry out
  thrown : (y : ℕ) → y < count s → owed s u p y ≡ true → (t : ℕ) → t < count s → in_block p t ≡ true → meets_conflict s (enters s p y) t ≡ true
      → throws_out s u p x t y ≡ true
  unfolding throws_out owed enters waiting
  thrown y l o t m i c =
      let due = and_parts (in_pool p y && not (in_block p y)) (eqb (p.mined + 1) (deadline_in s u p y)) o in
      let in_time_lem = eqb-true (p.mined + 1) (deadline_in s u p y) due.1 in
      let w = meets_find s (enters s p y) t c in
      let e = and_parts (in_pool p w.1 && not (in_block p w.1)) (is_self_or_ancestor s w.1 y) w.5 in
      let v = and_parts (in_pool p w.1) (not (in_block p w.1)) e.0 in
      let other : eqb w.1 w.0 ≡ false =
      ne_eqb w.1 w.0
      (λ z.
      either (waits_up ok g.settled g.block w.2 m i)
      (λ b. clash (rw (← z) at b) (not-true (in_block p w.1) v.1))
      (λ b. let f = g.pool.free w.1 w.1 w.3 w.3 v.0 (conflict_self s w.1) in let n = rw (← z) at b in omega (arith, n, f))) in
      rw (
        pool_comes y l (and_parts (in_pool p y) (not (in_block p y)) due.0).0,
        eq-eqb (deadline_in s u p y) (p.mined + 1) (sym in_time_lem),
        other_met s (λ r. is_self_or_ancestor s r y) w.1 w.2 w.3 w.4 e.1 other,
      )

  same_in : (q : Position) → SameBlock p q → SettledIn s u p x q
  same_in q a t y = (rw a.there (settles_in s u p x t y), rw a.to)

  -- what is not placed is none of the block's entries
  apart : (t k : ℕ) → t < count s → (placed p t ≡ false) → in_block p k ≡ true → eqb k t ≡ false
  unfolding placed
  apart t k l n i = ne_eqb k t (λ e. clash (rw e at i) (or_neither (in_block p t) (is_confirmed p t) n).0)

  hand_in : (party t : ℕ) (to : _) → fields_right s u (HandToMiner party t to) ≡ true → step_refusal s u p (HandToMiner party t to) ≡ 0
      → SettledIn s u p x (effect s p (HandToMiner party t to))
  unfolding effect step_refusal tests miner_tests send_tests
  hand_in party t to f r j y =
      let d = destination_number to in
      let low = (handed_in_lem s u p party t to f r).low in
      let room : t < length p.slots = omega (arith, wide s u ok p g, low) in
      let free = no_conflict_lem s (placed p) t (passed (tests s u p (HandToMiner party t to)) refl r 14) t low (conflict_self s t) in
      let i = settles_in s u p x j y in
      let e = apart t j low free i in
      (rw (hand_block t d p room, e) i, rw (hand_to t d p room, e))

  include_in : (party t : ℕ) (to : _) → fields_right s u (Include party t to) ≡ true → step_refusal s u p (Include party t to) ≡ 0
      → SettledIn s u p x (effect s p (Include party t to))
  unfolding effect step_refusal tests include_tests fields_right
  include_in party t to f r j y =
      let there = passed (tests s u p (Include party t to)) refl r 19 in
      let d = eqb (destination_number to) contract in
      let low = ltb-true t (count s) (and_parts (ltb t (count s)) d (and_parts (eqb party miner) (ltb t (count s) && d) f).1).0 in
      let room : t < length p.slots = omega (arith, wide s u ok p g, low) in
      let free = no_conflict_lem s (placed p) t (passed (tests s u p (Include party t to)) refl r 14) t low (conflict_self s t) in
      let i = settles_in s u p x j y in
      let e = apart t j low free i in
      (rw (include_block t p room there, e) i, rw (include_to t p room, e))

  bump_in : (party t : ℕ) (to : _) → fields_right s u (Bump party t to) ≡ true → step_refusal s u p (Bump party t to) ≡ 0
      → SettledIn s u p x (effect s p (Bump party t to))
  unfolding effect step_refusal tests bump_tests fields_right enters waiting
  bump_in party t to f r j y =
      let due = passed (tests s u p (Bump party t to)) refl r 21 in
      let d = eqb (destination_number to) contract in
      let low = ltb-true t (count s) (and_parts (ltb t (count s)) d (and_parts (eqb party miner) (ltb t (count s) && d) f).1).0 in
      let i = settles_in s u p x j y in
      let out : enters s p t j ≡ false =
      fails_by (enters s p t j)
      (λ z. clash i (not-true (in_block p j) (and_parts (in_pool p j) (not (in_block p j)) (and_parts (in_pool p j && not (in_block p j)) (is_self_or_ancestor s j t) z).0).1)) in
      let safe : meets_conflict s (enters s p t) j ≡ false =
      fails_by (meets_conflict s (enters s p t) j) (λ z. clash (thrown t low due j (settles_low j y) i z) (settles_safe s u p x j y t low)) in
      let few = wide s u ok p g in
      (rw (bump_block s p few g.beyond t, out, safe, i), bump_to_kept s p few g.beyond t j out safe)

  settled_in : (y : Step) → fields_right s u y ≡ true → step_refusal s u p y ≡ 0 → SettledIn s u p x (effect s p y) ⊎ (effect s p y ≡ after_mine s p)
  unfolding effect
  settled_in (Share party t to) f r = inl (same_in _ (share_block s party t (destination_number to) p))
  settled_in (Give party i to) f r = inl (same_in _ (give_block i (destination_number to) p))
  settled_in (SendToPool party t to) f r = inl (same_in _ (send_block s t (destination_number to) p))
  settled_in (HandToMiner party t to) f r = inl (hand_in party t to f r)
  settled_in (Include party t to) f r = inl (include_in party t to f r)
  settled_in (Mine party t to) f r = inr refl
  settled_in (Bump party t to) f r = inl (bump_in party t to f r)

  -- every step
  pub course : (b : FourBytes) → Course s u p x (step s u p b).position
  course b = by (step_case s u p b)
    where
      by : StepCase s u p b → Course s u p x (step s u p b).position
      by (taken y d f r e) =
          rw e
          (either (lasting s u p (wide s u ok p g) g.beyond y f r)
          (λ z. either (settled_in y f r) (quiet z) mined)
          (λ z. mined z.0))
      by (turned_down n m e) =
          rw e (quiet (record { mined = refl; heights = λ t. refl; pool = λ t i. i }) (λ t y. (settles_in s u p x t y, refl)))

  -- what is above an entry that settles settles too, or is confirmed
  pub parent_settles : (t : ℕ) → settles s u p x t ≡ true → opening s t ≡ false → (settles s u p x (parent s t) ≡ true) ⊎ (0 < block_of p (parent s t))
  unfolding settles throws_out meets_other
  parent_settles t y o =
      let l = settles_low t y in
      let up = parent_lower ok t l o in
      either (g.block.parents t l (settles_in s u p x t y) o)
      (λ i.
      inl (rw (
        i,
        any_all_false (count s) (throws_out s u p x (parent s t))
            (λ r m.
            fails_by (throws_out s u p x (parent s t) r)
            (λ z.
            let w = and_parts (bit (attainable s u p x (bit 0)) r) _ z in
            let v = and_parts (eqb (deadline_in s u p r) (p.mined + 1)) _ w.1 in
            let again : throws_out s u p x t r ≡ true = rw (w.0, v.0, line_up s (other_conflict_in s (λ j. is_self_or_ancestor s j r)) t up v.1) in
            clash again (settles_safe s u p x t y r m))),
      )))
      inr

  module _ (b : FourBytes) (i : step_of x b ≡ false) where
    abbrev q : Position
    q = (step s u p b).position

    -- what throws out after a quiet step did so before it
    threw : Quiet p q → (t y : ℕ) → y < count s → throws_out s u q x t y ≡ true → throws_out s u p x t y ≡ true
    unfolding throws_out deadline_in
    threw z t y l c =
        let same : block_of q ≡ block_of p = fun_ext z.heights in
        let w = and_parts (bit (attainable s u q x (bit 0)) y) _ c in
        let v = and_parts (eqb (deadline s (per_day u) (block_of q) y) (q.mined + 1)) _ w.1 in
        let due : eqb (deadline s (per_day u) (block_of p) y) (p.mined + 1) ≡ true = rw (same, z.mined) at v.0 in
        rw (fewer s u h k p g x who b i 0 0 (λ j m n. n) y l w.0, due, v.1)

    pub stays_settled : Quiet p q → SettledIn s u p x q → (t : ℕ) → settles s u p x t ≡ true → settles s u q x t ≡ true
    unfolding settles
    stays_settled z w t y =
        rw (
          (w t y).0,
          any_all_false (count s) (throws_out s u q x t)
              (λ r m. fails_by (throws_out s u q x t r) (λ c. clash (threw z t r m c) (settles_safe s u p x t y r m))),
        )
