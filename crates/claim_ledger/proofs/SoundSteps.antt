-- The empty journal's position is sound, and every step of any four bytes keeps it so.
-- Assumes nothing.
use Rattle.laws.proofs.Prelude.{ℕ, ◌<◌, ◌≡◌, refl, ap, fun_ext, true, false, ◌&&◌, ◌||◌, false≢true, List, [], ◌∷◌, eqb, ltb, ltb-true, leb-true, arith, and_parts}
use Rattle.laws.proofs.Prelude.{passed}
use Rattle.position.proofs.Rules.{count, sheet_refusal, setup_refusal, per_day, Checked, SetupChecked, Step, Share, Give, SendToPool, HandToMiner, Include, Mine, Bump}
use Rattle.position.proofs.Rules.{miner, contract, destination_number, is_party, Slot, start, in_pool, in_block, block_of, is_confirmed, lock_height_in, sends_to}
use Rattle.position.specs.declared.Position.{Position}
use Rattle.position.proofs.Rules.{shares_to, first_share_fields, fields_right, send_tests, pool_tests, miner_tests, include_tests, mine_tests, block_limit, step_refusal, effect}
use Rattle.position.proofs.Rules.{FourBytes, step, play}
use Rattle.sheet.proofs.Theorems.{sheet_checked, setup_checked}
use Rattle.position.specs.StepRefusal.{tests}
use Rattle.step_laws.proofs.AfterBlocks.{none_stands}
use Rattle.position.proofs.Starts.{start_slot, start_length, start_mined}
use Rattle.position.proofs.StepCases.{StepCase, taken, turned_down, step_case}
use Rattle.claim_ledger.proofs.Sound.{Settled, Sound}
use Rattle.claim_ledger.proofs.Waiting.{waits_none}
use Rattle.claim_ledger.proofs.EachKind.{right_to, sound_share, sound_give, sound_send, sound_hand_in, sound_include, sound_bump, sound_mine}

pub start_blocks : (s : List ℕ) → block_of (start s) ≡ (λ k. 0)
unfolding block_of
start_blocks s = fun_ext (λ k. ap (λ (x : Slot). x.height) (start_slot s k))

start_pool : (s : List ℕ) → in_pool (start s) ≡ (λ k. false)
unfolding in_pool
start_pool s = fun_ext (λ k. rw (start_slot s k) none_stands)

start_block : (s : List ℕ) → in_block (start s) ≡ (λ k. false)
unfolding in_block
start_block s = fun_ext (λ k. rw (start_slot s k) none_stands)

none_settled : (s : List ℕ) (d : ℕ) → Settled s d (λ k. 0) 0
none_settled s d =
    record {
      limit = omega arith;
      numbered = λ t l. omega arith;
      parents = λ t l c o. absurd (omega arith);
      locks = λ t l c. absurd (omega arith);
      alone = λ t k lt lk c e h. absurd (omega arith);
    }

none_confirmed : (s : List ℕ) (t : ℕ) → is_confirmed (start s) t ≡ false
unfolding is_confirmed
none_confirmed s t = rw (start_blocks s)

pub sound_start : (s u : List ℕ) → Sound s u (start s)
sound_start s u =
    record {
      sized = start_length s;
      beyond = λ t l. start_slot s t;
      settled = rw (start_blocks s, start_mined s) (none_settled s (per_day u));
      pool = rw (start_pool s) (waits_none s (per_day u) (block_of (start s)) (start s).mined);
      block = rw (start_block s) (waits_none s (per_day u) (block_of (start s)) (start s).mined);
      pool_to_lem = λ t l y. absurd (false≢true (rw (start_pool s) at y));
      block_to_lem = λ t l y. absurd (false≢true (rw (start_block s) at y));
      confirmed_to_lem = λ t l y. absurd (false≢true (rw (none_confirmed s t) at y));
    }

module _ (s u : List ℕ) where
  -- the fields of kinds 3 and 4, and of kinds 5 and 7
  send_fields : (party t d : ℕ) → (is_party s party && (ltb t (count s) && sends_to s party t d)) ≡ true → (t < count s) × (shares_to s t d ≡ true)
  send_fields party t d h =
      let a = and_parts (is_party s party) (ltb t (count s) && sends_to s party t d) h in
      let b = and_parts (ltb t (count s)) (sends_to s party t d) a.1 in
      (ltb-true t (count s) b.0, right_to s party t d a.0 b.1)

  miner_fields : (party t d : ℕ) → (eqb party miner && (ltb t (count s) && eqb d contract)) ≡ true → t < count s
  miner_fields party t d h =
      ltb-true t (count s) (and_parts (ltb t (count s)) (eqb d contract) (and_parts (eqb party miner) (ltb t (count s) && eqb d contract) h).1).0

  -- a step whose fields are right and whose tests pass
  pub sound_effect : Checked s → SetupChecked s u → (p : Position) (x : Step) → Sound s u p → fields_right s u x ≡ true → step_refusal s u p x ≡ 0 → Sound s u (effect s p x)
  unfolding effect fields_right step_refusal tests pool_tests miner_tests send_tests include_tests mine_tests lock_height_in
  sound_effect ok su p (Share party t to) g f h =
      sound_share s u ok p g su party t (destination_number to)
      (and_parts (is_party s party) ((ltb t (count s) && shares_to s t (destination_number to)) || first_share_fields u t (destination_number to)) f).1
  sound_effect ok su p (Give party i to) g f h = sound_give s u ok p g i (destination_number to)
  sound_effect ok su p (SendToPool party t to) g f h =
      let test = passed (tests s u p (SendToPool party t to)) refl h in
      let w = send_fields party t (destination_number to) f in
      sound_send s u ok p g t w.0 (destination_number to) w.1 (test 14) (test 15) (leb-true (lock_height_in s u p t) p.mined (test 17))
  sound_effect ok su p (HandToMiner party t to) g f h =
      let test = passed (tests s u p (HandToMiner party t to)) refl h in
      let w = send_fields party t (destination_number to) f in
      sound_hand_in s u ok p g t w.0 (destination_number to) w.1 (test 14) (test 15) (leb-true (lock_height_in s u p t) p.mined (test 17))
  sound_effect ok su p (Include party t to) g f h =
      let test = passed (tests s u p (Include party t to)) refl h in
      sound_include s u ok p g t (miner_fields party t (destination_number to) f) (test 19) (test 14) (test 15)
  sound_effect ok su p (Mine party t to) g f h =
      let test = passed (tests s u p (Mine party t to)) refl h in
      sound_mine s u ok p g (ltb-true p.mined block_limit (test 23))
  sound_effect ok su p (Bump party t to) g f h = sound_bump s u ok p g t (miner_fields party t (destination_number to) f)

  sound_case : Checked s → SetupChecked s u → (p : Position) (b : FourBytes) → Sound s u p → StepCase s u p b → Sound s u (step s u p b).position
  sound_case ok su p b g (taken x d f r e) = rw e (sound_effect ok su p x g f r)
  sound_case ok su p b g (turned_down n m e) = rw e g

  module _ (h : sheet_refusal s ≡ 0) (k : setup_refusal s u ≡ 0) where
    pub sound_step : (p : Position) (b : FourBytes) → Sound s u p → Sound s u (step s u p b).position
    sound_step p b g = sound_case (sheet_checked s h) (setup_checked s u k) p b g (step_case s u p b)

    pub sound_play : (bs : List FourBytes) (p : Position) → Sound s u p → Sound s u (play s u bs p)
    unfolding play
    sound_play [] p g = g
    sound_play (b ∷ bs) p g = sound_play bs (step s u p b).position (sound_step p b g)
