-- The empty journal's position is well formed, and every step of any four bytes keeps it so.
-- Assumes nothing.
use Rattle.laws.proofs.Prelude.{ℕ, zero, suc, ◌+◌, ◌-◌, ◌^◌, ◌≤◌, ◌<◌, ◌≡◌, refl, ◌∙◌, true, List, [], ◌∷◌, eqb, get_or, ltb-true, arith, bit_and, bit_or, or_lt, split}
use Rattle.laws.proofs.Prelude.{either, first_failing, passed, without}
use Rattle.position.proofs.Rules.{accepted, count, signatures, secrets, start_keys, required, veil, Checked, Slot, Destination, Step, Share, Give, SendToPool, HandToMiner}
use Rattle.position.proofs.Rules.{Include, Mine, Bump, alice, bob, carol, contract, destinations, destination_number, empty_slot, standing, entry_for, entry_to, with_pool}
use Rattle.position.proofs.Rules.{with_block, with_shared, with_mark, share_mask, exposed_mask, start_held, start, slot, in_block, keys, no_transaction, fields_right}
use Rattle.position.specs.declared.Position.{Position}
use Rattle.position.proofs.Rules.{first_shares, enters, mine_tests, block_limit, step_refusal, confirm_entry, with_slots, change_slot, change_slots, with_key, share_one, share_each}
use Rattle.position.proofs.Rules.{after_share, after_give, after_send, after_hand_in, after_include, leaves_pool, mine_slot, with_mined, after_mine, leaves_block, bump_slot}
use Rattle.position.proofs.Rules.{after_bump, effect, FourBytes, journal_steps, step, run_from, call_tests, run, play}
use native.Mathlib.Nat.{le_refl}
use lib.Bits.{and_le_l}
use lib.Pow.{pow_pos, pow-lt}
use Rattle.laws.specs.Cases.{picked_has, stored, rewrote}
use Rattle.sheet.specs.Field.{is_party}
use Rattle.position.specs.StepRefusal.{tests}
use Rattle.step_laws.specs.Wellformed.{WellformedSlot, Wellformed}
use Rattle.position.proofs.Changed.{one_length, all_length}
use Rattle.position.proofs.Decoding.{destination_within}
use Rattle.step_laws.proofs.MovedGive.{give_right}
use Rattle.step_laws.proofs.Sending.{sent_to_pool}
use Rattle.position.proofs.Starts.{start_slot, start_length}
use Rattle.position.proofs.StepCases.{StepCase, taken, turned_down, step_case}
use Rattle.step_laws.proofs.WellformedSlots.{MaskOf, well_empty, well_pool, well_block, well_confirmed, well_shared, well_mark, well_later}

-- an entry for a destination
entry_within : (to : Destination) → entry_for (destination_number to) ≤ destinations
unfolding entry_for
entry_within to = omega (arith, destination_within to)

-- a party shares signatures that it holds
share_within : (s : List ℕ) (held t n : ℕ) → held < n → share_mask s held t < n
unfolding share_mask without
share_within s held t n h = omega (arith, and_le_l (bit_and held (required s t)) (255 - secrets s), and_le_l held (required s t))

-- a send exposes signatures of the sheet
exposed_within : (s : List ℕ) → Checked s → (t : ℕ) → t < count s → exposed_mask s t < 2 ^ signatures s
unfolding exposed_mask
exposed_within s ok t l = picked_has (MaskOf (signatures s)) (eqb (veil s t) 1) (pow_pos (signatures s)) (ok.entries t l).required_within

-- the start masks are within
start_within : (s : List ℕ) → Checked s → (party : ℕ) → start_keys s party < 2 ^ signatures s
unfolding start_keys
start_within s ok party =
    split (is_party s party) (λ e. let h = ok.keys_within party e in rw e (rw (e, start_keys) at h)) (λ e. rw e (pow_pos (signatures s)))

held_within : (s : List ℕ) → Checked s → (party : ℕ) → get_or (start_held s) party 0 < 2 ^ signatures s
unfolding start_held
held_within s ok zero = start_within s ok alice
held_within s ok (suc zero) = start_within s ok bob
held_within s ok (suc (suc zero)) = pow_pos (signatures s)
held_within s ok (suc (suc (suc zero))) = start_within s ok carol
held_within s ok (suc (suc (suc (suc zero)))) = pow_pos (signatures s)
held_within s ok (suc (suc (suc (suc (suc zero))))) = pow_pos (signatures s)
held_within s ok (suc (suc (suc (suc (suc (suc party)))))) = pow_pos (signatures s)

pub wellformed_start : (s : List ℕ) → Checked s → Wellformed s (start s)
unfolding start keys
wellformed_start s ok =
    record {
      size = start_length s;
      slots = λ t. rw (start_slot s t) (well_empty s 0);
      mined = omega arith;
      held = held_within s ok;
    }

module _ (s : List ℕ) (p : Position) (g : Wellformed s p) where
  -- one slot changed
  one_changed : (t : ℕ) (f : Slot → Slot) → WellformedSlot s p.mined (f (slot p t)) → Wellformed s (change_slot t f p)
  unfolding change_slot with_slots slot keys
  one_changed t f w =
      record {
        size = one_length t f p ∙ g.size;
        slots = λ k. either (stored p.slots t k (f (slot p t)) empty_slot) (λ e. rw e (g.slots k)) (λ e. rw e.1 w);
        mined = g.mined;
        held = g.held;
      }

  -- the slots of the sheet's transactions changed, and no fewer blocks mined
  all_changed : (f : ℕ → Slot → Slot) (m : ℕ) → p.mined ≤ m → m ≤ block_limit
      → ((t : ℕ) → t < count s → WellformedSlot s m (f t (slot p t))) → Wellformed s (with_mined m (change_slots s f p))
  unfolding with_mined change_slots with_slots slot keys
  all_changed f m l few w =
      record {
        size = all_length s f p ∙ g.size;
        slots = λ k. either (rewrote (count s) f p.slots k empty_slot) (λ e. rw e (well_later s l (g.slots k))) (λ e. rw e.1 (w k e.0));
        mined = few;
        held = g.held;
      }

-- 1 Share: one transaction, and each of a list
module _ (s : List ℕ) (party : ℕ) where
  shared_one : (t d : ℕ) → d < destinations → (p : Position) → Wellformed s p → Wellformed s (share_one s party t d p)
  unfolding share_one
  shared_one t d l p g =
      let m = share_mask s (keys p party) t in
      one_changed s p g t (λ x. with_mark party d (with_shared d m x))
      (well_mark s p.mined (well_shared s p.mined (g.slots t) d (share_within s (keys p party) t (2 ^ signatures s) (g.held party))) party l)

  shared_each : (l : List ℕ) (p : Position) → Wellformed s p → Wellformed s (share_each s party l p)
  unfolding share_each
  shared_each [] p g = g
  shared_each (t ∷ l) p g = shared_each l (share_one s party t contract p) (shared_one t contract (omega arith) p g)

  after_share_lem : (t d : ℕ) → d < destinations → (p : Position) → Wellformed s p → Wellformed s (after_share s party t d p)
  unfolding after_share
  after_share_lem t d l p g = picked_has (Wellformed s) (eqb t no_transaction) (shared_each (first_shares party) p g) (shared_one t d l p g)

module _ (s : List ℕ) (p : Position) (g : Wellformed s p) where
  -- 2 Give
  after_give_lem : (i receiver : ℕ) → i < signatures s → Wellformed s (after_give i receiver p)
  unfolding after_give with_key slot keys
  after_give_lem i receiver l =
      record {
        size = g.size;
        slots = g.slots;
        mined = g.mined;
        held = λ party.
            either (stored p.keys receiver party (bit_or (keys p receiver) (2 ^ i)) 0)
            (λ e. rw e (g.held party))
            (λ e. rw e.1 (or_lt (signatures s) (keys p receiver) (2 ^ i) (g.held receiver) (pow-lt l)));
      }

  -- 3 Send to pool
  after_send_lem : Checked s → (t : ℕ) → t < count s → (to : Destination) → Wellformed s (after_send s t (destination_number to) p)
  unfolding after_send
  after_send_lem ok t l to =
      let d = destination_number to in
      one_changed s p g t (λ x. with_pool (entry_for d) (with_shared d (exposed_mask s t) x))
      (well_pool s p.mined (well_shared s p.mined (g.slots t) d (exposed_within s ok t l)) (entry_within to))

  -- 4 Hand to miner
  after_hand_in_lem : (t : ℕ) (to : Destination) → Wellformed s (after_hand_in t (destination_number to) p)
  unfolding after_hand_in
  after_hand_in_lem t to =
      one_changed s p g t (with_block (entry_for (destination_number to))) (well_block s p.mined (g.slots t) (entry_within to))

  -- 5 Include
  after_include_lem : (t : ℕ) → Wellformed s (after_include t p)
  unfolding after_include
  after_include_lem t = one_changed s p g t (λ x. with_block x.pool x) (well_block s p.mined (g.slots t) (g.slots t).pool)

  -- 6 Mine
  confirmed_entry : Checked s → (t : ℕ) → t < count s → WellformedSlot s (p.mined + 1) (confirm_entry s (p.mined + 1) t (slot p t))
  unfolding confirm_entry
  confirmed_entry ok t l =
      let m = p.mined + 1 in
      let x = slot p t in
      let w : WellformedSlot s m x = well_later s (omega arith) (g.slots t) in
      split (standing x.block)
      (λ on. rw on
      (well_block s m
      (well_confirmed s m (well_shared s m w (entry_to x.block) (exposed_within s ok t l)) w.block on (omega arith) (le_refl m))
      (omega arith)))
      (λ on. rw on w)

  after_mine_lem : Checked s → p.mined < block_limit → Wellformed s (after_mine s p)
  unfolding after_mine mine_slot
  after_mine_lem ok few =
      let m = p.mined + 1 in
      all_changed s p g (mine_slot s p) m (omega arith) (omega arith) (λ t l.
      let y = confirmed_entry ok t l in
      picked_has (WellformedSlot s m) (leaves_pool s (in_block p) t) (well_pool s m y (omega arith)) y)

  -- 7 Bump
  after_bump_lem : (t : ℕ) → Wellformed s (after_bump s t p)
  unfolding after_bump bump_slot change_slots with_slots with_mined
  after_bump_lem t =
      all_changed s p g (bump_slot s p t) p.mined (le_refl p.mined) g.mined (λ k l.
      let w = g.slots k in
      picked_has (WellformedSlot s p.mined) (enters s p t k)
      (well_block s p.mined w w.pool)
      (picked_has (WellformedSlot s p.mined) (leaves_block s (enters s p t) k) (well_block s p.mined w (omega arith)) w))

module _ (s u : List ℕ) (ok : Checked s) where
  -- a step whose fields are right and whose tests pass
  wellformed_effect : (p : Position) (x : Step) → Wellformed s p → fields_right s u x ≡ true → step_refusal s u p x ≡ 0 → Wellformed s (effect s p x)
  unfolding effect step_refusal tests mine_tests
  wellformed_effect p (Share party t to) g f h = after_share_lem s party t (destination_number to) (destination_within to) p g
  wellformed_effect p (Give party i to) g f h = after_give_lem s p g i (destination_number to) (give_right s u p party i to f).0
  wellformed_effect p (SendToPool party t to) g f h = after_send_lem s p g ok t (sent_to_pool s u p party t to f h).low to
  wellformed_effect p (HandToMiner party t to) g f h = after_hand_in_lem s p g t to
  wellformed_effect p (Include party t to) g f h = after_include_lem s p g t
  wellformed_effect p (Mine party t to) g f h = after_mine_lem s p g ok (ltb-true p.mined block_limit (passed (tests s u p (Mine party t to)) refl h 23))
  wellformed_effect p (Bump party t to) g f h = after_bump_lem s p g t

  wellformed_case : (p : Position) (b : FourBytes) → Wellformed s p → StepCase s u p b → Wellformed s (step s u p b).position
  wellformed_case p b g (taken x d f r e) = rw e (wellformed_effect p x g f r)
  wellformed_case p b g (turned_down n m e) = rw e g

  pub wellformed_step : (p : Position) (b : FourBytes) → Wellformed s p → Wellformed s (step s u p b).position
  wellformed_step p b g = wellformed_case p b g (step_case s u p b)

  pub wellformed_play : (bs : List FourBytes) (p : Position) → Wellformed s p → Wellformed s (play s u bs p)
  unfolding play
  wellformed_play [] p g = g
  wellformed_play (b ∷ bs) p g = wellformed_play bs (step s u p b).position (wellformed_step p b g)

  -- a row of steps up to the first refused one
  wellformed_row : (bs : List FourBytes) (c : ℕ) (p : Position) → Wellformed s p → Wellformed s (run_from s u bs c p).position
  unfolding run_from
  wellformed_row [] c p g = g
  wellformed_row (b ∷ bs) c p g =
      split (eqb (step s u p b).refusal accepted)
      (λ y. rw (y, run_from) (wellformed_row bs (c + 1) (step s u p b).position (wellformed_step p b g)))
      (λ y. rw (y, run_from) g)

  -- a journal, whatever the setup and its own length
  pub wellformed_run : (j : List ℕ) → Wellformed s (run s u j).position
  unfolding run
  wellformed_run j =
      split (eqb (first_failing (call_tests s u j)) accepted)
      (λ y. rw (y, run) (wellformed_row (journal_steps j) 0 (start s) (wellformed_start s ok)))
      (λ y. rw (y, run) (wellformed_start s ok))
