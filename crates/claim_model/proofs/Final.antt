-- An ending is final: what is confirmed stays so, for the same destination, and after a timeout secret_bob stays with Bob.
-- Assumes nothing.
use Rattle.laws.proofs.Prelude.{ℕ, ◌<◌, ◌≡◌, true, false, not, ◌&&◌, List, [], ◌∷◌, eqb, not-true, arith, split, either, clash, and_parts, or_parts, or_right, fails_by}
use Rattle.position.proofs.Rules.{count, Checked, SetupChecked, per_day, conduct, setup_refusal, Step, Share, Give, SendToPool, HandToMiner, Include, Mine, Bump, alice}
use Rattle.position.proofs.Rules.{bob, destination_number, fields_right, secret_bob, revoke, timeout, spend_a, spend_b, spend_success, spend_refund1_alice, spend_revoke}
use Rattle.position.proofs.Rules.{spend_refund2, spend_timeout, in_block, block_of, is_confirmed, confirmed_to, holds, step_refusal, effect, FourBytes, step, play}
use Rattle.position.specs.declared.Position.{Position}
use Rattle.sheet.proofs.Theorems.{saswap_passes, sheet_checked, setup_checked}
use Rattle.slots.proofs.Conflicts.{conflict_self}
use Rattle.position.proofs.StepCases.{StepCase, taken, turned_down, step_case}
use Rattle.step_laws.proofs.AfterShares.{share_confirmed, give_confirmed}
use Rattle.step_laws.proofs.AfterSends.{send_confirmed, hand_confirmed, include_confirmed}
use Rattle.step_laws.proofs.AfterBlocks.{mine_to, bump_confirmed}
use Rattle.step_laws.proofs.Moved.{moved}
use Rattle.claim_ledger.proofs.Sound.{Sound}
use Rattle.claim_careful.specs.Claim.{in_shared}
use Rattle.claim_careful.proofs.Apart.{revoke_late, secret_bob_shown, revoked_unshown}
use Rattle.claim_careful.proofs.Fate.{Lasts, lasts, stays_confirmed}
use Rattle.claim_careful.proofs.Invariant.{Invariant}
use Rattle.claim_careful.proofs.Payouts.{above}
use Rattle.claim_careful.proofs.Places.{confirmed_anywhere}
use Rattle.claim_careful.proofs.Setting.{sheet}
use Rattle.claim_careful.proofs.Table.{below}
use Rattle.claim_careful.proofs.Traced.{given_early}
use Rattle.claim_known.specs.Heights.{heights_rise}
use Rattle.claim_model.specs.Words.{has_custody, swap_successful, swap_aborted, swap_timed_out}
use Rattle.claim_model.specs.Claim.{Final}
use Rattle.claim_model.proofs.AnySheets.{has_block, chain_low}
use Rattle.claim_model.proofs.Shared.{shared_shown}
use Rattle.claim_model.proofs.Taking.{confirmed_at}
use Rattle.claim_model.proofs.Watched.{Watched, watched_case}
use Rattle.claim_ledger.proofs.EachKind.{wide}

-- ---- destinations stay
module _ (s u : List ℕ) (ok : Checked s) (p : Position) (g : Sound s u p) where
  to_kept : (x : Step) → (t : ℕ) → t < count s → 0 < block_of p t → confirmed_to (effect s p x) t ≡ confirmed_to p t
  unfolding effect
  to_kept (Share party k to) t l h = rw (share_confirmed s party k (destination_number to) p).to
  to_kept (Give party i to) t l h = rw (give_confirmed i (destination_number to) p).to
  to_kept (SendToPool party k to) t l h = rw (send_confirmed s k (destination_number to) p).to
  to_kept (HandToMiner party k to) t l h = rw (hand_confirmed k (destination_number to) p).to
  to_kept (Include party k to) t l h = rw (include_confirmed k p).to
  to_kept (Mine party k to) t l h =
      rw (mine_to s p (wide s u ok p g) g.beyond)
      (split (in_block p t) (λ b. absurd (omega (arith, g.block.free t t l l b (conflict_self s t), h))) (λ b. rw b))
  to_kept (Bump party k to) t l h = rw (bump_confirmed s p (wide s u ok p g) g.beyond k).to

module _ (u : List ℕ) (c : conduct u ≡ 2) (su : SetupChecked (sheet u) u) (ok : Checked (sheet u)) (p : Position) (g : Sound (sheet u) u p) (j : Invariant u p)
    (x : Step) (f : fields_right (sheet u) u x ≡ true) (h : step_refusal (sheet u) u p x ≡ 0) where
  abbrev q : Position
  q = effect (sheet u) p x

  ls : Lasts (sheet u) u p q
  ls = lasts (sheet u) u ok p g x f h

  stays : (t : ℕ) → is_confirmed p t ≡ true → is_confirmed q t ≡ true
  stays t e = confirmed_at q t (stays_confirmed ls t (chain_low (sheet u) u p g t e) (has_block (sheet u) u p g t e))

  custody_stays : (ids : List ℕ) (party : ℕ) → has_custody p ids party ≡ true → has_custody q ids party ≡ true
  unfolding has_custody
  custody_stays [] party e = e
  custody_stays (t ∷ ids) party e =
      either (or_parts (is_confirmed p t && eqb (confirmed_to p t) party) (has_custody p ids party) e)
      (λ y.
      let a = and_parts (is_confirmed p t) (eqb (confirmed_to p t) party) y in
      let to = to_kept (sheet u) u ok p g x t (chain_low (sheet u) u p g t a.0) (has_block (sheet u) u p g t a.0) in
      rw (stays t a.0, to, a.1))
      (λ y. or_right (is_confirmed q t && eqb (confirmed_to q t) party) (has_custody q ids party) (custody_stays ids party y))

  -- after a timeout
  module _ (r : 0 < block_of p revoke) where
    not_given : holds p alice secret_bob ≡ false → holds q alice secret_bob ≡ false
    not_given n =
        fails_by (holds q alice secret_bob)
        (λ y.
        either (given_early u c su.blocks_some su.blocks_few p g j q (moved (sheet u) u p x f h) y)
        (λ z. clash z n)
        (λ z. omega (arith, revoke_late u p g (confirmed_anywhere p revoke r), heights_rise (per_day u) su.blocks_some, z.0)))

  not_shared : Sound (sheet u) u q → Invariant u q → 0 < block_of q revoke → in_shared (sheet u) q secret_bob ≡ false
  not_shared gq jq r =
      fails_by (in_shared (sheet u) q secret_bob)
      (λ y. revoked_unshown u su.blocks_some q gq jq r (secret_bob_shown u q jq (shared_shown (sheet u) q secret_bob y)))

  timeout_stays : Sound (sheet u) u q → Invariant u q → swap_timed_out (sheet u) p ≡ true → swap_timed_out (sheet u) q ≡ true
  unfolding swap_timed_out
  timeout_stays gq jq e =
      let d = per_day u in
      let one = su.blocks_some in
      let a = and_parts (is_confirmed p spend_timeout) _ e in
      let n = not-true (holds p alice secret_bob) (and_parts (not (holds p alice secret_bob)) _ a.1).0 in
      let up : (p' : Position) → Sound (sheet u) u p' → Invariant u p' → is_confirmed p' spend_timeout ≡ true → 0 < block_of p' revoke =
      λ p' g' j' y.
      above u one p' g' j' timeout revoke (below d).4
      (above u one p' g' j' spend_timeout timeout (below d).3 (has_block (sheet u) u p' g' spend_timeout y)) in
      let now = stays spend_timeout a.0 in
      rw (now, not_given (up p g j a.0) n, not_shared gq jq (up q gq jq now))

  pub final_effect : Sound (sheet u) u q → Invariant u q → Final (sheet u) p q
  unfolding swap_successful swap_aborted
  final_effect gq jq =
      record {
        successful = λ e.
            let w = and_parts _ _ e in
            rw (custody_stays (spend_b ∷ []) alice w.0, custody_stays (spend_a ∷ spend_success ∷ spend_timeout ∷ spend_revoke ∷ []) bob w.1);
        aborted = λ e.
            let w = and_parts _ _ e in
            rw (custody_stays (spend_a ∷ spend_refund1_alice ∷ spend_refund2 ∷ []) alice w.0, custody_stays (spend_b ∷ []) bob w.1);
        timed_out_lem = timeout_stays gq jq;
      }

-- ---- along every row of four-byte groups
module _ (u : List ℕ) (r : setup_refusal (sheet u) u ≡ 0) (c : conduct u ≡ 2) where
  ok : Checked (sheet u)
  ok = sheet_checked (sheet u) (saswap_passes (per_day u))

  final_case : (p : Position) (b : FourBytes) → Watched u p → (k : StepCase (sheet u) u p b) → Watched u (step (sheet u) u p b).position → Final (sheet u) p (step (sheet u) u p b).position
  final_case p b w (taken x e f h is) v =
      let n = rw is at v in
      rw is
      (final_effect u c (setup_checked (sheet u) u r) ok p w.guarded.sound w.guarded.invariant x f h n.guarded.sound n.guarded.invariant)
  final_case p b w (turned_down n e is) v = rw is (record { successful = λ h. h; aborted = λ h. h; timed_out_lem = λ h. h })

  pub final_play : (bs : List FourBytes) (p : Position) → Watched u p → Final (sheet u) p (play (sheet u) u bs p)
  unfolding play
  final_play [] p w = record { successful = λ h. h; aborted = λ h. h; timed_out_lem = λ h. h }
  final_play (b ∷ bs) p w =
      let k = step_case (sheet u) u p b in
      let v = watched_case u r c p b w k in
      let a = final_case p b w k v in
      let z = final_play bs (step (sheet u) u p b).position v in
      record {
        successful = λ h. z.successful (a.successful h);
        aborted = λ h. z.aborted (a.aborted h);
        timed_out_lem = λ h. z.timed_out_lem (a.timed_out_lem h);
      }
