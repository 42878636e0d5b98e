-- What can come without X after a step of others, as X counts on the position then, could come before it, whatever more X sends; and what
-- is confirmed then and was not could come.
-- Assumes nothing.
use Rattle.laws.proofs.Prelude.{ℕ, ◌<◌, ◌≡◌, true, false, List, eqb, bit}
use Rattle.position.proofs.Rules.{count, sheet_refusal, setup_refusal, Checked, destinations, is_party, block_of, is_confirmed, confirmed_to, FourBytes, step}
use Rattle.position.proofs.Rules.{alice, contract, secret_bob, success, shared, holds}
use Rattle.position.specs.declared.Position.{Position}
use Rattle.sheet.proofs.Theorems.{sheet_checked, setup_checked}
use Rattle.claim_ledger.proofs.Sound.{Sound}
use Rattle.claim_ledger.proofs.EachKind.{wide}
use Rattle.claim_ledger.proofs.SoundSteps.{sound_step}
use Rattle.claim_outage.proofs.Play.{later_step}
use Rattle.attainable.specs.Attainable.{forgone, comes, attainable, attainable_elsewhere, Closed}
use Rattle.attainable.proofs.Rounds.{least}
use Rattle.claim_attainable.specs.Words.{step_of}
use Rattle.claim_attainable.proofs.Forgoing.{still_forgone}
use Rattle.claim_attainable.proofs.Carrying.{Carries}
use Rattle.claim_attainable.proofs.Played.{moved_step}
use Rattle.slack.specs.Settled.{settles, settled}
use Rattle.slack.proofs.Onward.{Within}
use Rattle.claim_slack.proofs.SettledSlots.{settles_in, settled_mined, settled_keys, settled_pool, settled_pool_to, settled_blocks, settled_to, settled_block}
use Rattle.claim_slack.proofs.SettledSlots.{settled_block_to, settled_kept, settled_shows, settled_from}
use Rattle.claim_slack.proofs.Onwards.{step_moved}
use Rattle.claim_slack.proofs.SettledFrom.{SettledFrom}
use Rattle.claim_slack.proofs.SettledComes.{nothing}
use Rattle.claim_slack.proofs.SettledCarries as between
use Rattle.claim_slack.proofs.Carried as all

settled_made : (s u : List ℕ) → Checked s → (p : Position) → Sound s u p → (x : ℕ) → SettledFrom s p (settled s u p x) (settles s u p x)
settled_made s u ok p g x =
    let few = wide s u ok p g in
    record {
      mined = settled_mined s u p x;
      keys = λ y. rw (settled_keys s u p x);
      pool = λ t. rw (settled_pool s u p x);
      pool_to_lem = λ t. rw (settled_pool_to s u p x);
      there = settles_in s u p x;
      blocks = λ t. rw (settled_blocks s u p x few g.beyond);
      to = λ t. rw (settled_to s u p x few g.beyond);
      block = λ t. rw (settled_block s u p x few g.beyond);
      block_to_lem = settled_block_to s u p x few g.beyond;
      kept = settled_kept s u p x few g.beyond;
      shows = settled_shows s u p x few g.beyond;
      from = settled_from s u p x few g.beyond;
    }

module _ (s u : List ℕ) (h : sheet_refusal s ≡ 0) (k : setup_refusal s u ≡ 0) (p : Position) (g : Sound s u p) (x : ℕ) (who : is_party s x ≡ true)
    (b : FourBytes) (i : step_of x b ≡ false) where
  abbrev ok : Checked s
  ok = sheet_checked s h

  abbrev q : Position
  q = (step s u p b).position

  abbrev now : Position
  now = settled s u p x

  abbrev then : Position
  then = settled s u q x

  -- what is confirmed now stays so, and what is shared of success does
  module _ (stay : (t : ℕ) → t < count s → is_confirmed now t ≡ true → block_of then t ≡ block_of now t)
      (shares : (j : ℕ) → bit (shared now success contract) j ≡ true → bit (shared then success contract) j ≡ true) where
    forgo : (t : ℕ) → forgone s u now t ≡ true → forgone s u then t ≡ true
    unfolding holds
    forgo t =
        still_forgone s u now then t (λ e. shares)
        (λ y. rw (settled_keys s u q x) ((step_moved s u h k p g b).keys_kept alice secret_bob (rw (settled_keys s u p x) at y)))

    abbrev can : ℕ → ℕ
    can a = attainable s u now x (bit a)

    closed : (a : ℕ) → Closed s u now x (bit a) (can a)
    closed a = (least s u ok now x (bit a)).closed

    carried : (a : ℕ) → Carries s u now x (bit a) (can a) then
        × ((t : ℕ) → t < count s → is_confirmed now t ≡ false → is_confirmed then t ≡ true
        → (confirmed_to then t < destinations) × (comes s u now x (bit a) (can a) t (confirmed_to then t) ≡ true))
    carried a =
        let on = sound_step s u h k p b g in
        between.carried s u ok (setup_checked s u k) p g now (settles s u p x) (settled_made s u ok p g x) x who
        q on (later_step s u h k p b g) (moved_step s u ok p g x nothing b i) then (settles s u q x) (settled_made s u ok q on x) stay forgo
        (bit a) (can a) (closed a)

    pub fewer : (a c : ℕ) → Within s a c → Within s (attainable s u then x (bit a)) (can c)
    fewer = all.fewer s u ok now x then (λ a. (carried a).0)

    pub fewer_elsewhere : (a c : ℕ) → Within s a c → Within s (attainable_elsewhere s u then x (bit a)) (attainable_elsewhere s u now x (bit c))
    fewer_elsewhere = all.fewer_elsewhere s u ok now x then (λ a. (carried a).0)

    module _ (t : ℕ) (l : t < count s) (n : is_confirmed now t ≡ false) (c : is_confirmed then t ≡ true) (a : ℕ) where
      pub came_comes : bit (can a) t ≡ true
      came_comes = let w = (carried a).1 t l n c in closed a t l (confirmed_to then t) w.0 w.1

      pub came_elsewhere : eqb (confirmed_to then t) x ≡ false → bit (attainable_elsewhere s u now x (bit a)) t ≡ true
      came_elsewhere off = let w = (carried a).1 t l n c in all.elsewhere_has s u ok now x a t (confirmed_to then t) l w.0 off w.1
