-- Phase 2, as document 02's Slip 6 has it, in every position: "In phase 2 Alice may now send any transaction under the same conduct tests as in phase 3; she neither
-- shares success nor gives keys there."
-- Assumes nothing.
use Rattle.laws.proofs.Prelude.{ℕ, ◌≡◌, refl, false, not, ◌||◌, List, eqb, split}
use Rattle.position.proofs.Rules.{alice, no_transaction, may_send, is_open, is_careful, phase, alice_shares, may_share, alice_gives, may_give, safe_to_send, send_allowed}
use Rattle.position.specs.declared.Position.{Position}

-- who may send what is as in phase 3
pub sends_as_in_3 : (party t : ℕ) → may_send 2 party t ≡ may_send 3 party t
unfolding may_send
sends_as_in_3 party t = refl

module _ (s u : List ℕ) (p : Position) (two : phase p ≡ 2) where
  -- any transaction under loose conduct; under careful conduct with the careful tests of phase 3
  pub alice_sends : (t : ℕ) → send_allowed s u p alice t ≡ (is_open u || (not (is_careful u) || safe_to_send s p alice t))
  unfolding send_allowed may_send
  alice_sends t = rw two

  pub alice_shares_nothing : (t : ℕ) → may_share s u p alice t ≡ false
  unfolding may_share alice_shares
  alice_shares_nothing t = split (eqb t no_transaction) (λ e. rw (e, two)) (λ e. rw (e, two))

  pub alice_gives_nothing : (i : ℕ) → may_give s u p alice i ≡ false
  unfolding may_give alice_gives
  alice_gives_nothing i = rw two
