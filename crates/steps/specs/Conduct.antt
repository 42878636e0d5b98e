-- Conduct over what it reads: the phase, what is held, shared or sent, and the time. A position supplies it in the specs of position, its guards in
-- Forms.
-- Assumes nothing.
use Rattle.std.specs.Prelude.{ℕ, Bool, not, ◌&&◌, ◌||◌, List, eqb, leb}
use Rattle.laws.specs.Booleans.{pick}
use Rattle.laws.specs.Mask.{bit}
use Rattle.sheet.specs.Field.{required}
use Rattle.slots.specs.Destination.{alice, bob}
use Rattle.steps.specs.Names.{sig_alice, secret_alice, secret_bob, lock_a, success, refund1, spend_b}
use Rattle.steps.specs.Decode.{no_transaction}

-- "Phase 3: Alice .. shares success if refund_1 is neither in pool nor confirmed and it isn't late"; of phase 2: "she neither shares success nor gives keys there"
unfoldable pub alice_shares_rule : ℕ → Bool → Bool → ℕ → Bool
alice_shares_rule phase refund late t = eqb phase 3 && (eqb t success && (not refund && not late))

-- "Phase 0: Alice shares .., Bob .., each as one step (transaction 255, destination 2)."; else Alice's share of success
unfoldable pub may_share_rule : ℕ → Bool → ℕ → ℕ → Bool
may_share_rule phase hers party t = pick (eqb t no_transaction) (eqb phase 0) (eqb party alice && hers)

-- "Phase 3: Alice gives sigAlice if she holds secretBob and it isn't late"
unfoldable pub alice_gives_rule : ℕ → Bool → Bool → ℕ → Bool
alice_gives_rule phase knows late i = eqb phase 3 && (eqb i sig_alice && (knows && not late))

-- "Phases 2 and 3: .. He gives secretBob if he has sigAlice and lacks secretAlice for success, and it isn't late."
unfoldable pub bob_gives_rule : ℕ → ℕ → Bool → ℕ → Bool
bob_gives_rule phase has late i = leb 2 phase && (eqb i secret_bob && (bit has sig_alice && (not (bit has secret_alice) && not late)))

-- "a step of Alice or Bob not named below gets 13": of gives these two are named
unfoldable pub may_give_rule : Bool → Bool → ℕ → Bool
may_give_rule hers his party = (eqb party alice && hers) || (eqb party bob && his)

-- who may send in which phase: "Phase 1: Alice may send lock_A only.", "In phase 2 Alice may now send any transaction under the same conduct tests as in phase 3"
-- (document 02, Slip 6), "Phase 3: Alice .. may send", "Phases 2 and 3: Bob may send."
unfoldable pub may_send : ℕ → ℕ → ℕ → Bool
may_send phase party t =
    (eqb party alice && ((eqb phase 1 && eqb t lock_a) || leb 2 phase))
    || (eqb party bob && leb 2 phase)

-- "Of the others that need secretAlice, once she holds secretBob she sends spend_B only."
unfoldable pub secret_safe_rule : List ℕ → Bool → ℕ → Bool
secret_safe_rule s knows t = not (bit (required s t) secret_alice) || (not knows || eqb t spend_b)

-- "Careful only: Alice sends refund_1 only while success has no shared entry", and the others as above
unfoldable pub safe_to_send_rule : Bool → Bool → ℕ → ℕ → Bool
safe_to_send_rule unshared safe party t = not (eqb party alice) || pick (eqb t refund1) unshared safe

-- "To send means kind 3 or 4": the lines on sending, but for paying first
unfoldable pub send_allowed_rule : Bool → Bool → ℕ → Bool → ℕ → ℕ → Bool
send_allowed_rule free careful phase safe party t = free || (may_send phase party t && (not careful || safe))
