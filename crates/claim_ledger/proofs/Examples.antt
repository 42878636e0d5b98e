-- What the claim's words come to on the SASwap sheet, computed: where Bob is paid from coin A and Alice from coin B, where it is the
-- other way round, and where nobody is paid.
-- Assumes nothing.
use Rattle.laws.proofs.Prelude.{ℕ, ◌<◌, ◌≡◌, refl, Bool, true, false, not, ◌&&◌, false≢true, List, [], ◌∷◌, ◌++◌, eqb, lit<, length, replicate, arith, flat_map, pick}
use Rattle.laws.proofs.Prelude.{gather, every}
use Rattle.position.proofs.Rules.{accepted, saswap, alice, bob, contract, Entry, nobody, ledger_holder, with_confirmed, lock_a, lock_b, success, refund1, spend_a, spend_b}
use Rattle.position.proofs.Rules.{start, block_of, change_slot, journal_steps, is_payout, is_payout_to, reported_holder, holder_in}
use Rattle.position.specs.declared.Position.{Position}
use Rattle.laws.specs.Same.{same}
use Rattle.dated.proofs.OpenedRules.{opened_dated}
use Rattle.claim_ledger.specs.Claim.{entries_of, books_of, position_of, report_of, reported_bytes, Same}
use Rattle.claim_ledger.specs.Once.{OpenedOnce, SpentOnce, SpentAfter, NoEarlyLock}
use Rattle.claim_ledger.proofs.Tested.{apart, open_both, spend_both, parent_at, behind, opened_by, spent_by, after_by, after_says, locks_by}

-- 3 blocks per day, open, stealth 0
abbrev sheet : List ℕ
sheet = saswap 3

abbrev setup : List ℕ
setup = 3 ∷ 0 ∷ 0 ∷ 0 ∷ []

-- room for a report
abbrev out : List ℕ
out = replicate 270 0

-- lock_A in block 1, lock_B in block 2
abbrev locked : List ℕ
locked =
    3 ∷ 0 ∷ 0 ∷ 2
    ∷ 5 ∷ 2 ∷ 0 ∷ 2
    ∷ 6 ∷ 2 ∷ 255 ∷ 2
    ∷ 3 ∷ 1 ∷ 1 ∷ 2
    ∷ 5 ∷ 2 ∷ 1 ∷ 2
    ∷ 6 ∷ 2 ∷ 255 ∷ 2
    ∷ []

-- Alice gives sig_alice, and Bob sends spend_A; he gives secret_bob, and she sends spend_B
abbrev swapped : List ℕ
swapped = 2 ∷ 0 ∷ 0 ∷ 1 ∷ 3 ∷ 1 ∷ 7 ∷ 1 ∷ 2 ∷ 1 ∷ 3 ∷ 0 ∷ 3 ∷ 0 ∷ 8 ∷ 0 ∷ []

-- Bob gives sig_bob, and Alice sends spend_A; she gives secret_alice, and he sends spend_B
abbrev returned : List ℕ
returned = 2 ∷ 1 ∷ 1 ∷ 0 ∷ 3 ∷ 0 ∷ 7 ∷ 0 ∷ 2 ∷ 0 ∷ 2 ∷ 1 ∷ 3 ∷ 1 ∷ 8 ∷ 1 ∷ []

-- bytes that are no step, and a spend before its parent: both are refused
abbrev refused : List ℕ
refused = 0 ∷ 0 ∷ 0 ∷ 0 ∷ 3 ∷ 1 ∷ 9 ∷ 1 ∷ []

-- lock_A once more: refused
abbrev again : List ℕ
again = 3 ∷ 0 ∷ 0 ∷ 2 ∷ []

-- spend_A, which is bumped, and spend_B in block 3
abbrev mined : List ℕ
mined = 7 ∷ 2 ∷ 7 ∷ 2 ∷ 5 ∷ 2 ∷ 8 ∷ 2 ∷ 6 ∷ 2 ∷ 255 ∷ 2 ∷ []

-- an entry as three numbers
abbrev numbers : Entry → List ℕ
numbers e = e.transaction ∷ e.destination ∷ e.block ∷ []

-- who is paid by a coin, where `held` gives each coin's holder
abbrev paid : (ℕ → ℕ) → ℕ → List ℕ
paid held coin = gather 3 (λ party. pick (is_payout_to sheet held party coin) (party ∷ []) [])

-- a reading of the holders says this of coins A and B
pub record Reading : Type 0 where
  pub holder_a : ℕ
  pub holder_b : ℕ
  pub paid_by_a : List ℕ
  pub paid_by_b : List ℕ

unfoldable pub reads : (ℕ → ℕ) → Reading → Bool
reads held r =
    eqb (held lock_a) r.holder_a
    && (eqb (held lock_b) r.holder_b
    && (same (paid held lock_a) r.paid_by_a
    && (same (paid held lock_b) r.paid_by_b
    && (eqb (length r.paid_by_a) (pick (is_payout sheet held lock_a) 1 0)
    && (eqb (length r.paid_by_b) (pick (is_payout sheet held lock_b) 1 0)
    -- a coin goes by its opening: no other number is a payout
    && not (is_payout sheet held spend_a))))))

-- a list of four-byte groups, what it confirms as three numbers each, and what every reading of the holders says
pub record Example : Type 0 where
  pub steps : List ℕ
  pub confirmed : List ℕ
  pub reading : Reading

unfoldable pub holds : Example → Bool
holds x =
    let bs = journal_steps x.steps in
    same (flat_map numbers (entries_of sheet setup bs)) x.confirmed
    && ((books_of sheet setup bs).accepts
    && (reads (holder_in sheet (position_of sheet setup bs)) x.reading
    && (reads (ledger_holder (books_of sheet setup bs).kept) x.reading
    && (eqb (report_of sheet setup bs out).refusal accepted
    && reads (reported_holder sheet (reported_bytes sheet setup bs out)) x.reading))))

unfoldable pub examples : List Example
examples =
    -- nothing is confirmed
    record { steps = refused; confirmed = []; reading = record { holder_a = nobody; holder_b = nobody; paid_by_a = []; paid_by_b = [] } }
    -- both coins are held by the contract: no payout
    ∷ record {
      steps = locked ++ refused ++ again;
      confirmed = lock_a ∷ contract ∷ 1 ∷ lock_b ∷ contract ∷ 2 ∷ [];
      reading = record { holder_a = contract; holder_b = contract; paid_by_a = []; paid_by_b = [] };
    }
    -- Bob is paid from coin A, Alice from coin B
    ∷ record {
      steps = locked ++ swapped ++ again ++ mined;
      confirmed = lock_a ∷ contract ∷ 1 ∷ lock_b ∷ contract ∷ 2 ∷ spend_a ∷ bob ∷ 3 ∷ spend_b ∷ alice ∷ 3 ∷ [];
      reading = record { holder_a = bob; holder_b = alice; paid_by_a = bob ∷ []; paid_by_b = alice ∷ [] };
    }
    -- Alice is paid from coin A, Bob from coin B
    ∷ record {
      steps = locked ++ returned ++ mined ++ again;
      confirmed = lock_a ∷ contract ∷ 1 ∷ lock_b ∷ contract ∷ 2 ∷ spend_a ∷ alice ∷ 3 ∷ spend_b ∷ bob ∷ 3 ∷ [];
      reading = record { holder_a = alice; holder_b = bob; paid_by_a = alice ∷ []; paid_by_b = bob ∷ [] };
    }
    ∷ []

-- holders that are the ledger's, whatever they are read from: where Bob is paid from coin A, they say so
pub paid_as_kept : (held : ℕ → ℕ) → Same sheet held (books_of sheet setup (journal_steps (locked ++ swapped ++ mined))).kept
    → (held lock_a ≡ bob) × (is_payout sheet held lock_a ≡ true) × (is_payout_to sheet held bob lock_a ≡ true) × (is_payout_to sheet held alice lock_a ≡ false)
unfolding opened_dated
paid_as_kept held x = (x.holders lock_a, x.payouts lock_a, x.payouts_to bob lock_a, x.payouts_to alice lock_a)

-- the one fact
pub all_hold : every holds examples ≡ true
unfolding opened_dated reads holds examples
all_hold = refl

-- ---- the words of `Once`, where each is true and where it is not
abbrev entry : ℕ → ℕ → ℕ → Entry
entry t destination b = record { transaction = t; destination = destination; block = b }

-- lock_A and lock_B, then spend_A and spend_B in one block
abbrev spends : List Entry
spends = entry lock_a contract 1 ∷ entry lock_b contract 2 ∷ entry spend_a bob 3 ∷ entry spend_b alice 3 ∷ []

-- no coin is opened twice: spend_A is of the coin that lock_A opens, but opens none
pub opened_once : OpenedOnce sheet spends
unfolding opened_dated apart open_both
opened_once = opened_by sheet spends refl

-- lock_A in two blocks
pub opened_twice : OpenedOnce sheet (entry lock_a contract 1 ∷ entry lock_a contract 2 ∷ []) → ⊥
unfolding opened_dated
opened_twice h =
    let z : ◌≡◌ {A = ℕ} 0 1 = h 0 1 (entry lock_a contract 1) (entry lock_a contract 2) refl refl refl refl refl in omega arith

-- no output is spent twice: lock_A and lock_B have no parent, so spend none
pub spent_once : SpentOnce sheet spends
unfolding opened_dated apart spend_both
spent_once = spent_by sheet spends refl

-- lock_A's output by success and by refund_1, and by spend_A in two blocks
pub spent_by_rivals : SpentOnce sheet (entry lock_a contract 1 ∷ entry success contract 2 ∷ entry refund1 contract 4 ∷ []) → ⊥
unfolding opened_dated
spent_by_rivals h =
    let z : ◌≡◌ {A = ℕ} 1 2 = h 1 2 (entry success contract 2) (entry refund1 contract 4) refl refl refl refl in omega arith

pub spent_twice : SpentOnce sheet (entry lock_a contract 1 ∷ entry spend_a bob 2 ∷ entry spend_a alice 3 ∷ []) → ⊥
unfolding opened_dated
spent_twice h =
    let z : ◌≡◌ {A = ℕ} 1 2 = h 1 2 (entry spend_a bob 2) (entry spend_a alice 3) refl refl refl refl in omega arith

-- every spend stands behind its parent, in a later block or in the same
pub spent_after : (SpentAfter sheet spends) × (SpentAfter sheet (entry lock_a contract 1 ∷ entry spend_a bob 1 ∷ []))
unfolding opened_dated behind parent_at
spent_after = (after_by sheet spends refl, after_by sheet (entry lock_a contract 1 ∷ entry spend_a bob 1 ∷ []) refl)

-- behind another transaction only; before its parent; behind it, but in an earlier block
pub spent_alone : SpentAfter sheet (entry lock_b contract 1 ∷ entry spend_a bob 1 ∷ []) → ⊥
unfolding opened_dated behind parent_at
spent_alone h = false≢true (after_says sheet (entry lock_b contract 1 ∷ entry spend_a bob 1 ∷ []) h 1 (lit< tt))

pub spent_before : SpentAfter sheet (entry spend_a bob 1 ∷ entry lock_a contract 1 ∷ []) → ⊥
unfolding opened_dated behind parent_at
spent_before h = false≢true (after_says sheet (entry spend_a bob 1 ∷ entry lock_a contract 1 ∷ []) h 0 (lit< tt))

pub spent_early : SpentAfter sheet (entry lock_a contract 2 ∷ entry spend_a bob 1 ∷ []) → ⊥
unfolding opened_dated behind parent_at
spent_early h = false≢true (after_says sheet (entry lock_a contract 2 ∷ entry spend_a bob 1 ∷ []) h 1 (lit< tt))

-- refund_1, whose lock height is 3, in block 4: Bob shares it, and Alice sends it at 3 blocks
abbrev refunded : List ℕ
refunded =
    3 ∷ 0 ∷ 0 ∷ 2
    ∷ 5 ∷ 2 ∷ 0 ∷ 2
    ∷ 6 ∷ 2 ∷ 255 ∷ 2
    ∷ 1 ∷ 1 ∷ 3 ∷ 2
    ∷ 6 ∷ 2 ∷ 255 ∷ 2
    ∷ 6 ∷ 2 ∷ 255 ∷ 2
    ∷ 3 ∷ 0 ∷ 3 ∷ 2
    ∷ 5 ∷ 2 ∷ 3 ∷ 2
    ∷ 6 ∷ 2 ∷ 255 ∷ 2
    ∷ []

pub lock_reached : (NoEarlyLock sheet setup (position_of sheet setup (journal_steps refunded))) × (block_of (position_of sheet setup (journal_steps refunded)) refund1 ≡ 4)
unfolding opened_dated
lock_reached = (locks_by sheet setup (position_of sheet setup (journal_steps refunded)) refl, refl)

-- the same in block 3
abbrev too_early : Position
too_early = change_slot refund1 (with_confirmed 3 3) (start sheet)

pub lock_early : NoEarlyLock sheet setup too_early → ⊥
unfolding opened_dated
lock_early h = let z : 3 < 3 = h refund1 (lit< tt) refl in omega arith
