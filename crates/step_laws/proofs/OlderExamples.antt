-- Slip 3 on the SASwap sheet, three blocks per day, computed: sends that meet 16 and 17, one of them, a lower number or none, with the
-- number that each got and the one that it gets.
-- Assumes nothing.
use Rattle.laws.proofs.Prelude.{ℕ, ◌≡◌, refl, ap, Bool, true, false, ◌&&◌, List, [], ◌∷◌, ◌++◌, ◌⊎◌, eqb, arith, Bool·beq, either, every}
use Rattle.position.proofs.Rules.{step_signatures, step_lock, saswap, Contract, Step, SendToPool, HandToMiner, alice, bob, revoke, refund2, step_refusal, run}
use Rattle.position.specs.declared.Position.{Position}
use Rattle.position.specs.declared.Ran.{Ran}
use Rattle.position.specs.StepRefusal.{tests}
use Rattle.position.proofs.Opened.{opened}
use Rattle.step_laws.specs.OlderOrder.{older_send_tests, older_pool_tests, older_miner_tests, older_paying_passes, older_can_pay, older_paying_first, older_allows}
use Rattle.step_laws.specs.OlderOrder.{older_refusal, meets, passes_below, meets_both, older_take, older_run_from, older_run, SameRun}

-- "open .., stealth 1"
abbrev setup : List ℕ
setup = 3 ∷ 0 ∷ 0 ∷ 1 ∷ []

abbrev mine : List ℕ
mine = 6 ∷ 2 ∷ 255 ∷ 2 ∷ []

-- lock_A in block 1; revoke's lock height is 6
abbrev at5 : List ℕ
at5 = 3 ∷ 0 ∷ 0 ∷ 2 ∷ 5 ∷ 2 ∷ 0 ∷ 2 ∷ mine ++ mine ++ mine ++ mine ++ mine

-- Alice shares revoke, which Bob can sign then
abbrev shares : List ℕ
shares = 1 ∷ 0 ∷ 4 ∷ 2 ∷ []

-- after this journal, a step, whether it meets 16, 17 and both, and the number that it got and gets
pub record Row : Type 0 where
  pub journal : List ℕ
  pub send : Step
  pub unsigned : Bool
  pub locked : Bool
  pub both : Bool
  pub got : ℕ
  pub gets : ℕ

unfoldable pub holds : Row → Bool
holds r =
    let p = (run (saswap 3) setup r.journal).position in
    Bool·beq (meets step_signatures (tests (saswap 3) setup p r.send)) r.unsigned
    && (Bool·beq (meets step_lock (tests (saswap 3) setup p r.send)) r.locked
    && (Bool·beq (meets_both (tests (saswap 3) setup p r.send)) r.both
    && (eqb (older_refusal (saswap 3) setup p r.send) r.got && eqb (step_refusal (saswap 3) setup p r.send) r.gets)))

unfoldable pub rows : List Row
rows =
    -- both
    record { journal = at5; send = SendToPool bob revoke Contract; unsigned = true; locked = true; both = true; got = 16; gets = 17 }
    ∷ record { journal = at5; send = HandToMiner bob revoke Contract; unsigned = true; locked = true; both = true; got = 16; gets = 17 }
    -- only 16
    ∷ record { journal = at5 ++ mine; send = SendToPool bob revoke Contract; unsigned = true; locked = false; both = false; got = 16; gets = 16 }
    -- only 17
    ∷ record { journal = at5 ++ shares; send = SendToPool bob revoke Contract; unsigned = false; locked = true; both = false; got = 17; gets = 17 }
    -- both, but a lower number too: refund_2 without its parent
    ∷ record { journal = at5; send = SendToPool alice refund2 Contract; unsigned = true; locked = true; both = false; got = 15; gets = 15 }
    -- none
    ∷ record { journal = at5 ++ shares ++ mine; send = HandToMiner bob revoke Contract; unsigned = false; locked = false; both = false; got = 0; gets = 0 }
    ∷ []

pub rows_hold : every holds rows ≡ true
unfolding opened older_send_tests older_pool_tests older_miner_tests older_paying_passes older_can_pay older_paying_first older_allows older_refusal meets passes_below meets_both holds rows
rows_hold = refl

-- the same send in a journal
pub journal_got : (older_run (saswap 3) setup (at5 ++ (3 ∷ 1 ∷ 4 ∷ 2 ∷ mine))).refusal ≡ 16
unfolding opened older_send_tests older_pool_tests older_miner_tests older_paying_passes older_can_pay older_paying_first older_allows older_refusal older_take older_run_from older_run
journal_got = refl

pub journal_gets : (run (saswap 3) setup (at5 ++ (3 ∷ 1 ∷ 4 ∷ 2 ∷ mine))).refusal ≡ 17
unfolding opened
journal_gets = refl

-- what is said of the two answers, where run accepts seven steps and refuses by 17, and where it accepts all
pub as_far : (older : Ran) → SameRun older (run (saswap 3) setup (at5 ++ (3 ∷ 1 ∷ 4 ∷ 2 ∷ mine)))
    → (older.accepted ≡ 7) × (older.position.mined ≡ 5) × ((older.refusal ≡ 17) ⊎ ((older.refusal ≡ 16) × (◌≡◌ {A = ℕ} 17 17)))
unfolding opened
as_far older x = (x.accepted, ap (λ (p : Position). p.mined) x.position, x.refusal)

pub as_far_accepted : (older : Ran) → SameRun older (run (saswap 3) setup at5) → older.refusal ≡ 0
unfolding opened
as_far_accepted older x = either x.refusal (λ e. e) (λ w. let z : ◌≡◌ {A = ℕ} 0 17 = w.1 in absurd (omega (arith, z)))
