-- Soonest deadlines and verdicts on the SASwap sheet, computed.
-- Assumes nothing.
use Rattle.laws.proofs.Prelude.{ℕ, zero, suc, ◌≤◌, ◌<◌, ◌≡◌, refl, Bool, true, false, not, ◌&&◌, ◌||◌, false≢true, List, [], ◌∷◌, ◌++◌, inl, inr, eqb, leb, replicate, eqb-true, le-leb, arith}
use Rattle.laws.proofs.Prelude.{true≢false, some, All, empty, also, all_below, all_at, clash}
use Rattle.position.proofs.Rules.{count, opening, sheet_refusal, setup_refusal, saswap, never, contract, conflict, invalidated, Entry, in_order, ledger, lock_a, lock_b}
use Rattle.position.proofs.Rules.{success, refund1, revoke, refund2, timeout, spend_revoke, spend_b, alice, bob, in_pool, pool_to, is_confirmed, lock_height_in, deadline_in, FourBytes, journal_steps, run}
use Rattle.position.specs.declared.Position.{Position}
use Rattle.position.proofs.Rules.{play}
use Rattle.slots.proofs.Conflicts.{conflict_opening}
use Rattle.position.proofs.Opened.{opened}
use Rattle.soonest.specs.Soonest.{greater, lock_at, soonest_over, soonest_block, soonest_parent, since_locked, may_rise, counts_at, soonest_deadline}
use Rattle.call_outage.specs.Verdict.{soonest_block_in, soonest_deadline_in, is_settled, is_safe, is_covered, is_passed, exposed, verdict, payees_below, block_from, outage_row, outage_bytes}
use Rattle.call_outage.specs.Answer.{outage_answer}
use Rattle.claim_ledger.specs.Claim.{position_of}
use Rattle.claim_outage.specs.Claim.{Fixed, NoneLater, Fate, waits, done, replaced, ousted, Reached, Overtaken, Promise, clear, settled, safe, covered, passed, late}
use Rattle.claim_outage.proofs.Theorems.{foresight, planner}

unfoldable judged : Unit {0}
unfolding opened greater lock_at soonest_over soonest_block soonest_parent since_locked may_rise counts_at soonest_deadline soonest_block_in
    soonest_deadline_in is_settled is_safe is_covered is_passed exposed verdict payees_below block_from outage_row outage_bytes outage_answer
judged = tt

-- so many blocks, and this party's send of a transaction to the pool, included and mined
unfoldable pub mines : ℕ → List ℕ
mines zero = []
mines (suc n) = 6 ∷ 2 ∷ 255 ∷ 2 ∷ mines n

abbrev confirmed : ℕ → ℕ → List ℕ
confirmed party t = 3 ∷ party ∷ t ∷ 2 ∷ 5 ∷ 2 ∷ t ∷ 2 ∷ mines 1

-- both first shares, lock_A in block 1, lock_B in block 2
abbrev locked : List ℕ
locked = 1 ∷ 0 ∷ 255 ∷ 2 ∷ 1 ∷ 1 ∷ 255 ∷ 2 ∷ (confirmed 0 0 ++ confirmed 1 1)

-- 144 blocks a day, careful conduct, no stealth; 288 blocks are mined, revoke is not sent
abbrev daily : List ℕ
daily = 144 ∷ 0 ∷ 2 ∷ 0 ∷ []

abbrev two_days : Position
two_days = (run (saswap 144) daily (locked ++ mines 286)).position

-- of refund_2: the report's deadline, the soonest one, and the verdicts of an outage of 300, 289 and 288 blocks
unfoldable pub of_refund2 : Position → List ℕ
of_refund2 p =
    deadline_in (saswap 144) daily p refund2
    ∷ soonest_deadline_in (saswap 144) daily p refund2
    ∷ verdict (saswap 144) daily p 300 refund2
    ∷ verdict (saswap 144) daily p 289 refund2
    ∷ verdict (saswap 144) daily p 288 refund2
    ∷ []

pub two_days_lem : of_refund2 two_days ≡ never ∷ 577 ∷ 4 ∷ 4 ∷ 0 ∷ []
unfolding judged mines of_refund2
two_days_lem = refl

-- 1 block a day, the same conduct: four blocks are mined, the soonest deadline of refund_2 is 7
abbrev careful : List ℕ
careful = 1 ∷ 0 ∷ 2 ∷ 0 ∷ []

abbrev four_days : Position
four_days = (run (saswap 1) careful (locked ++ mines 2)).position

pub four_days_revoke : soonest_block_in (saswap 1) careful four_days revoke ≡ 5
unfolding judged mines
four_days_revoke = refl

pub four_days_3 : verdict (saswap 1) careful four_days 3 refund2 ≡ 4
unfolding judged mines
four_days_3 = refl

pub four_days_2 : verdict (saswap 1) careful four_days 2 refund2 ≡ 0
unfolding judged mines
four_days_2 = refl

-- what it warns of: revoke comes in block 5, timeout in block 8, and refund_2 is dead
abbrev lost : Position
lost = (run (saswap 1) careful (locked ++ mines 2 ++ confirmed 1 revoke ++ mines 2 ++ confirmed 1 timeout)).position

pub lost_timeout : (is_confirmed lost timeout ≡ true) × (invalidated (saswap 1) (is_confirmed lost) refund2 ≡ true) × (lost.mined ≡ 8)
unfolding judged mines
lost_timeout = (refl, refl, refl)

pub lost_verdict : (verdict (saswap 1) careful lost 9 refund2 ≡ 1) × (block_from (saswap 1) careful lost refund2 ≡ never)
unfolding judged mines
lost_verdict = (refl, refl)

-- 1 block a day, open conduct without and with stealth; four blocks are mined, Bob has sent revoke and spend_revoke below it
abbrev quiet : List ℕ
quiet = 1 ∷ 0 ∷ 0 ∷ 0 ∷ []

abbrev stealthy : List ℕ
stealthy = 1 ∷ 0 ∷ 0 ∷ 1 ∷ []

abbrev sent : List ℕ → Position
sent setup = (run (saswap 1) setup (confirmed 0 0 ++ (2 ∷ 0 ∷ 0 ∷ 1 ∷ mines 3) ++ (3 ∷ 1 ∷ 4 ∷ 2 ∷ 3 ∷ 1 ∷ 12 ∷ 1 ∷ []))).position

-- lock_A is confirmed; revoke is safe, whatever the outage; its child is not, since revoke is unconfirmed
pub sent_settled : verdict (saswap 1) quiet (sent quiet) 9 lock_a ≡ 1
unfolding judged mines
sent_settled = refl

pub sent_safe : verdict (saswap 1) quiet (sent quiet) 9 revoke ≡ 2
unfolding judged mines
sent_safe = refl

pub sent_child : (verdict (saswap 1) quiet (sent quiet) 1 spend_revoke ≡ 0) × (verdict (saswap 1) quiet (sent quiet) 2 spend_revoke ≡ 4)
unfolding judged mines
sent_child = (refl, refl)

-- the deadline of success is passed, with a hand-in left to lose by stealth alone
pub sent_passed : (verdict (saswap 1) quiet (sent quiet) 0 success ≡ 8) × (verdict (saswap 1) stealthy (sent stealthy) 0 success ≡ 12)
unfolding judged mines
sent_passed = (refl, refl)

-- below revoke either party can be paid, below timeout Bob alone
pub sent_payees : (payees_below (saswap 1) revoke ≡ 3) × (payees_below (saswap 1) timeout ≡ 2) × (payees_below (saswap 1) refund2 ≡ 1)
unfolding judged
sent_payees = (refl, refl, refl)

-- ---- the words of specs/Claim.antt, each where it holds and where it does not

abbrev four_steps : List FourBytes
four_steps = journal_steps (locked ++ mines 2)

sheet_passes : sheet_refusal (saswap 1) ≡ 0
unfolding opened
sheet_passes = refl

setup_passes : setup_refusal (saswap 1) careful ≡ 0
unfolding opened
setup_passes = refl

-- a deadline stands of an opening, and below a confirmed parent; not below revoke, which is unconfirmed
pub stands_opening : Fixed (saswap 1) four_days lock_a
unfolding judged mines
stands_opening = inl refl

pub stands_below : Fixed (saswap 1) four_days revoke
unfolding judged mines
stands_below = inr refl

pub stands_not : Fixed (saswap 1) four_days refund2 → ⊥
unfolding judged mines
stands_not (inl e) = false≢true e
stands_not (inr e) = false≢true e

-- no rival of refund_2 that is locked later is confirmed up to block 7, its soonest deadline; in block 8 timeout is
pub none_later : NoneLater (saswap 1) careful (play (saswap 1) careful (journal_steps (confirmed 1 revoke ++ mines 2)) (position_of (saswap 1) careful four_steps)) refund2
unfolding judged mines
none_later =
    ((foresight (saswap 1) careful sheet_passes setup_passes four_steps (journal_steps (confirmed 1 revoke ++ mines 2))).between refund2 (omega arith)).none_until (omega arith)

pub one_later : NoneLater (saswap 1) careful lost refund2 → ⊥
unfolding judged mines
one_later f = let z : 7 ≤ 6 = f timeout (omega arith) refl refl in omega arith

-- the three fates: revoke waits in the pool; timeout is confirmed; below revoke spend_revoke, which has no lock, ousts timeout
pub fate_waits : Fate (saswap 1) quiet (sent quiet) revoke contract
unfolding judged mines
fate_waits = waits refl refl (omega arith)

pub fate_done : Fate (saswap 1) careful lost timeout contract
unfolding judged mines
fate_done = done refl refl

abbrev paid : Position
paid =
    (run (saswap 1) quiet
    (confirmed 0 0 ++ (2 ∷ 0 ∷ 0 ∷ 1 ∷ mines 3) ++ (3 ∷ 1 ∷ 4 ∷ 2 ∷ 3 ∷ 1 ∷ 12 ∷ 1 ∷ 5 ∷ 2 ∷ 4 ∷ 2 ∷ 5 ∷ 2 ∷ 12 ∷ 2 ∷ mines 1))
    ).position

pub fate_ousted : Fate (saswap 1) quiet paid timeout contract
unfolding judged mines
fate_ousted = ousted spend_revoke (omega arith) (λ e. omega (arith, e)) refl refl (omega arith)

-- none of them is refund_2's where timeout, locked later, is confirmed
unfoldable outs : List ℕ → List ℕ → Position → ℕ → ℕ → Bool
outs s u q t r = conflict s r t && (is_confirmed q r && leb (lock_height_in s u q r) (lock_height_in s u q t))

no_fate : (s u : List ℕ) (q : Position) (t to : ℕ) → in_pool q t ≡ false → is_confirmed q t ≡ false → all_below (count s) (λ r. not (outs s u q t r)) ≡ true → Fate s u q t to → ⊥
unfolding outs
no_fate s u q t to p c n (waits i e m) = clash i p
no_fate s u q t to p c n (done d e) = clash d c
no_fate s u q t to p c n (replaced z d e) = clash d c
no_fate s u q t to p c n (ousted r l other x f h) =
    let z = all_at (count s) (λ r. not (outs s u q t r)) n r l in
    let y : false ≡ true = rw (x, f, le-leb (lock_height_in s u q r) (lock_height_in s u q t) h) at z in
    false≢true y

pub no_fate_left : Fate (saswap 1) careful lost refund2 contract → ⊥
unfolding judged mines outs all_below
no_fate_left = no_fate (saswap 1) careful lost refund2 contract refl refl refl

-- a fate names the payee: spend_B, which Bob sent, is confirmed for him and not for Alice
abbrev three_a_day : List ℕ
three_a_day = 3 ∷ 0 ∷ 2 ∷ 0 ∷ []

abbrev spent : Position
spent = (run (saswap 3) three_a_day (locked ++ mines 1 ++ confirmed 0 refund1 ++ (3 ∷ 1 ∷ 8 ∷ 1 ∷ 5 ∷ 2 ∷ 8 ∷ 2 ∷ mines 1))).position

pub fate_bob : Fate (saswap 3) three_a_day spent spend_b bob
unfolding judged mines
fate_bob = done refl refl

only_rival : all_below 15 (λ r. not (conflict (saswap 3) r spend_b) || eqb r spend_b) ≡ true
unfolding judged all_below
only_rival = refl

pub fate_not_alice : Fate (saswap 3) three_a_day spent spend_b alice → ⊥
unfolding judged mines
fate_not_alice (waits i e m) = false≢true i
fate_not_alice (done d e) = let y : ◌≡◌ {A = ℕ} 1 0 = e in omega arith
fate_not_alice (replaced z d e) = let y : ◌≡◌ {A = ℕ} 0 1 = z in omega arith
fate_not_alice (ousted r l other x f h) =
    let z = all_at 15 (λ r. not (conflict (saswap 3) r spend_b) || eqb r spend_b) only_rival r l in
    other (eqb-true r spend_b (rw x at z))

-- the entries so far, and those by which refund_2 is reached in block 7 and overtaken in block 8
abbrev entry : ℕ → ℕ → Entry
entry t block = record { transaction = t; destination = contract; block = block }

abbrev four_entries : List Entry
four_entries = entry lock_a 1 ∷ entry lock_b 2 ∷ []

pub reached_in_7 : Reached (saswap 1) careful four_steps refund2
unfolding judged mines
reached_in_7 =
    record {
      more = entry revoke 5 ∷ entry refund2 7 ∷ [];
      last = entry refund2 7;
      accepts = refl;
      kept = refl;
      names = refl;
      when = refl;
      order = refl;
      each = also {x = entry revoke 5} (omega arith) (also {x = entry refund2 7} (omega arith) empty);
    }

-- what it says there, in numbers: it is false of any other transaction and block, of a list that the ledger refuses, of older blocks
pub reached_says : (x : Reached (saswap 1) careful four_steps refund2)
    → (x.last.transaction ≡ refund2)
    × (x.last.block ≡ 7)
    × ((ledger (saswap 1) 1 (four_entries ++ x.more)).accepts ≡ true)
    × ((ledger (saswap 1) 1 (four_entries ++ x.more)).kept lock_a ≡ some x.last)
    × (in_order (four_entries ++ x.more) ≡ true)
    × All (λ e. 4 < e.block) x.more
unfolding judged mines
reached_says x = (x.names, x.when, x.accepts, x.kept, x.order, x.each)

pub overtaken_in_8 : Overtaken (saswap 1) careful four_steps refund2
unfolding judged mines
overtaken_in_8 =
    record {
      front = entry revoke 5 ∷ [];
      above = entry revoke 5;
      last = entry timeout 8;
      accepts = refl;
      order = refl;
      each = also {x = entry revoke 5} (omega arith) (also {x = entry timeout 8} (omega arith) empty);
      behind = refl;
      parents = refl;
      rival = refl;
      later = omega arith;
      when = refl;
    }

pub overtaken_says : (x : Overtaken (saswap 1) careful four_steps refund2)
    → (x.above.transaction ≡ revoke)
    × (x.last.block ≡ 8)
    × ((ledger (saswap 1) 1 (four_entries ++ (x.front ++ (x.last ∷ [])))).accepts ≡ true)
    × ((ledger (saswap 1) 1 (four_entries ++ x.front)).kept lock_a ≡ some x.above)
    × (in_order (four_entries ++ (x.front ++ (x.last ∷ []))) ≡ true)
    × All (λ e. 4 < e.block) (x.front ++ (x.last ∷ []))
unfolding judged mines
overtaken_says x = (x.parents, x.when, x.accepts, x.behind, x.order, x.each)

opens : opening (saswap 1) lock_a ≡ true
unfolding opened
opens = refl

-- an opening is its own only rival, and not locked later than itself
pub opening_not_overtaken : Overtaken (saswap 1) careful [] lock_a → ⊥
opening_not_overtaken x =
    let e = conflict_opening (saswap 1) x.last.transaction lock_a opens x.rival in
    let z = rw e at x.later in omega (arith, z)

-- a verdict promises what its number says, and no other one there. Of refund_2 after four blocks, whose soonest deadline is 7: an outage
-- of two blocks is over before it, one of three is not
pub promise_clear : Promise (saswap 1) careful four_days 2 refund2 0
unfolding judged mines
promise_clear = planner (saswap 1) careful (locked ++ mines 2) 2 (replicate 150 0) refl refund2 (omega arith)

pub not_clear : Promise (saswap 1) careful four_days 3 refund2 0 → ⊥
unfolding judged mines
not_clear (clear n d f) = omega (arith, d)

pub promise_covered : Promise (saswap 1) careful four_days 3 refund2 4
unfolding judged mines
promise_covered = covered refl (omega arith) (omega arith)

pub not_covered : Promise (saswap 1) careful four_days 2 refund2 4 → ⊥
unfolding judged mines
not_covered (covered n m d) = omega (arith, d)

-- where 0 is promised, t can be sent now
pub clear_now : (s u : List ℕ) (p : Position) (blocks t : ℕ) → Promise s u p blocks t 0 → p.mined < deadline_in s u p t
unfolding play
clear_now s u p blocks t (clear n d f) = (f [] (omega arith)).1

-- of what is confirmed 1 alone, of what is not never 1
pub settled_alone : (n : ℕ) → Promise (saswap 1) careful four_days 2 lock_a n → n ≡ 1
unfolding judged mines
settled_alone n (clear e d f) = absurd (true≢false e)
settled_alone n (settled e) = refl
settled_alone n (safe e f) = absurd (true≢false e)
settled_alone n (covered e m d) = absurd (true≢false e)
settled_alone n (passed e d z) = absurd (true≢false e)
settled_alone n (late e d z) = absurd (true≢false e)

pub not_settled : Promise (saswap 1) careful four_days 2 refund2 1 → ⊥
unfolding judged mines
not_settled (settled e) = false≢true e

-- 2 of revoke in the pool, and not of refund_2, which can be lost
pub promise_safe : Promise (saswap 1) quiet (sent quiet) 9 revoke 2
unfolding judged mines
promise_safe =
    planner (saswap 1) quiet (confirmed 0 0 ++ (2 ∷ 0 ∷ 0 ∷ 1 ∷ mines 3) ++ (3 ∷ 1 ∷ 4 ∷ 2 ∷ 3 ∷ 1 ∷ 12 ∷ 1 ∷ [])) 9 (replicate 150 0) refl revoke (omega arith)

pub not_safe : Promise (saswap 1) careful four_days 2 refund2 2 → ⊥
unfolding judged mines outs all_below
not_safe (safe e f) =
    let next = journal_steps (confirmed 1 revoke ++ mines 2 ++ confirmed 1 timeout) in
    no_fate (saswap 1) careful (play (saswap 1) careful next four_days) refund2 (pool_to four_days refund2) refl refl refl (f next)

-- 8 and 12 of success, whose deadline is passed, by the setup's stealth; 4 of none such, and 8 and 12 of none before its deadline
pub promise_passed : Promise (saswap 1) quiet (sent quiet) 0 success 8
unfolding judged mines
promise_passed = passed refl (omega arith) refl

pub promise_late : Promise (saswap 1) stealthy (sent stealthy) 0 success 12
unfolding judged mines
promise_late = late refl (omega arith) refl

pub passed_not_late : Promise (saswap 1) quiet (sent quiet) 0 success 12 → ⊥
unfolding judged mines
passed_not_late (late e d z) = let y : ◌≡◌ {A = ℕ} 0 1 = z in omega arith

pub late_not_passed : Promise (saswap 1) stealthy (sent stealthy) 0 success 8 → ⊥
unfolding judged mines
late_not_passed (passed e d z) = let y : ◌≡◌ {A = ℕ} 1 0 = z in omega arith

pub passed_not_covered : Promise (saswap 1) quiet (sent quiet) 0 success 4 → ⊥
unfolding judged mines
passed_not_covered (covered e m d) = omega (arith, m)

pub not_passed_yet : Promise (saswap 1) quiet (sent quiet) 2 spend_revoke 8 → ⊥
unfolding judged mines
not_passed_yet (passed e d z) = omega (arith, d)

pub not_late_yet : Promise (saswap 1) stealthy (sent stealthy) 2 spend_revoke 12 → ⊥
unfolding judged mines
not_late_yet (late e d z) = omega (arith, d)
