-- The table's rows for P6 and P7, by the laws for all sizes: their positions are places that these laws speak of.
-- Assumes nothing.
use Rattle.std.specs.Prelude.{ℕ, ◌+◌, ◌≤◌, ◌<◌, ◌≡◌, refl, Bool, true, false, ◌&&◌, List, [], ◌∷◌, ◌++◌, eqb, ltb, leb, get_or, take, drop, Some}
use Rattle.std.proofs.Common.{sym, ◌∙◌, lit<, lit≤, eq-eqb, eqb-true}
use Rattle.std.proofs.lemmas.Bool.{false≢true}
use Rattle.laws.specs.Booleans.{split}
use Rattle.laws.specs.Failing.{first_failing}
use Rattle.laws.specs.Gather.{every}
use Rattle.sheet.specs.Refusal.{accepted, step_lock, step_deadline}
use Rattle.sheet.specs.Setup.{per_day, stealth}
use Rattle.sheet.specs.Saswap.{saswap}
use Rattle.sheet.specs.LockHeight.{never}
use Rattle.slots.specs.Destination.{alice, bob}
use Rattle.slots.specs.declared.Destination.{Destination}
use Rattle.slots.specs.declared.Destination.TheVariants.{Contract}
use Rattle.slots.specs.declared.Step.{Step}
use Rattle.slots.specs.declared.Step.TheVariants.{SendToPool, HandToMiner}
use Rattle.steps.specs.Names.{lock_a, success, revoke}
use Rattle.position.specs.declared.Position.{Position}
use Rattle.position.specs.Position.{start}
use Rattle.position.specs.StepRefusal.{step_refusal}
use Rattle.position.specs.Play.{FourBytes, journal_steps, decode_bytes, take_step, take_decoded, step, run_from, call_tests, run}
use Rattle.position.proofs.Opened.{opened}
use Rattle.call_run.proofs.Runs.{row_append, run_allowed}
use Rattle.position.proofs.RowSteps.{run_next, run_stops, run_ends}
use Rattle.claim_known.specs.Case.{send_gets, swap_sheet, passes, send_place, gets_there, holds}
use Rattle.claim_known.specs.Known.{setup3, careful30, mine, success_at2, revoke_at5, unshared_at5, rows}
use Rattle.claim_known.specs.Heights.{refund1_height, revoke_height}
use Rattle.claim_known.specs.Sends.{ReadyForPool, ReadyForMiner}
use Rattle.claim_known.proofs.Known.{known}
use Rattle.claim_known.proofs.Sends.{success_to_pool, success_to_miner, revoke_to_pool}

-- ---- a step behind an accepted journal
-- a row of one step gets the step's number
one_step : (s u : List ℕ) (b : FourBytes) (c : ℕ) (p : Position) → (run_from s u (b ∷ []) c p).refusal ≡ (step s u p b).refusal
one_step s u b c p =
    split (eqb (step s u p b).refusal accepted)
    (λ y. rw (run_next s u b [] c p y, run_ends s u (c + 1) (step s u p b).position) (sym (eqb-true (step s u p b).refusal accepted y)))
    (λ y. rw (run_stops s u b [] c p y))

-- a step whose fields are right gets that of its tests
read_number_lem : (s u : List ℕ) (p : Position) (b : FourBytes) (x : Step) → decode_bytes s u b ≡ Some x → (step s u p b).refusal ≡ step_refusal s u p x
unfolding step take_decoded take_step
read_number_lem s u p b x e =
    split (eqb (step_refusal s u p x) accepted)
    (λ y. rw (e, y, take_step) (sym (eqb-true (step_refusal s u p x) accepted y)))
    (λ y. rw (e, y, take_step))

-- four bytes as a step
abbrev bytes : List ℕ → FourBytes
bytes b = record { kind = get_or b 0 0; party = get_or b 1 0; transaction = get_or b 2 0; destination = get_or b 3 0 }

-- the journal is accepted, and with the send behind it passes the checks before any step; the send is read as this step
record Behind (s u j send : List ℕ) (x : Step) : Type 0 where
  allowed : first_failing (call_tests s u j) ≡ 0
  longer : first_failing (call_tests s u (j ++ send)) ≡ 0
  steps : journal_steps (j ++ send) ≡ journal_steps j ++ (bytes send ∷ [])
  read : decode_bytes s u (bytes send) ≡ Some x
  taken : (run s u j).refusal ≡ accepted

gets : (s u j send : List ℕ) (x : Step) → Behind s u j send x → (run s u (j ++ send)).refusal ≡ step_refusal s u (run s u j).position x
gets s u j send x h =
    let r = run_allowed s u j h.allowed in
    rw (run_allowed s u (j ++ send) h.longer, h.steps, row_append s u (journal_steps j) (bytes send ∷ []) 0 (start s) (rw r at h.taken), ← r)
    (one_step s u (bytes send) (run s u j).accepted (run s u j).position
    ∙ read_number_lem s u (run s u j).position (bytes send) x h.read)

-- ---- the laws for all sizes, below a height and from it on
-- P6: success to the pool passes below refund_1's lock height
success_below : (u : List ℕ) (p : Position) (party : ℕ) (to : Destination) → 0 < per_day u → per_day u ≤ 1000
    → ReadyForPool (saswap (per_day u)) u p party success to
    → ltb p.mined (refund1_height (per_day u)) ≡ true
    → step_refusal (saswap (per_day u)) u p (SendToPool party success to) ≡ accepted
success_below u p party to h k r e = rw (success_to_pool u p party to h k r, e)

-- and from there on gets 18, while a hand-in passes
success_from : (u : List ℕ) (p : Position) (party : ℕ) (to : Destination) → 0 < per_day u → per_day u ≤ 1000 → stealth u ≡ 1
    → ReadyForPool (saswap (per_day u)) u p party success to
    → ReadyForMiner (saswap (per_day u)) u p party success to
    → ltb p.mined (refund1_height (per_day u)) ≡ false
    → (step_refusal (saswap (per_day u)) u p (SendToPool party success to) ≡ step_deadline)
    × (step_refusal (saswap (per_day u)) u p (HandToMiner party success to) ≡ accepted)
success_from u p party to h k s r m e = (rw (success_to_pool u p party to h k r, e), success_to_miner u p party to s m)

-- P7: revoke to the pool gets 17 below its lock height
revoke_below : (u : List ℕ) (p : Position) (party : ℕ) (to : Destination) → p.mined < never
    → ReadyForPool (saswap (per_day u)) u p party revoke to
    → leb (revoke_height (per_day u)) p.mined ≡ false
    → step_refusal (saswap (per_day u)) u p (SendToPool party revoke to) ≡ step_lock
revoke_below u p party to l r e = rw (revoke_to_pool u p party to l r, e)

-- and passes from there on
revoke_from : (u : List ℕ) (p : Position) (party : ℕ) (to : Destination) → p.mined < never
    → ReadyForPool (saswap (per_day u)) u p party revoke to
    → leb (revoke_height (per_day u)) p.mined ≡ true
    → step_refusal (saswap (per_day u)) u p (SendToPool party revoke to) ≡ accepted
revoke_from u p party to l r e = rw (revoke_to_pool u p party to l r, e)

-- ---- the rows
abbrev sheet3 : List ℕ
sheet3 = saswap (per_day setup3)

-- what a journal leads to
abbrev after : List ℕ → Position
after j = (run sheet3 setup3 j).position

-- a row whose place is computed, and whose number is that of its step there
row : (j : List ℕ) (blocks : ℕ) (send : List ℕ) (number : ℕ) (x : Step)
    → passes (run sheet3 setup3 j) j ≡ true
    → eqb (after j).mined blocks ≡ true
    → send_place true sheet3 (after j) (get_or send 1 0) (get_or send 2 0) (get_or send 3 0) ≡ true
    → Behind sheet3 setup3 j send x
    → step_refusal sheet3 setup3 (after j) x ≡ number
    → holds (send_gets setup3 j blocks send number) ≡ true
unfolding holds gets_there swap_sheet
row j blocks send number x p m q h e =
    rw (p, m, q) (eq-eqb (run sheet3 setup3 (j ++ send)).refusal number (gets sheet3 setup3 j send x h ∙ e))

-- P6's places: success to the pool at 2 and at 3 blocks, and to the miner at 3
pool_at_2 : ReadyForPool sheet3 setup3 (after success_at2) bob success Contract
unfolding opened
pool_at_2 = record { conduct = refl; rivals = refl; parent = refl; signatures = refl }

pool_at_3 : ReadyForPool sheet3 setup3 (after (success_at2 ++ mine)) bob success Contract
unfolding opened
pool_at_3 = record { conduct = refl; rivals = refl; parent = refl; signatures = refl }

miner_at_3 : ReadyForMiner sheet3 setup3 (after (success_at2 ++ mine)) bob success Contract
unfolding opened
miner_at_3 = record { conduct = refl; rivals = refl; parent = refl; signatures = refl }

-- P7's: revoke to the pool at 5 and at 6 blocks
pool_at_5 : ReadyForPool sheet3 setup3 (after revoke_at5) bob revoke Contract
unfolding opened
pool_at_5 = record { conduct = refl; rivals = refl; parent = refl; signatures = refl }

pool_at_6 : ReadyForPool sheet3 setup3 (after (revoke_at5 ++ mine)) bob revoke Contract
unfolding opened
pool_at_6 = record { conduct = refl; rivals = refl; parent = refl; signatures = refl }

-- no such places: before the first shares; where lock_A is there already; where it is not; where a signature is missing
not_allowed : ReadyForPool (saswap (per_day careful30)) careful30 (run (saswap (per_day careful30)) careful30 []).position alice lock_a Contract → ⊥
unfolding opened
not_allowed r = false≢true r.conduct

not_rivalled : ReadyForPool sheet3 setup3 (after success_at2) alice lock_a Contract → ⊥
unfolding opened
not_rivalled r = false≢true r.rivals

not_parentless : ReadyForPool sheet3 setup3 (after []) bob success Contract → ⊥
unfolding opened
not_parentless r = false≢true r.parent

not_unsigned : ReadyForPool sheet3 setup3 (after unshared_at5) bob revoke Contract → ⊥
unfolding opened
not_unsigned r = false≢true r.signatures

-- P6's rows
success_passes : holds (send_gets setup3 success_at2 2 (3 ∷ 1 ∷ 2 ∷ 2 ∷ []) 0) ≡ true
unfolding opened passes send_place refund1_height
success_passes =
    row success_at2 2 (3 ∷ 1 ∷ 2 ∷ 2 ∷ []) 0 (SendToPool bob success Contract) refl refl refl
    (record { allowed = refl; longer = refl; steps = refl; read = refl; taken = refl })
    (success_below setup3 (after success_at2) bob Contract (lit< tt) (lit≤ tt) pool_at_2 refl)

success_late : holds (send_gets setup3 (success_at2 ++ mine) 3 (3 ∷ 1 ∷ 2 ∷ 2 ∷ []) 18) ≡ true
unfolding opened passes send_place refund1_height
success_late =
    row (success_at2 ++ mine) 3 (3 ∷ 1 ∷ 2 ∷ 2 ∷ []) 18 (SendToPool bob success Contract) refl refl refl
    (record { allowed = refl; longer = refl; steps = refl; read = refl; taken = refl })
    (success_from setup3 (after (success_at2 ++ mine)) bob Contract (lit< tt) (lit≤ tt) refl pool_at_3 miner_at_3 refl).0

success_handed : holds (send_gets setup3 (success_at2 ++ mine) 3 (4 ∷ 1 ∷ 2 ∷ 2 ∷ []) 0) ≡ true
unfolding opened passes send_place refund1_height
success_handed =
    row (success_at2 ++ mine) 3 (4 ∷ 1 ∷ 2 ∷ 2 ∷ []) 0 (HandToMiner bob success Contract) refl refl refl
    (record { allowed = refl; longer = refl; steps = refl; read = refl; taken = refl })
    (success_from setup3 (after (success_at2 ++ mine)) bob Contract (lit< tt) (lit≤ tt) refl pool_at_3 miner_at_3 refl).1

-- P7's rows
revoke_early : holds (send_gets setup3 revoke_at5 5 (3 ∷ 1 ∷ 4 ∷ 2 ∷ []) 17) ≡ true
unfolding opened passes send_place revoke_height
revoke_early =
    row revoke_at5 5 (3 ∷ 1 ∷ 4 ∷ 2 ∷ []) 17 (SendToPool bob revoke Contract) refl refl refl
    (record { allowed = refl; longer = refl; steps = refl; read = refl; taken = refl })
    (revoke_below setup3 (after revoke_at5) bob Contract (lit< tt) pool_at_5 refl)

revoke_passes : holds (send_gets setup3 (revoke_at5 ++ mine) 6 (3 ∷ 1 ∷ 4 ∷ 2 ∷ []) 0) ≡ true
unfolding opened passes send_place revoke_height
revoke_passes =
    row (revoke_at5 ++ mine) 6 (3 ∷ 1 ∷ 4 ∷ 2 ∷ []) 0 (SendToPool bob revoke Contract) refl refl refl
    (record { allowed = refl; longer = refl; steps = refl; read = refl; taken = refl })
    (revoke_from setup3 (after (revoke_at5 ++ mine)) bob Contract (lit< tt) pool_at_6 refl)

all_five : (a b c d e : Bool) → a ≡ true → b ≡ true → c ≡ true → d ≡ true → e ≡ true → (a && (b && (c && (d && (e && true))))) ≡ true
all_five a b c d e ha hb hc hd he = rw (ha, hb, hc, hd, he)

-- the five rows of the table
pub sends_hold : every holds (take 5 (drop 11 known)) ≡ true
unfolding every known rows
sends_hold =
    all_five
    (holds (send_gets setup3 success_at2 2 (3 ∷ 1 ∷ 2 ∷ 2 ∷ []) 0))
    (holds (send_gets setup3 (success_at2 ++ mine) 3 (3 ∷ 1 ∷ 2 ∷ 2 ∷ []) 18))
    (holds (send_gets setup3 (success_at2 ++ mine) 3 (4 ∷ 1 ∷ 2 ∷ 2 ∷ []) 0))
    (holds (send_gets setup3 revoke_at5 5 (3 ∷ 1 ∷ 4 ∷ 2 ∷ []) 17))
    (holds (send_gets setup3 (revoke_at5 ++ mine) 6 (3 ∷ 1 ∷ 4 ∷ 2 ∷ []) 0))
    success_passes
    success_late
    success_handed
    revoke_early
    revoke_passes
