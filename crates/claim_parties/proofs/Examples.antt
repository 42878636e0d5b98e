-- A renaming, a ring of three with its parties renamed, and a journal of it, computed.
-- Assumes nothing.
use Rattle.laws.proofs.Prelude.{ℕ, zero, suc, ◌≡◌, refl, List, [], ◌∷◌, ltb, arith, joined, set_below}
use Rattle.position.proofs.Rules.{accepted, place, party_at, sheet_refusal, never, destinations, start, block_of, lock_height_in, deadline_in, run, status}
use Rattle.position.specs.declared.Position.{Position}
use Rattle.position.specs.declared.Ran.{Ran}
use Rattle.position.proofs.Rules.{payee}
use Rattle.position.proofs.Opened.{opened}
use Rattle.claim_parties.specs.Renaming.{Renaming, RenamedSheet, renamed_payees, renamed_byte, renamed_sheet, renamed_journal, renamed_entry, Renamed, RunRenamed, RowRenamed}
use Rattle.claim_parties.proofs.Theorems.{renaming_of_rings}

-- Alice becomes Bob, Bob Carol, Carol Alice
unfoldable turned : ℕ → ℕ
turned zero = 1
turned (suc zero) = 3
turned (suc (suc zero)) = 2
turned (suc (suc (suc zero))) = 0
turned (suc (suc (suc (suc a)))) = suc (suc (suc (suc a)))

unfoldable turned_back : ℕ → ℕ
turned_back zero = 3
turned_back (suc zero) = 0
turned_back (suc (suc zero)) = 2
turned_back (suc (suc (suc zero))) = 1
turned_back (suc (suc (suc (suc a)))) = suc (suc (suc (suc a)))

there : (a : ℕ) → turned_back (turned a) ≡ a
unfolding turned turned_back
there zero = refl
there (suc zero) = refl
there (suc (suc zero)) = refl
there (suc (suc (suc zero))) = refl
there (suc (suc (suc (suc a)))) = refl

back : (a : ℕ) → turned (turned_back a) ≡ a
unfolding turned turned_back
back zero = refl
back (suc zero) = refl
back (suc (suc zero)) = refl
back (suc (suc (suc zero))) = refl
back (suc (suc (suc (suc a)))) = refl

stays : (a : ℕ) → ltb (turned a) destinations ≡ ltb a destinations
unfolding turned
stays zero = refl
stays (suc zero) = refl
stays (suc (suc zero)) = refl
stays (suc (suc (suc zero))) = refl
stays (suc (suc (suc (suc a)))) = refl

pub turn : Renaming
unfolding turned
turn = record { to = turned; from = turned_back; there = there; back = back; miner_stays = refl; known_stays = stays }

-- a ring of three: 0, 1 and 2 open the coins; 3 pays Alice or Bob below 0, 4 Bob or Carol below 1, 5 Carol below 2.
-- Alice starts with signature 0, Bob with 1, Carol with 2; each coin needs one of them, 5 two, and 3 waits for 2 days
abbrev ring : List ℕ
ring =
    134 ∷ 3 ∷ 0 ∷ 1 ∷ 2 ∷ 4
    ∷ 255 ∷ 0 ∷ 1 ∷ 0
    ∷ 255 ∷ 0 ∷ 2 ∷ 0
    ∷ 255 ∷ 0 ∷ 4 ∷ 0
    ∷ 0 ∷ 3 ∷ 1 ∷ 0
    ∷ 1 ∷ 6 ∷ 2 ∷ 0
    ∷ 2 ∷ 4 ∷ 6 ∷ 0
    ∷ 0 ∷ 0 ∷ 0 ∷ 0 ∷ 0 ∷ 0 ∷ 1 ∷ 2 ∷ 0 ∷ 0 ∷ 2 ∷ 1
    ∷ []

-- the same with Alice's part for Bob, Bob's for Carol, Carol's for Alice
abbrev renamed_ring : List ℕ
renamed_ring =
    134 ∷ 3 ∷ 0 ∷ 4 ∷ 1 ∷ 2
    ∷ 255 ∷ 0 ∷ 1 ∷ 0
    ∷ 255 ∷ 0 ∷ 2 ∷ 0
    ∷ 255 ∷ 0 ∷ 4 ∷ 0
    ∷ 0 ∷ 6 ∷ 1 ∷ 0
    ∷ 1 ∷ 5 ∷ 2 ∷ 0
    ∷ 2 ∷ 1 ∷ 6 ∷ 0
    ∷ 0 ∷ 0 ∷ 0 ∷ 0 ∷ 0 ∷ 0 ∷ 1 ∷ 2 ∷ 0 ∷ 0 ∷ 2 ∷ 1
    ∷ []

pub ring_passes : sheet_refusal ring ≡ accepted
unfolding opened
ring_passes = refl

pub ring_renamed : renamed_sheet turn ring ≡ renamed_ring
unfolding opened renamed_sheet renamed_byte renamed_payees turn turned_back turned set_below joined party_at place
ring_renamed = refl

-- an entry: none, and one for each destination
pub entries_renamed : (renamed_entry turn 0 ≡ 0) × (renamed_entry turn 1 ≡ 2) × (renamed_entry turn 2 ≡ 4) × (renamed_entry turn 3 ≡ 3) × (renamed_entry turn 4 ≡ 1)
unfolding renamed_entry turn turned
entries_renamed = (refl, refl, refl, refl, refl)

-- the ring is not itself renamed, nor is its start
pub ring_differs : RenamedSheet turn ring ring → ⊥
unfolding opened turn turned
ring_differs c = let e : ◌≡◌ {A = ℕ} 2 1 = c.starts 0 in omega (arith, e)

pub start_differs : Renamed turn (start ring) (start ring) → ⊥
unfolding opened turn turned
start_differs r = let e : ◌≡◌ {A = ℕ} 2 1 = r.keys_same 0 (omega arith) in omega (arith, e)

-- 2 blocks per day, open, with hand-ins
abbrev setup : List ℕ
setup = 2 ∷ 0 ∷ 0 ∷ 1 ∷ []

-- each opens a coin; Bob shares 5 for Carol, Alice gives her key to Carol; Carol is paid 5 by its lock, and Alice, no payee of 4, is refused
abbrev journal : List ℕ
journal =
    3 ∷ 0 ∷ 0 ∷ 2
    ∷ 4 ∷ 1 ∷ 1 ∷ 2
    ∷ 3 ∷ 3 ∷ 2 ∷ 2
    ∷ 1 ∷ 1 ∷ 5 ∷ 3
    ∷ 2 ∷ 0 ∷ 0 ∷ 3
    ∷ 5 ∷ 2 ∷ 0 ∷ 2
    ∷ 5 ∷ 2 ∷ 2 ∷ 2
    ∷ 6 ∷ 2 ∷ 255 ∷ 2
    ∷ 6 ∷ 2 ∷ 255 ∷ 2
    ∷ 6 ∷ 2 ∷ 255 ∷ 2
    ∷ 3 ∷ 3 ∷ 5 ∷ 3
    ∷ 3 ∷ 0 ∷ 4 ∷ 0
    ∷ []

-- number and count
abbrev answer : Ran → ℕ × ℕ
answer r = (r.refusal, r.accepted)

pub journal_runs : answer (run ring setup journal) ≡ (11, 11)
unfolding opened
journal_runs = refl

pub renamed_runs : answer (run renamed_ring setup (renamed_journal turn journal)) ≡ (11, 11)
unfolding opened renamed_journal turn turned
renamed_runs = refl

-- as it stands it does not run on the renamed ring
pub same_journal : answer (run renamed_ring setup journal) ≡ (16, 0)
unfolding opened
same_journal = refl

-- the claim for this ring
pub ring_runs : (u j : List ℕ) → RunRenamed turn ring (renamed_sheet turn ring) u j
unfolding opened
ring_runs u j = renaming_of_rings turn ring u j refl ring_passes

-- what is said of 5's row in a renamed position, in numbers: status 1, for the pool; unconfirmed; lock height 3, no deadline
pub row_says : (q : Position) → RowRenamed turn ring renamed_ring setup (run ring setup journal).position q 5
    → (status renamed_ring q 5 ≡ 1) × (payee q 5 ≡ 255) × (block_of q 5 ≡ 0) × (lock_height_in renamed_ring setup q 5 ≡ 3) × (deadline_in renamed_ring setup q 5 ≡ never)
unfolding opened turn turned
row_says q x = (x.status_same, x.payee_renamed, x.block_same, x.lock_same, x.deadline_same)
