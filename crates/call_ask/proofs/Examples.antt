-- Computed examples: the answers of ask and commit with their refusals on both sides, and the words of the claims.
-- Assumes nothing.
use Rattle.laws.proofs.Prelude.{ℕ, ◌≡◌, refl, ap, true, false, List, [], ◌∷◌, ◌++◌, length, get_or, take, drop, arith}
use Rattle.position.proofs.Rules.{accepted, setup_blocks, step_field, step_conflict, journal_length, buffer_short, run}
use Rattle.position.proofs.Opened.{opened}
use Rattle.sheet.specs.Refusal.{count_stale}
use Rattle.call_ask.specs.Ask.{length_right, open_tests, open_run, step_count, step_of, step_number, ask_tests, ask_answer}
use Rattle.call_ask.specs.Commit.{length_within, commit_run, commit_tests, committed, commit_answer}
use Rattle.call_ask.specs.Claim.{Passed, Open}
use Rattle.call_ask.proofs.Claims.{passed, ask_exact}

-- every definition of this crate that a computed proof opens
dealt : Unit {0}
unfolding opened length_right open_tests open_run step_count step_of step_number ask_tests ask_answer length_within commit_run commit_tests committed commit_answer
dealt = tt

-- the sheet of P10, 1 block per day; the send of its opening, which is accepted once, and its inclusion in the block
abbrev p10 : List ℕ
p10 = 2 ∷ 2 ∷ 0 ∷ 1 ∷ 2 ∷ 255 ∷ 0 ∷ 1 ∷ 0 ∷ 0 ∷ 2 ∷ 2 ∷ 0 ∷ 0 ∷ 0 ∷ 1 ∷ 1 ∷ []

abbrev setup : List ℕ
setup = 1 ∷ 0 ∷ 0 ∷ 0 ∷ []

abbrev send : List ℕ
send = 3 ∷ 0 ∷ 0 ∷ 2 ∷ []

abbrev include : List ℕ
include = 5 ∷ 2 ∷ 0 ∷ 2 ∷ []

-- ---- ask
abbrev Asks : List ℕ → List ℕ → List ℕ → ℕ → ℕ → Type 0
Asks u j b number count = ask_answer p10 u j b ≡ record { refusal = number; count = count }

-- the step passes or not, with the count of steps in the journal
would_pass : Asks setup [] send accepted 0
unfolding dealt
would_pass = refl

would_not : Asks setup send send step_conflict 1
unfolding dealt
would_not = refl

-- the journal's own refusal first, with run's count
own_first : Asks setup (send ++ (send ++ send)) include step_conflict 1
unfolding dealt
own_first = refl

-- a step of three bytes, of five and of none
three_bytes : Asks setup send (5 ∷ 2 ∷ 0 ∷ []) step_field 1
unfolding dealt
three_bytes = refl

five_bytes : Asks setup send (include ++ (0 ∷ [])) step_field 1
unfolding dealt
five_bytes = refl

no_bytes : Asks setup send [] step_field 1
unfolding dealt
no_bytes = refl

-- 9 before 24, 24 before the steps
setup_first : Asks [] (0 ∷ []) send setup_blocks 0
unfolding dealt
setup_first = refl

half_step : Asks setup (0 ∷ 0 ∷ []) send journal_length 0
unfolding dealt
half_step = refl

-- 24: 65,532 bytes have room for a step, 65,536 have none
room_left : (length_right 65532 ≡ true) × (length_right 65536 ≡ false) × (length_right 65533 ≡ false) × (length_right 0 ≡ true)
unfolding dealt
room_left = (refl, refl, refl, refl)

-- ---- commit
-- a buffer that starts with the send, five bytes behind it
abbrev lent : List ℕ
lent = send ++ (7 ∷ 7 ∷ 7 ∷ 7 ∷ 7 ∷ [])

commits : commit_answer p10 setup include 1 lent 4 ≡ record { refusal = accepted; count = 0; buffer = send ++ (include ++ (7 ∷ [])) }
unfolding dealt
commits = refl

-- a commit that is refused, with this number: its buffer is kept
abbrev Refused : List ℕ → ℕ → List ℕ → ℕ → ℕ → Type 0
Refused b c buffer n number = commit_answer p10 setup b c buffer n ≡ record { refusal = number; count = 0; buffer = buffer }

-- 25: three bytes are left; the journal may fill the buffer
no_room : Refused include 1 (send ++ (7 ∷ 7 ∷ 7 ∷ [])) 4 buffer_short
unfolding dealt
no_room = refl

none_left : Refused include 1 send 4 buffer_short
unfolding dealt
none_left = refl

just_room : (commit_answer p10 setup include 1 (send ++ (7 ∷ 7 ∷ 7 ∷ 7 ∷ [])) 4).buffer ≡ send ++ include
unfolding dealt
just_room = refl

-- 35: a step less, and a step more
too_few : Refused include 0 lent 4 count_stale
unfolding dealt
too_few = refl

too_many : Refused include 2 lent 4 count_stale
unfolding dealt
too_many = refl

-- 24: beyond the buffer, and within a step
beyond : Refused include 1 lent 12 journal_length
unfolding dealt
beyond = refl

within_step : Refused include 1 lent 5 journal_length
unfolding dealt
within_step = refl

-- the journal's own refusal, then 35, then the step's, then 25
journal_first : Refused [] 7 (send ++ send) 8 step_conflict
unfolding dealt
journal_first = refl

count_next : Refused [] 7 send 4 count_stale
unfolding dealt
count_next = refl

step_next : Refused [] 1 send 4 step_field
unfolding dealt
step_next = refl

-- the second on the same count, with the length that the first one left
second : Refused include 1 (send ++ (include ++ (7 ∷ 7 ∷ 7 ∷ 7 ∷ []))) 8 count_stale
unfolding dealt
second = refl

-- ---- the words of the claims
is_passed_lem : Passed p10 setup include 1 lent 4 (send ++ (include ++ (7 ∷ [])))
unfolding dealt
is_passed_lem = passed p10 setup include 1 lent 4 refl

-- bytes that stay as they were, or another step, are no commit that passed
not_passed : Passed p10 setup include 1 lent 4 lent → ⊥
not_passed w = omega (arith, ap (λ l. get_or l 4 0) w.journal)

-- what it says of any buffer afterwards: the step behind the first, two steps accepted, the ninth byte kept
passed_says : (after : List ℕ) → Passed p10 setup include 1 lent 4 after
    → (take 8 after ≡ send ++ include) × ((run p10 setup (take 8 after)).accepted ≡ 2) × (drop 8 after ≡ 7 ∷ []) × (length after ≡ 9)
passed_says after w = (w.journal, w.longer, w.beyond, w.long)

-- it is said of no other count
not_counted : (after : List ℕ) → Passed p10 setup include 0 lent 4 after → ⊥
unfolding dealt
not_counted after w = let z : ◌≡◌ {A = ℕ} 1 0 = w.counted in omega (arith, z)

is_open : Open p10 setup send include
unfolding dealt
is_open = (ask_exact p10 setup send include).0 refl

not_open : Open p10 setup send send → ⊥
unfolding dealt
not_open o = omega (arith, (ask_exact p10 setup send send).1 o)
