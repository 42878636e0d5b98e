-- Computed examples: the answer with each number of its own, on both sides; rounds; and the words of the claims.
-- Assumes nothing.
use Rattle.laws.proofs.Prelude.{ℕ, ◌≡◌, refl, true, false, List, [], ◌∷◌, ◌++◌, lit<, length, take, replicate, arith, first_failing}
use Rattle.position.proofs.Rules.{accepted, setup_blocks, step_field, step_conflict, journal_length, buffer_short, start, FourBytes, journal_bytes}
use Rattle.position.proofs.Opened.{opened}
use Rattle.sheet.specs.Refusal.{journal_long, none_refused}
use Rattle.call_shrink.specs.Shrink.{still_refused, can_go, round_from, round, rounds, shrunk, refused_row, few_steps, long_tests, shrink_tests, shrink_answer}
use Rattle.call_shrink.specs.Claim.{RunsUpTo, without, Few, WroteFew}
use Rattle.call_shrink.proofs.Claims.{few_written}

-- every definition of this crate that a computed proof opens
shrinking : Unit {0}
unfolding opened still_refused can_go round_from round rounds shrunk refused_row few_steps long_tests shrink_tests shrink_answer
shrinking = tt

-- the sheet of P10, 1 block per day: its opening's share, send, inclusion and block, the payout's send, and a step of no kind
abbrev p10 : List ℕ
p10 = 2 ∷ 2 ∷ 0 ∷ 1 ∷ 2 ∷ 255 ∷ 0 ∷ 1 ∷ 0 ∷ 0 ∷ 2 ∷ 2 ∷ 0 ∷ 0 ∷ 0 ∷ 1 ∷ 1 ∷ []

abbrev setup : List ℕ
setup = 1 ∷ 0 ∷ 0 ∷ 0 ∷ []

abbrev step_bytes : ℕ → ℕ → ℕ → ℕ → FourBytes
step_bytes k a t d = record { kind = k; party = a; transaction = t; destination = d }

abbrev share : FourBytes
share = step_bytes 1 0 0 2

abbrev send : FourBytes
send = step_bytes 3 0 0 2

abbrev include : FourBytes
include = step_bytes 5 2 0 2

abbrev mine : FourBytes
mine = step_bytes 6 2 255 2

abbrev pay : FourBytes
pay = step_bytes 3 1 1 1

abbrev wrong : FourBytes
wrong = step_bytes 0 0 0 0

-- the payout is sent twice; the share and one of the blocks don't matter, nor does what follows the refused step
abbrev paid_twice : List FourBytes
paid_twice = share ∷ send ∷ include ∷ mine ∷ mine ∷ pay ∷ pay ∷ mine ∷ []

abbrev few : List FourBytes
few = send ∷ include ∷ mine ∷ pay ∷ pay ∷ []

-- ---- the answer
abbrev Answers : List ℕ → List ℕ → List ℕ → ℕ → ℕ → List ℕ → Type 0
Answers u j out number count buffer = shrink_answer p10 u j out ≡ record { refusal = number; count = count; buffer = buffer }

-- exactly as many bytes, and one more, which is kept
exact : Answers setup (journal_bytes paid_twice) (replicate 20 7) accepted 5 (journal_bytes few)
unfolding shrinking
exact = refl

beyond : Answers setup (journal_bytes paid_twice) (replicate 21 7) accepted 5 (journal_bytes few ++ (7 ∷ []))
unfolding shrinking
beyond = refl

-- 25: a byte less
short : Answers setup (journal_bytes paid_twice) (replicate 19 7) buffer_short 0 (replicate 19 7)
unfolding shrinking
short = refl

-- 37: no step refused, and no step at all; not where the first one is
none_refused_lem : Answers setup (journal_bytes (send ∷ include ∷ mine ∷ [])) [] none_refused 0 []
unfolding shrinking
none_refused_lem = refl

no_step : Answers setup [] [] none_refused 0 []
unfolding shrinking
no_step = refl

first_refused : Answers setup (journal_bytes (pay ∷ send ∷ [])) (replicate 4 7) accepted 1 (journal_bytes (pay ∷ []))
unfolding shrinking
first_refused = refl

-- 36: 1,024 steps and 1,025
just_short : first_failing (long_tests p10 setup (replicate 4096 0)) ≡ accepted
unfolding shrinking
just_short = refl

too_long : first_failing (long_tests p10 setup (replicate 4100 0)) ≡ journal_long
unfolding shrinking
too_long = refl

-- 9 before 24, 24 before 36
setup_first : first_failing (long_tests p10 [] (replicate 4101 0)) ≡ setup_blocks
unfolding shrinking
setup_first = refl

length_first : first_failing (long_tests p10 setup (replicate 4101 0)) ≡ journal_length
unfolding shrinking
length_first = refl

-- ---- rounds
-- each round drops the last of the steps that stand on one another
first_round : round p10 setup step_field (send ∷ include ∷ mine ∷ wrong ∷ []) ≡ send ∷ include ∷ wrong ∷ []
unfolding shrinking
first_round = refl

second_round : round p10 setup step_field (send ∷ include ∷ wrong ∷ []) ≡ send ∷ wrong ∷ []
unfolding shrinking
second_round = refl

all_rounds : shrunk p10 setup step_field (send ∷ include ∷ mine ∷ wrong ∷ []) ≡ wrong ∷ []
unfolding shrinking
all_rounds = refl

-- after a drop the round goes on with the next step: of two blocks the first goes
one_of_two : round p10 setup step_conflict (send ∷ include ∷ mine ∷ mine ∷ pay ∷ pay ∷ []) ≡ few
unfolding shrinking
one_of_two = refl

-- the same number at an earlier step, another number, and none are not the same refusal
at_last : still_refused p10 setup step_conflict (start p10) (send ∷ send ∷ []) ≡ true
unfolding shrinking
at_last = refl

earlier : still_refused p10 setup step_conflict (start p10) (send ∷ send ∷ send ∷ []) ≡ false
unfolding shrinking
earlier = refl

another : still_refused p10 setup step_conflict (start p10) (send ∷ wrong ∷ []) ≡ false
unfolding shrinking
another = refl

unrefused : still_refused p10 setup step_conflict (start p10) (send ∷ include ∷ []) ≡ false
unfolding shrinking
unrefused = refl

-- ---- the words of the claims
is_few : WroteFew p10 setup (journal_bytes paid_twice) (shrink_answer p10 setup (journal_bytes paid_twice) (replicate 20 7))
unfolding shrinking
is_few = few_written p10 setup (journal_bytes paid_twice) (replicate 20 7) refl

-- five steps, in the bytes written
few_says : (w : WroteFew p10 setup (journal_bytes paid_twice) (shrink_answer p10 setup (journal_bytes paid_twice) (replicate 20 7)))
    → (5 ≡ length w.part) × (journal_bytes few ≡ journal_bytes w.part)
unfolding shrinking
few_says w = (w.count, w.bytes)

-- the whole front of the journal is not: its share can go
can_go_lem : RunsUpTo p10 setup step_conflict (without 0 (take 7 paid_twice))
unfolding shrinking
can_go_lem = record { gets = refl; at_last = refl }

not_few : Few p10 setup (journal_bytes paid_twice) (take 7 paid_twice) → ⊥
unfolding shrinking
not_few w = w.needed 0 (lit< tt) can_go_lem

-- nor are steps that are accepted, or refused before the last
not_refused : RunsUpTo p10 setup step_conflict (take 6 paid_twice) → ⊥
unfolding shrinking
not_refused w = omega (arith, w.gets)

not_at_last : RunsUpTo p10 setup step_conflict paid_twice → ⊥
unfolding shrinking
not_at_last w = omega (arith, w.at_last)
