-- What the words of the claims come to, computed on the sheet of Examples.antt: that a list confirms an ending to these destinations and to no
-- others; what is said of the list written to pay Bob from the first coin; why an ending is impossible.
-- Assumes nothing.
use Rattle.laws.proofs.Prelude.{ℕ, zero, suc, ◌<◌, ◌≡◌, refl, ap, Bool, true, false, not, ◌&&◌, ◌||◌, false≢true, List, [], ◌∷◌, eqb, ltb, eqb-true, eq-eqb, ne_eqb}
use Rattle.laws.proofs.Prelude.{lt-ltb, arith, some, get_elem?, none_some, some_same, all_below, all_at, bit}
use Rattle.position.proofs.Rules.{count, Entry, coin_of, block_limit}
use Rattle.position.proofs.Opened.{opened}
use Rattle.endings.specs.Earliest.{earliest_from, earliest}
use Rattle.endings.specs.Plan.{planned}
use Rattle.call_earliest.specs.Answer.{earliest_list}
use Rattle.claim_earliest.specs.Words.{ConfirmsTo}
use Rattle.claim_earliest.specs.Claim.{Written, Cause, one_coin, too_late}
use Rattle.claim_earliest.proofs.Examples.{sheet, setup, to}

-- 3, which pays Bob, in block 5
abbrev pays_bob : Entry
pays_bob = record { transaction = 3; destination = 1; block = 5 }

-- where it stands, alone
alone : (i : ℕ) (e : Entry) → get_elem? (pays_bob ∷ []) i ≡ some e → pays_bob ≡ e
alone zero e h = some_same h
alone (suc i) e h = none_some h

-- 3 is the only one of the mask 8
only_3 : (x : ℕ) → x < 6 → bit 8 x ≡ true → 3 ≡ x
unfolding opened all_below
only_3 x l b =
    let z = all_at 6 (λ x. not (bit 8 x) || eqb 3 x) refl x l in
    eqb-true 3 x (rw b at z)

-- it does not confirm 3 to Alice, nor 2 to Bob
pub not_to_alice : ConfirmsTo sheet 8 (λ x. 0) (pays_bob ∷ []) → ⊥
unfolding opened
not_to_alice c =
    let w = c 3 (omega arith) refl in
    let d = ap (λ (e : Entry). e.destination) (alone w.0 w.1 w.2) in
    omega (arith, d, w.4)

pub not_of_2 : ConfirmsTo sheet 4 (λ x. 1) (pays_bob ∷ []) → ⊥
unfolding opened
not_of_2 c =
    let w = c 2 (omega arith) refl in
    let d = ap (λ (e : Entry). e.transaction) (alone w.0 w.1 w.2) in
    omega (arith, d, w.3)

-- of the list that pays Bob from the first coin: its opening, 0, is there, in block 1
pub opening_there : (x : Written sheet setup 8 (to 1)) → (i : ℕ) × (e : Entry) × (get_elem? (earliest_list sheet setup 8 (to 1)) i ≡ some e) × (e.transaction ≡ 0)
unfolding opened planned
opening_there x = x.all_there 0 (omega arith) refl

-- and it confirms 3 to Bob
pub to_bob_lem : ConfirmsTo sheet 8 (λ x. 1) (pays_bob ∷ [])
unfolding opened
to_bob_lem x l b = (0, pays_bob, refl, only_3 x l b, refl)

-- why both payouts of the first coin cannot be: they are of one coin
pub both_of_one : Cause sheet 2 12
unfolding opened
both_of_one = one_coin 2 3 (omega arith) (omega arith) refl refl (λ e. omega (arith, e)) refl

-- nor can 3 be in time, with its lock of 2 days, at 6,000 blocks per day
pub beyond_the_last : Cause sheet 6000 8
unfolding opened planned earliest_from earliest
beyond_the_last = too_late 3 (omega arith) refl (omega arith)

unfoldable shared : List ℕ → ℕ → ℕ → ℕ → Bool
shared s mask x y = bit mask x && (bit mask y && (not (eqb x y) && eqb (coin_of s x) (coin_of s y)))

unfoldable tardy : List ℕ → ℕ → ℕ → ℕ → Bool
tardy s per_day mask t = planned s mask t && ltb block_limit (earliest s per_day t)

no_cause : (s : List ℕ) (d mask : ℕ)
    → all_below (count s) (λ x. all_below (count s) (λ y. not (shared s mask x y))) ≡ true
    → all_below (count s) (λ t. not (tardy s d mask t)) ≡ true
    → Cause s d mask
    → ⊥
unfolding shared tardy
no_cause s d mask a b (one_coin x y l m p q n e) =
    let z = all_at (count s) (λ y. not (shared s mask x y)) (all_at (count s) (λ x. all_below (count s) (λ y. not (shared s mask x y))) a x l) y m in
    let w : false ≡ true = rw (p, q, ne_eqb x y n, eq-eqb (coin_of s x) (coin_of s y) e) at z in
    false≢true w
no_cause s d mask a b (too_late t l p e) =
    let z = all_at (count s) (λ t. not (tardy s d mask t)) b t l in
    let w : false ≡ true = rw (p, lt-ltb block_limit (earliest s d t) e) at z in
    false≢true w

-- nothing is wrong with 3 alone, at 2
pub none_of_one : Cause sheet 2 8 → ⊥
unfolding opened all_below shared tardy planned earliest_from earliest
none_of_one = no_cause sheet 2 8 refl refl
