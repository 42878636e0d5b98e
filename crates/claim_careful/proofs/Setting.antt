-- The SASwap sheet of a setup, under careful conduct.
-- Assumes nothing.
use Rattle.laws.proofs.Prelude.{ℕ, ◌<◌, ◌≡◌, Bool, true, ◌||◌, List, ltb, eqb-false, ltb-true, ltb-false, arith, split}
use Rattle.position.proofs.Rules.{place, saswap, per_day, conduct, is_open}
use Rattle.sheet.specs.Field.{is_party}
use Rattle.sheet.proofs.Parties.{party_not_miner, place_below}
use Rattle.sheet.proofs.Theorems.{parties_saswap}

-- the SASwap sheet of a setup
abbrev pub sheet : List ℕ → List ℕ
sheet u = saswap (per_day u)

-- conduct that is careful is not open
pub allowed : (u : List ℕ) → conduct u ≡ 2 → (b : Bool) → (is_open u || b) ≡ true → b ≡ true
unfolding is_open
allowed u c b h = rw c at h

-- the parties of the SASwap sheet are Alice and Bob
pub two_parties : (u : List ℕ) (x : ℕ) → is_party (sheet u) x ≡ true → x < 2
unfolding place
two_parties u x h =
    split (ltb x 2)
    (λ e. ltb-true x 2 e)
    (λ e.
    let p = place_below (sheet u) x h in
    let n = eqb-false x 2 (party_not_miner (sheet u) x h) in
    omega (arith, rw e at p, ltb-false x 2 e, n, parties_saswap (per_day u)))
