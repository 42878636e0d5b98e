-- What each passed check of a sheet tells.
-- Assumes nothing.
use Rattle.laws.proofs.Prelude.{ℕ, ◌+◌, ◌*◌, ◌≤◌, ◌<◌, ◌≡◌, true, false, ◌&&◌, List, eqb, leb, length, eqb-true, leb-true, lt-leb, arith, and_parts}
use Rattle.sheet.specs.Field.{count, arrays, signatures, Sized}
use Rattle.sheet.proofs.Parties.{arrays_head}
use Rattle.sheet.specs.Setup.{per_day, blocks_right}
use Rattle.sheet.specs.Check.{head_right, count_right, masks_right, signatures_right, length_right}

-- 1
pub head_there : (s : List ℕ) → head_right s ≡ true → 5 ≤ length s
unfolding head_right
head_there s h = omega (arith, leb-true (arrays s) (length s) h, arrays_head s)

pub headless : (s : List ℕ) → length s < 5 → head_right s ≡ false
unfolding head_right
headless s h = lt-leb (arrays s) (length s) (omega (arith, arrays_head s))

pub arrays_there : (s : List ℕ) → head_right s ≡ true → arrays s ≤ length s
unfolding head_right
arrays_there s h = leb-true (arrays s) (length s) h

-- 2
pub count_some : (s : List ℕ) → count_right s ≡ true → 1 ≤ count s
unfolding count_right
count_some s h = leb-true 1 (count s) (and_parts (leb 1 (count s)) (leb (count s) 32) h).0

pub count_few : (s : List ℕ) → count_right s ≡ true → count s ≤ 32
unfolding count_right
count_few s h = leb-true (count s) 32 (and_parts (leb 1 (count s)) (leb (count s) 32) h).1

-- 3
signatures_parts : (s : List ℕ) → signatures_right s ≡ true → (1 ≤ signatures s) × (signatures s ≤ 8) × (masks_right s ≡ true)
unfolding signatures_right
signatures_parts s h =
    let a = and_parts (leb 1 (signatures s)) (leb (signatures s) 8 && masks_right s) h in
    let b = and_parts (leb (signatures s) 8) (masks_right s) a.1 in
    (leb-true 1 (signatures s) a.0, leb-true (signatures s) 8 b.0, b.1)

pub signatures_some : (s : List ℕ) → signatures_right s ≡ true → 1 ≤ signatures s
signatures_some s h = (signatures_parts s h).0

pub signatures_few : (s : List ℕ) → signatures_right s ≡ true → signatures s ≤ 8
signatures_few s h = (signatures_parts s h).1

pub masks_right_lem : (s : List ℕ) → signatures_right s ≡ true → masks_right s ≡ true
masks_right_lem s h = (signatures_parts s h).2

-- 2 and 4
pub sized : (s : List ℕ) → count_right s ≡ true → length_right s ≡ true → Sized s
unfolding length_right
sized s c l = record { few = count_few s c; head = arrays_head s; size = eqb-true (length s) (arrays s + 6 * count s) l }

-- 9
blocks_parts : (u : List ℕ) → blocks_right u ≡ true → (length u ≡ 4) × (1 ≤ per_day u) × (per_day u ≤ 1000)
unfolding blocks_right
blocks_parts u h =
    let a = and_parts (eqb (length u) 4) (leb 1 (per_day u) && leb (per_day u) 1000) h in
    let b = and_parts (leb 1 (per_day u)) (leb (per_day u) 1000) a.1 in
    (eqb-true (length u) 4 a.0, leb-true 1 (per_day u) b.0, leb-true (per_day u) 1000 b.1)

pub setup_four : (u : List ℕ) → blocks_right u ≡ true → length u ≡ 4
setup_four u h = (blocks_parts u h).0

pub blocks_some : (u : List ℕ) → blocks_right u ≡ true → 1 ≤ per_day u
blocks_some u h = (blocks_parts u h).1

pub blocks_few : (u : List ℕ) → blocks_right u ≡ true → per_day u ≤ 1000
blocks_few u h = (blocks_parts u h).2
