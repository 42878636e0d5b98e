-- Bitcoin's rule for the three pairs of numbers that a transaction of version 2 gets.
-- Assumes nothing.
use Rattle.laws.proofs.Prelude.{ℕ, ◌+◌, ◌%◌, ◌^◌, ◌≤◌, ◌<◌, ◌≡◌, refl, Bool, true, false, ◌&&◌, ◌||◌, eqb, ltb, leb, lit≤, lt-ltb, le-ltb, arith, or-true, pick, bit}
use Rattle.laws.proofs.Prelude.{bit_above}
use native.Mathlib.Nat.{mod-eq_of_lt}
use Rattle.call_timelocks.specs.Bitcoin.{Block, threshold, clock, is_final, relative, value, reached, admitted}
use Rattle.call_timelocks.specs.Claim.{boxed}

ends : (a b : Bool) → ((a || (b || false)) && true) ≡ (a || b)
ends true b = refl
ends false true = refl
ends false false = refl

module _ (from at : Block) where
  -- FFFFFFFF: always
  pub none_admitted : admitted (boxed 0 4294967295) from at ≡ true
  unfolding admitted is_final relative bit
  none_admitted = refl

  -- FFFFFFFE: by nLockTime alone, held to what it is
  clock_admitted : (l : ℕ) → admitted (boxed l 4294967294) from at ≡ (eqb l 0 || ltb l (pick (ltb l threshold) at.height at.time))
  unfolding admitted is_final clock relative bit
  clock_admitted l = ends (eqb l 0) (ltb l (pick (ltb l threshold) at.height at.time))

  pub absolute_admitted : (l : ℕ) → l < threshold → admitted (boxed l 4294967294) from at ≡ (eqb l 0 || ltb l at.height)
  absolute_admitted l h = rw (clock_admitted l, lt-ltb l threshold h)

  pub time_admitted : (l : ℕ) → threshold ≤ l → l < at.time → admitted (boxed l 4294967294) from at ≡ true
  time_admitted l h k = rw (clock_admitted l, le-ltb l threshold h, lt-ltb l at.time k) (or-true (eqb l 0))

  -- a value of few bits: by its low 16 alone
  pub cut_admitted : (v : ℕ) → v < 2 ^ 22 → admitted (boxed 0 v) from at ≡ leb (from.height + v % 65536) at.height
  unfolding admitted is_final relative value reached
  cut_admitted v h = rw (bit_above v 22 31 h (lit≤ tt), bit_above v 22 22 h (lit≤ tt))

  pub since_admitted : (v : ℕ) → v ≤ 65535 → admitted (boxed 0 v) from at ≡ leb (from.height + v) at.height
  since_admitted v h = let m : v % 65536 ≡ v = mod-eq_of_lt (omega arith) in rw (cut_admitted v (omega arith), m)
