-- Going through the members of a set.
-- Assumes nothing.
use Rattle.std.specs.Prelude.{ℕ, ◌<◌, ◌≡◌, true, false, ◌&&◌, Option, MatchOption, ltb, leb}
use Rattle.laws.specs.Mask.{bit}
use Rattle.laws.specs.Sets.{removed}
use Rattle.slots.specs.declared.next.Rest.{Rest}

-- left has the members of the set from `from` on and below n
pub record Between (set from n left : ℕ) : Type 0 where
  pub at : (k : ℕ) → k < 32 → bit left k ≡ (bit set k && (leb from k && ltb k n))

-- k is the least member, and r is the set without it
pub record Least (m k r : ℕ) : Type 0 where
  pub low : k < 32
  pub here : bit m k ≡ true
  pub gap : (j : ℕ) → j < k → bit m j ≡ false
  pub rest : r ≡ removed m k

-- a call gives the least member that is left, or None where none is
abbrev pub gives_least : Rest → Option ℕ → Rest → Type 0
gives_least s r t = MatchOption r (s.left ≡ 0) (λ k. Least s.left k t.left)

abbrev pub members_left : Rest → ℕ
members_left s = s.left
